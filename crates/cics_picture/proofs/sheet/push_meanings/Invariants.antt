use Rattle.std.proofs.Common.{◌≡◌, ◌++◌, take}
use Rattle.std.specs.List.{flat_map}
use Rattle.cics_picture.specs.Sheets.{meaning_text}
use Rattle.cics_picture.proofs.sheet.push_meanings.Given as goal

abbrev pub invariant-loop-meaning : goal.invariant-loop-meaning
invariant-loop-meaning l = l.out.items ≡ l.fn.out.items ++ flat_map meaning_text (take l.meaning-index l.meanings)
