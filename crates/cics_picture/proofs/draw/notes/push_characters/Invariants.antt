use Rattle.std.proofs.Common.{◌≡◌, ◌++◌, map, take}
use Rattle.cics_picture.specs.Draw.Notes.{character}
use Rattle.cics_picture.proofs.draw.notes.push_characters.Given as goal

abbrev pub invariant-loop-code : goal.invariant-loop-code
invariant-loop-code l = l.out.items ≡ l.fn.out.items ++ map character (take l.code-index l.bytes)
