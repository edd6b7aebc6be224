use Rattle.std.proofs.Common.{◌≡◌, ◌++◌, take}
use Rattle.cics_picture.specs.Page.Texts.{notes_text}
use Rattle.cics_picture.proofs.page.texts.push_notes.Given as goal

abbrev pub invariant-loop-note : goal.invariant-loop-note
invariant-loop-note l = l.out.items ≡ l.fn.out.items ++ notes_text l.outcomes (take l.note-index l.notes)
