use Rattle.std.proofs.Common.{◌≡◌}
use Rattle.cics_picture.specs.Page.Views.{texts_told}
use Rattle.cics_picture.proofs.page.differences.insert_cursor_notes.Given as goal

-- no text is told
abbrev pub invariant-loop-queue : goal.invariant-loop-queue
invariant-loop-queue l = texts_told l.notes.items ≡ texts_told l.initial.notes.items
