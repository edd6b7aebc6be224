use Rattle.cics_picture.specs.contracts.page.notes.CellOrd.TheImpl as order
use Rattle.cics_picture.specs.Page.Tracked.{IsSameBefore}
use Rattle.cics_picture.proofs.page.following.follow.Given as goal

-- what was shown before is the same
abbrev pub invariant-loop-entry : goal.invariant-loop-entry
invariant-loop-entry l = IsSameBefore order.ghosts.cmp l.initial.cells.texts l.cells.texts
