use Rattle.cics_picture.specs.contracts.page.notes.CellOrd.TheImpl as order
use Rattle.cics_picture.specs.Page.Tracked.{IsSameBefore}
use Rattle.cics_picture.proofs.page.cells.Cells.delete_under.Given as goal

-- what was shown before is the same
abbrev pub invariant-loop-cell : goal.invariant-loop-cell
invariant-loop-cell l = IsSameBefore order.ghosts.cmp l.initial.self.texts l.self.texts
