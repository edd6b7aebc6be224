use Rattle.std.proofs.Common.{length}
use Rattle.cics_picture.specs.contracts.page.notes.CellOrd.TheImpl as order
use Rattle.cics_picture.specs.Page.Tracked.{IsSameBefore}
use Rattle.cics_picture.proofs.page.cells.Cells.back_out.Given as goal

-- what was shown before is the same
abbrev pub invariant-loop-image : goal.invariant-loop-image
invariant-loop-image l = IsSameBefore order.ghosts.cmp l.initial.self.texts l.self.texts

abbrev pub decreases-loop-image : goal.decreases-loop-image
decreases-loop-image l = length l.images.items
