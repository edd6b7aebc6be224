use Rattle.std.proofs.Common.{length}
use Rattle.cics_picture.proofs.OfPage.Playing.{Goes}
use Rattle.cics_picture.proofs.page.pages.last_stage.Given as goal

abbrev pub invariant-lines : goal.invariant-lines
invariant-lines l = Goes l.stage l.rest l.script

abbrev pub decreases-lines : goal.decreases-lines
decreases-lines l = length l.rest
