use Rattle.cics_picture.proofs.OfDraw.Blocking.{blocker-shown}
use Rattle.cics_picture.proofs.draw.laws.waits_name_blockers.Goals as goal

pub returns : goal.returns
returns c = blocker-shown
