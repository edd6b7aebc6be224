use Rattle.cics_picture.proofs.OfDraw.Marking.{marked}
use Rattle.cics_picture.proofs.draw.standings.deadlocks_are_marked.Goals as goal

pub returns : goal.returns
returns c = marked
