use Rattle.cics_picture.proofs.Waits.{wait-drawn}
use Rattle.cics_picture.proofs.sheet.waits_have_arrows.Goals as goal

pub returns : goal.returns
returns c = wait-drawn
