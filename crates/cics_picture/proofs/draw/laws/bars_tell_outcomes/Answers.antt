use Rattle.cics_picture.specs.Draw.Pictures.{outcomes_of}
use Rattle.cics_picture.proofs.OfDraw.Outcomes.{filled-told, hollow-told}
use Rattle.cics_picture.proofs.draw.laws.bars_tell_outcomes.Goals as goal

pub returns-clause-filled : goal.returns-clause-filled
returns-clause-filled c script b = filled-told (outcomes_of script) b

pub returns-clause-hollow : goal.returns-clause-hollow
returns-clause-hollow c script b = hollow-told (outcomes_of script) b
