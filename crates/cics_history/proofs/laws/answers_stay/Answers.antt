use Rattle.cics_history.proofs.States.{agrees}
use Rattle.cics_history.proofs.laws.answers_stay.Goals as goal

pub returns : goal.returns
returns c = agrees
