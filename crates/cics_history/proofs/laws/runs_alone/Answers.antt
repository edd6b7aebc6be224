use Rattle.cics_history.proofs.Alone.{no_trace, leaves_no_trace}
use Rattle.cics_history.proofs.laws.runs_alone.Goals as goal

pub returns : goal.returns
returns c = record { alone = no_trace; call = leaves_no_trace }
