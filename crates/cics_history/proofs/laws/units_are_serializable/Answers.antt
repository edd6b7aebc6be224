use Rattle.cics_history.proofs.States.{run-opening}
use Rattle.cics_history.specs.State.{initial_units}
use Rattle.cics_history.proofs.SerialRuns.{order_after, serializable_after}
use Rattle.cics_history.proofs.laws.units_are_serializable.Goals as goal

pub returns : goal.returns
returns c = record { order = order_after; serializable = serializable_after; opening = λ o events. run-opening (initial_units o) events }
