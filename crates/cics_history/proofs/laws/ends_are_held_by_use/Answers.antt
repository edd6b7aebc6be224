use Rattle.cics_history.proofs.EndsHeld.{end_held, end_in_table}
use Rattle.cics_history.proofs.laws.ends_are_held_by_use.Goals as goal

pub returns : goal.returns
returns c = record { held = end_held; table = end_in_table }
