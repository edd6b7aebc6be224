use Rattle.cics_orders.specs.Giving.{lanes, initial_state, line_count}
use Rattle.cics_orders.specs.Turns.{breaks}
use Rattle.cics_orders.proofs.OfSearch.Ways.{serial_all}
use Rattle.cics_orders.proofs.laws.serial_orders_are_walked.Goals as goal

pub returns : goal.returns
returns c = λ p. serial_all lanes breaks (line_count p) (initial_state p)
