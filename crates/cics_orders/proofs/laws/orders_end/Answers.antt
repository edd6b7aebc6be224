use Rattle.cics_orders.specs.Giving.{initial_state}
use Rattle.cics_orders.proofs.OrderLaws.{most_ends}
use Rattle.cics_orders.proofs.laws.orders_end.Goals as goal

pub returns : goal.returns
unfolding initial_state
returns c = λ p. most_ends (initial_state p)
