use Rattle.cics_orders.specs.Giving.{initial_state}
use Rattle.cics_orders.proofs.Resting.{initial_rests, after_rests}
use Rattle.cics_orders.proofs.laws.orders_rest.Goals as goal

pub returns : goal.returns
returns c = λ p o. after_rests (initial_state p) o (initial_rests p)
