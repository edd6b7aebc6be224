use Rattle.cics_orders.specs.Giving.{initial_state}
use Rattle.cics_orders.proofs.AsWritten.{is_order}
use Rattle.cics_orders.proofs.laws.order_as_written_is_an_order.Goals as goal

pub returns : goal.returns
returns c = λ p o is. is_order p.written (initial_state p) o is
