use Rattle.cics_orders.proofs.Accepting.{orders_accept}
use Rattle.cics_orders.proofs.laws.lines_are_not_refused.Goals as goal

pub returns : goal.returns
returns c = orders_accept
