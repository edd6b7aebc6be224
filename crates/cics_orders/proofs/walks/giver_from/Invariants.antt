use Rattle.std.proofs.Common.{◌≡◌}
use Rattle.cics_orders.specs.Space.Orders.{numbered_from}
use Rattle.cics_orders.specs.Giving.{may_give}
use Rattle.cics_orders.proofs.walks.giver_from.Given as goal

-- no lane before this one may give
abbrev pub invariant-loop-i : goal.invariant-loop-i
invariant-loop-i l = numbered_from (may_give l.region.machine) l.lanes l.from ≡ numbered_from (may_give l.region.machine) l.lanes l.i
