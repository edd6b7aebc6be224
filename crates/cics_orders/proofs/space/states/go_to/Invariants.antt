use Rattle.std.proofs.Common.{◌≡◌, take}
use Rattle.cics_orders.specs.Space.Orders.{after}
use Rattle.cics_orders.specs.Giving.{lanes, initial_of}
use Rattle.cics_orders.proofs.space.states.go_to.Given as goal

-- so many lines are given
abbrev pub invariant-loop-i : goal.invariant-loop-i
invariant-loop-i l = l.walk ≡ after lanes (initial_of l.fn.walk) (take l.i l.order)
