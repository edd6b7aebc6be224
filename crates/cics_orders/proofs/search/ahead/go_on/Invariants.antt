use Rattle.std.proofs.Common.{◌≡◌}
use Rattle.cics_orders.specs.Space.States.{reached}
use Rattle.cics_orders.specs.Search.Ahead.{IsMet, IsKnown}
use Rattle.cics_orders.specs.Giving.{lanes, initial_of}
use Rattle.cics_orders.specs.Stamps.{state_stamp}
use Rattle.cics_orders.specs.Turns.{breaks}
use Rattle.cics_orders.proofs.search.ahead.go_on.Given as goal

-- the walk is at a state that was met, and what is known is right
abbrev pub invariant-loop : goal.invariant-loop
invariant-loop l =
    let s = initial_of l.fn.walk in
    record {
      initial : initial_of l.walk ≡ s;
      met : IsMet lanes s l.walk;
      here : l.here ≡ reached lanes breaks (state_stamp l.scope.told) l.scope.is_serial l.walk;
      known : IsKnown lanes breaks (state_stamp l.scope.told) l.scope.is_serial s l.known.entries;
    }
