use Rattle.std.proofs.Common.{◌≡◌, length, take}
use Rattle.cics_orders.specs.Space.Orders.{after}
use Rattle.cics_orders.specs.Search.Ahead.{all_reached, IsKnown}
use Rattle.cics_orders.specs.Giving.{lanes, initial_of}
use Rattle.cics_orders.specs.Stamps.{state_stamp}
use Rattle.cics_orders.specs.Turns.{breaks}
use Rattle.cics_orders.proofs.search.ahead.lead_on.Given as goal

-- the states that the lanes so far lead to are there
abbrev pub invariant-loop-i : goal.invariant-loop-i
invariant-loop-i l =
    let s = initial_of l.fn.walk in
    record {
      initial : initial_of l.walk ≡ s;
      known : IsKnown lanes breaks (state_stamp l.scope.told) l.scope.is_serial s l.known.entries;
      count : length l.states ≡ l.i;
      states : l.states ≡ take (length l.states) (all_reached lanes breaks (state_stamp l.scope.told) l.scope.is_serial (after lanes s l.entry.1.first));
    }
