use Rattle.std.proofs.Common.{◌≡◌, ◌++◌, ◌∷◌, [], map, take, drop}
use Rattle.std.specs.Str.{bytes_eq}
use Rattle.std.specs.Vec.Iter.{into_iter_items}
use Rattle.cics_orders.specs.Space.Orders.{after}
use Rattle.cics_orders.specs.Space.Groups.{added_all}
use Rattle.cics_orders.specs.Space.States.{reached, led_joined}
use Rattle.cics_orders.specs.Search.Levels.{entry}
use Rattle.cics_orders.specs.Giving.{lanes, initial_of}
use Rattle.cics_orders.specs.Stamps.{state_stamp}
use Rattle.cics_orders.specs.Turns.{breaks}
use Rattle.cics_orders.proofs.search.exploring.Search.follow.Given as goal

-- the states that the lanes so far lead to are added
abbrev pub invariant-loop-reached : goal.invariant-loop-reached
invariant-loop-reached l =
    let x = after lanes (initial_of l.fn.walk) l.fn.entry.1.first in
    record {
      left : into_iter_items l.reached-iterator ≡ map (λ k. reached lanes breaks (state_stamp l.self.scope.told) l.self.scope.is_serial (lanes.given x k)) (drop l.at l.fn.entry.1.lanes);
      next : l.next.entries ≡ added_all bytes_eq led_joined l.fn.next.entries
          (map (λ k. entry lanes breaks (state_stamp l.self.scope.told) l.self.scope.is_serial (l.fn.entry.1.first ++ k ∷ []) l.fn.entry.1.count (lanes.given x k)) (take l.at l.fn.entry.1.lanes));
    }
