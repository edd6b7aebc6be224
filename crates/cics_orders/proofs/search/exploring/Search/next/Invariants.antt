use Rattle.std.proofs.Common.{◌≡◌, ◌≤◌, ◌+◌, ◌⊎◌, false, List, [], length}
use Rattle.std.specs.List.{flat_map}
use Rattle.std.specs.Str.{bytes_eq}
use Rattle.cics_names.specs.Keyed.{Bytes}
use Rattle.cics_orders.specs.Space.Groups.{added_all}
use Rattle.cics_orders.specs.Space.States.{led_joined}
use Rattle.cics_orders.specs.Search.Levels.{live, spread, IsEntry}
use Rattle.cics_orders.specs.Search.Ahead.{IsKnown}
use Rattle.cics_orders.specs.declared.space.states.Led.{Led}
use Rattle.cics_orders.proofs.OfSearch.Following.{IsPart}
use Rattle.cics_orders.proofs.OfSearch.Regrouping.{Each}
use Rattle.cics_orders.specs.Giving.{lanes, initial_of}
use Rattle.cics_orders.specs.Stamps.{state_stamp}
use Rattle.cics_orders.specs.Turns.{breaks}
use Rattle.cics_orders.proofs.search.exploring.Search.next.Given as goal

-- the states that some of the entries so far lead to are added
abbrev pub invariant-loop-stamp : goal.invariant-loop-stamp
invariant-loop-stamp g l =
    let s = initial_of l.fn.walk in
    record {
      some : List (Bytes × Led);
      initial : initial_of l.walk ≡ s;
      known : IsKnown lanes breaks (state_stamp l.fn.self.scope.told) l.fn.self.scope.is_serial s l.known.entries;
      left : Each (IsEntry lanes breaks (state_stamp l.fn.self.scope.told) l.fn.self.scope.is_serial s) l.stamp-iterator;
      scope : l.self.scope ≡ l.fn.self.scope;
      limit : l.self.limit ≡ l.fn.self.limit;
      met : l.self.met ≤ l.fn.self.met + live l.fn.level.entries;
      share : l.self.share ≡ l.fn.self.share;
      sum : l.at + live l.stamp-iterator ≡ l.thinning.count;
      kept : 1 ≤ length l.fn.level.entries → (1 ≤ length some) ⊎ (1 ≤ length l.stamp-iterator);
      within : l.thinning.is_over ≡ false → l.self.is_whole ≡ l.fn.self.is_whole;
      part : IsPart l.fn.self.is_whole l.self.is_whole l.fn.level.entries l.stamp-iterator some;
      next : l.next.entries ≡ added_all bytes_eq led_joined [] (flat_map (spread lanes breaks (state_stamp l.fn.self.scope.told) l.fn.self.scope.is_serial s) some);
    }
