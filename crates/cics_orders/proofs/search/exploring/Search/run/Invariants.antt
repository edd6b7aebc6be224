use Rattle.std.proofs.Common.{◌≡◌, ◌≤◌, true}
use Rattle.cics_orders.specs.Search.Levels.{IsLevel, state_count}
use Rattle.cics_orders.specs.Search.Ahead.{IsKnown}
use Rattle.cics_orders.specs.Giving.{lanes, initial_of}
use Rattle.cics_orders.specs.Stamps.{state_stamp}
use Rattle.cics_orders.specs.Turns.{breaks}
use Rattle.cics_orders.proofs.search.exploring.Search.run.Given as goal

-- the level of the states after so many lines
abbrev pub invariant-loop : goal.invariant-loop
invariant-loop g l =
    let s = initial_of l.fn.walk in
    record {
      initial : initial_of l.walk ≡ s;
      known : IsKnown lanes breaks (state_stamp l.fn.self.scope.told) l.fn.self.scope.is_serial s l.known.entries;
      scope : l.self.scope ≡ l.fn.self.scope;
      limit : l.self.limit ≡ l.fn.self.limit;
      share : l.self.share ≡ l.fn.self.share;
      met : l.self.is_whole ≡ true → l.self.met ≤ state_count lanes breaks (state_stamp l.fn.self.scope.told) l.fn.self.scope.is_serial s l.counter;
      within : state_count lanes breaks (state_stamp l.fn.self.scope.told) l.fn.self.scope.is_serial s l.counter ≤ l.fn.self.limit → l.self.is_whole ≡ true;
      level : IsLevel lanes breaks (state_stamp l.fn.self.scope.told) l.fn.self.scope.is_serial s l.counter l.self.is_whole l.level.entries;
    }
