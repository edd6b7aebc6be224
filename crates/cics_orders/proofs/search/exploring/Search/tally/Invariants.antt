use Rattle.std.proofs.Common.{◌≡◌, map}
use Rattle.cics_orders.specs.Space.Endings.{are_same}
use Rattle.cics_orders.specs.Space.Groups.{added_all}
use Rattle.cics_orders.specs.Search.Levels.{tallied}
use Rattle.cics_orders.specs.Space.Tallies.{tally_joined}
use Rattle.cics_orders.specs.Giving.{lanes, initial_of}
use Rattle.cics_orders.specs.Endings.Telling.{parts_at}
use Rattle.cics_orders.proofs.search.exploring.Search.tally.Given as goal

-- with what is left told too, all entries are
abbrev pub invariant-loop-led : goal.invariant-loop-led
invariant-loop-led l =
    let s = initial_of l.fn.walk in
    record {
      initial : initial_of l.walk ≡ s;
      met : added_all are_same tally_joined l.met.entries (map (tallied lanes (parts_at l.self.scope.told) l.self.scope.is_serial s) l.led-iterator)
          ≡ added_all are_same tally_joined l.fn.met.entries (map (tallied lanes (parts_at l.self.scope.told) l.self.scope.is_serial s) l.fn.level.entries);
    }
