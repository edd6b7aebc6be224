use Rattle.std.proofs.Common.{◌≡◌, take}
use Rattle.cics_orders.specs.Search.Levels.{live}
use Rattle.cics_orders.proofs.search.exploring.live_count.Given as goal

-- those so far are counted
abbrev pub invariant-loop-at : goal.invariant-loop-at
invariant-loop-at l = l.count ≡ live (take l.at l.level.entries)
