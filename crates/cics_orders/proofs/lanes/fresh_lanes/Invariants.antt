use Rattle.std.proofs.Common.{◌≡◌, ◌++◌, map, drop}
use Rattle.cics_orders.specs.Giving.{frame}
use Rattle.cics_orders.proofs.lanes.fresh_lanes.Given as goal

-- the lanes so far, and those of the lanes that are left, are all
abbrev pub invariant-loop-lane : goal.invariant-loop-lane
invariant-loop-lane l = l.fresh.items ++ map frame (drop l.lane-index l.lanes) ≡ map frame l.lanes
