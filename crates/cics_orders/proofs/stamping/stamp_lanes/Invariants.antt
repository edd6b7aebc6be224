use Rattle.std.proofs.Common.{◌≡◌, ◌++◌, take, map}
use Rattle.std.specs.List.{flat_map}
use Rattle.cics_names.specs.Stamps.{item_stamp}
use Rattle.cics_orders.specs.Stamps.{seen, lane_stamp}
use Rattle.cics_orders.proofs.stamping.stamp_lanes.Given as goal

-- the lanes that were passed are stamped
abbrev pub invariant-loop-lane : goal.invariant-loop-lane
invariant-loop-lane l = l.out.items ≡ l.initial.out.items ++ flat_map (item_stamp lane_stamp) (map (seen l.told) (take l.lane-index l.lanes))
