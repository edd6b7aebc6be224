use Rattle.std.proofs.Common.{◌≡◌, ◌∷◌, ◌++◌, take}
use Rattle.std.specs.List.{flat_map}
use Rattle.cics_orders.specs.Report.Parts.{mark}
use Rattle.cics_orders.specs.Endings.Telling.{blocks, lane_parts, is_deadlocked}
use Rattle.cics_orders.proofs.endings.telling.parts_of.Given as goal

-- the parts of the lanes so far stand last
abbrev pub invariant-loop-lane : goal.invariant-loop-lane
invariant-loop-lane l =
    l.parts ≡ mark (is_deadlocked l.region.machine) ∷ (blocks l.region.machine ++ flat_map (lane_parts l.region.machine l.with_told) (take l.lane-index l.lanes))
