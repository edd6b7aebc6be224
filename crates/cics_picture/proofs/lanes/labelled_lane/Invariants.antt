use Rattle.std.proofs.Common.{◌≡◌, drop}
use Rattle.cics_picture.specs.Lanes.{lane_from}
use Rattle.cics_picture.proofs.lanes.labelled_lane.Given as goal

abbrev pub invariant-loop-lane : goal.invariant-loop-lane
invariant-loop-lane l = lane_from 0 l.tasks l.label ≡ lane_from l.lane (drop l.lane l.tasks) l.label
