use Rattle.std.proofs.Common.{◌≡◌, ◌++◌}
use Rattle.cics_picture.specs.Sheets.{lane_lines}
use Rattle.cics_picture.proofs.sheet.push_lane_lines.Given as goal

abbrev pub invariant-loop-lane : goal.invariant-loop-lane
invariant-loop-lane l = l.out.items ≡ l.fn.out.items ++ lane_lines l.height l.lane
