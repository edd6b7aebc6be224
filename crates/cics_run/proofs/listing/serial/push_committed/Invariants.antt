use Rattle.std.proofs.Common.{◌≡◌, ◌++◌, take}
use Rattle.std.specs.List.{flat_map}
use Rattle.cics_run.specs.Listing.Serial.{committed_lines}
use Rattle.cics_run.specs.Listing.UnitLines.{lines_at}
use Rattle.cics_run.proofs.listing.serial.push_committed.Given as goal

abbrev pub invariant-loop-unit : goal.invariant-loop-unit
invariant-loop-unit l = l.out.items ≡ l.fn.out.items ++ flat_map (committed_lines (lines_at l.rows)) (take l.unit-index l.commits)
