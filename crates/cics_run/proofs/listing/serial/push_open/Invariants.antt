use Rattle.std.proofs.Common.{◌≡◌, ◌++◌, take}
use Rattle.std.specs.List.{flat_map}
use Rattle.cics_run.specs.Listing.Serial.{unit_lines, open_units}
use Rattle.cics_run.specs.Listing.UnitLines.{lines_at}
use Rattle.cics_run.proofs.listing.serial.push_open.Given as goal

abbrev pub invariant-loop-number : goal.invariant-loop-number
invariant-loop-number l = l.out.items ≡ l.fn.out.items ++ flat_map (unit_lines (lines_at l.rows)) (open_units (take l.number l.outcomes))
