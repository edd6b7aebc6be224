use Rattle.std.proofs.Common.{◌≡◌, ℕ, take}
use Rattle.cics_run.specs.Listing.Serial.{done_lines}
use Rattle.cics_run.specs.Listing.UnitLines.{lines_at}
use Rattle.cics_run.proofs.listing.unit_lines.gathered.Given as goal

-- the lines of the commands that were walked are gathered
abbrev pub invariant-loop-entry : goal.invariant-loop-entry
invariant-loop-entry l = (unit : ℕ) → lines_at l.rows.items unit ≡ done_lines l.opening (take l.entry-index l.trace) unit
