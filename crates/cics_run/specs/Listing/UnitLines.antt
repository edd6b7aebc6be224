-- Lines that were gathered for each unit of work, by the unit's number.
use Rattle.std.specs.Prelude.{ℕ, if◌then◌else◌, Option, None, Some, List, [], slice_get}
use Rattle.std.specs.Global.{Vec}
use Rattle.cics_history.specs.State.{OpeningState}
use Rattle.cics_history.specs.Serial.{is_done_by}
use Rattle.cics_history.specs.declared.ops.Entry.{Entry}
use Rattle.cics_run.specs.Listing.Serial.{entry_lines}

-- the bytes of a row, if there is one
abbrev pub row_bytes : Option (Vec ℕ) → List ℕ
row_bytes None = []
row_bytes (Some row) = row.items

-- the lines of a unit: none if it has no row
abbrev pub lines_at : List (Vec ℕ) → ℕ → List ℕ
lines_at rows unit = row_bytes (slice_get rows unit)

-- what a command adds to the lines of a unit, which may be another's
abbrev pub lines_added : OpeningState → Entry → ℕ → List ℕ
lines_added o e unit = if is_done_by o unit e then entry_lines e else []
