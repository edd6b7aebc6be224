-- The commands of a unit that are in its stamp.
use Rattle.std.specs.Prelude.{ℕ, if◌then◌else◌, List, []}
use Rattle.cics_names.specs.Stamps.{item_stamp}
use Rattle.cics_history.specs.State.{OpeningState}
use Rattle.cics_history.specs.Serial.{is_done_by}
use Rattle.cics_history.specs.Stamps.{op_stamp}
use Rattle.cics_history.specs.declared.ops.Entry.{Entry}

-- the stamp of a command in that of a list, if the unit did it to something recoverable
abbrev pub stamp_if_done : OpeningState → ℕ → Entry → List ℕ
stamp_if_done o unit e = if is_done_by o unit e then item_stamp op_stamp e.op else []
