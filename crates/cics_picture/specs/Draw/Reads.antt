-- Reads that show what isn't committed: the number of the reader's task, and the unit that wrote.
use Rattle.std.specs.Prelude.{ℕ, ◌==◌, Bool, false, not, ◌&&◌, ◌||◌, if◌then◌else◌, Option, Some, None, option_map, unwrap_or, slice_get, slice_set, List, [], Result, Ok}
use Rattle.std.specs.List.{list_any, prefix_len}
use Rattle.std.specs.Str.{bytes_eq}
use Rattle.cics_names.specs.Keyed.{Bytes, is_same, value_at}
use Rattle.cics_names.specs.declared.commands.Verb.{Verb}
use Rattle.cics_names.specs.declared.commands.Verb.TheVariants.{Read, ReadNext, ReadPrev, ReadqTs}
use Rattle.cics_ksds.specs.Files.{first_from}
use Rattle.cics_history.specs.State.{UnitsState, UnitsValue}
use Rattle.cics_history.specs.Store.{is_normal, is_recoverable}
use Rattle.cics_history.specs.Holding.{awaited}
use Rattle.cics_history.specs.Execution.{place_at}
use Rattle.cics_history.specs.declared.ops.Op.{Op}
use Rattle.cics_history.specs.declared.ops.Op.TheVariants.{Delete, TsWrite, TsRewrite, TsDelete}
use Rattle.cics_history.specs.Records.{is_file_op, file_of, key_of}
use Rattle.cics_history.specs.declared.ops.Entry.{Entry}
use Rattle.cics_dispatch.specs.Machine.Machine.{RegionValue}
use Rattle.cics_dispatch.specs.Notes.Notes.{is_unit}
use Rattle.cics_dispatch.specs.Machine.Blockers.{unit_of, number_of}
use Rattle.cics_script.specs.Lines as reading
use Rattle.cics_script.specs.declared.faults.LineFault.{LineFault}
use Rattle.cics_script.specs.declared.lines.Line.{Line}
use Rattle.cics_script.specs.declared.lines.Line.TheVariants.{Issue}
use Rattle.cics_picture.specs.Draw.Standings.{is_change}
use Rattle.cics_run.specs.declared.stage.stage.Stage.{Stage}
use Rattle.cics_run.specs.declared.stage.stage.Stage.TheVariants.{Opening, Running}
use Rattle.cics_picture.specs.declared.bars.Standing.{Standing}
use Rattle.cics_picture.specs.Bars.{nobody}
use Rattle.cics_picture.specs.declared.draw.recording.Given.{Given}

-- the record of the least key that isn't below this one, as the command that would delete it
abbrev pub record_of : UnitsValue → Bytes → Option Bytes → Option Op
record_of u f None = None
record_of u f (Some k) = option_map (λ e. Delete f e.0) (first_from (unwrap_or (value_at f u.store.files) []) k false)

-- the record or the queue that a read shows, as the command that would delete it; a browse was
-- answered the key of its record
abbrev pub shown_by : UnitsValue → Verb → Given → Option Op
shown_by u (Read f k own n generic gteq false) given = record_of u f (Some k)
shown_by u (ReadNext f n) given = record_of u f given.key
shown_by u (ReadPrev f n) given = record_of u f given.key
shown_by u (ReadqTs q n item) given = Some (TsDelete q)
shown_by u verb given = None

-- a command wrote or deleted the record of a key. DELETE GENERIC of a shorter prefix doesn't count:
-- no read shows what it deleted
abbrev pub changes_record : Bytes → Bytes → Op → Bool
changes_record f k op = is_file_op op && (is_change op && (is_same (file_of op) f && bytes_eq (key_of op) k))

-- a command wrote an item of a queue; one that adds an item is answered its number
abbrev pub writes_item : Bytes → ℕ → Op → Option ℕ → Bool
writes_item q n (TsWrite p d) number = is_same p q && is_unit number n
writes_item q n (TsRewrite p i d) number = is_same p q && (i == n)
writes_item q n op number = false

-- an entry changed what is shown: the record of the key, or the item at the queue's NEXT cursor
abbrev pub changes : UnitsState → Op → Entry → Bool
changes s (Delete f k) e = changes_record f k e.op
changes s (TsDelete q) e = writes_item q (place_at s q) e.op e.answer.number
changes s op e = false

-- an entry of a unit, answered NORMAL, changed what is shown
abbrev pub changed : UnitsState → ℕ → Op → Entry → Bool
changed s unit shown e = (e.unit == unit) && (is_normal e.answer.condition && changes s shown e)

-- a unit, if it isn't the reader's own and changed what is shown
abbrev pub if_changed : UnitsState → Option ℕ → Op → Option ℕ → Option ℕ
if_changed s own shown None = None
if_changed s own shown (Some unit) = if is_unit own unit || not (list_any (changed s unit shown) s.trace) then None else Some unit

-- the other unit that holds and changed what is shown; none if that is unrecoverable
abbrev pub changer : UnitsState → Option ℕ → Option Op → Option ℕ
changer s own None = None
changer s own (Some shown) = if is_recoverable s.opening shown then if_changed s own shown (awaited s None shown) else None

-- the number of a task and a unit, if both are there
abbrev pub both : Option ℕ → Option ℕ → Option (ℕ × ℕ)
both None unit = None
both (Some number) None = None
both (Some number) (Some unit) = Some (number, unit)

-- the number of the reader's task, and the other open unit that last changed what the read shows
abbrev pub shown_of : RegionValue → Bytes → Verb → Given → Option (ℕ × ℕ)
shown_of r label verb given =
    let u : UnitsValue = record { state = r.machine.units; store = r.store } in
    both (number_of r.machine.tasks label) (changer u.state (unit_of r.machine label) (shown_by u verb given))

-- the same of a line, as the grammar reads it
abbrev pub shown_in : RegionValue → Result Line LineFault → Given → Option (ℕ × ℕ)
shown_in r (Ok (Issue label c)) given = shown_of r label c.verb given
shown_in r read given = None

-- the same of a line that ran, if its command was given data
abbrev pub shown_at : Stage → List ℕ → Option Given → Option (ℕ × ℕ)
shown_at stage line None = None
shown_at (Opening o) line (Some given) = None
shown_at (Running r) line (Some given) = shown_in r (reading.line line) given

-- the lane of the task that has a unit; if none has it, the number of lanes
abbrev pub lane_with : ℕ → List Standing → ℕ
lane_with unit standings = prefix_len (λ s. not (is_unit s.unit unit)) standings

-- how the tasks stand, with the lane whose task wrote what the task of a number read
abbrev pub with_shown : List Standing → Option (ℕ × ℕ) → List Standing
with_shown standings None = standings
with_shown standings (Some found) =
    let s = unwrap_or (slice_get standings found.0) nobody in
    slice_set standings found.0 (record s { shows = Some (lane_with found.1 standings) })
