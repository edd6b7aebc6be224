-- How the tasks with lanes stand: the unit and the blocker of each, whether it is in a deadlock,
-- and whether it made a change that stays.
use Rattle.std.specs.Prelude.{ℕ, Bool, true, false, not, ◌&&◌, ◌==◌, zero, suc, nat_lt, if◌then◌else◌, Option, Some, None, option_and_then, unwrap_or, slice_get, length, map, drop, List, [], ◌∷◌, ◌++◌}
use Rattle.std.specs.List.{list_any}
use Rattle.cics_names.specs.Keyed.{Bytes}
use Rattle.cics_history.specs.State.{OpeningState}
use Rattle.cics_history.specs.Store.{is_normal, is_recoverable}
use Rattle.cics_history.specs.declared.ops.Op.{Op}
use Rattle.cics_history.specs.declared.ops.Op.TheVariants.{ReadUpdate}
use Rattle.cics_history.specs.declared.ops.Entry.{Entry}
use Rattle.cics_history.specs.declared.ops.UnitState.{UnitState}
use Rattle.cics_history.specs.declared.ops.UnitState.TheVariants.{Open, Committed, BackedOut}
use Rattle.cics_dispatch.specs.Machine.Machine.{Machine}
use Rattle.cics_dispatch.specs.Machine.Blockers.{label_at, number_of, unit_of, blocker_of}
use Rattle.cics_dispatch.specs.Deadlocks.Circles.{Leads}
use Rattle.cics_dispatch.specs.Deadlocks.Deadlocks.{blockers_at, in_deadlock}
use Rattle.cics_picture.specs.declared.bars.Standing.{Standing}
use Rattle.cics_picture.specs.declared.bars.Fill.{Fill}
use Rattle.cics_picture.specs.declared.bars.Fill.TheVariants.{Open as OpenFill, Filled, Hollow}
use Rattle.cics_picture.specs.Lanes.{most_lanes}
use Rattle.cics_picture.specs.Bars.{nobody}
use Rattle.cics_run.specs.declared.stage.stage.Stage.{Stage}
use Rattle.cics_run.specs.declared.stage.stage.Stage.TheVariants.{Opening, Running}

-- of each task, by its number, whether it is in a deadlock; nothing if there are more tasks than have
-- lanes
unfoldable pub shown_deadlocks : Machine → List Bool
shown_deadlocks m = if nat_lt most_lanes (length m.tasks) then [] else in_deadlock m

-- the task of a number is in a deadlock: it waits for itself, through others
abbrev pub IsInDeadlock : Machine → ℕ → Type 0
IsInDeadlock m number = Leads (blockers_at m) number number

-- the number of the task that blocks that of a label, if it waits
abbrev pub blocker_at : Machine → Bytes → Option ℕ
blocker_at m label = option_and_then (number_of m.tasks) (blocker_of m label)

-- how the task of a label stands, if there is one
abbrev pub standing_of : Machine → Bool → Option Bytes → Standing
standing_of m deadlocked None = nobody
standing_of m deadlocked (Some label) = record { unit = unit_of m label; is_deadlocked = deadlocked; blocker = blocker_at m label; stays = false; shows = None }

-- how the task of a number stands
abbrev pub standing_at : Machine → List Bool → ℕ → Standing
standing_at m flags number = standing_of m (unwrap_or (slice_get flags number) false) (label_at m.tasks number)

-- whether a command changes something: each one but READ UPDATE. DELETEQ TD counts even if the
-- queue is empty
abbrev pub is_change : Op → Bool
is_change (ReadUpdate f k) = false
is_change op = true

-- a unit changed an unrecoverable file or queue: no backout undoes that
abbrev pub stays : OpeningState → ℕ → Entry → Bool
stays o unit e = (e.unit == unit) && (is_normal e.answer.condition && (is_change e.op && not (is_recoverable o e.op)))

-- whether a unit made a change that stays, after so many entries of the history
abbrev pub any_stays : ℕ → Machine → Option ℕ → Bool
any_stays before m None = false
any_stays before m (Some unit) = list_any (stays m.units.opening unit) (drop before m.units.trace)

-- how the task of a number stands after a line, before which the history had so many entries
abbrev pub marked_at : ℕ → Machine → List Bool → ℕ → Standing
marked_at before m flags number =
    let s = standing_at m flags number in record { unit = s.unit; is_deadlocked = s.is_deadlocked; blocker = s.blocker; stays = any_stays before m s.unit; shows = None }

-- how the tasks below a number stand
abbrev pub standings_below : ℕ → Machine → List Bool → ℕ → List Standing
standings_below before m flags zero = []
standings_below before m flags (suc n) = standings_below before m flags n ++ marked_at before m flags n ∷ []

-- how the tasks that have lanes stand
unfoldable pub standings_of : ℕ → Machine → List Standing
standings_of before m = standings_below before m (shown_deadlocks m) most_lanes

-- the same at a stage of a run: without a region there are none
abbrev pub standings_at : ℕ → Stage → List Standing
standings_at before (Opening o) = []
standings_at before (Running r) = standings_of before r.machine

-- the history
abbrev pub entries_at : Stage → List Entry
entries_at (Opening o) = []
entries_at (Running r) = r.machine.units.trace

-- the outcome of each unit, by its number
abbrev pub outcomes_at : Stage → List UnitState
outcomes_at (Opening o) = []
outcomes_at (Running r) = r.machine.units.outcomes

-- how the bar of a unit is filled
abbrev pub fill_of : UnitState → Fill
fill_of Open = OpenFill
fill_of Committed = Filled
fill_of BackedOut = Hollow

-- how the bar of each unit is filled, by its number
abbrev pub fills_at : Stage → List Fill
fills_at stage = map fill_of (outcomes_at stage)
