-- Runs of events: units execute, enqueue, dequeue, unlock, commit and back out, in any order, and
-- tasks read temporary storage.
use Rattle.std.specs.Prelude.{ℕ, Bool, true, ◌&&◌, if◌then◌else◌, Option, Some, None, nat_lt, length, List, [], ◌∷◌}
use Rattle.cics_names.specs.Keyed.{Bytes}
use Rattle.cics_history.specs.Headline.{outcome_of, is_open}
use Rattle.cics_history.specs.State.{UnitsState}
use Rattle.cics_history.specs.Execution.{after_execution, after_end, after_enqueue, after_dequeue, after_unlock, after_ts_reading}
use Rattle.cics_history.specs.declared.ops.Op.{Op}
use Rattle.cics_history.specs.declared.ops.UnitState.TheVariants.{Committed, BackedOut}

-- a unit, or a task without one, executes a command or enqueues on a value. A unit dequeues from a
-- value, unlocks a file, commits, or is backed out. A task reads an item of a temporary storage
-- queue, which belongs to no unit
pub data Event : Type 0 where
  Execute : (unit : Option ℕ) (op : Op) → Event
  Commit : (unit : ℕ) → Event
  BackOut : (unit : ℕ) → Event
  Enqueue : (unit : Option ℕ) (value : Bytes) → Event
  Dequeue : (unit : ℕ) (value : Bytes) → Event
  Unlock : (unit : ℕ) (file : Bytes) → Event
  ReadItem : (queue : Bytes) (item : ℕ) → Event

-- a unit that has begun and not ended
abbrev pub is_live : UnitsState → ℕ → Bool
is_live s u = nat_lt u (length s.outcomes) && is_open (outcome_of s.outcomes u)

-- a command or an ENQ is of an open unit, or begins the next one
abbrev pub may_act : UnitsState → Option ℕ → Bool
may_act s None = true
may_act s (Some u) = is_live s u

-- an event of a unit that isn't open changes nothing. Neither does a command or an ENQ that must
-- wait
abbrev pub happens : UnitsState → Event → UnitsState
happens s (Execute u op) = if may_act s u then after_execution s u op else s
happens s (Commit u) = if is_live s u then after_end s u Committed else s
happens s (BackOut u) = if is_live s u then after_end s u BackedOut else s
happens s (Enqueue u v) = if may_act s u then after_enqueue s u v else s
happens s (Dequeue u v) = if is_live s u then after_dequeue s u v else s
happens s (Unlock u f) = if is_live s u then after_unlock s u f else s
happens s (ReadItem q n) = after_ts_reading s q n

-- the state after these events, in their order
abbrev pub run : UnitsState → List Event → UnitsState
run s [] = s
run s (e ∷ es) = run (happens s e) es
