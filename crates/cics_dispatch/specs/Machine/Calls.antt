-- Words of the clauses on calls: what holds of the task at an index, and of a step of it.
use Rattle.std.specs.Prelude.{◌≡◌, ◌≤◌, ℕ, Bool, true, false, Option, Some, None, is_some, IfSome, length, slice_get, List, Result, Ok, Err}
use Rattle.cics_names.specs.Keyed.{Bytes, value_at}
use Rattle.cics_names.specs.declared.records.NoMemory.{NoMemory}
use Rattle.cics_names.specs.declared.commands.Command.{Command}
use Rattle.cics_names.specs.declared.commands.Verb.{Verb}
use Rattle.cics_names.specs.declared.commands.Verb.TheVariants.{Read, Unlock}
use Rattle.cics_history.specs.Execution.{IsOpenUnit, item_asked}
use Rattle.cics_history.specs.Records.{key_of}
use Rattle.cics_history.specs.declared.ops.Op.{Op}
use Rattle.cics_dispatch.specs.Machine.Machine.{Machine, Task, RegionValue, is_waiting, records_in, replaced}
use Rattle.cics_dispatch.specs.Machine.Browses.{read_on, after_read_on}
use Rattle.cics_dispatch.specs.Machine.Checks.{reason_of}
use Rattle.cics_dispatch.specs.Machine.Replies.{read_told}
use Rattle.cics_dispatch.specs.Machine.Steps.{Stepped, with_outcome, answered, browsed, by_op, busy_of, made_to_wait, op_of, ts_read}
use Rattle.cics_dispatch.specs.Machine.Waking.{awaited_by}
use Rattle.cics_dispatch.specs.Machine.KeptTasks.{IsReady}
use Rattle.cics_dispatch.specs.Machine.Regions.{IsRegionKept}
use Rattle.cics_dispatch.specs.declared.machine.browses.Direction.{Direction}
use Rattle.cics_dispatch.specs.declared.machine.outcomes.Outcome.{Outcome}
use Rattle.cics_dispatch.specs.declared.machine.outcomes.Attempt.{Attempt}
use Rattle.cics_dispatch.specs.declared.machine.outcomes.Attempt.TheVariants.{Told, MustWait}

-- ---- The task at an index

-- something holds of the task at an index, if one is there
abbrev pub OfTask : List Task → ℕ → (Task → Type 0) → Type 0
OfTask ts at P = (t : Task) → slice_get ts at ≡ Some t → P t

-- the tasks are as they were, but the one at the index, which is changed
abbrev pub HasChanged : List Task → ℕ → (Task → Task) → List Task → Type 0
HasChanged ts at change new = OfTask ts at (λ t. new ≡ replaced ts (change t))

-- no command of the task waits
abbrev pub IsAwake : Machine → ℕ → Type 0
IsAwake m at = OfTask m.tasks at (λ t. is_waiting m.waiting t.label ≡ false)

-- the task has a browse of a file open
abbrev pub HasBrowse : Machine → ℕ → Bytes → Type 0
HasBrowse m at file = OfTask m.tasks at (λ t. is_some (value_at file t.browses) ≡ true)

-- a command of the task is ready
abbrev pub HasReady : Machine → ℕ → Verb → Option Op → Type 0
HasReady m at verb o = OfTask m.tasks at (λ t. IsReady m.units t.unit verb o)

-- the task may perform a command: none of its commands waits, and this one passes its checks; its
-- updating command, if any, has a key of at most 255 bytes
pub record MayPerform (m : Machine) (at : ℕ) (verb : Verb) : Type 0 where
  pub awake : IsAwake m at
  pub passed : OfTask m.tasks at (λ t. reason_of m t verb ≡ None)
  pub short : OfTask m.tasks at (λ t. IfSome (op_of m t verb) (λ o. length (key_of o) ≤ 255))

-- whether a verb is READ or UNLOCK
abbrev pub reads_or_unlocks : Verb → Bool
reads_or_unlocks (Read f key given n generic gteq update) = true
reads_or_unlocks (Unlock f) = true
reads_or_unlocks _ = false

-- ---- A step of the task at an index

-- a call keeps the invariant of a region
abbrev pub KeepsRegion : RegionValue → RegionValue → Type 0
KeepsRegion old new = IsRegionKept old → IsRegionKept new

-- this outcome and this region are those of a step of the task
abbrev pub IsStepOf : RegionValue → ℕ → (Task → Stepped Outcome) → Outcome → RegionValue → Type 0
IsStepOf old at step outcome new =
    OfTask old.machine.tasks at (λ t. with_outcome outcome new.machine ≡ step t) × KeepsRegion old new

-- a call makes a step of the task, or returns NoMemory and leaves the region as it was
abbrev pub IsStepOrRefused : RegionValue → ℕ → (Task → Stepped Outcome) → Result Outcome NoMemory → RegionValue → Type 0
IsStepOrRefused old at step (Ok outcome) new = IsStepOf old at step outcome new
IsStepOrRefused old at step (Err e) new = new ≡ old

-- a READ without UPDATE as a step of a task
abbrev pub reading : Machine → Bytes → Command → Task → Stepped Outcome
reading m file c t = answered m t c.resp (read_told (records_in m file) c.verb)

-- READQ TS as a step of a task
abbrev pub reading_item : Machine → Bool → Bytes → Option ℕ → Option ℕ → Task → Stepped Outcome
reading_item m resp q limit item t = ts_read m t resp q limit (item_asked m.units q item)

-- READNEXT, or READPREV, as a step of a task
abbrev pub reading_on : Machine → Bool → Bytes → Option ℕ → Direction → Task → Stepped Outcome
reading_on m resp file limit direction t =
    let records = records_in m file in
    browsed m t resp file limit (value_at file t.browses) (read_on direction records) (after_read_on direction records)

-- a command of the task whose checks have passed, as a step of it
abbrev pub going_on : Machine → Command → Option Op → Task → Stepped Outcome
going_on m c o t = by_op m t c o

-- a command of the task that must wait for a unit, as a step of it
abbrev pub waiting_for : Machine → Command → Option Op → ℕ → Task → Stepped Outcome
waiting_for m c o holder t = made_to_wait m t c o holder (busy_of c.verb)

-- a trial of a command of the task: it makes the step; or returns the open unit that blocks it,
-- with the updating command, and changes nothing; or returns NoMemory and changes nothing
abbrev pub IsAttempt : RegionValue → ℕ → Command → Option Op → Result Attempt NoMemory → RegionValue → Type 0
IsAttempt old at c o (Ok (Told outcome)) new = IsStepOf old at (going_on old.machine c o) outcome new
IsAttempt old at c o (Ok (MustWait holder back)) new =
    (OfTask old.machine.tasks at (λ t. awaited_by old.machine.units t.unit c.verb o ≡ Some holder) × (back ≡ o))
    × (IsOpenUnit old.machine.units holder × (new ≡ old))
IsAttempt old at c o (Err e) new = new ≡ old
