-- Whether a run leaves a task waiting, and what is told of that.
use Rattle.std.specs.Prelude.{ℕ, zero, suc, Bool, false, if◌then◌else◌, Option, Some, None, is_some, List, [], ◌++◌, length, codes}
use Rattle.std.specs.Fmt.{decimal}
use Rattle.cics_names.specs.Keyed.{Bytes}
use Rattle.cics_dispatch.specs.Deadlocks.Deadlocks.{waiting_count}
use Rattle.cics_dispatch.specs.Machine.Machine.{Machine}
use Rattle.cics_dispatch.specs.Machine.Blockers.{label_at, blocker_of, waiting_command}
use Rattle.cics_script.specs.Texts.{bare}
use Rattle.cics_run.specs.Stage.Journal.{line}
use Rattle.cics_run.specs.Messages.Deadlocked.{wait_text}
use Rattle.cics_run.specs.Messages.Nearest.{or_next}
use Rattle.cics_run.specs.declared.stage.stage.Stage.{Stage}
use Rattle.cics_run.specs.declared.stage.stage.Stage.TheVariants.{Opening, Running}

-- a label, if its task waits
abbrev pub if_waiting : Machine → Option Bytes → Option Bytes
if_waiting m None = None
if_waiting m (Some label) = if is_some (waiting_command m label) then Some label else None

-- that of the task of a number
abbrev pub waiting_at : Machine → ℕ → Option Bytes
waiting_at m number = if_waiting m (label_at m.tasks number)

-- the first below a number
abbrev pub first_waiting_below : Machine → ℕ → Option Bytes
first_waiting_below m zero = None
first_waiting_below m (suc n) = or_next (first_waiting_below m n) (waiting_at m n)

-- the first task that waits
abbrev pub first_waiting : Machine → Option Bytes
first_waiting m = first_waiting_below m (length m.tasks)

-- whether a run leaves a task waiting; definitions alone leave none
abbrev pub is_left_waiting : Stage → Bool
is_left_waiting (Opening o) = false
is_left_waiting (Running r) = is_some (first_waiting r.machine)

-- a task that waits, and for whom and what, if another one blocks it
abbrev pub waiter_blocked_by : Machine → Bytes → Option Bytes → List ℕ
waiter_blocked_by m label None = bare label
waiter_blocked_by m label (Some blocker) = wait_text m label blocker

-- the same of the one that blocks it now
abbrev pub waiter_text : Machine → Bytes → List ℕ
waiter_text m label = waiter_blocked_by m label (blocker_of m label)

-- how many tasks wait, and for whom and what one of them does
abbrev pub first_line : Machine → Bytes → List ℕ
first_line m label = line (codes "cicsrun: still waiting at the end: " ++ (decimal (waiting_count m) ++ (codes "; " ++ waiter_text m label)))

-- the same of the first, if a task waits
abbrev pub waiting_line_of : Machine → Option Bytes → List ℕ
waiting_line_of m None = []
waiting_line_of m (Some label) = first_line m label

-- what a strict run tells of the tasks that wait
abbrev pub waiting_line : Machine → List ℕ
waiting_line m = waiting_line_of m (first_waiting m)
