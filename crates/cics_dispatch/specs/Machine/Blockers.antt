-- Task control: the unit of a task, and the task whose unit blocks a waiting command now.
use Rattle.std.specs.Prelude.{◌≡◌, ℕ, suc, Bool, true, false, if◌then◌else◌, Option, Some, None, option_map, option_and_then, slice_get, List, [], ◌∷◌}
use Rattle.std.specs.List.{filter_map, list_any}
use Rattle.std.specs.Option.{option_to_list}
use Rattle.cics_names.specs.Keyed.{Bytes, is_same, value_at}
use Rattle.cics_names.specs.declared.commands.Command.{Command}
use Rattle.cics_browse.specs.Positions.{Position}
use Rattle.cics_history.specs.State.{UnitsState}
use Rattle.cics_history.specs.declared.ops.Op.{Op}
use Rattle.cics_history.specs.declared.ops.Op.TheVariants.{DeleteGeneric, TdDelete}
use Rattle.cics_units.specs.Blocking.{blocks}
use Rattle.cics_dispatch.specs.Machine.Machine.{Machine, Task, Suspended, task_at, label_of}
use Rattle.cics_dispatch.specs.Machine.Tasks.{had_by, own_unit}
use Rattle.cics_dispatch.specs.Machine.Waits.{wait_of}
use Rattle.cics_dispatch.specs.Machine.Waking.{awaited_by}

-- the command of a label's task that waits, if one does
abbrev pub waiting_command : Machine → Bytes → Option Command
waiting_command m label = option_map (λ w. w.command) (wait_of m.waiting label)

-- where a label's task stands in a file that it browses, if it does
abbrev pub browse_of : Machine → Bytes → Bytes → Option Position
browse_of m label f = option_and_then (λ t. value_at f t.browses) (task_at m.tasks label)

-- the open unit of the task of a label, if there is such a task and it has one
abbrev pub unit_of : Machine → Bytes → Option ℕ
unit_of m label = had_by own_unit (task_at m.tasks label)

-- the unit that blocks a command of a task now, if the command waits
abbrev pub awaited_of : Machine → Option Suspended → Option Task → Option ℕ
awaited_of m None t = None
awaited_of m (Some w) None = None
awaited_of m (Some w) (Some t) = awaited_by m.units t.unit w.command.verb w.op

-- the unit that blocks the waiting command of a label's task now
abbrev pub awaited_at : Machine → Bytes → Option ℕ
awaited_at m label = awaited_of m (wait_of m.waiting label) (task_at m.tasks label)

-- the label of the task whose unit blocks the waiting command of a label's task now
abbrev pub blocker_of : Machine → Bytes → Option Bytes
blocker_of m label = option_map (label_of m.tasks) (awaited_at m label)

-- the command, if it may wait for more than one unit: DELETE GENERIC or DELETEQ TD
abbrev pub shared : Option Op → Option Op
shared (Some (DeleteGeneric f p)) = Some (DeleteGeneric f p)
shared (Some (TdDelete q)) = Some (TdDelete q)
shared _ = None

-- the waiting command of a label's task, if it may wait for more than one unit
abbrev pub shared_op : Machine → Bytes → Option Op
shared_op m label = option_and_then (λ w. shared w.op) (wait_of m.waiting label)

-- a task has a unit that blocks a command
abbrev pub unit_blocks : UnitsState → Option ℕ → Op → Option ℕ → Bool
unit_blocks s asking op None = false
unit_blocks s asking op (Some v) = blocks s asking op v

-- the label of a task whose unit blocks a command
abbrev pub blocking_label : UnitsState → Option ℕ → Op → Task → Option Bytes
blocking_label s asking op t = if unit_blocks s asking op t.unit then Some t.label else None

-- whom a label's task waits for, if its command may wait for more than one unit, and else
abbrev pub blockers_by : Machine → Bytes → Option Op → List Bytes
blockers_by m label None = option_to_list (blocker_of m label)
blockers_by m label (Some op) = filter_map (blocking_label m.units (unit_of m label) op) m.tasks

-- the blockers of a label's task: the tasks whose units block its waiting command, in the order of
-- attach. The command may resume if there is none
abbrev pub blockers_of : Machine → Bytes → List Bytes
blockers_of m label = blockers_by m label (shared_op m label)

-- labels are empty if there is no blocker, and else the blocker is among them
abbrev pub HaveBlocker : Option Bytes → List Bytes → Type 0
HaveBlocker None labels = labels ≡ []
HaveBlocker (Some blocker) labels = list_any (is_same blocker) labels ≡ true

-- the label of the task of a number, which counts from 0 in the order of attach
abbrev pub label_at : List Task → ℕ → Option Bytes
label_at ts number = option_map (λ t. t.label) (slice_get ts number)

-- the number of the task of a label
abbrev pub number_of : List Task → Bytes → Option ℕ
number_of [] label = None
number_of (t ∷ ts) label = if is_same t.label label then Some 0 else option_map suc (number_of ts label)
