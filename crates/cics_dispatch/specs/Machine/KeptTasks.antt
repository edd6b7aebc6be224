-- Task control: what holds between the tasks of a region, its waiting commands and its units.
use Rattle.std.specs.Prelude.{◌≡◌, ℕ, true, Option, Some, None, All, is_some, slice_get}
use Rattle.cics_history.specs.Events.{is_live}
use Rattle.cics_history.specs.Execution.{is_ready_op}
use Rattle.cics_history.specs.State.{UnitsState}
use Rattle.cics_history.specs.declared.ops.Op.{Op}
use Rattle.cics_names.specs.declared.commands.Verb.{Verb}
use Rattle.cics_names.specs.declared.commands.Verb.TheVariants.{Enq}
use Rattle.cics_dispatch.specs.Machine.Machine.{Machine, Task, Suspended, task_at}
use Rattle.cics_dispatch.specs.Machine.Checks.{resource_reason}
use Rattle.cics_dispatch.specs.Machine.Tasks.{own_label, own_unit, IsOwn}

-- a command that may have to wait is ready: its updating command can be executed once nothing
-- blocks it, or it is an ENQ whose LENGTH is right
abbrev pub IsReady : UnitsState → Option ℕ → Verb → Option Op → Type 0
IsReady s asking verb (Some o) = is_ready_op s asking o ≡ true
IsReady s asking (Enq value n nosuspend) None = resource_reason value n ≡ None
IsReady s asking _ None = ⊥

-- a waiting command is of a task, and is ready
pub record IsWaitKept (m : Machine) (w : Suspended) : Type 0 where
  pub of_task : is_some (task_at m.tasks w.label) ≡ true
  pub ready : (t : Task) → task_at m.tasks w.label ≡ Some t → IsReady m.units t.unit w.command.verb w.op

-- no two tasks have one label or one unit, a task's unit is open, and the waiting commands are
-- ready
pub record AreTasksKept (m : Machine) : Type 0 where
  pub labels : IsOwn own_label m.tasks
  pub owners : IsOwn own_unit m.tasks
  pub open_units : (i : ℕ) (t : Task) (u : ℕ) → slice_get m.tasks i ≡ Some t → t.unit ≡ Some u → is_live m.units u ≡ true
  pub waits : All (IsWaitKept m) m.waiting
