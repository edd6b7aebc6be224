-- How a script is taken apart: what its lines define, the tasks with their lines, and the clock's
-- lines.
use Rattle.std.specs.Prelude.{◌≡◌, ℕ, ◌+◌, Bool, true, false, if◌then◌else◌, List, [], ◌∷◌, ◌++◌, Option, Some, None, is_some, Result, Ok, Err, IfOk}
use Rattle.cics_names.specs.Keyed.{Bytes, is_same}
use Rattle.cics_history.specs.State.{OpeningState}
use Rattle.cics_history.specs.Openings.{initial_opening}
use Rattle.cics_units.specs.declared.opening.opening.DefineFault.{DefineFault}
use Rattle.cics_dispatch.specs.declared.machine.outcomes.Refused.{Refused}
use Rattle.cics_dispatch.specs.declared.machine.outcomes.Refused.TheVariants.{NoTask, DuplicateLabel}
use Rattle.cics_script.specs.Lines.{line}
use Rattle.cics_script.specs.declared.lines.Line.{Line}
use Rattle.cics_script.specs.declared.lines.Line.TheVariants.{Blank, Attach, Clock, Issue, Shutdown}
use Rattle.cics_script.specs.declared.faults.LineFault.{LineFault}
use Rattle.cics_script.specs.declared.faults.LineFault.TheVariants.{DefineTooLate}
use Rattle.cics_orders.specs.Plans.Firsts.{first_index, with_first}
use Rattle.cics_orders.specs.Plans.Defining.{define_fault, defined_by}
use Rattle.cics_orders.specs.declared.plans.plans.TaskPlan.{TaskPlan}
use Rattle.cics_orders.specs.declared.plans.plans.Plan.{Plan}
use Rattle.cics_orders.specs.declared.plans.plans.Planned.{Planned}
use Rattle.cics_orders.specs.declared.plans.plans.RefusedLine.{RefusedLine}
use Rattle.cics_orders.specs.declared.plans.plans.ScriptFault.{ScriptFault}
use Rattle.cics_orders.specs.declared.plans.plans.ScriptFault.TheVariants as fault

-- a line of a script: its number, and its bytes
abbrev pub NumberedLine : Type 0
NumberedLine = ℕ × Bytes

-- a line of a task or of the clock: the task's index, and the line's number
abbrev pub WrittenLine : Type 0
WrittenLine = Option ℕ × ℕ

-- the lines so far: what they define, whether all are definitions or blank, the plan, and the
-- refused lines
pub record Taken : Type 0 where
  pub opening : OpeningState
  pub is_opening : Bool
  pub plan : Plan
  pub refused : List RefusedLine

-- the lines so far with one more, and the fault of that line, if it has one
pub record Step : Type 0 where
  pub taken : Taken
  pub fault : Option ScriptFault

-- a plan without a line
abbrev pub empty_plan : Plan
empty_plan = record { definitions = []; tasks = []; clock = []; written = [] }

-- before the first line
abbrev pub initial_taken : Taken
initial_taken = record { opening = initial_opening; is_opening = true; plan = empty_plan; refused = [] }

-- a line without a fault
abbrev pub good : Taken → Step
good t = record { taken = t; fault = None }

-- a line with a fault changes nothing
abbrev pub faulty : Taken → ScriptFault → Step
faulty t f = record { taken = t; fault = Some f }

-- ---- Definitions

-- a definition is accepted or refused
abbrev pub accepted : Taken → NumberedLine → Option DefineFault → OpeningState → Step
accepted t next None o = good (record t { opening = o; plan = record (t.plan) { definitions = t.plan.definitions ++ next ∷ [] } })
accepted t next (Some f) o = faulty t (fault.Definition f)

-- no definition stands behind the first line that is neither blank nor a definition
abbrev pub defined : Taken → NumberedLine → Line → Step
defined t next definition =
    if t.is_opening
    then accepted t next (define_fault t.opening definition) (defined_by t.opening (Ok definition))
    else faulty t (fault.Line DefineTooLate)

-- ---- Tasks

-- whether a task has a label
abbrev pub is_task : TaskPlan → Bytes → Bool
is_task task label = is_same task.label label

-- the index of the task of a label
abbrev pub task_index : List TaskPlan → Bytes → Option ℕ
task_index tasks label = first_index (λ task. is_task task label) tasks

-- whether one of these tasks has a label
abbrev pub has_task : List TaskPlan → Bytes → Bool
has_task tasks label = is_some (task_index tasks label)

-- a task with a line more
abbrev pub with_line : TaskPlan → NumberedLine → TaskPlan
with_line task next = record task { lines = task.lines ++ next ∷ [] }

-- tasks, the one of a label with a line more
abbrev pub line_added : List TaskPlan → Bytes → NumberedLine → List TaskPlan
line_added tasks label next = with_first (λ task. is_task task label) (λ task. with_line task next) tasks

-- ---- Other lines

-- a line is refused in every order
abbrev pub with_refused : Taken → ℕ → Bytes → Refused → Taken
with_refused t number label refusal = record t { is_opening = false; refused = t.refused ++ record { number = number; label = label; refusal = refusal } ∷ [] }

-- a task is attached, unless a task before it has its label
abbrev pub attached : Taken → TaskPlan → Taken
attached t task =
    if has_task t.plan.tasks task.label
    then with_refused t task.attach.0 task.label DuplicateLabel
    else record t { is_opening = false; plan = record (t.plan) { tasks = t.plan.tasks ++ task ∷ [] } }

-- a plan with a command more of the task of a label
abbrev pub with_command : Plan → NumberedLine → Bytes → Plan
with_command p next label = record p { tasks = line_added p.tasks label next; written = p.written ++ (task_index p.tasks label, next.0) ∷ [] }

-- a command is a line of its task, if that is attached
abbrev pub issued : Taken → NumberedLine → Bytes → Taken
issued t next label =
    if has_task t.plan.tasks label
    then record t { is_opening = false; plan = with_command t.plan next label }
    else with_refused t next.0 label NoTask

-- a line of the clock
abbrev pub timed : Taken → NumberedLine → Taken
timed t next = record t { is_opening = false; plan = record (t.plan) { clock = t.plan.clock ++ next ∷ []; written = t.plan.written ++ (None, next.0) ∷ [] } }

-- a line that was read
abbrev pub followed : Taken → NumberedLine → Line → Step
followed t next Blank = good t
followed t next (Attach label transaction dtimout) =
    good (attached t (record { label = label; transaction = transaction; dtimout = dtimout; attach = next; lines = [] }))
followed t next (Issue label command) = good (issued t next label)
followed t next (Clock seconds) = good (timed t next)
followed t next Shutdown = good (timed t next)
followed t next definition = defined t next definition

-- a line more
abbrev pub taken_more : Taken → NumberedLine → Result Line LineFault → Step
taken_more t next (Ok says) = followed t next says
taken_more t next (Err f) = faulty t (fault.Line f)

-- a line led to this, and to its fault if it has one, unless memory was refused
abbrev pub TakesLine : {E : Type 0} → Step → Taken → Result (Option ScriptFault) E → Type 0
TakesLine s now result = IfOk result (λ fault. (now ≡ s.taken) × (fault ≡ s.fault))

-- ---- Whole scripts

-- the lines behind one, unless it has a fault
abbrev pub behind : ℕ → Option ScriptFault → Taken → (Taken → Result Taken (ℕ × ScriptFault)) → Result Taken (ℕ × ScriptFault)
behind number None t more = more t
behind number (Some f) t more = Err (number, f)

-- the lines from a number on are taken apart, until one has a fault
unfoldable pub taken_apart : Taken → ℕ → List Bytes → Result Taken (ℕ × ScriptFault)
taken_apart t number [] = Ok t
taken_apart t number (bytes ∷ rest) =
    let step = taken_more t (number, bytes) (line bytes) in behind number step.fault step.taken (λ now. taken_apart now (number + 1) rest)

-- a script taken apart, or the number of its first line with a fault, and the fault
abbrev pub planned : Result Taken (ℕ × ScriptFault) → Result Planned (ℕ × ScriptFault)
planned (Ok t) = Ok (record { plan = t.plan; refused = t.refused })
planned (Err fault) = Err fault
