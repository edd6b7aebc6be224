-- Which plans are those of scripts: no two tasks have the same label, and each lane has lines of
-- its own.
use Rattle.std.specs.Prelude.{Bool, true, false, not, ◌&&◌, if◌then◌else◌, List, [], ◌∷◌, Result, Ok}
use Rattle.std.specs.List.{list_all}
use Rattle.cics_names.specs.Keyed.{Bytes, is_same}
use Rattle.cics_script.specs.Lines.{line}
use Rattle.cics_script.specs.declared.lines.Line.{Line}
use Rattle.cics_script.specs.declared.lines.Line.TheVariants.{Clock, Issue, Shutdown}
use Rattle.cics_script.specs.declared.faults.LineFault.{LineFault}
use Rattle.cics_orders.specs.Plans.Taking.{has_task, empty_plan}
use Rattle.cics_orders.specs.declared.plans.plans.TaskPlan.{TaskPlan}
use Rattle.cics_orders.specs.declared.plans.plans.Plan.{Plan}

-- a line is a command of the task of a label
abbrev pub is_command_of : Bytes → Result Line LineFault → Bool
is_command_of label (Ok (Issue own command)) = is_same own label
is_command_of label _ = false

-- a line sets the clock or shuts the region down
abbrev pub is_timing : Result Line LineFault → Bool
is_timing (Ok (Clock seconds)) = true
is_timing (Ok Shutdown) = true
is_timing _ = false

-- the lines of a task are commands of it
abbrev pub has_own_lines : TaskPlan → Bool
has_own_lines task = list_all (λ next. is_command_of task.label (line next.1)) task.lines

-- no two tasks have the same label
abbrev pub are_distinct : List TaskPlan → Bool
are_distinct [] = true
are_distinct (task ∷ tasks) = not (has_task tasks task.label) && are_distinct tasks

-- The labels of tasks are distinct, and the lines of each task are commands of it. Those of the
-- clock set it or shut the region down. So is each plan of a script (`planned_proper` of
-- proofs/Proper).
abbrev pub is_proper : Plan → Bool
is_proper p = are_distinct p.tasks && list_all has_own_lines p.tasks && list_all (λ next. is_timing (line next.1)) p.clock

-- a plan if it is proper, else one without a line
abbrev pub proper : Plan → Plan
proper p = if is_proper p then p else empty_plan
