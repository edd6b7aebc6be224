-- A region as a machine: its state, its tasks, and the ends of their units of work. docs/RULES.md
-- has the rules in words, and names the manual: here its chapters on task control and on recovery.
use Rattle.std.specs.Prelude.{ℕ, Bool, true, false, not, if◌then◌else◌, Option, Some, None, option_map, unwrap_or, filter, List, [], ◌∷◌}
use Rattle.cics_names.specs.Keyed.{Bytes, Map, value_at, is_same}
use Rattle.cics_names.specs.declared.conditions.AbendCode.{AbendCode}
use Rattle.cics_ksds.specs.declared.definition.FileDef.{FileDef}
use Rattle.cics_dispatch.specs.Notes.Notes.{is_unit}
use Rattle.cics_browse.specs.Positions.{Position}
use Rattle.cics_history.specs.State.{OpeningState, Store, UnitsState, initial_units}
use Rattle.cics_history.specs.Holding.{store_of}
use Rattle.cics_history.specs.Execution.{after_end}
use Rattle.cics_history.specs.declared.ops.Op.{Op}
use Rattle.cics_history.specs.declared.ops.UnitState.{UnitState}
use Rattle.cics_history.specs.declared.ops.UnitState.TheVariants.{Committed, BackedOut}
use Rattle.cics_names.specs.declared.commands.Command.{Command}
use Rattle.cics_dispatch.specs.declared.machine.outcomes.UnitEnding.{UnitEnding}
use Rattle.cics_dispatch.specs.declared.machine.outcomes.UnitEnding.TheVariants.{Commit, Backout}

-- a task: its label, the seconds that it may wait (0: no limit), its open unit, its browses by
-- file, and whether it has ended
pub record Task : Type 0 where
  pub label : Bytes
  pub dtimout : ℕ
  pub unit : Option ℕ
  pub browses : Map Position
  pub has_ended : Bool

-- a waiting command: the label of its task, the whole command, the updating command that it asks
-- for, if any, and the clock when the wait began
pub record Suspended : Type 0 where
  pub label : Bytes
  pub command : Command
  pub op : Option Op
  pub since : ℕ

-- a region: its units, its tasks in the order of attach, its waits from the earliest on, the clock
-- in seconds, and whether it is shut down
pub record Machine : Type 0 where
  pub units : UnitsState
  pub tasks : List Task
  pub waiting : List Suspended
  pub clock : ℕ
  pub is_down : Bool

-- a region as callers see it: the machine, and the store that its files and queues hold
pub record RegionValue : Type 0 where
  pub machine : Machine
  pub store : Store

-- a region begins with no task, and the clock at 0
abbrev pub initial_region : OpeningState → Machine
initial_region o = record { units = initial_units o; tasks = []; waiting = []; clock = 0; is_down = false }

-- the task of a label, if there is one
abbrev pub task_at : List Task → Bytes → Option Task
task_at [] label = None
task_at (t ∷ ts) label = if is_same t.label label then Some t else task_at ts label

-- the tasks, with a task in place of the one of its label
abbrev pub replaced : List Task → Task → List Task
replaced [] t = []
replaced (u ∷ us) t = if is_same u.label t.label then t ∷ us else u ∷ replaced us t

-- whether a command of the label's task waits
abbrev pub is_waiting : List Suspended → Bytes → Bool
is_waiting [] label = false
is_waiting (w ∷ ws) label = if is_same w.label label then true else is_waiting ws label

-- the waiting commands without that of the label's task
abbrev pub not_waiting : List Suspended → Bytes → List Suspended
not_waiting ws label = filter (λ w. not (is_same w.label label)) ws

-- the label of the task whose unit this is, no bytes if it is no task's
abbrev pub label_of : List Task → ℕ → Bytes
label_of [] u = []
label_of (t ∷ ts) u = if is_unit t.unit u then t.label else label_of ts u

-- the region, with a task in place of the one of its label
abbrev pub with_task : Machine → Task → Machine
with_task m t = record m { tasks = replaced m.tasks t }

-- the region with these units
abbrev pub with_units : Machine → UnitsState → Machine
with_units m units = record m { units = units }

-- the region with these waiting commands
abbrev pub with_waiting : Machine → List Suspended → Machine
with_waiting m waiting = record m { waiting = waiting }

-- the task with a unit
abbrev pub with_unit : Task → ℕ → Task
with_unit t unit = record t { unit = Some unit }

-- the task with these browses
abbrev pub with_browses : Task → Map Position → Task
with_browses t browses = record t { browses = browses }

-- the units once a task's unit has ended; a task without a unit changes none
abbrev pub units_after : UnitsState → Option ℕ → UnitState → UnitsState
units_after s None outcome = s
units_after s (Some u) outcome = after_end s u outcome

-- the state in which an ending leaves a unit
abbrev pub state_after : UnitEnding → UnitState
state_after Commit = Committed
state_after Backout = BackedOut

-- a task's unit ends, if it has one, by a commit or a backout; all its browses end too, and if
-- has_ended the task
abbrev pub unit_closed : Machine → Task → UnitState → Bool → Machine
unit_closed m t outcome has_ended =
    with_task (with_units m (units_after m.units t.unit outcome)) (record t { unit = None; browses = []; has_ended = has_ended })

-- an abend backs the task's unit out, ends the task, and ends its wait
abbrev pub abended : Machine → Task → Machine
abended m t = with_waiting (unit_closed m t BackedOut true) (not_waiting m.waiting t.label)

-- the definition of a file, None if it isn't defined
abbrev pub definition_of : Machine → Bytes → Option FileDef
definition_of m f = option_map (λ file. file.definition) (value_at f m.units.opening.files)

-- the records of a file as they stand, the changes of open units included; none if it isn't defined
abbrev pub records_in : Machine → Bytes → Map Bytes
records_in m f = unwrap_or (value_at f (store_of m.units).files) []

-- a wait that takes too long abends with AKCS
abbrev pub timed_out : AbendCode
timed_out = record { 0 = 0xC1 ∷ 0xD2 ∷ 0xC3 ∷ 0xE2 ∷ [] }

-- ABEND without ABCODE has the code ????
abbrev pub no_code : AbendCode
no_code = record { 0 = 0x6F ∷ 0x6F ∷ 0x6F ∷ 0x6F ∷ [] }
