-- How lanes give their lines to a region: which may give, and the state after a line.
use Rattle.std.specs.Prelude.{◌≡◌, ◌<◌, ℕ, ◌+◌, Bool, true, false, ◌&&◌, not, List, [], ◌∷◌, ◌++◌, map, length, Option, Some, None, is_none, is_some, option_map, option_and_then, Result, Ok, slice_get, slice_set}
use Rattle.std.specs.List.{fold}
use Rattle.cics_names.specs.Keyed.{Bytes, is_same}
use Rattle.cics_history.specs.State.{OpeningState}
use Rattle.cics_history.specs.Openings.{initial_opening}
use Rattle.cics_dispatch.specs.Machine.Machine.{Machine, initial_region}
use Rattle.cics_dispatch.specs.Machine.Blockers.{waiting_command}
use Rattle.cics_dispatch.specs.Machine.Events.{Happened, Drained, played, all_played, task_ended}
use Rattle.cics_dispatch.specs.declared.machine.events.Request.{Request}
use Rattle.cics_dispatch.specs.declared.machine.events.Request.TheVariants as request
use Rattle.cics_dispatch.specs.declared.machine.events.Event.{Event}
use Rattle.cics_dispatch.specs.declared.machine.events.Event.TheVariants as event
use Rattle.cics_dispatch.specs.declared.machine.outcomes.Outcome.{Outcome}
use Rattle.cics_dispatch.specs.declared.machine.outcomes.Outcome.TheVariants.{Replied, Waiting, Abended}
use Rattle.cics_script.specs.Lines.{line}
use Rattle.cics_script.specs.declared.lines.Line.{Line}
use Rattle.cics_script.specs.declared.lines.Line.TheVariants.{Clock, Issue, Shutdown}
use Rattle.cics_script.specs.declared.faults.LineFault.{LineFault}
use Rattle.cics_orders.specs.Space.Orders.{Lanes, numbered_from}
use Rattle.cics_orders.specs.Plans.Firsts.{with_first}
use Rattle.cics_orders.specs.Plans.Defining.{defined_by}
use Rattle.cics_orders.specs.Plans.Proper.{proper}
use Rattle.cics_orders.specs.Plans.Taking.{NumberedLine}
use Rattle.cics_orders.specs.declared.plans.plans.Plan.{Plan}
use Rattle.cics_orders.specs.declared.plans.plans.TaskPlan.{TaskPlan}
use Rattle.cics_orders.specs.declared.lanes.Lane.{Lane}

-- a script's plan, the machine of its region, and the lanes
pub record State : Type 0 where
  pub plan : Plan
  pub machine : Machine
  pub lanes : List Lane

-- ---- What a task is told

-- this is a label, and the same
abbrev pub is_labelled : Option Bytes → Bytes → Bool
is_labelled None label = false
is_labelled (Some own) label = is_same own label

-- a lane is that of a label
abbrev pub is_of : Lane → Bytes → Bool
is_of lane label = is_labelled lane.label label

-- an outcome that ends its task
abbrev pub is_last : Outcome → Bool
is_last (Replied reply) = false
is_last (Waiting blocker) = false
is_last _ = true

-- a lane whose task is told an outcome
abbrev pub told_more : Lane → Outcome → Lane
told_more lane outcome = record lane { told = lane.told ++ outcome ∷ [] }

-- the task of a label is told an outcome
abbrev pub with_told : List Lane → Bytes → Outcome → List Lane
with_told lanes label outcome = with_first (λ lane. is_of lane label) (λ lane. told_more lane outcome) lanes

-- a task whose command waits is told nothing yet
abbrev pub hearing : List Lane → Bytes → Outcome → List Lane
hearing lanes label (Waiting blocker) = lanes
hearing lanes label outcome = with_told lanes label outcome

-- an event tells its task the outcome
abbrev pub told_by : List Lane → Event → List Lane
told_by lanes (event.Issued label outcome reason) = hearing lanes label outcome
told_by lanes (event.Woken w) = hearing lanes w.label w.outcome
told_by lanes (event.Expired e) = hearing lanes e.label (Abended e.code None)
told_by lanes _ = lanes

-- what happened is told, one event after the other
abbrev pub told_all : List Lane → List Happened → List Lane
told_all lanes happened = fold (λ xs h. told_by xs h.event) lanes happened

-- ---- What a line does

-- what the line of an index says, if there is one
abbrev pub said_at : List NumberedLine → ℕ → Option (Result Line LineFault)
said_at lines n = option_map (λ next. line next.1) (slice_get lines n)

-- what a lane says next, if it has a line left
abbrev pub next_said : List Lane → ℕ → Option (Result Line LineFault)
next_said lanes l = option_and_then (λ lane. said_at lane.lines lane.given) (slice_get lanes l)

-- a command, the clock and the shutdown are asked of the region; no other line is
abbrev pub asked : Result Line LineFault → Option Request
asked (Ok (Issue label command)) = Some (request.Issue label command)
asked (Ok (Clock seconds)) = Some (request.Clock seconds)
asked (Ok Shutdown) = Some request.Shutdown
asked _ = None

-- all that a request leads to, until the region is at rest
unfoldable pub happening : Machine → Request → Drained
happening m r = all_played m r

-- the state after that
abbrev pub left_by : State → Drained → State
left_by s all = record s { machine = all.machine; lanes = told_all s.lanes all.turns }

-- the state after what a line asks
abbrev pub after_asked : State → Option Request → State
after_asked s None = s
after_asked s (Some r) = left_by s (happening s.machine r)

-- ---- Which lanes may give

-- a task may give a line if it has not ended and no command of it waits; the clock always may
abbrev pub is_ready : Machine → Option Bytes → Bool
is_ready m None = true
is_ready m (Some label) = not (task_ended m label) && is_none (waiting_command m label)

-- a lane may give if it has a line left and is ready
abbrev pub may_give : Machine → Lane → Bool
may_give m lane = is_some (slice_get lane.lines lane.given) && is_ready m lane.label

-- the lanes that may give, from a number on
abbrev pub givers : State → ℕ → List ℕ
givers s from = numbered_from (may_give s.machine) s.lanes from

-- a lane with one more line given
abbrev pub with_given : Lane → Lane
with_given lane = record lane { given = lane.given + 1 }

-- the state in which a lane's line counts as given, before it does anything
abbrev pub counted : State → ℕ → Lane → State
counted s l lane = record s { lanes = slice_set s.lanes l (with_given lane) }

-- the lane of a number is there and has a line left
abbrev pub IsGivable : List Lane → ℕ → Type 0
IsGivable lanes l = (lane : Lane) × (slice_get lanes l ≡ Some lane) × (lane.given < length lane.lines)

-- a lane gives a line, and the region drains
abbrev pub given_line : State → ℕ → Lane → Option NumberedLine → State
given_line s l lane None = s
given_line s l lane (Some next) = after_asked (counted s l lane) (asked (line next.1))

-- the lane of a number gives its next line
abbrev pub given_by : State → ℕ → Option Lane → State
given_by s l None = s
given_by s l (Some lane) = given_line s l lane (slice_get lane.lines lane.given)

-- the state after a lane has given its next line
unfoldable pub given : State → ℕ → State
given s l = given_by s l (slice_get s.lanes l)

-- the lanes of a script
abbrev pub lanes : Lanes State
lanes = record { givers = givers; given = given }

-- ---- The initial state

-- what is defined after these lines too
abbrev pub defined_more : OpeningState → List NumberedLine → OpeningState
defined_more o lines = fold (λ o next. defined_by o (line next.1)) o lines

-- what these lines define and load
abbrev pub opened : List NumberedLine → OpeningState
opened lines = defined_more initial_opening lines

-- a task is attached, unless that is refused
unfoldable pub with_task : Machine → TaskPlan → Machine
with_task m t = (played m (request.Attach t.label t.transaction t.dtimout)).machine

-- the machine before the first order's first line: each task is attached
abbrev pub initial_machine : Plan → Machine
initial_machine p = fold with_task (initial_region (opened p.definitions)) p.tasks

-- a lane before its first line
abbrev pub initial_lane : Option Bytes → List NumberedLine → Lane
initial_lane label lines = record { label = label; lines = lines; given = 0; told = [] }

-- this lane before its first line
abbrev pub frame : Lane → Lane
frame lane = initial_lane lane.label lane.lines

-- the lane of a task
abbrev pub task_lane : TaskPlan → Lane
task_lane t = initial_lane (Some t.label) t.lines

-- a lane for each task in the order of attach, the clock's last
abbrev pub initial_lanes : Plan → List Lane
initial_lanes p = map task_lane p.tasks ++ initial_lane None p.clock ∷ []

-- the state that each order starts from
unfoldable pub initial_state : Plan → State
initial_state p = record { plan = p; machine = initial_machine p; lanes = initial_lanes p }

-- the initial state of the orders of a state's plan; if it is not proper, of one without a line
abbrev pub initial_of : State → State
initial_of s = initial_state (proper s.plan)

-- at most how many lines an order may have
abbrev pub line_count : Plan → ℕ
line_count p = fold (λ n t. n + length t.lines) (length p.clock) p.tasks
