-- The parts that a state of a script's region and lanes is told in, as an ending.
use Rattle.std.specs.Prelude.{ℕ, ◌-◌, Bool, nat_lt, is_some, if◌then◌else◌, List, [], ◌∷◌, ◌++◌, map, length, Option, Some, None, slice_get, codes}
use Rattle.std.specs.List.{flat_map}
use Rattle.std.specs.Fmt.{decimal}
use Rattle.cics_names.specs.Keyed.{Bytes}
use Rattle.cics_names.specs.declared.commands.Command.{Command}
use Rattle.cics_history.specs.Holding.{store_of}
use Rattle.cics_units.specs.Replay.Listings.{listing_of}
use Rattle.cics_dispatch.specs.Machine.Machine.{Machine}
use Rattle.cics_dispatch.specs.Machine.Events.{task_ended}
use Rattle.cics_dispatch.specs.Machine.Blockers.{waiting_command, blockers_of, unit_of}
use Rattle.cics_dispatch.specs.declared.machine.outcomes.Outcome.{Outcome}
use Rattle.cics_dispatch.specs.declared.machine.outcomes.Outcome.TheVariants.{Abended, Ended}
use Rattle.cics_dispatch.specs.Deadlocks.Deadlocks.{deadlocks}
use Rattle.cics_script.specs.Texts.{bare}
use Rattle.cics_run.specs.Stage.Journal.{outcome_line}
use Rattle.cics_run.specs.Listing.Listings.{file_text, storage_text, transient_text}
use Rattle.cics_orders.specs.Space.Endings.{Parts}
use Rattle.cics_orders.specs.Plans.Taking.{NumberedLine}
use Rattle.cics_orders.specs.Giving.{State}
use Rattle.cics_orders.specs.Report.Parts.{mark}
use Rattle.cics_orders.specs.declared.lanes.Lane.{Lane}

-- the block of the listing of each file and queue
abbrev pub blocks : Machine → Parts
blocks m =
    let l = listing_of m.units.opening (store_of m.units) in
    map file_text l.files ++ (map storage_text l.ts ++ map transient_text l.td)

-- ---- Tasks

-- how a task has ended, by what it was told last: if it was told no end, the region was shut down
abbrev pub end_text : Option Outcome → List ℕ
end_text (Some Ended) = codes " ENDED"
end_text (Some (Abended code reply)) = codes " ABEND " ++ bare code.0
end_text _ = codes " SHUTDOWN"

-- a task that blocks another one
abbrev pub blocker_text : Bytes → List ℕ
blocker_text label = codes " " ++ bare label

-- the number of a line
abbrev pub number_text : Option NumberedLine → List ℕ
number_text None = []
number_text (Some next) = decimal next.0

-- A task that has not ended waits with the line that it gave last, or has an open unit, or is idle.
-- If it waits, all its blockers are named, in the order of attach.
abbrev pub stand_text : Machine → Bytes → Option NumberedLine → Option Command → List ℕ
stand_text m label last (Some command) = codes " WAITING" ++ (flat_map blocker_text (blockers_of m label) ++ (codes " LINE " ++ number_text last))
stand_text m label last None = if is_some (unit_of m label) then codes " OPEN" else codes " IDLE"

-- what a task does
abbrev pub state_text : Machine → Bytes → Lane → List ℕ
state_text m label lane =
    if task_ended m label
    then end_text (slice_get lane.told (length lane.told - 1))
    else stand_text m label (slice_get lane.lines (lane.given - 1)) (waiting_command m label)

-- the line of a task
abbrev pub task_text : Machine → Bytes → Lane → List ℕ
task_text m label lane = codes "TASK " ++ (bare label ++ (state_text m label lane ++ codes "\n"))

-- what a task was told of a line
abbrev pub told_text : Bytes → ℕ → Outcome → List ℕ
told_text label number outcome = codes "LINE " ++ (decimal number ++ (codes " " ++ outcome_line label outcome))

-- what a task was told of each line that was answered
abbrev pub told_parts : Bytes → List NumberedLine → List Outcome → Parts
told_parts label [] told = []
told_parts label (next ∷ lines) [] = []
told_parts label (next ∷ lines) (outcome ∷ told) = told_text label next.0 outcome ∷ told_parts label lines told

-- the parts of a lane: those of its task, if it is not the clock's
abbrev pub lane_parts : Machine → Bool → Lane → Parts
lane_parts m with_told lane = by lane.label where
  by : Option Bytes → Parts
  by None = []
  by (Some label) = task_text m label lane ∷ (if with_told then told_parts label lane.lines lane.told else [])

-- whether tasks wait for each other in a circle
abbrev pub is_deadlocked : Machine → Bool
is_deadlocked m = nat_lt 0 (length (deadlocks m))

-- the parts of an ending, behind its mark
abbrev pub parts_of : Machine → Bool → List Lane → Parts
parts_of m with_told lanes = mark (is_deadlocked m) ∷ (blocks m ++ flat_map (lane_parts m with_told) lanes)

-- the parts of the ending of a state
abbrev pub parts_at : Bool → State → Parts
parts_at with_told s = parts_of s.machine with_told s.lanes
