-- Which tasks have lanes, and where these are.
use Rattle.std.specs.Prelude.{ℕ, ◌+◌, ◌*◌, nat_lt, if◌then◌else◌, List, [], ◌∷◌, ◌++◌, length, Option, Some, None}
use Rattle.cics_names.specs.Keyed.{Bytes, is_same}
use Rattle.cics_picture.specs.declared.events.RowKind.{RowKind}
use Rattle.cics_picture.specs.declared.events.RowKind.TheVariants.{Attached}
use Rattle.cics_picture.specs.declared.events.Told.{Told}

-- The first sixteen tasks have lanes, in the order in which they are attached.
abbrev pub most_lanes : ℕ
most_lanes = 16

-- how many rows a picture has at most
abbrev pub most_rows : ℕ
most_rows = 100000

-- the lane of the task with a label, from a lane on
abbrev pub lane_from : ℕ → List Bytes → Bytes → Option ℕ
lane_from lane [] label = None
lane_from lane (task ∷ tasks) label = if is_same task label then Some lane else lane_from (lane + 1) tasks label

-- the lane of a task, if there is one and it has a lane
abbrev pub lane_of : List Bytes → Option Bytes → Option ℕ
lane_of tasks None = None
lane_of tasks (Some label) = lane_from 0 tasks label

-- a task is given a lane, if there is room
abbrev pub with_lane : List Bytes → Option Bytes → List Bytes
with_lane tasks None = tasks
with_lane tasks (Some label) = if nat_lt (length tasks) most_lanes then tasks ++ (label ∷ []) else tasks

-- a task that is attached is given a lane
abbrev pub with_task : List Bytes → Option Bytes → RowKind → List Bytes
with_task tasks task Attached = with_lane tasks task
with_task tasks task kind = tasks

-- the tasks that have lanes behind a row
abbrev pub tasks_behind : List Bytes → Told → List Bytes
tasks_behind tasks told = with_task tasks told.task told.kind

-- the lane of a row's task, which the row itself may give it
abbrev pub row_lane : List Bytes → Told → Option ℕ
row_lane tasks told = lane_of (tasks_behind tasks told) told.task

-- the middle of a lane
abbrev pub lane_x : ℕ → ℕ
lane_x lane = 96 + 60 * lane

-- the middle of a row
abbrev pub row_y : ℕ → ℕ
row_y row = 120 + 22 * row
