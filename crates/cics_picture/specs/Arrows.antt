-- Each wait has an arrow, from the lane of the task that waits to the lane of its blocker.
use Rattle.std.specs.Prelude.{◌≡◌, ℕ, true, ◌+◌, ◌≤◌, List, [], ◌∷◌, ◌++◌, length, Some, is_some}
use Rattle.std.specs.List.{fold, flat_map}
use Rattle.cics_picture.specs.declared.events.RowKind.TheVariants.{Waiting}
use Rattle.cics_names.specs.Keyed.{Bytes}
use Rattle.cics_picture.specs.Lanes.{most_lanes, lane_of, tasks_behind, lane_x, row_y}
use Rattle.cics_picture.specs.Elements.{mark, arrow}
use Rattle.cics_picture.specs.Drawings.{Drawn, nothing_drawn, Row, row_number, with_row}

-- the labels of the tasks that rows attach, in order
abbrev pub attached : List Row → List Bytes
attached rows = flat_map (λ r. tasks_behind [] r.told) rows

-- what is drawn of rows alone, without what `with_end` adds at the end of a line: arrows to new
-- blockers, rings, diamonds, dashed rings and bars
abbrev pub rows_drawn : List Row → Drawn
rows_drawn rows = fold with_row nothing_drawn rows

-- A row tells a wait, and rows before it attach the two tasks, and no more than have lanes.
pub record TellsWait (before : List Row) (r : Row) : Type 0 where
  pub waits : r.told.kind ≡ Waiting
  pub few : length (attached before) ≤ most_lanes
  pub waiter_attached : is_some (lane_of (attached before) r.told.task) ≡ true
  pub awaited_attached : is_some (lane_of (attached before) r.told.blocker) ≡ true

-- A row draws its number, its mark, and one arrow: from the lane of its task to that of the task
-- that it names. What was drawn before stays as it is.
pub record DrawsArrow (before : List Row) (r : Row) : Type 0 where
  pub from : ℕ
  pub to : ℕ
  pub from_waiter : lane_of (attached before) r.told.task ≡ Some from
  pub to_awaited : lane_of (attached before) r.told.blocker ≡ Some to
  pub marks : (rows_drawn (before ++ (r ∷ []))).marks
      ≡ (rows_drawn before).marks
      ++ (row_number (row_y (length before) + 4) r.number
      ++ (arrow from to (row_y (length before)) ++ mark Waiting (lane_x from) (row_y (length before))))
