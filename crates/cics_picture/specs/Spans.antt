-- Where bars begin and end, and where arrows and rings stand.
use Rattle.std.specs.Prelude.{◌≡◌, ◌≢◌, ℕ, ◌<◌, ◌-◌, max, All, length, Option, Some, option_and_then, slice_get, List, ◌++◌}
use Rattle.std.specs.List.{fold}
use Rattle.cics_picture.specs.declared.bars.Bar.{Bar}
use Rattle.cics_picture.specs.Bars.{lane_at}
use Rattle.cics_picture.specs.Lanes.{most_lanes, lane_x, row_y}
use Rattle.cics_picture.specs.Drawings.{Drawn, Printed, rows_of, with_row, drawn}

-- the unit of a lane's task after a line
abbrev pub unit_in : Printed → ℕ → Option ℕ
unit_in p lane = option_and_then (λ s. s.unit) (slice_get p.standings lane)

-- what is drawn after the rows of a line, before the line ends
abbrev pub rows_behind : List Printed → Printed → Drawn
rows_behind before p = fold with_row (drawn before) (rows_of p)

-- the height at which a lane's task acts in a line: that of the row of its last event, or of the
-- line's first row if the line has none of it
abbrev pub acts_at : List Printed → Printed → ℕ → ℕ
acts_at before p lane = max (lane_at (rows_behind before p).lanes lane).last (row_y (drawn before).rows)

-- A unit of the task of a lane begins with a line, is open after further ones, and has ended after
-- the next one.
pub record Lives (before : List Printed) (p : Printed) (during : List Printed) (q : Printed) (lane unit : ℕ) : Type 0 where
  pub has_lane : lane < most_lanes
  pub is_new : (lane_at (drawn before).lanes lane).standing.unit ≢ Some unit
  pub begins : unit_in p lane ≡ Some unit
  pub goes_on : All (λ r. unit_in r lane ≡ Some unit) during
  pub is_there : lane < length q.standings
  pub ends : unit_in q lane ≢ Some unit

-- the bar of that unit: from a little above the row at which its task acts in the first line, to
-- the row at which it acts in the last one
abbrev pub bar_from_to : ℕ → ℕ → ℕ → ℕ → Bar
bar_from_to lane unit top bottom = record { unit = unit; x = lane_x lane - 7; y = top - 8; height = bottom - (top - 8) }

-- a text has a part
pub record HasPart (whole part : List ℕ) : Type 0 where
  pub front : List ℕ
  pub back : List ℕ
  pub joined : whole ≡ front ++ (part ++ back)
