-- What the rows of a picture draw: one row for each event, in order.
use Rattle.std.specs.Prelude.{ℕ, ◌==◌, nat_lt, ◌+◌, ◌-◌, ◌*◌, max, min, Bool, true, false, if◌then◌else◌, List, [], ◌∷◌, ◌++◌, length, slice_get, slice_set, Option, Some, None, unwrap_or}
use Rattle.std.specs.List.{fold, flat_map}
use Rattle.std.specs.Fmt.{decimal}
use Rattle.cics_names.specs.Keyed.{Bytes}
use Rattle.cics_script.specs.Texts.{bare}
use Rattle.cics_picture.specs.declared.events.RowKind.{RowKind}
use Rattle.cics_picture.specs.declared.events.RowKind.TheVariants.{Attached, Waiting, Clock, Down}
use Rattle.cics_picture.specs.declared.drawing.Drawing.{Drawing}
use Rattle.cics_picture.specs.declared.bars.Standing.{Standing}
use Rattle.cics_picture.specs.declared.bars.Lane.{Lane}
use Rattle.cics_picture.specs.declared.bars.Bar.{Bar}
use Rattle.cics_picture.specs.declared.events.Told.{Told}
use Rattle.cics_picture.specs.Events.{class_of}
use Rattle.cics_picture.specs.Lanes.{most_lanes, lane_of, tasks_behind, row_lane, lane_x, row_y}
use Rattle.cics_picture.specs.Elements.{words, shape, dot_shape, ring_shape, stays_shape, shows_shape, mark, stroke, arrow, link, cut}
use Rattle.cics_picture.specs.Bars.{new_lanes, nobodies, lane_at, lanes_behind, gone, lane_behind, ended, new_blocker, is_caught}
use lib.Chars.{codes}

-- What is drawn so far: the number of rows and the script's line of each, the tasks that have
-- lanes, and two texts. `marks` has the lanes and all to the left of them, `texts` all to the
-- right. Then the lanes, and the bars of units that have ended.
pub record Drawn : Type 0 where
  pub rows : ℕ
  pub lines : List (List ℕ)
  pub tasks : List Bytes
  pub marks : List ℕ
  pub texts : List ℕ
  pub lanes : List Lane
  pub bars : List Bar

-- what a drawing has drawn
abbrev pub drawn_of : Drawing → Drawn
drawn_of d = record { rows = d.rows; lines = d.lines; tasks = d.tasks; marks = d.marks.items; texts = d.texts.items; lanes = d.lanes; bars = d.bars }

-- before the first row
abbrev pub nothing_drawn : Drawn
nothing_drawn = record { rows = 0; lines = []; tasks = []; marks = []; texts = []; lanes = new_lanes; bars = [] }

-- an arrow to the blocker, if it has a lane
abbrev pub arrow_to : ℕ → Option ℕ → ℕ → List ℕ
arrow_to lane None y = []
arrow_to lane (Some holder) y = arrow lane holder y

-- a task's label, without the blanks that fill it up
abbrev pub label_text : Option Bytes → List ℕ
label_text None = []
label_text (Some label) = bare label

-- beside its mark an attached task has a heading, and a wait an arrow
abbrev pub beside : List Bytes → ℕ → ℕ → Told → RowKind → List ℕ
beside tasks lane y told Attached = words (codes "b m") (lane_x lane) 98 (label_text told.task)
beside tasks lane y told Waiting = arrow_to lane (lane_of tasks told.blocker) y
beside tasks lane y told kind = []

-- an event of no task has its mark to the left of the lanes
abbrev pub side_mark : ℕ → RowKind → Option Bytes → List ℕ
side_mark y kind None = mark kind 66 y
side_mark y kind (Some label) = []

-- the marks of an event, in the lane of its task
abbrev pub lane_marks : List Bytes → ℕ → Told → Option ℕ → List ℕ
lane_marks tasks y told None = side_mark y told.kind told.task
lane_marks tasks y told (Some lane) = beside tasks lane y told told.kind ++ mark told.kind (lane_x lane) y

-- a line across the lanes
abbrev pub across : List Bytes → ℕ → RowKind → List ℕ
across tasks y kind = stroke (class_of kind) 66 y (66 + 60 * length tasks) y

-- A clock, a shutdown and a fault have a line across the lanes. An event of a task has its marks if
-- that has a lane, and a refused clock or shutdown one beside the lanes.
abbrev pub marks_of : List Bytes → ℕ → Told → RowKind → List ℕ
marks_of tasks y told Clock = across tasks y Clock
marks_of tasks y told Down = across tasks y Down
marks_of tasks y told kind = lane_marks tasks y told (lane_of tasks told.task)

-- the marks of a row
abbrev pub row_marks : List Bytes → ℕ → Told → List ℕ
row_marks tasks y told = marks_of tasks y told told.kind

-- the number of the script's line, to the left of the lanes; 0 is that of an event without a line,
-- and isn't shown
abbrev pub row_number : ℕ → ℕ → List ℕ
row_number y number = if number == 0 then [] else words (codes "d e") 52 y (decimal number)

-- the line with which the task of a lane last waited; if it never waited, that of the first row
abbrev pub waited : List (List ℕ) → List Lane → Option ℕ → List ℕ
waited lines lanes None = []
waited lines lanes (Some lane) = unwrap_or (slice_get lines (lane_at lanes lane).asked) []

-- the line of a row; an event without a line shows, dimmed, the one with which its task waited
abbrev pub line_text : ℕ → ℕ → List ℕ → List ℕ → List ℕ
line_text y number line asked = if number == 0 then words (codes "d") 78 y (cut 90 asked) else words (codes "line") 78 y (cut 90 line)

-- what the row tells, beside it, with its note
abbrev pub told_text : ℕ → Told → List ℕ
told_text y told = words (class_of told.kind) 744 y (cut (70 - min (length told.note) 36) told.text ++ told.note)

-- A row: the number and the text of the line that it shows, or 0 and nothing, and what it tells.
pub record Row : Type 0 where
  pub number : ℕ
  pub line : List ℕ
  pub told : Told

-- one row more; its words stand a little below its middle
abbrev pub with_row : Drawn → Row → Drawn
with_row d r =
    record {
      rows = d.rows + 1;
      lines = d.lines ++ (r.line ∷ []);
      tasks = tasks_behind d.tasks r.told;
      marks = d.marks ++ (row_number (row_y d.rows + 4) r.number ++ row_marks (tasks_behind d.tasks r.told) (row_y d.rows) r.told);
      texts = d.texts
          ++ (line_text (row_y d.rows + 4) r.number r.line (waited d.lines d.lanes (row_lane d.tasks r.told)) ++ told_text (row_y d.rows + 4) r.told);
      lanes = lanes_behind d.lanes d.rows r.told.kind (row_lane d.tasks r.told);
      bars = d.bars;
    }

-- a row of these
abbrev pub row : ℕ → List ℕ → Told → Row
row number line told = record { number = number; line = line; told = told }

-- the rows of what a line led to: the first one is the line's own
abbrev pub rows_from : ℕ → List ℕ → List Told → List Row
rows_from number line [] = []
rows_from number line (t ∷ told) = row number line t ∷ rows_from 0 [] told

-- a line of a script: its number, its text, what it led to, and how the task of each lane stands
-- after it
pub record Printed : Type 0 where
  pub number : ℕ
  pub line : List ℕ
  pub told : List Told
  pub standings : List Standing

-- a line of these
abbrev pub printed : ℕ → List ℕ → List Told → List Standing → Printed
printed number line told standings = record { number = number; line = line; told = told; standings = standings }

-- the rows of a line
abbrev pub rows_of : Printed → List Row
rows_of p = rows_from p.number p.line p.told

-- the rows of some lines, in order
abbrev pub all_rows : List Printed → List Row
all_rows lines = flat_map rows_of lines

-- an arrow to a task that blocks that of a lane now, if it has a lane, and a dot where it begins
abbrev pub moved_if : Option ℕ → ℕ → ℕ → List ℕ
moved_if None lane y = []
moved_if (Some holder) lane y =
    if nat_lt holder most_lanes then arrow lane holder y ++ shape (codes "fw") dot_shape (lane_x lane) y else []

-- a ring round the lane of a task that is caught in a deadlock
abbrev pub ring_if : Bool → ℕ → ℕ → List ℕ
ring_if caught lane y = if caught then shape (codes "dl") ring_shape (lane_x lane) y else []

-- a diamond round the mark of a change that stays, however its unit ends
abbrev pub stays_if : Bool → ℕ → ℕ → List ℕ
stays_if stays lane y = if stays then shape (codes "st") stays_shape (lane_x lane) y else []

-- a line from a read to the lane of the task whose change it shows, if it has one
abbrev pub link_if : ℕ → ℕ → ℕ → List ℕ
link_if lane changer y = if nat_lt changer most_lanes then link lane changer y else []

-- a dashed ring round the mark of a read that shows what isn't committed, and that line
abbrev pub shows_if : Option ℕ → ℕ → ℕ → List ℕ
shows_if None lane y = []
shows_if (Some changer) lane y = link_if lane changer y ++ shape (codes "un") shows_shape (lane_x lane) y

-- The arrow of a lane to the task that blocks its own now, if another one did before, and the ring of
-- a deadlock that caught its task. Both stand in the last row.
abbrev pub turn_signs : Drawn → ℕ → Lane → Standing → List ℕ
turn_signs d lane l s =
    moved_if (new_blocker l.standing.blocker s.blocker) lane (row_y (d.rows - 1)) ++ ring_if (is_caught l s) lane (row_y (d.rows - 1))

-- A lane turns to how its task stands after a line whose first row has this height. If the task's
-- unit has ended, its bar ends. Diamond and dashed ring stand in the row of the lane's last event.
abbrev pub turned : ℕ → ℕ → Standing → Drawn → Drawn
turned first lane s d =
    let l = lane_at d.lanes lane in
    let y = max l.last first in
    record d {
      marks = d.marks ++ (turn_signs d lane l s ++ (stays_if s.stays lane l.last ++ shows_if s.shows lane l.last));
      lanes = slice_set d.lanes lane (lane_behind l y s);
      bars = d.bars ++ ended lane l.top y (gone l.standing.unit s.unit);
    }

-- the lanes from one on turn
abbrev pub turned_from : ℕ → ℕ → List Standing → Drawn → Drawn
turned_from first lane [] d = d
turned_from first lane (s ∷ standings) d = turned_from first (lane + 1) standings (turned first lane s d)

-- whether a task is caught in a deadlock, from a lane on
abbrev pub any_caught : List Lane → ℕ → List Standing → Bool
any_caught lanes lane [] = false
any_caught lanes lane (s ∷ standings) = if is_caught (lane_at lanes lane) s then true else any_caught lanes (lane + 1) standings

-- the word at the row that closes a deadlock
abbrev pub word_if : Bool → ℕ → List ℕ
word_if caught y = if caught then words (codes "ma e") 1264 y (codes "deadlock") else []

-- what is drawn with this text behind the texts
abbrev pub with_text : Drawn → List ℕ → Drawn
with_text d text = record d { texts = d.texts ++ text }

-- a line ends whose first row has this height
abbrev pub with_end : ℕ → List Standing → Drawn → Drawn
with_end first standings d = turned_from first 0 standings (with_text d (word_if (any_caught d.lanes 0 standings) (row_y (d.rows - 1) + 4)))

-- one line more
abbrev pub with_line : Drawn → Printed → Drawn
with_line d p = with_end (row_y d.rows) p.standings (fold with_row d (rows_of p))

-- what is drawn of some lines
abbrev pub drawn : List Printed → Drawn
drawn lines = fold with_line nothing_drawn lines

-- the run is over: the bars of the units that are open end below the last row
abbrev pub finished : Drawn → Drawn
finished d = with_end (row_y d.rows) nobodies d

-- the events of rows, each with its LF
abbrev pub events_of : List Row → List ℕ
events_of rows = flat_map (λ r. r.told.text ++ (10 ∷ [])) rows
