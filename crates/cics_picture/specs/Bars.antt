-- The bars of units of work. Each stands in the lane of its task, from the row at which the unit
-- begins to the row at which it ends.
use Rattle.std.specs.Prelude.{ℕ, ◌-◌, ◌==◌, Bool, true, false, not, ◌&&◌, if◌then◌else◌, Option, Some, None, unwrap_or, slice_get, slice_set, replicate, List, [], ◌∷◌}
use Rattle.cics_picture.specs.declared.events.RowKind.{RowKind}
use Rattle.cics_picture.specs.declared.events.RowKind.TheVariants.{Waiting}
use Rattle.cics_picture.specs.declared.bars.Fill.{Fill}
use Rattle.cics_picture.specs.declared.bars.Fill.TheVariants.{Open, Filled, Hollow}
use Rattle.cics_picture.specs.declared.bars.Standing.{Standing}
use Rattle.cics_picture.specs.declared.bars.Lane.{Lane}
use Rattle.cics_picture.specs.declared.bars.Bar.{Bar}
use Rattle.cics_picture.specs.Lanes.{lane_x, row_y}
use Rattle.cics_picture.specs.Elements.{field}
use lib.Chars.{codes}

-- no unit, no wait and no deadlock
abbrev pub nobody : Standing
nobody = record { unit = None; is_deadlocked = false; blocker = None; stays = false; shows = None }

-- a lane before the first event
abbrev pub new_lane : Lane
new_lane = record { last = 0; asked = 0; top = 0; standing = nobody }

-- all lanes before the first event
unfoldable pub new_lanes : List Lane
new_lanes = replicate 16 new_lane

-- nobody in any lane
unfoldable pub nobodies : List Standing
nobodies = replicate 16 nobody

-- the lane of a number
abbrev pub lane_at : List Lane → ℕ → Lane
lane_at lanes lane = unwrap_or (slice_get lanes lane) new_lane

-- the row at which a lane's task last waited, behind an event at a row
abbrev pub asked_behind : ℕ → ℕ → RowKind → ℕ
asked_behind before row Waiting = row
asked_behind before row kind = before

-- a lane behind an event of its own
abbrev pub noted : Lane → ℕ → RowKind → Lane
noted l row k = record l { last = row_y row; asked = asked_behind l.asked row k }

-- the lanes behind an event of one of them, or of none, at a row
abbrev pub lanes_behind : List Lane → ℕ → RowKind → Option ℕ → List Lane
lanes_behind lanes row k None = lanes
lanes_behind lanes row k (Some lane) = slice_set lanes lane (noted (lane_at lanes lane) row k)

-- whether a task has the same unit as before, or none as before
abbrev pub has_same : Option ℕ → Option ℕ → Bool
has_same None None = true
has_same None (Some unit) = false
has_same (Some before) None = false
has_same (Some before) (Some unit) = before == unit

-- the unit that a task had before and hasn't now
abbrev pub gone : Option ℕ → Option ℕ → Option ℕ
gone before now = if has_same before now then None else before

-- A lane whose task stands so after a line, its last event at a row of this height. The bar of a
-- unit begins a little above the row.
abbrev pub lane_behind : Lane → ℕ → Standing → Lane
lane_behind l y s = record { last = l.last; asked = l.asked; top = if has_same l.standing.unit s.unit then l.top else y - 8; standing = s }

-- the bar of a unit that has ended, from its top to a row of this height
abbrev pub ended : ℕ → ℕ → ℕ → Option ℕ → List Bar
ended lane top y None = []
ended lane top y (Some unit) = record { unit = unit; x = lane_x lane - 7; y = top; height = y - top } ∷ []

-- whether a bar is that of a unit, in a lane
abbrev pub is_bar_of : ℕ → ℕ → Bar → Bool
is_bar_of lane unit b = (b.unit == unit) && (b.x == lane_x lane - 7)

-- whether a task is in a deadlock, and was in none before
abbrev pub is_caught : Lane → Standing → Bool
is_caught l s = s.is_deadlocked && not l.standing.is_deadlocked

-- the task that blocks a waiting one now, if another one did before
abbrev pub new_blocker : Option ℕ → Option ℕ → Option ℕ
new_blocker None now = None
new_blocker (Some before) None = None
new_blocker (Some before) (Some now) = if before == now then None else Some now

-- the fill of a unit's bar
abbrev pub fill_of : List Fill → ℕ → Fill
fill_of fills unit = unwrap_or (slice_get fills unit) Open

-- the class of a fill
abbrev pub fill_class : Fill → List ℕ
fill_class Open = codes "uo"
fill_class Filled = codes "uf"
fill_class Hollow = codes "uh"

-- a bar of a class
abbrev pub bar_of : List ℕ → Bar → List ℕ
bar_of name b = field name b.x b.y 14 b.height

-- the bar of a unit
abbrev pub bar_text : List Fill → Bar → List ℕ
bar_text fills b = bar_of (fill_class (fill_of fills b.unit)) b

-- a filled bar
abbrev pub filled : Bar → List ℕ
filled b = bar_of (codes "uf") b

-- a hollow bar
abbrev pub hollow : Bar → List ℕ
hollow b = bar_of (codes "uh") b
