-- The steps of a run: the cells that a step looks at, and those that it changes.
use Rattle.std.specs.Prelude.{Bool, true, false, not, ◌&&◌, ◌||◌, ◌==◌, if◌then◌else◌, Option, Some, None, List, []}
use Rattle.std.specs.List.{list_any}
use Rattle.cics_names.specs.Keyed.{Bytes, is_same, is_below}
use Rattle.cics_run.specs.declared.reads.steps.Cell.{Cell}
use Rattle.cics_run.specs.declared.reads.steps.Cell.TheVariants.{Record, Item}
use Rattle.cics_run.specs.declared.reads.steps.Bound.{Bound}
use Rattle.cics_run.specs.declared.reads.steps.Bound.TheVariants.{In, Out}
use Rattle.cics_run.specs.declared.reads.steps.Spot.{Spot}
use Rattle.cics_run.specs.declared.reads.steps.Spot.TheVariants as spots
use Rattle.cics_run.specs.declared.reads.steps.Act.{Act}
use Rattle.cics_run.specs.declared.reads.steps.Act.TheVariants.{Look, LookForUpdate, Change, End}
use Rattle.cics_run.specs.declared.reads.steps.Step.{Step}

-- whether two cells are the same
abbrev pub same_cell : Cell → Cell → Bool
same_cell (Record f k) (Record g l) = is_same f g && is_same k l
same_cell (Record f k) (Item p m) = false
same_cell (Item q n) (Record g l) = false
same_cell (Item q n) (Item p m) = is_same q p && n == m

-- the key of a bound
abbrev pub key_of : Bound → Bytes
key_of (In k) = k
key_of (Out k) = k

-- two cells between which all lie that a spot covers
abbrev pub ends_of : Spot → Cell × Cell
ends_of (spots.Keys f from to) = (Record f (key_of from), Record f (key_of to))
ends_of (spots.Item q n) = (Item q n, Item q n)

-- two cells between which all lie that a task looks at which does this, if it is a look
abbrev pub view_ends : Act → Option (Cell × Cell)
view_ends (Look spot) = Some (ends_of spot)
view_ends (LookForUpdate f k) = Some (Record f k, Record f k)
view_ends act = None

-- whether a key isn't before the interval that begins at a bound
abbrev pub is_from : Bound → Bytes → Bool
is_from (In k) key = not (is_below key k)
is_from (Out k) key = is_below k key

-- whether a key isn't behind the interval that ends at a bound
abbrev pub is_upto : Bound → Bytes → Bool
is_upto (In k) key = not (is_below k key)
is_upto (Out k) key = is_below key k

-- whether a spot covers a cell
abbrev pub covers : Spot → Cell → Bool
covers (spots.Keys f from to) (Record g k) = is_same f g && is_from from k && is_upto to k
covers (spots.Keys f from to) (Item p m) = false
covers (spots.Item q n) (Record g k) = false
covers (spots.Item q n) (Item p m) = is_same q p && n == m

-- whether a task that does this looks at a cell
abbrev pub views : Act → Cell → Bool
views (Look spot) x = covers spot x
views (LookForUpdate f k) x = same_cell (Record f k) x
views act x = false

-- the only cell that a spot covers, if it names no two keys
abbrev pub only_of : Spot → Option Cell
only_of (spots.Keys f (In k) (In l)) = if is_same k l then Some (Record f k) else None
only_of (spots.Keys f (Out k) to) = None
only_of (spots.Keys f (In k) (Out l)) = None
only_of (spots.Item q n) = Some (Item q n)

-- the only cell that a task looks at which does this, if it names no two keys
abbrev pub single : Act → Option Cell
single (Look spot) = only_of spot
single (LookForUpdate f k) = Some (Record f k)
single act = None

-- the cells that it changes
abbrev pub altered : Act → List Cell
altered (Change c) = c.cells
altered act = []

-- whether a step looks at a cell
abbrev pub looks_at : Step → Cell → Bool
looks_at s x = views s.act x

-- the cells that a step changes
abbrev pub cells_of : Step → List Cell
cells_of s = altered s.act

-- whether a step changes a cell
abbrev pub changes : Step → Cell → Bool
changes s x = list_any (same_cell x) (cells_of s)

-- whether a step looks at a cell or changes it
abbrev pub touches : Step → Cell → Bool
touches s x = looks_at s x || changes s x

-- whether it is a look
abbrev pub is_view : Act → Bool
is_view (Look spot) = true
is_view (LookForUpdate f k) = true
is_view act = false

-- whether it is a look by another command than READ UPDATE
abbrev pub is_plain : Act → Bool
is_plain (Look spot) = true
is_plain act = false

-- whether it adds a record or an item
abbrev pub is_adding : Act → Bool
is_adding (Change c) = c.adds
is_adding act = false

-- whether it is a change that no backout undoes
abbrev pub is_lasting : Act → Bool
is_lasting (Change c) = c.lasts
is_lasting act = false

-- whether it ends a turn
abbrev pub is_ending : Act → Bool
is_ending (End committed) = true
is_ending act = false

-- whether it ends a turn with a backout
abbrev pub is_undoing : Act → Bool
is_undoing (End committed) = not committed
is_undoing act = false
