-- Recovery: the cells in place, and the images by which each open unit undoes its changes. The ends
-- of LOGICAL queues have images of their own.
use Rattle.std.specs.Prelude.{◌≡◌, ℕ, Bool, true, false, ◌&&◌, not, ◌==◌, if◌then◌else◌, Option, List, [], ◌∷◌, ◌++◌, MatchBool, unwrap_or}
use Rattle.std.specs.List.{list_any}
use Rattle.cics_names.specs.Keyed.{Bytes, Map, value_at}
use Rattle.cics_ksds.specs.Prefixes.{under}
use Rattle.cics_history.specs.State.{OpeningState, queue_logical, Store, initial_store, UnitsState}
use Rattle.cics_history.specs.Store.{is_normal, is_recoverable}
use Rattle.cics_history.specs.Headline.{is_open, is_backed_out, outcome_of}
use Rattle.cics_history.specs.Execution.{unit_or_next}
use Rattle.cics_history.specs.declared.ops.Op.{Op}
use Rattle.cics_history.specs.declared.ops.Op.TheVariants.{DeleteGeneric, ReadUpdate}
use Rattle.cics_history.specs.declared.ops.Entry.{Entry}
use Rattle.cics_history.specs.declared.ops.UnitState.{UnitState}
use Rattle.cics_history.specs.declared.ops.UnitState.TheVariants.{BackedOut}
use Rattle.cics_history.specs.Cells.{Cell, Key, Ts, Td, Content, content, cell_of, same_cell, touches, effect, Writing, recovers}
use Rattle.cics_history.specs.Isolation.{Outcomes, store_by, Extends, used}

-- an image is one change of one cell: what the cell held before, and what the change made
pub record Image : Type 0 where
  pub cell : Cell
  pub before : Content
  pub made : Content

-- what each cell holds in place
abbrev pub Cells : Type 0
Cells = Cell → Content

-- the cells after a command
abbrev pub after : Cells → Op → Cells
after s op = λ x. if touches op x then (effect op (s x)).cell else s x

-- the cells after these images are undone, newest first: each restores in its cell what it held
-- before
abbrev pub undone : Cells → List Image → Cells
undone s [] = s
undone s (i ∷ is) = undone (λ x. if same_cell i.cell x then i.before else s x) is

-- each image of the cell finds what its change made, and together they lead from the first content
-- to the second
abbrev pub Leads : List Image → Cell → Content → Content → Type 0
Leads [] x from to = from ≡ to
Leads (i ∷ is) x from to =
    MatchBool (same_cell i.cell x) ((from ≡ i.made) × Leads is x i.before to) (Leads is x from to)

-- an image of the cell is among these
abbrev pub names : Cell → List Image → Bool
names x is = list_any (λ i. same_cell i.cell x) is

-- all but the LOGICAL queues, which have two ends
abbrev pub is_plain : OpeningState → Cell → Bool
is_plain o (Key f k) = true
is_plain o (Ts q) = true
is_plain o (Td q) = not (queue_logical o q)

-- the command has an image of this cell, if one is requested
abbrev pub changes : Op → Content → Bool
changes (ReadUpdate f k) c = false
changes op c = is_normal (effect op c).answer.condition

-- the images of one command: together they lead each cell that it changed back to what the command
-- found there. No other cell has an image
abbrev pub AreImages : Op → Cells → List Image → Type 0
AreImages op s new =
    (x : Cell) → MatchBool (touches op x && changes op (s x))
    ((is : List Image) (to : Content) → Leads is x (s x) to → Leads (new ++ is) x (effect op (s x)).cell to)
    (names x new ≡ false)

-- the cells in place, and each unit's images, newest first
pub record Place : Type 0 where
  pub cells : Cells
  pub images : ℕ → List Image

-- the images after a unit's end: the unit has none
abbrev pub without_images : (ℕ → List Image) → ℕ → ℕ → List Image
without_images images unit u = if u == unit then [] else images u

-- a command changes its cells in place; its unit gets the images, if the command is on something
-- recoverable
abbrev pub put : OpeningState → Place → ℕ → Op → List Image → Place
put o p unit op new = record {
  cells = after p.cells op;
  images = λ u. if (u == unit) && is_recoverable o op then new ++ p.images u else p.images u;
}

-- an ending in which this unit has this outcome
abbrev pub ended : Outcomes → ℕ → UnitState → Outcomes
ended out unit outcome = λ u. if u == unit then outcome else out u

-- the cells in place against the history, and the images of the open units
pub record IsUndoable (o : OpeningState) (es : List Entry) (out : Outcomes) (p : Place) : Type 0 where
  -- the cells hold what the history gives
  pub in_place : (x : Cell) → is_plain o x ≡ true → p.cells x ≡ content (store_by o out es) x
  -- however the others end, an open unit's images lead each cell to what it holds without that unit
  pub leads : (x : Cell) → is_plain o x ≡ true → recovers o x ≡ true → (u : ℕ) → is_open (out u) ≡ true →
      (fin : Outcomes) → Extends out fin → is_backed_out (fin u) ≡ false →
      Leads (p.images u) x (content (store_by o fin es) x) (content (store_by o (ended fin u BackedOut) es) x)
  -- a unit has images only of recoverable cells that it has used
  pub named : (x : Cell) (u : ℕ) → (recovers o x && used es u x Writing) ≡ false → names x (p.images u) ≡ false
  -- and none of a LOGICAL queue
  pub bare : (x : Cell) (u : ℕ) → is_plain o x ≡ false → names x (p.images u) ≡ false

-- images are ready in turn: each finds what its change made
abbrev pub AllReady : Cells → List Image → Type 0
AllReady s [] = Unit {0}
AllReady s (i ∷ is) = (s i.cell ≡ i.made) × AllReady (λ x. if same_cell i.cell x then i.before else s x) is

-- the image of a cell, if the command changes it
abbrev pub image_at : Op → Cell → Content → List Image
image_at op x c = if changes op c then record { cell = x; before = c; made = (effect op c).cell } ∷ [] else []

-- the image of a command's own cell, if it changes it
abbrev pub image_of : Op → Content → List Image
image_of op c = image_at op (cell_of op) c

-- the images of the keys of these records, the last key's newest: each key that the command changes
-- has one
abbrev pub images_under : Op → Bytes → Cells → Map Bytes → List Image
images_under op f cells [] = []
images_under op f cells (e ∷ es) = images_under op f cells es ++ image_at op (Key f e.0) (cells (Key f e.0))

-- the images of DELETE GENERIC: one of each record of the file whose key begins with the prefix
abbrev pub prefix_images : Store → Bytes → Bytes → Cells → List Image
prefix_images s f p cells = images_under (DeleteGeneric f p) f cells (under p (unwrap_or (value_at f s.files) []))

-- the images of a command; the keys under a prefix are those of a store
abbrev pub images_by : Store → Op → Cells → List Image
images_by s (DeleteGeneric f p) cells = prefix_images s f p cells
images_by s op cells = image_of op (cells (cell_of op))

-- the cells in place and the images are those of this state of the units
abbrev pub IsPlaceOf : UnitsState → Place → Type 0
IsPlaceOf s p = IsUndoable s.opening s.trace (outcome_of s.outcomes) p

-- the cells as the opening has them, and no image
abbrev pub placed : OpeningState → Place
placed o = record { cells = content (initial_store o); images = λ u. [] }

-- a command on a plain cell changes it in place; one on a LOGICAL queue leaves the plain cells as
-- they are
abbrev pub place_executed : UnitsState → Place → Option ℕ → Op → List Image → Place
place_executed s p u op new =
    if is_plain s.opening (cell_of op) then put s.opening p (unit_or_next u s.outcomes) op new else p

-- a commit leaves the cells, and drops the unit's images
abbrev pub place_committed : Place → ℕ → Place
place_committed p v = record { cells = p.cells; images = without_images p.images v }

-- a backout undoes the unit's images, newest first, and drops them
abbrev pub place_undone : Place → ℕ → Place
place_undone p v = record { cells = undone p.cells (p.images v); images = without_images p.images v }
