-- Recovery: the before images of each unit of work, by the unit's number.
use Rattle.std.specs.Prelude.{◌≡◌, ◌≢◌, ℕ, Bool, true, false, List, [], length, slice_get, unwrap_or}
use Rattle.cics_images.specs.Cells.{Cell, Kept, is_unnamed}

-- a unit without images and room
abbrev pub kept_none : {I : Type 0} → Kept I
kept_none = record { newest_first = []; room = 0 }

-- the images of a unit, newest first
abbrev pub kept_by : {I : Type 0} → List (Kept I) → ℕ → List I
kept_by rows u = (unwrap_or (slice_get rows u) kept_none).newest_first

-- how many more images a unit has room for
abbrev pub room_of : {I : Type 0} → List (Kept I) → ℕ → ℕ
room_of rows u = (unwrap_or (slice_get rows u) kept_none).room

-- as many units as before, and every other unit's images are as they were
pub record AreOthersKept {I : Type 0} (old new : List (Kept I)) (u : ℕ) : Type 0 where
  pub count : length new ≡ length old
  pub rows : (w : ℕ) → w ≢ u → slice_get new w ≡ slice_get old w

-- whatever is held back at a cell is held back for an image of a unit
abbrev pub AreHeldForImages : {M I : Type 0} → (M → Cell → Bool) → (I → Cell) → M → List (Kept I) → Type 0
AreHeldForImages holds_back cell m rows = (c : Cell) → holds_back m c ≡ true → (u : ℕ) × (is_unnamed cell (kept_by rows u) c ≡ false)
