-- Recovery: the invariant that ties the state of the units to the files and queues in place and to
-- the images of open units.
use Rattle.std.specs.Prelude.{◌≡◌, ℕ, Bool, true, false, ◌&&◌, not, if◌then◌else◌, Option, Some, None, List, []}
use Rattle.std.specs.Str.{bytes_eq}
use Rattle.std.specs.Option.{option_map}
use Rattle.cics_names.specs.Keyed.{Bytes, value_at}
use Rattle.cics_images.specs.Cells.{Kept, AreReadyInTurn}
use Rattle.cics_images.specs.Cells as images
use Rattle.cics_images.specs.NamedValues.{split}
use Rattle.cics_images.specs.StoreCells.{by_part}
use Rattle.cics_transdata.specs.Trans.{TransState, IsMarked, is_logical, reader_committed, writer_committed}
use Rattle.cics_transdata.specs.Undo.{reading_end, writing_end}
use Rattle.cics_history.specs.State.{queue_logical, UnitsState}
use Rattle.cics_history.specs.Headline.{outcome_of, is_open}
use Rattle.cics_history.specs.Cells.{content, Td, End, Reading, Writing}
use Rattle.cics_history.specs.Isolation.{used}
use Rattle.cics_history.specs.Undo.{Image, IsPlaceOf}
use Rattle.cics_history.specs.Marks.{MarkedQueue, marks_of}
use Rattle.cics_history.specs.Ends.{Marks, AreMarksOf}
use Rattle.cics_units.specs.ImageRows.{kept_by}
use Rattle.cics_units.specs.Opening.StoreMatching.{StoreValue, AnyImage, shown_store, IsAnyReady, any_undone, AreImagesOf}

-- a queue in place is LOGICAL, has no more marks than records, and has these marks
pub record HasMarks (m : MarkedQueue) (t : TransState) : Type 0 where
  pub logical : is_logical t.kind ≡ true
  pub within : IsMarked t
  pub marks : m ≡ marks_of t

-- a LOGICAL queue before any command: no record is marked
pub record IsUnmarked (t : TransState) : Type 0 where
  pub logical : is_logical t.kind ≡ true
  pub read : t.read ≡ 0
  pub written : t.written ≡ 0

-- the files and queues hold what the history gives, and each LOGICAL queue has its marks. Each open
-- unit's images stand for changes and marks that lead back to what the history gives without that
-- unit. Each image is ready in its turn. A unit that has ended has no image
pub record AreInPlace (s : UnitsState) (store : StoreValue) (images : List (Kept AnyImage)) : Type 0 where
  pub changes : ℕ → List Image
  pub marks : Marks
  pub place : IsPlaceOf s (record { cells = content (shown_store store); images = changes })
  pub ends : AreMarksOf s marks
  pub queues : (q : Bytes) → queue_logical s.opening q ≡ true →
      (t : TransState) × (value_at q store.trans_data ≡ Some t) × HasMarks (marks.queues q) t
  pub kept : (u : ℕ) → AreImagesOf (changes u) (marks.images u) (kept_by images u)
  pub ready : (u : ℕ) → AreReadyInTurn IsAnyReady any_undone store (kept_by images u)
  pub over : (u : ℕ) → is_open (outcome_of s.outcomes u) ≡ false → kept_by images u ≡ []

-- an open unit owns an end of a queue exactly if the queue is LOGICAL and the unit has used that
-- end
abbrev pub holds_end : UnitsState → ℕ → Bytes → End → Bool
holds_end s u q end = queue_logical s.opening q && used s.trace u (Td q) end

-- the queue after its writer has committed, or as it is
abbrev pub writer_ended : Bool → TransState → TransState
writer_ended ends t = if ends then writer_committed t else t

-- the queue after its reader has committed, or as it is
abbrev pub reader_ended : Bool → TransState → TransState
reader_ended ends t = if ends then reader_committed t else t

-- the queue after the commit of a unit that owns the reading end or not, and the writing end or
-- not. The writing end is committed first: so no record has both marks when the reading end is
-- committed
abbrev pub ends_committed : (reads writes : Bool) → TransState → TransState
ends_committed reads writes t = reader_ended reads (writer_ended writes t)

-- the queue of a name after the commit of a unit, if it is there
abbrev pub committed_at : UnitsState → ℕ → Bytes → Option TransState → Option TransState
committed_at s u q o = option_map (ends_committed (holds_end s u q Reading) (holds_end s u q Writing)) o

-- a cell of a queue that isn't an end which the unit owns
abbrev pub is_free_end : UnitsState → ℕ → Bytes → images.Cell → Bool
is_free_end s u q c =
    if bytes_eq c reading_end then not (holds_end s u q Reading)
    else if bytes_eq c writing_end then not (holds_end s u q Writing) else true

-- the same of a cell of transient data
abbrev pub is_free_split : UnitsState → ℕ → Option (Bytes × images.Cell) → Bool
is_free_split s u None = true
is_free_split s u (Some e) = is_free_end s u e.0 e.1

-- a cell of the store that isn't an end which the unit owns
abbrev pub is_free : UnitsState → ℕ → images.Cell → Bool
is_free s u c = by_part true (λ c. true) (λ c. true) (λ c. is_free_split s u (split c)) c
