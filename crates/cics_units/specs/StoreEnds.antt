-- Recovery: what the end of a unit does to files, temporary storage and transient data, part by
-- part. Also the marks that a commit settles.
use Rattle.std.specs.Prelude.{◌≡◌, ℕ, Bool, true, false, ◌&&◌, ◌||◌, if◌then◌else◌, Option, List, [], ◌∷◌, fold}
use Rattle.cics_names.specs.Keyed.{Bytes, is_same}
use Rattle.cics_images.specs.Cells.{Kept}
use Rattle.cics_images.specs.NamedValues.{named_fixed, changed_at}
use Rattle.cics_images.specs.StoreCells.{stores_fixed, with_trans_data, Three}
use Rattle.cics_images.specs.declared.stores.StoreImage.TheVariants.{File, TempStorage, TransData}
use Rattle.cics_ksds.specs.declared.definition.FileDef.{FileDef}
use Rattle.cics_tempstor.specs.declared.images.TsImage.{TsImage}
use Rattle.cics_tempstor.specs.Queues.{places_of}
use Rattle.cics_tempstor.specs.Places.{AreInOrder}
use Rattle.cics_transdata.specs.declared.images.TdImage.{TdImage}
use Rattle.cics_transdata.specs.declared.images.TdImage.TheVariants.{Taken, Written}
use Rattle.cics_transdata.specs.declared.queues.Recovery.{Recovery}
use Rattle.cics_transdata.specs.Trans.{TransState, reader_committed, writer_committed}
use Rattle.cics_history.specs.State.{UnitsState}
use Rattle.cics_history.specs.Holding.{store_of}
use Rattle.cics_history.specs.Execution.{after_end}
use Rattle.cics_history.specs.declared.ops.UnitState.{UnitState}
use Rattle.cics_history.specs.Cells.{End, Reading, Writing, IsCanonical}
use Rattle.cics_units.specs.Opening.FilesImages.{FilesImage, definitions_of}
use Rattle.cics_units.specs.ImageRows.{AreHeldForImages}
use Rattle.cics_units.specs.Opening.StoreMatching.{StoreValue, AnyImage, QueuesImage, shown_store, cell_of_any, any_holds}
use Rattle.cics_units.specs.StoreInPlace.{AreInPlace}

-- ---- the images of one kind, in their order
-- the images of files
abbrev pub file_images : List AnyImage → List FilesImage
file_images [] = []
file_images (File i ∷ is) = i ∷ file_images is
file_images (TempStorage i ∷ is) = file_images is
file_images (TransData i ∷ is) = file_images is

-- the images of temporary storage
abbrev pub ts_images : List AnyImage → List TsImage
ts_images [] = []
ts_images (File i ∷ is) = ts_images is
ts_images (TempStorage i ∷ is) = i ∷ ts_images is
ts_images (TransData i ∷ is) = ts_images is

-- the images of transient data
abbrev pub td_images : List AnyImage → List QueuesImage
td_images [] = []
td_images (File i ∷ is) = td_images is
td_images (TempStorage i ∷ is) = td_images is
td_images (TransData i ∷ is) = i ∷ td_images is

-- ---- what is fixed
-- the recovery of each queue
abbrev pub kind_at : StoreValue → Bytes → Option Recovery
kind_at s q = named_fixed (λ t. t.kind) s.trans_data q

-- what no command changes of the store: the definition of each file and the recovery of each queue
abbrev pub any_fixed : StoreValue → Three (Bytes → Option FileDef) (Unit {0}) (Bytes → Option Recovery)
any_fixed s = stores_fixed definitions_of (λ rows. tt) (λ s. named_fixed (λ t. t.kind) s) s

-- ---- the marks that a commit settles
-- the queue after the unit at this end commits
abbrev pub end_committed : End → TransState → TransState
end_committed Reading t = reader_committed t
end_committed Writing t = writer_committed t

-- whether an image of a queue is of this end
abbrev pub is_at_end : End → TdImage → Bool
is_at_end Reading (Taken before) = true
is_at_end Reading Written = false
is_at_end Writing (Taken before) = false
is_at_end Writing Written = true

-- the store after this end of an image's queue is committed, if the image is of that end
abbrev pub end_settled : End → StoreValue → AnyImage → StoreValue
end_settled end s (File i) = s
end_settled end s (TempStorage i) = s
end_settled end s (TransData i) =
    if is_at_end end i.image then with_trans_data s (changed_at (λ t. end_committed end t) i.name s.trans_data) else s

-- the store after the writing end is committed of each queue with an image of it
abbrev pub writers_settled : StoreValue → List AnyImage → StoreValue
writers_settled s is = fold (λ s i. end_settled Writing s i) s is

-- the store after the reading end is committed of each queue with an image of it
abbrev pub readers_settled : StoreValue → List AnyImage → StoreValue
readers_settled s is = fold (λ s i. end_settled Reading s i) s is

-- the store after a unit with these images has settled its ends. All writing ends come first: so no
-- record has both marks when a reading end is committed
abbrev pub ends_settled : StoreValue → List AnyImage → StoreValue
ends_settled s is = readers_settled (writers_settled s is) is

-- whether one of the images is of this end of the queue
abbrev pub has_end : Bytes → End → List AnyImage → Bool
has_end q end [] = false
has_end q end (File i ∷ is) = has_end q end is
has_end q end (TempStorage i ∷ is) = has_end q end is
has_end q end (TransData i ∷ is) = (is_at_end end i.image && is_same i.name q) || has_end q end is

-- ---- the end of a unit
-- what the end of a unit leaves. All is in place, in order, and shows what the history gives. No
-- NEXT cursor moves but those of queues that are gone, and what was fixed stays
pub record IsEnded (s : UnitsState) (m n : StoreValue) (images after_images : List (Kept AnyImage)) (v : ℕ) (outcome : UnitState) : Type 0 where
  pub place : AreInPlace (after_end s v outcome) n after_images
  pub canonical : IsCanonical (shown_store n)
  pub shows : shown_store n ≡ store_of (after_end s v outcome)
  pub rows : AreInOrder n.temp_storage
  pub next : s.next ≡ places_of m.temp_storage → (after_end s v outcome).next ≡ places_of n.temp_storage
  pub definitions : definitions_of n.files ≡ definitions_of m.files
  pub kinds : (q : Bytes) → kind_at n q ≡ kind_at m q
  pub held : AreHeldForImages any_holds cell_of_any m images → AreHeldForImages any_holds cell_of_any n after_images
