-- Two units of work at the two ends of a queue: whatever one does, and however it ends, the other's
-- images stay ready in turn.
use Rattle.std.proofs.Common.{arith, ◌≡◌, ℕ, ◌+◌, ◌-◌, Bool, true, false, List, [], ◌∷◌, length, drop, refl, sym, ◌∙◌, ap, length-drop}
use Rattle.std.specs.Prelude.{min}
use Rattle.std.proofs.lemmas.List.{drop-drop}
use Rattle.cics_images.specs.Cells.{Cell, AreOf, AreReadyInTurn, is_other}
use Rattle.cics_images.specs.Turns.{in_turn_kept}
use Rattle.cics_transdata.specs.declared.images.TdImage.{TdImage}
use Rattle.cics_transdata.specs.declared.images.TdImage.TheVariants.{Taken, Written}
use Rattle.cics_transdata.specs.Trans.{TransState, IsApart, reader_committed, writer_committed}
use Rattle.cics_transdata.specs.Undo.{reading_end, writing_end, end_of, IsReadyImage, undone, KeepsEnds, IsTransImage}
use Rattle.cics_transdata.specs.UndoLaws.{keeps_ready, keeps_undone, undone_keeps, one_shorter}
use Rattle.cics_transdata.specs.Ends.{backed_out, AreEnds}

-- images that are ready in turn stay so if their cells stay
pub kept_in_turn : (p : Cell → Bool) (s t : TransState) (images : List TdImage) → KeepsEnds p s t → AreOf end_of p images →
    AreReadyInTurn IsReadyImage undone s images → AreReadyInTurn IsReadyImage undone t images
kept_in_turn p s t images = in_turn_kept end_of IsReadyImage undone KeepsEnds keeps_ready keeps_undone p s t images

-- all images are of ends
pub all_of : (images : List TdImage) → AreOf end_of (λ _. true) images
all_of [] = tt
all_of (i ∷ is) = (refl, all_of is)

-- images that are ready in turn stay so if both ends stay
pub all_kept_in_turn : (s t : TransState) (images : List TdImage) → KeepsEnds (λ _. true) s t →
    AreReadyInTurn IsReadyImage undone s images → AreReadyInTurn IsReadyImage undone t images
all_kept_in_turn s t images kept = kept_in_turn (λ _. true) s t images kept (all_of images)

-- the image of a change, stored as the newest, leaves all images ready in turn
pub images_stored : (old new : TransState) (end : Cell) (image : TdImage) (images : List TdImage) → IsTransImage old new end image →
    AreReadyInTurn IsReadyImage undone old images → AreReadyInTurn IsReadyImage undone new (image ∷ images)
images_stored old new end image images this ready = (this.ready, all_kept_in_turn old (undone new image) images this.back ready)

-- ---- a unit changes its end
-- a change of the reading end, its image stored with the reader, leaves the two ends theirs
pub reader_stored : (old new : TransState) (reader writer : List TdImage) (image : TdImage) → AreEnds old reader writer → IsTransImage old new reading_end image →
    KeepsEnds (is_other reading_end) old new → IsApart new → AreEnds new (image ∷ reader) writer
reader_stored old new reader writer image ends this others apart = record {
  reading = (ap (is_other writing_end) this.named, ends.reading);
  writing = ends.writing;
  read = images_stored old new reading_end image reader this ends.read;
  written = kept_in_turn (is_other reading_end) old new writer others ends.writing ends.written;
  apart = apart;
}

-- and one of the writing end, its image stored with the writer
pub writer_stored : (old new : TransState) (reader writer : List TdImage) (image : TdImage) → AreEnds old reader writer → IsTransImage old new writing_end image →
    KeepsEnds (is_other writing_end) old new → IsApart new → AreEnds new reader (image ∷ writer)
writer_stored old new reader writer image ends this others apart = record {
  reading = ends.reading;
  writing = (ap (is_other reading_end) this.named, ends.writing);
  read = kept_in_turn (is_other writing_end) old new reader others ends.reading ends.read;
  written = images_stored old new writing_end image writer this ends.written;
  apart = apart;
}

-- what changes no mark leaves both
pub both_kept : (old new : TransState) (reader writer : List TdImage) → AreEnds old reader writer → KeepsEnds (λ _. true) old new → IsApart new → AreEnds new reader writer
both_kept old new reader writer ends kept apart = record {
  reading = ends.reading;
  writing = ends.writing;
  read = all_kept_in_turn old new reader kept ends.read;
  written = all_kept_in_turn old new writer kept ends.written;
  apart = apart;
}

-- ---- a unit is backed out
-- no undo gives a record both marks
apart_undone : (s : TransState) (i : TdImage) → IsReadyImage s i → IsApart s → IsApart (undone s i)
apart_undone s (Taken n) ready apart = omega (arith, ready, apart)
apart_undone s Written ready apart = omega (arith, ready, apart, one_shorter s)

-- and so none does after a backout
apart_backed_out : (s : TransState) (images : List TdImage) → AreReadyInTurn IsReadyImage undone s images → IsApart s → IsApart (backed_out s images)
apart_backed_out s [] ready apart = apart
apart_backed_out s (i ∷ is) ready apart = apart_backed_out (undone s i) is ready.1 (apart_undone s i ready.0 apart)

-- a backout of the reading end leaves the images of the writing end ready
writer_left : (s : TransState) (reader writer : List TdImage) → AreOf end_of (is_other writing_end) reader → AreOf end_of (is_other reading_end) writer →
    AreReadyInTurn IsReadyImage undone s reader → AreReadyInTurn IsReadyImage undone s writer → AreReadyInTurn IsReadyImage undone (backed_out s reader) writer
writer_left s [] writer reading writing read written = written
writer_left s (Taken n ∷ is) writer reading writing read written =
    writer_left (undone s (Taken n)) is writer reading.1 writing read.1 (kept_in_turn (is_other reading_end) s (undone s (Taken n)) writer (undone_keeps s (Taken n) read.0) writing written)
writer_left s (Written ∷ is) writer reading writing read written = let wrong : false ≡ true = reading.0 in cc

-- and the other way round
reader_left : (s : TransState) (reader writer : List TdImage) → AreOf end_of (is_other writing_end) reader → AreOf end_of (is_other reading_end) writer →
    AreReadyInTurn IsReadyImage undone s reader → AreReadyInTurn IsReadyImage undone s writer → AreReadyInTurn IsReadyImage undone (backed_out s writer) reader
reader_left s reader [] reading writing read written = read
reader_left s reader (Written ∷ is) reading writing read written =
    reader_left (undone s Written) reader is reading writing.1 (kept_in_turn (is_other writing_end) s (undone s Written) reader (undone_keeps s Written written.0) reading read) written.1
reader_left s reader (Taken n ∷ is) reading writing read written = let wrong : false ≡ true = writing.0 in cc

-- after the reader is backed out the writer has its end still
pub reader_backed_out : (s : TransState) (reader writer : List TdImage) → AreEnds s reader writer → AreEnds (backed_out s reader) [] writer
reader_backed_out s reader writer ends = record {
  reading = tt;
  writing = ends.writing;
  read = tt;
  written = writer_left s reader writer ends.reading ends.writing ends.read ends.written;
  apart = apart_backed_out s reader ends.read ends.apart;
}

-- and after the writer is, the reader
pub writer_backed_out : (s : TransState) (reader writer : List TdImage) → AreEnds s reader writer → AreEnds (backed_out s writer) reader []
writer_backed_out s reader writer ends = record {
  reading = ends.reading;
  writing = tt;
  read = reader_left s reader writer ends.reading ends.writing ends.read ends.written;
  written = tt;
  apart = apart_backed_out s writer ends.written ends.apart;
}

-- ---- both are backed out, in either order
-- an undo at the reading end and a backout at the writing end
swapped : (s : TransState) (n : ℕ) (writer : List TdImage) → AreOf end_of (is_other reading_end) writer →
    undone (backed_out s writer) (Taken n) ≡ backed_out (undone s (Taken n)) writer
swapped s n [] writing = refl
swapped s n (Written ∷ is) writing = swapped (undone s Written) n is writing.1
swapped s n (Taken m ∷ is) writing = let wrong : false ≡ true = writing.0 in cc

-- to back the two out comes to the same in either order
pub either_order : (s : TransState) (reader writer : List TdImage) → AreOf end_of (is_other writing_end) reader → AreOf end_of (is_other reading_end) writer →
    backed_out (backed_out s reader) writer ≡ backed_out (backed_out s writer) reader
either_order s [] writer reading writing = refl
either_order s (Taken n ∷ is) writer reading writing =
    either_order (undone s (Taken n)) is writer reading.1 writing ∙ ap (λ t. backed_out t is) (sym (swapped s n writer writing))
either_order s (Written ∷ is) writer reading writing = let wrong : false ≡ true = reading.0 in cc

-- ---- a unit commits

-- the reading end's commit leaves the writing end, if no record has both marks
pub reader_committed_keeps : (s : TransState) → IsApart s → KeepsEnds (is_other reading_end) s (reader_committed s)
reader_committed_keeps s apart =
    let left = length-drop s.read s.placed in
    let same : min s.written (length (drop s.read s.placed)) ≡ s.written = omega (arith, left, apart) in
    let from : s.read + (length (drop s.read s.placed) - min s.written (length (drop s.read s.placed))) ≡ length s.placed - s.written = omega (arith, left, apart) in
    record {
      same_kind = refl;
      reading = λ h. let wrong : false ≡ true = h in cc;
      writing = λ h. record {
        same = same;
        records = drop-drop (length (drop s.read s.placed) - min s.written (length (drop s.read s.placed))) s.read s.placed ∙ ap (λ k. drop k s.placed) from;
        within = λ w. omega arith;
        unread = omega (arith, left, apart);
      };
    }

-- the writing end's commit leaves the reading end
pub writer_committed_keeps : (s : TransState) → KeepsEnds (is_other writing_end) s (writer_committed s)
writer_committed_keeps s = record {
  same_kind = refl;
  reading = λ h. record { same = refl; records = refl; within = λ w. w };
  writing = λ h. let wrong : false ≡ true = h in cc;
}

-- after the reader commits the writer has its end still
pub reader_commits : (s : TransState) (reader writer : List TdImage) → AreEnds s reader writer → AreEnds (reader_committed s) [] writer
reader_commits s reader writer ends = record {
  reading = tt;
  writing = ends.writing;
  read = tt;
  written = kept_in_turn (is_other reading_end) s (reader_committed s) writer (reader_committed_keeps s ends.apart) ends.writing ends.written;
  apart = omega arith;
}

-- and after the writer commits, the reader
pub writer_commits : (s : TransState) (reader writer : List TdImage) → AreEnds s reader writer → AreEnds (writer_committed s) reader []
writer_commits s reader writer ends = record {
  reading = ends.reading;
  writing = tt;
  read = kept_in_turn (is_other writing_end) s (writer_committed s) reader (writer_committed_keeps s) ends.reading ends.read;
  written = tt;
  apart = omega (arith, ends.apart);
}
