-- The images that a command on a file gives stand for its changes, and lead its unit's list on.
use Rattle.std.proofs.Common.{◌≡◌, Bool, true, false, List, [], ◌∷◌, ◌++◌, refl, ap, sym, subst, ◌∙◌}
use Rattle.std.specs.Prelude.{if◌then◌else◌}
use Rattle.std.proofs.lemmas.Bool.{true≢false}
use Rattle.cics_names.specs.Keyed.{Bytes, Map}
use Rattle.cics_images.specs.Cells.{Cell}
use Rattle.cics_images.specs.NamedLaws as named
use Rattle.cics_images.specs.StoreCells.{file_cell, temp_cell, trans_cell, with_files}
use Rattle.cics_images.specs.declared.stores.StoreImage.TheVariants.{File}
use Rattle.cics_ksds.specs.Files.{FileValue}
use Rattle.cics_ksds.specs.Undo.{Leads as FileLeads}
use Rattle.cics_tempstor.specs.UndoLaws as rows
use Rattle.cics_transdata.specs.Undo.{KeepsEnds}
use Rattle.cics_transdata.specs.UndoLaws as queue
use Rattle.cics_history.specs.State.{Store}
use Rattle.cics_history.specs.Store.{apply}
use Rattle.cics_history.specs.Cells.{Cell as OpCell, Key, content, is_generic, cell_of as cell_of_op, effect}
use Rattle.cics_history.specs.Undo.{Image, Cells, changes, image_of, images_by}
use Rattle.cics_history.specs.declared.ops.Op.{Op}
use Rattle.cics_history.specs.declared.ops.Op.TheVariants.{DeleteGeneric}
use Rattle.cics_history.proofs.Joining.{apply-content, touches-self}
use Rattle.cics_units.specs.Opening.FilesImages.{FilesImage, cell_of, cell_of_image, files_content, files_undone, FilesKeep}
use Rattle.cics_units.specs.FilesChanges.{IsFilesImage}
use Rattle.cics_units.specs.Opening.StoreMatching.{StoreValue, AnyImage, shown_store, shown_records, AnyKeep, IsImageOfChange, AreImagesOf}
use Rattle.cics_units.specs.Parts.{of_files}
use Rattle.cics_units.proofs.StoreInPlace.{shown_key, AreReady, ready_where}
use Rattle.cics_units.proofs.StoreExecuted.{all_of}

-- ---- Images of files among those of the store in place

-- if the files keep some cells and nothing else changes, the store in place keeps those cells
pub files_kept : (p : Cell → Bool) (s : StoreValue) (n : Map FileValue) → FilesKeep (λ c. p (file_cell c)) s.files n → AnyKeep p s (with_files s n)
files_kept p s n kept = record {
  files = kept;
  temp_storage = rows.keeps_itself (λ c. p (temp_cell c)) s.temp_storage;
  trans_data = named.keeps_itself KeepsEnds queue.keeps_itself (λ c. p (trans_cell c)) s.trans_data;
}

-- the unit's list with its newest image is ready, once the files are changed
ready_with : (s : StoreValue) (n : Map FileValue) (c : Cell) (i : FilesImage) (is : List AnyImage) → IsFilesImage s.files n c i → AreReady s is →
    AreReady (with_files s n) (File i ∷ is)
ready_with s n c i is image ready =
    (image.ready, ready_where (λ x. true) s (with_files s (files_undone n i)) is (files_kept (λ x. true) s (files_undone n i) image.back) (all_of is) ready)

-- each image, the newest first, is of a change of the files from those that the images before it
-- left
abbrev pub AreMadeInTurn : Map FileValue → Map FileValue → List FilesImage → Type 0
AreMadeInTurn old new [] = old ≡ new
AreMadeInTurn old new (i ∷ is) = (mid : Map FileValue) × IsFilesImage mid new (cell_of_image i) i × AreMadeInTurn old mid is

-- so with all of them the unit's list is ready
pub ready_in_turn : (s : StoreValue) (n : Map FileValue) (is : List FilesImage) (kept : List AnyImage) → AreMadeInTurn s.files n is → AreReady s kept →
    AreReady (with_files s n) (of_files is ++ kept)
ready_in_turn s n [] kept same ready = subst (λ m. AreReady (with_files s m) kept) same ready
ready_in_turn s n (i ∷ is) kept made ready =
    ready_with (with_files s made.0) n (cell_of_image i) i (of_files is ++ kept) made.1 (ready_in_turn s made.0 is kept made.2 ready)

-- the image that a change of a key gives stands for its change
pub stands_for : (s : StoreValue) (n : Map FileValue) (f k : Bytes) (i : FilesImage) → IsFilesImage s.files n (cell_of f k) i →
    IsImageOfChange (record { cell = Key f k; before = content (shown_store s) (Key f k); made = content (shown_store (with_files s n)) (Key f k) }) (File i)
stands_for s n f k i image = record {
  cell = ap file_cell image.named;
  leads = subst (λ a. FileLeads i.image a (shown_records (content (shown_store s) (Key f k)))) (sym (shown_key (with_files s n) f k))
      (subst (FileLeads i.image (files_content n (cell_of f k))) (sym (shown_key s f k)) image.leads_back);
}

-- ---- The image of a command on one record

images_by-one : (s : Store) (op : Op) (cells : Cells) → is_generic op ≡ false → images_by s op cells ≡ image_of op (cells (cell_of_op op))
images_by-one s (DeleteGeneric f p) cells one = absurd (true≢false one)
images_by-one s _ cells one = refl

module _ (s : StoreValue) (op : Op) (one : is_generic op ≡ false) where
  abbrev before : Cells
  before = content (shown_store s)

  abbrev change_of : Image
  change_of = record { cell = cell_of_op op; before = before (cell_of_op op); made = (effect op (before (cell_of_op op))).cell }

  images_if : (b : Bool) → changes op (before (cell_of_op op)) ≡ b → images_by (shown_store s) op before ≡ (if b then change_of ∷ [] else [])
  images_if b e = images_by-one (shown_store s) op before one ∙ ap (λ x. if x then change_of ∷ [] else []) e

  -- what it changed has an image that stands for the change of its cell
  pub with_image : (n : StoreValue) → shown_store n ≡ (apply (shown_store s) op).store → (x : OpCell) → cell_of_op op ≡ x → changes op (before (cell_of_op op)) ≡ true →
      (i : AnyImage) → IsImageOfChange (record { cell = x; before = before x; made = content (shown_store n) x }) i →
      ((c : Image) → IsImageOfChange c i → AreImagesOf (c ∷ []) [] (i ∷ [])) → AreImagesOf (images_by (shown_store s) op before) [] (i ∷ [])
  with_image n store x on changed i stands alone = subst (λ l. AreImagesOf l [] (i ∷ [])) (sym (images_if true changed)) (alone change_of own)
    where
      made_here : content (shown_store n) (cell_of_op op) ≡ (effect op (before (cell_of_op op))).cell
      made_here = ap (λ t. content t (cell_of_op op)) store ∙ apply-content (shown_store s) op (cell_of_op op)
          ∙ ap (λ b. if b then (effect op (before (cell_of_op op))).cell else before (cell_of_op op)) (touches-self op)

      own : IsImageOfChange change_of i
      own = subst (λ c. IsImageOfChange (record { cell = cell_of_op op; before = before (cell_of_op op); made = c }) i) made_here
          (subst (λ x. IsImageOfChange (record { cell = x; before = before x; made = content (shown_store n) x }) i) (sym on) stands)

  -- if it changed nothing there is none
  pub without_image : changes op (before (cell_of_op op)) ≡ false → AreImagesOf (images_by (shown_store s) op before) [] []
  without_image unchanged = (images_if false unchanged, refl)
