-- The laws of values by name, for files.
use Rattle.std.specs.Prelude.{◌≡◌, Bool, true, false, None, refl}
use Rattle.std.proofs.Common.{sym}
use Rattle.std.specs.Bool.{Decides}
use Rattle.std.specs.Str.{bytes_eq}
use Rattle.std.proofs.lemmas.Slice.Eq.{bytes_eq-Decides}
use Rattle.cics_names.specs.Keyed.{Bytes, Map, value_at}
use Rattle.cics_images.specs.Cells.{Cell}
use Rattle.cics_images.specs.NamedLaws as named
use Rattle.cics_ksds.specs.Files.{FileValue}
use Rattle.cics_ksds.specs.Undo.{content_at, key_of_image, IsReadyImage, undone, KeepsKeys}
use Rattle.cics_ksds.specs.UndoLaws as file
use Rattle.cics_units.specs.Opening.FilesImages.{FilesImage, cell_of, cell_of_image, content_in, files_content, IsReadyFor, files_undone, FilesKeep}

-- images of cells that stay are still ready
pub keeps_ready : (p : Cell → Bool) (s t : Map FileValue) (i : FilesImage) → FilesKeep p s t → p (cell_of_image i) ≡ true → IsReadyFor s i → IsReadyFor t i
keeps_ready = named.keeps_ready KeepsKeys key_of_image IsReadyImage file.keeps_ready

-- cells that stay also stay when an image of one of them is undone in both
pub keeps_undone : (p : Cell → Bool) (s t : Map FileValue) (i : FilesImage) → FilesKeep p s t → p (cell_of_image i) ≡ true → IsReadyFor s i →
    FilesKeep p (files_undone s i) (files_undone t i)
keeps_undone = named.keeps_undone KeepsKeys key_of_image IsReadyImage file.keeps_ready undone file.keeps_undone

-- what a key's cell contains is what the file has at the key
pub content_of_cell : (s : Map FileValue) (name key : Bytes) → files_content s (cell_of name key) ≡ content_in (value_at name s) key
content_of_cell s name key = named.of_cell None content_at s name key

-- files keep all that they have
pub keeps_itself : (p : Cell → Bool) (s : Map FileValue) → FilesKeep p s s
keeps_itself = named.keeps_itself KeepsKeys file.keeps_itself

-- equal bytes compare as equal
pub same_bytes-eq : (a b : Cell) → a ≡ b → bytes_eq a b ≡ true
same_bytes-eq a b e = (bytes_eq-Decides a b).1 e

bytes_eq-same : (a b : Cell) → bytes_eq a b ≡ true → a ≡ b
bytes_eq-same a b e = by (bytes_eq a b) (bytes_eq-Decides a b) e
  where
    by : (t : Bool) → Decides t (a ≡ b) → t ≡ true → a ≡ b
    by true d t = d.0 refl
    by false d t = cc

-- bytes compare the same in either order
pub bytes_eq-turned : (a b : Cell) → bytes_eq a b ≡ bytes_eq b a
bytes_eq-turned a b = by (bytes_eq a b) (bytes_eq b a) (λ t. same_bytes-eq b a (sym (bytes_eq-same a b t))) (λ t. same_bytes-eq a b (sym (bytes_eq-same b a t)))
  where
    by : (x y : Bool) → (x ≡ true → y ≡ true) → (y ≡ true → x ≡ true) → x ≡ y
    by true y there back = sym (there refl)
    by false true there back = back refl
    by false false there back = refl
