-- A command on a file changes the files of the store alone: what is told of the files is told of
-- the store in place.
use Rattle.std.specs.Prelude.{◌≡◌, Bool, true, false, List, []}
use Rattle.cics_names.specs.Keyed.{Map, value_at}
use Rattle.cics_images.specs.Cells.{Cell, is_unnamed}
use Rattle.cics_images.specs.StoreCells.{with_files}
use Rattle.cics_ksds.specs.Files.{FileValue}
use Rattle.cics_history.specs.Store.{apply}
use Rattle.cics_history.specs.Cells.{content}
use Rattle.cics_history.specs.Undo.{images_by}
use Rattle.cics_history.specs.Records.{file_of}
use Rattle.cics_history.specs.declared.ops.Op.{Op}
use Rattle.cics_units.specs.Opening.FilesImages.{FilesImage, cell_of_image, files_hold, FilesKeep}
use Rattle.cics_units.specs.Opening.StoreMatching.{StoreValue, shown_store, AreImagesOf}
use Rattle.cics_units.specs.Parts.{is_recoverable_in, leaves, of_files}
use Rattle.cics_units.proofs.MadeImages.{AreMadeInTurn}

-- these images of files, newest first, stand for the changes of a command, and lead from these
-- files back to those of the store
pub record HasFileImages (s : StoreValue) (n : Map FileValue) (op : Op) (is : List FilesImage) : Type 0 where
  pub made : AreImagesOf (images_by (shown_store s) op (content (shown_store s))) [] (of_files is)
  pub in_turn : AreMadeInTurn s.files n is

-- a command on a recoverable file gives images, one on another file none
abbrev pub AreFileImagesAfter : StoreValue → Map FileValue → Op → List FilesImage → Bool → Type 0
AreFileImagesAfter s n op is false = is ≡ []
AreFileImagesAfter s n op is true = HasFileImages s n op is

-- a command on a file makes these files of those of the store, and gives these images
pub record AreFilesChanged (s : StoreValue) (n : Map FileValue) (op : Op) (is : List FilesImage) : Type 0 where
  pub shown : shown_store (with_files s n) ≡ (apply (shown_store s) op).store
  pub others : FilesKeep (leaves op) s.files n
  pub images : AreFileImagesAfter s n op is (is_recoverable_in (value_at (file_of op) s.files))
  pub held : (c : Cell) → is_unnamed cell_of_image is c ≡ true → files_hold n c ≡ true → files_hold s.files c ≡ true
