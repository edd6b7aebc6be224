-- What a change of one file is among the files of a region: its image is one of theirs, and the
-- other cells stay.
use Rattle.std.specs.Prelude.{◌≡◌, Bool, true, Some}
use Rattle.cics_names.specs.Keyed.{Bytes, Map, value_at, with_value, is_key_in}
use Rattle.cics_images.specs.Cells.{Cell, is_other}
use Rattle.cics_images.specs.Turns.{IsImageOf}
use Rattle.cics_images.specs.NamedChanges as named
use Rattle.cics_ksds.specs.Files.{FileValue}
use Rattle.cics_ksds.specs.Undo.{ImageValue, content_at, key_of_image, Leads, IsReadyImage, undone, KeepsKeys, IsFileImage}
use Rattle.cics_ksds.specs.UndoLaws as file
use Rattle.cics_units.specs.Opening.FilesImages.{FilesImage, cell_of, cell_of_image, files_content, files_hold, IsReadyFor, files_undone, FilesKeep}

-- an image of a change of a cell, among the files
abbrev pub IsFilesImage : Map FileValue → Map FileValue → Cell → FilesImage → Type 0
IsFilesImage old new c image = IsImageOf files_content cell_of_image (λ i. Leads i.image) IsReadyFor files_undone FilesKeep old new c image

module _ (name : Bytes) (f g : FileValue) (files : Map FileValue) (there : value_at name files ≡ Some f) where
  -- a change of one file leaves the cells other than the changed one
  pub others_kept : (key : Cell) → KeepsKeys (is_other key) f g → FilesKeep (is_other (cell_of name key)) files (with_value name g files)
  others_kept = named.others_kept name f g files there KeepsKeys file.keeps_itself file.keeps_fewer

  -- the image of a change of one file is one among the files
  pub image_among : (key : Cell) (i : ImageValue) → IsFileImage f g key i → IsFilesImage files (with_value name g files) (cell_of name key) (record { name = name; image = i })
  image_among = named.image_among name f g files there KeepsKeys file.keeps_itself file.keeps_fewer content_at key_of_image Leads IsReadyImage undone

  -- if the file has no new empty slot at the cells that pass, the files have none
  pub held_among : (p : Cell → Bool) → ((k : Bytes) → p (cell_of name k) ≡ true → is_key_in k g.empties ≡ true → is_key_in k f.empties ≡ true) →
      (c : Cell) → p c ≡ true → files_hold (with_value name g files) c ≡ true → files_hold files c ≡ true
  held_among = named.held_among name f g files there (λ x k. is_key_in k x.empties)
