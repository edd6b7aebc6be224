-- The files of a region as one value whose changes are undone (the manual's chapter on recovery):
-- values by name, each of them a file. A cell is a key of a file.
use Rattle.std.specs.Prelude.{Bool, Option, None}
use Rattle.cics_names.specs.Keyed.{Bytes, Map, is_key_in}
use Rattle.cics_images.specs.Cells.{Cell, Content}
use Rattle.cics_images.specs.NamedValues.{cell_of as value_cell, of_value, named_content, named_holds, named_cell, IsReadyIn as IsValueReady, IsNamedReady, named_undone, named_swept, KeepsIn as ValuesKeep, NamedKeep, named_fixed}
use Rattle.cics_images.specs.declared.named.NamedImage.{NamedImage}
use Rattle.cics_ksds.specs.declared.definition.FileDef.{FileDef}
use Rattle.cics_ksds.specs.Files.{FileValue, swept}
use Rattle.cics_ksds.specs.Undo.{ImageValue, content_at, key_of_image, IsReadyImage, undone, KeepsKeys}

-- an image of a change of one of the files
abbrev pub FilesImage : Type 0
FilesImage = NamedImage ImageValue

-- the cell of a key: the length of the file's name, the name, the key
abbrev pub cell_of : Bytes → Bytes → Cell
cell_of name key = value_cell name key

-- the cell of an image
abbrev pub cell_of_image : FilesImage → Cell
cell_of_image i = named_cell key_of_image i

-- the record of a key; nothing if the file isn't there
abbrev pub content_in : Option FileValue → Bytes → Content
content_in o key = of_value None (λ f. content_at f key) o

-- what a cell contains; nothing if its bytes are too short for a name of that length
abbrev pub files_content : Map FileValue → Cell → Content
files_content files c = named_content content_at files c

-- whether a cell has an empty slot
abbrev pub files_hold : Map FileValue → Cell → Bool
files_hold files c = named_holds (λ f key. is_key_in key f.empties) files c

-- an image is ready if its file is there and it is ready for that
abbrev pub IsReadyIn : Option FileValue → ImageValue → Type 0
IsReadyIn o i = IsValueReady IsReadyImage o i

-- an image is ready for the files
abbrev pub IsReadyFor : Map FileValue → FilesImage → Type 0
IsReadyFor files i = IsNamedReady IsReadyImage files i

-- the files after an image is undone
abbrev pub files_undone : Map FileValue → FilesImage → Map FileValue
files_undone files i = named_undone undone files i

-- the files after a cell is swept
abbrev pub files_swept : Map FileValue → Cell → Map FileValue
files_swept files c = named_swept swept files c

-- neither has the file, or the second has what the first has at the keys that pass
abbrev pub KeepsIn : (Cell → Bool) → Option FileValue → Option FileValue → Type 0
KeepsIn p o r = ValuesKeep KeepsKeys p o r

-- at the cells that pass, the second has what the first has, and what an undo there needs
abbrev pub FilesKeep : (Cell → Bool) → Map FileValue → Map FileValue → Type 0
FilesKeep p files others = NamedKeep KeepsKeys p files others

-- the definition of each name
abbrev pub definitions_of : Map FileValue → Bytes → Option FileDef
definitions_of files name = named_fixed (λ f. f.definition) files name
