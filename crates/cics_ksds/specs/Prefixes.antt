-- DELETE with GENERIC: it deletes the records whose keys begin with the same bytes, each as DELETE
-- of its key does.
use Rattle.std.specs.Prelude.{◌≡◌, Bool, not, if◌then◌else◌, List, [], ◌∷◌, map, fold, nat_eq}
use Rattle.std.specs.List.{filter, starts_with}
use Rattle.cics_names.specs.Keyed.{Bytes, Map}
use Rattle.cics_ksds.specs.declared.definition.FileDef.{FileDef}
use Rattle.cics_ksds.specs.declared.images.Before.TheVariants.{Added, Removed}
use Rattle.cics_ksds.specs.Files.{FileValue, deleted, is_from}
use Rattle.cics_ksds.specs.Undo.{ImageValue, key_of_image, IsFileImage}

-- whether a key begins with the prefix
abbrev pub has_prefix : Bytes → Bytes → Bool
has_prefix prefix key = starts_with nat_eq key prefix

-- the entries whose keys begin with the prefix, in the order of their keys
abbrev pub under : Bytes → Map Bytes → Map Bytes
under prefix records = filter (λ e. has_prefix prefix e.0) records

-- the entries whose keys don't begin with it
abbrev pub outside : Bytes → Map Bytes → Map Bytes
outside prefix records = filter (λ e. not (has_prefix prefix e.0)) records

-- the keys of those that do
abbrev pub keys_under : Bytes → Map Bytes → List Bytes
keys_under prefix records = map (λ e. e.0) (under prefix records)

-- the entries from a bound on, or strictly above it
abbrev pub from : Bytes → Bool → Map Bytes → Map Bytes
from bound strict records = filter (λ e. is_from bound strict e.0) records

-- the file after these keys were deleted, one after another
abbrev pub all_deleted : Bool → FileValue → List Bytes → FileValue
all_deleted keep f keys = fold (deleted keep) f keys

-- the file after each key that begins with the prefix was deleted
abbrev pub without_prefix : Bool → FileValue → Bytes → FileValue
without_prefix keep f prefix = all_deleted keep f (keys_under prefix f.records)

-- the image of a deleted record
abbrev pub removed_entry : FileDef → Bytes × Bytes → ImageValue
removed_entry d e = record { definition = d; before = Removed e.1 }

-- the image of its key alone, into which the record moves when it is deleted
abbrev pub added_entry : FileDef → Bytes × Bytes → ImageValue
added_entry d e = record { definition = d; before = Added e.0 }

-- the images of the deleted records in the order of their keys, if they are stored
abbrev pub prefix_images : Bool → FileValue → Bytes → List ImageValue
prefix_images keep f prefix = if keep then map (removed_entry f.definition) (under prefix f.records) else []

-- the images of changes that were made one after another, from old to new
abbrev pub AreFileImages : FileValue → FileValue → List ImageValue → Type 0
AreFileImages old new [] = new ≡ old
AreFileImages old new (image ∷ images) = (mid : FileValue) × IsFileImage old mid (key_of_image image) image × AreFileImages mid new images

-- the images, stored one after another behind those of a unit of work, newest first
abbrev pub stored_on : List ImageValue → List ImageValue → List ImageValue
stored_on kept images = fold (λ kept image. image ∷ kept) kept images
