-- Recovery: the files and queues in place with the images of open units, and what an executed
-- command makes of them.
use Rattle.std.specs.Prelude.{◌≡◌, ℕ, ◌<◌, ◌≤◌, Bool, true, false, not, ◌&&◌, IsTrue, length, IsSome, Option, Some, None, List, [], ◌∷◌, map}
use Rattle.cics_names.specs.Keyed.{Bytes, Map, value_at, is_same}
use Rattle.cics_images.specs.Cells.{Cell, is_other, is_unnamed}
use Rattle.cics_images.specs.NamedValues.{split}
use Rattle.cics_images.specs.StoreCells.{by_part}
use Rattle.cics_images.specs.declared.stores.StoreImage.TheVariants.{File}
use Rattle.cics_ksds.specs.Files.{FileValue, fits_file}
use Rattle.cics_enqueue.specs.Table.{Table, taken}
use Rattle.cics_transdata.specs.Trans.{TransState, first_of}
use Rattle.cics_ksds.specs.Undo.{ImageValue}
use Rattle.cics_ksds.specs.Prefixes.{has_prefix, under}
use Rattle.cics_history.specs.Store.{apply}
use Rattle.cics_history.specs.State.{UpdateRead}
use Rattle.cics_units.specs.Opening.RegionFiles.{IsThere, key_in}
use Rattle.cics_units.specs.Opening.FilesImages.{cell_of}
use Rattle.cics_units.specs.Opening.StoreMatching.{StoreValue, AnyImage, StoreWithImages, shown_store, cell_of_any, any_holds}
use Rattle.cics_units.specs.ImageRows.{kept_by}
use Rattle.cics_history.specs.Records.{file_of, key_of}
use Rattle.cics_units.specs.TableInPlace.{value_of}
use Rattle.cics_history.specs.declared.ops.Op.{Op}
use Rattle.cics_history.specs.declared.ops.Op.TheVariants.{Write, Rewrite, Delete, DeleteGeneric, ReadUpdate, TsWrite, TsRewrite, TsDelete, TdWrite, TdRead, TdDelete}
use Rattle.cics_units.specs.Opening.FilesImages.{FilesImage}

-- the store and the images, the table of enqueues, and the open update reads
pub record CoreValue : Type 0 where
  pub stores : StoreWithImages
  pub table : Table
  pub reads : List UpdateRead

-- the store with room for more images: it holds what it held, and each unit has the images that it
-- had
pub record AreRoomier (old new : StoreWithImages) : Type 0 where
  pub store : new.store ≡ old.store
  pub kept : (w : ℕ) → kept_by new.images w ≡ kept_by old.images w
  pub longer : length old.images ≤ length new.images

-- a file is recoverable if its definition says so
abbrev pub is_recoverable_in : Option FileValue → Bool
is_recoverable_in None = false
is_recoverable_in (Some f) = f.definition.recoverable

-- the file is there, the record fits it, and has this key
abbrev pub IsRecordOf : Option FileValue → Bytes → Bytes → Type 0
IsRecordOf None k r = ⊥
IsRecordOf (Some f) k r = IsTrue (fits_file f.definition r) × (key_in f r ≡ k)

-- a command on a file acts on one that is there, and what it writes fits
abbrev pub IsFitFileOp : Map FileValue → Op → Type 0
IsFitFileOp files (Write f k r) = IsRecordOf (value_at f files) k r
IsFitFileOp files (Rewrite f k r) = IsRecordOf (value_at f files) k r
IsFitFileOp files (Delete f k) = IsThere (value_at f files)
IsFitFileOp files (DeleteGeneric f p) = IsThere (value_at f files)
IsFitFileOp files (ReadUpdate f k) = IsThere (value_at f files)
IsFitFileOp files (TsWrite q d) = ⊥
IsFitFileOp files (TsRewrite q n d) = ⊥
IsFitFileOp files (TsDelete q) = ⊥
IsFitFileOp files (TdWrite q d) = ⊥
IsFitFileOp files (TdRead q) = ⊥
IsFitFileOp files (TdDelete q) = ⊥

-- a command acts on what is there, and what it writes fits
abbrev pub IsFitOp : StoreValue → Op → Type 0
IsFitOp s (TsWrite q d) = Unit {0}
IsFitOp s (TsRewrite q n d) = Unit {0}
IsFitOp s (TsDelete q) = Unit {0}
IsFitOp s (TdWrite q d) = IsSome (value_at q s.trans_data)
IsFitOp s (TdRead q) = IsSome (value_at q s.trans_data)
IsFitOp s (TdDelete q) = IsSome (value_at q s.trans_data)
IsFitOp s op = IsFitFileOp s.files op

-- the first record that a unit may read, of a queue that is there
abbrev pub first_in : Option TransState → Bool → Option Bytes
first_in None own = None
first_in (Some queue) own = first_of queue own

-- the record that a command is answered: READ UPDATE's, or READQ TD's, which may be one that the
-- unit wrote itself
abbrev pub given_record : StoreValue → Bool → Op → Option Bytes
given_record s own (ReadUpdate f k) = (apply (shown_store s) (ReadUpdate f k)).answer.content
given_record s own (TdRead q) = first_in (value_at q s.trans_data) own
given_record s own _ = None

-- the image of a change of a file, if there is one
abbrev pub image_if : Bytes → Option ImageValue → List FilesImage
image_if f None = []
image_if f (Some i) = record { name = f; image = i } ∷ []

-- the images with more of a file, stored one after another, newest first
abbrev pub with_stored : Bytes → List ImageValue → List FilesImage → List FilesImage
with_stored f [] is = is
with_stored f (i ∷ more) is = with_stored f more (record { name = f; image = i } ∷ is)

-- how many records of a file have keys that begin with a prefix
abbrev pub most_in : Bytes → Option FileValue → ℕ
most_in p None = 0
most_in p (Some f) = length (under p f.records)

-- how many images a command makes at most
abbrev pub most_images : Map FileValue → Op → ℕ
most_images files (DeleteGeneric f p) = most_in p (value_at f files)
most_images files op = 1

-- whether a cell is a key of a file that begins with a prefix
abbrev pub is_below_prefix : Bytes → Bytes → Option (Bytes × Cell) → Bool
is_below_prefix f p None = false
is_below_prefix f p (Some e) = is_same f e.0 && has_prefix p e.1

-- the cells of files that a command leaves: for DELETE GENERIC each that is no key under its
-- prefix, else each that isn't its key
abbrev pub leaves : Op → Cell → Bool
leaves (DeleteGeneric f p) c = not (is_below_prefix f p (split c))
leaves op c = is_other (cell_of (file_of op) (key_of op)) c

-- the cells of the store that a command on a file leaves: any cell of a queue, and of the files
-- those above
abbrev pub leaves_any : Op → Cell → Bool
leaves_any op c = by_part true (leaves op) (λ q. true) (λ q. true) c

-- images of files among those of the store
abbrev pub of_files : List FilesImage → List AnyImage
of_files is = map File is

-- at a cell that none of these images is of, something is held back only if it was before
abbrev pub IsHeldAsBefore : StoreValue → StoreValue → List AnyImage → Type 0
IsHeldAsBefore old new images = (c : Cell) → is_unnamed cell_of_any images c ≡ true → any_holds new c ≡ true → any_holds old c ≡ true

-- a unit has acquired a value, and has its list of images
pub record AreEnqueued (old new : CoreValue) (unit : ℕ) (value : Bytes) : Type 0 where
  pub stores : AreRoomier old.stores new.stores
  pub begun : unit < length new.stores.images
  pub table : new.table ≡ taken old.table (value_of value) unit
  pub reads : new.reads ≡ old.reads

-- a refused call leaves the store, the table and the reads, and may leave more room
pub record IsCoreAsBefore (old new : CoreValue) : Type 0 where
  pub stores : AreRoomier old.stores new.stores
  pub table : new.table ≡ old.table
  pub reads : new.reads ≡ old.reads
