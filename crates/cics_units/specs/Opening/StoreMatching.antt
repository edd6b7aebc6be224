-- Recovery: files, temporary storage and transient data as one value, the store in place, and the
-- before images of it. Images of keys and of temporary storage queues stand for changes of cells.
-- Those of transient data stand for marks at the ends of LOGICAL queues.
use Rattle.std.specs.Prelude.{◌≡◌, Bool, false, Some, None, List, [], ◌∷◌, map}
use Rattle.cics_names.specs.Keyed.{Bytes, Map}
use Rattle.cics_images.specs.Cells.{Kept, Content as Shown}
use Rattle.cics_images.specs.Cells as images
use Rattle.cics_images.specs.NamedValues.{cell_of as value_cell, named_content, named_cell, IsNamedReady, named_undone, NamedKeep}
use Rattle.cics_images.specs.StoreCells.{file_cell, temp_cell, trans_cell, image_cell, image_leads, stores_content, IsStoresReady, stores_undone, stores_swept, stores_hold, StoresKeep}
use Rattle.cics_images.specs.declared.named.NamedImage.{NamedImage}
use Rattle.cics_images.specs.declared.stores.Stores.{Stores}
use Rattle.cics_images.specs.declared.stores.StoreImage.{StoreImage}
use Rattle.cics_images.specs.declared.stores.StoreImage.TheVariants.{File, TempStorage, TransData}
use Rattle.cics_ksds.specs.Files.{FileValue}
use Rattle.cics_ksds.specs.Undo.{Leads as FileLeads}
use Rattle.cics_tempstor.specs.declared.images.TsImage.{TsImage}
use Rattle.cics_tempstor.specs.declared.queue_rows.Row.{Row}
use Rattle.cics_tempstor.specs.Queues.{queues_of, ts_swept}
use Rattle.cics_tempstor.specs.Undo.{content_at as queue_content, name_of_image, Leads as QueueLeads, IsReadyImage as IsQueueReady, undone as rows_undone, holds_row, KeepsQueues}
use Rattle.cics_transdata.specs.declared.images.TdImage.{TdImage}
use Rattle.cics_transdata.specs.Trans.{TransState, queue_of}
use Rattle.cics_transdata.specs.Undo.{reading_end, writing_end, end_of, content_at as end_content, Leads as EndLeads, IsReadyImage as IsEndReady, undone as queue_undone, KeepsEnds}
use Rattle.cics_history.specs.State.{Store}
use Rattle.cics_history.specs.Cells.{Cell, Key, Ts, Td, Content, End, Reading, Writing}
use Rattle.cics_history.specs.Undo.{Image}
use Rattle.cics_history.specs.MarkImages.{MarkImage, queue_of as queue_of_mark}
use Rattle.cics_history.specs.Carried.{Carries}
use Rattle.cics_units.specs.Opening.FilesImages.{FilesImage, cell_of_image, files_content, files_hold, files_swept, IsReadyFor, files_undone, FilesKeep}

-- the store in place: the files by name, the rows of temporary storage and the transient data
-- queues by name
abbrev pub StoreValue : Type 0
StoreValue = Stores (Map FileValue) (Map Row) (Map TransState)

-- an image of a change of one of the transient data queues
abbrev pub QueuesImage : Type 0
QueuesImage = NamedImage TdImage

-- an image of a change of the store in place
abbrev pub AnyImage : Type 0
AnyImage = StoreImage FilesImage TsImage QueuesImage

-- the files and queues in place, and the images of each unit by its number
pub record StoreWithImages : Type 0 where
  pub store : StoreValue
  pub images : List (Kept AnyImage)

-- what the store in place shows of each file and queue
abbrev pub shown_store : StoreValue → Store
shown_store s = record {
  files = map (λ e. (e.0, e.1.records)) s.files;
  ts = queues_of s.temp_storage;
  td = map (λ e. (e.0, queue_of e.1)) s.trans_data;
}

-- what is shown of the content of a cell: its records, or none if there is no record
abbrev pub shown_records : Content → Shown
shown_records None = None
shown_records (Some []) = None
shown_records (Some (r ∷ rs)) = Some (r ∷ rs)

-- an end of a transient data queue, among the cells of a queue
abbrev pub end_cell : End → images.Cell
end_cell Reading = reading_end
end_cell Writing = writing_end

-- an end of a transient data queue, among the cells of the store in place
abbrev pub bytes_of_end : Bytes → End → images.Cell
bytes_of_end q end = trans_cell (value_cell q (end_cell end))

-- a cell of the definitions' store, among the cells of the store in place; no image is of a
-- transient data queue as a whole
abbrev pub bytes_of : Cell → images.Cell
bytes_of (Key f k) = file_cell (value_cell f k)
bytes_of (Ts q) = temp_cell q
bytes_of (Td q) = trans_cell (value_cell q [])

-- the cell of an image
abbrev pub cell_of_any : AnyImage → images.Cell
cell_of_any i = image_cell cell_of_image name_of_image (λ i. named_cell end_of i) i

-- an image leads from what its cell has now back to what it had before
abbrev pub AnyLeads : AnyImage → Shown → Shown → Type 0
AnyLeads i after before = image_leads (λ i. FileLeads i.image) QueueLeads (λ i. EndLeads i.image) i after before

-- what a cell of the store in place contains
abbrev pub any_content : StoreValue → images.Cell → Shown
any_content s c = stores_content files_content queue_content (λ s c. named_content end_content s c) s c

-- an image is ready to be undone in the store in place
abbrev pub IsAnyReady : StoreValue → AnyImage → Type 0
IsAnyReady s i = IsStoresReady IsReadyFor IsQueueReady (λ s i. IsNamedReady IsEndReady s i) s i

-- the store in place after an image is undone
abbrev pub any_undone : StoreValue → AnyImage → StoreValue
any_undone s i = stores_undone files_undone rows_undone (λ s i. named_undone queue_undone s i) s i

-- the store in place after a cell is swept; of transient data nothing is held back, so that stays
abbrev pub any_swept : StoreValue → images.Cell → StoreValue
any_swept s c = stores_swept files_swept ts_swept (λ s c. s) s c

-- whether something is held back at a cell: an empty slot or an empty row, and nothing of transient
-- data
abbrev pub any_holds : StoreValue → images.Cell → Bool
any_holds s c = stores_hold files_hold holds_row (λ s c. false) s c

-- at the cells that pass, the second store has what the first has, and what an undo there needs
abbrev pub AnyKeep : (images.Cell → Bool) → StoreValue → StoreValue → Type 0
AnyKeep p s n = StoresKeep FilesKeep KeepsQueues (λ p s n. NamedKeep KeepsEnds p s n) p s n

-- the image undoes the change of its cell
pub record IsImageOfChange (change : Image) (image : AnyImage) : Type 0 where
  pub cell : cell_of_any image ≡ bytes_of change.cell
  pub leads : AnyLeads image (shown_records change.made) (shown_records change.before)

-- the image of a queue undoes the marks
pub record IsImageOfMark (mark : MarkImage) (image : QueuesImage) : Type 0 where
  pub queue : image.name ≡ queue_of_mark mark
  pub carries : Carries image.image mark

-- the images, newest first, stand for these changes and marks, in turn. One of a key or a temporary
-- storage queue stands for the next change, one of a transient data queue for the next mark
abbrev pub AreImagesOf : List Image → List MarkImage → List AnyImage → Type 0
AreImagesOf cs ms [] = (cs ≡ []) × (ms ≡ [])
AreImagesOf [] ms (File i ∷ is) = ⊥
AreImagesOf (c ∷ cs) ms (File i ∷ is) = IsImageOfChange c (File i) × AreImagesOf cs ms is
AreImagesOf [] ms (TempStorage i ∷ is) = ⊥
AreImagesOf (c ∷ cs) ms (TempStorage i ∷ is) = IsImageOfChange c (TempStorage i) × AreImagesOf cs ms is
AreImagesOf cs [] (TransData i ∷ is) = ⊥
AreImagesOf cs (m ∷ ms) (TransData i ∷ is) = IsImageOfMark m i × AreImagesOf cs ms is
