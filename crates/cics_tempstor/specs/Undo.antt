-- Recovery: what the before images of temporary storage mean, and what undoing one does.
use Rattle.std.specs.Prelude.{◌≡◌, ◌-◌, ℕ, Bool, true, not, ◌&&◌, if◌then◌else◌, Option, Some, None, unwrap_or, nat_lt, length, [], take, slice_index_or}
use Rattle.cics_names.specs.Keyed.{Bytes, Map, has_key, with_value}
use Rattle.cics_images.specs.Cells.{Cell, Content}
use Rattle.cics_images.specs.Turns.{IsImageOf}
use Rattle.cics_tempstor.specs.declared.images.Before.{Before}
use Rattle.cics_tempstor.specs.declared.images.Before.TheVariants.{Added, Replaced, Taken}
use Rattle.cics_tempstor.specs.declared.images.TsImage.{TsImage}
use Rattle.cics_tempstor.specs.declared.queue_rows.Row.{Row}
use Rattle.cics_tempstor.specs.Queues.{Queue, most_items, is_there, has_item, row_at, queue_at, items_after_rewrite}

-- a queue as what a cell contains: nothing if it is absent
abbrev pub content_of : Queue → Content
content_of items = if is_there items then Some items else None

-- the queue that a cell contains
abbrev pub queue_of : Content → Queue
queue_of content = unwrap_or content []

-- the cells of temporary storage are names, each with a queue or nothing
abbrev pub content_at : Map Row → Cell → Content
content_at rows q = content_of (queue_at q rows)

-- the items without the last
abbrev pub without_last : Queue → Queue
without_last items = take (length items - 1) items

-- an undo removes the last item, puts the old item back, or brings the whole queue back
abbrev pub queue_before : Before → Queue → Queue
queue_before Added items = without_last items
queue_before (Replaced n old) items = items_after_rewrite items n old
queue_before (Taken old) items = old

-- what the change left is there: the item that was added or put in, or no queue after a delete
abbrev pub StandsFor : Before → Queue → Type 0
StandsFor Added items = is_there items ≡ true
StandsFor (Replaced n old) items = has_item items n ≡ true
StandsFor (Taken old) items = items ≡ []

-- the cell that an image names
abbrev pub name_of_image : TsImage → Cell
name_of_image image = image.name

-- an image leads from what its cell has now back to what it had before
abbrev pub Leads : TsImage → Content → Content → Type 0
Leads image after before =
    StandsFor image.before (queue_of after) × (before ≡ content_of (queue_before image.before (queue_of after)))

-- an image is ready if its queue is what the change left, and its row is there
pub record IsReadyImage (rows : Map Row) (image : TsImage) : Type 0 where
  pub has_row : has_key image.name rows ≡ true
  pub stands : StandsFor image.before (queue_at image.name rows)

-- a row after an undo: the NEXT cursor stays
abbrev pub row_undone : Before → Row → Row
row_undone before row = record { items = queue_before before row.items; next = row.next }

-- the rows after an undo; if it removes the only item, an empty row stays for older images of the
-- name
abbrev pub undone : Map Row → TsImage → Map Row
undone rows image = with_value image.name (row_undone image.before (row_at image.name rows)) rows

-- the rows after the queue of a name was led back, if the name has a row
abbrev pub undone_at : Map Row → Bytes → Before → Map Row
undone_at rows q before =
    if has_key q rows then with_value q (row_undone before (row_at q rows)) rows else rows

-- a name holds a row back if it has one without an item
abbrev pub holds_row : Map Row → Cell → Bool
holds_row rows q = has_key q rows && not (is_there (queue_at q rows))

-- at the names that pass, the second has the queues of the first, and a row wherever the first has
-- one. NEXT cursors may differ
pub record KeepsQueues (p : Cell → Bool) (f g : Map Row) : Type 0 where
  pub queues : (q : Cell) → p q ≡ true → queue_at q g ≡ queue_at q f
  pub rows : (q : Cell) → p q ≡ true → has_key q f ≡ true → has_key q g ≡ true

-- the image of a change of the queue, from old to new
abbrev pub IsTsImage : Map Row → Map Row → Cell → TsImage → Type 0
IsTsImage old new q image =
    IsImageOf content_at name_of_image Leads IsReadyImage undone KeepsQueues old new q image

-- the image of a change, if one is stored
abbrev pub image_if : Bool → Bytes → Before → Option TsImage
image_if keep q before = if keep then Some (record { name = q; before = before }) else None

-- the image of a WRITEQ TS that was NORMAL, if one is stored
abbrev pub written_image : Bool → Bytes → Queue → Option TsImage
written_image keep q items = if nat_lt (length items) most_items then image_if keep q Added else None

-- the item of a number that is there
abbrev pub item_at : Queue → ℕ → Bytes
item_at items n = slice_index_or items (n - 1) []

-- the image of a WRITEQ TS REWRITE that was NORMAL, if one is stored: the old item
abbrev pub rewritten_image : Bool → Bytes → Queue → ℕ → Option TsImage
rewritten_image keep q items n = if has_item items n then image_if keep q (Replaced n (item_at items n)) else None

-- the image of a DELETEQ TS that was NORMAL, if one is stored: the whole queue
abbrev pub deleted_image : Bool → Bytes → Queue → Option TsImage
deleted_image keep q items = if is_there items then image_if keep q (Taken items) else None
