-- Recovery: what a command on a queue makes of it in place: the queue after it, its image, and its
-- unit's images from then on.
use Rattle.std.specs.Prelude.{◌≡◌, Bool, true, false, not, if◌then◌else◌, T, Option, Some, None, IfSome, IfNone, List, [], ◌∷◌}
use Rattle.std.specs.Str.{bytes_eq}
use Rattle.cics_names.specs.Keyed.{Bytes, Map, is_same, is_rising}
use Rattle.cics_names.specs.declared.conditions.Condition.TheVariants.{Normal}
use Rattle.cics_images.specs.Cells.{is_other}
use Rattle.cics_images.specs.Cells as images
use Rattle.cics_images.specs.NamedValues.{split, named_fixed}
use Rattle.cics_images.specs.StoreCells.{by_part}
use Rattle.cics_images.specs.declared.stores.StoreImage.TheVariants.{TransData}
use Rattle.cics_tempstor.specs.declared.images.TsImage.{TsImage}
use Rattle.cics_tempstor.specs.declared.queue_rows.Row.{Row}
use Rattle.cics_tempstor.specs.Queues.{queue_at, write_condition, write_number, item_condition, rewrite_number, delete_condition, ts_written, ts_rewritten, ts_deleted}
use Rattle.cics_tempstor.specs.Undo.{KeepsQueues, IsTsImage}
use Rattle.cics_tempstor.specs.Undo as ts
use Rattle.cics_transdata.specs.declared.images.TdImage.{TdImage}
use Rattle.cics_transdata.specs.Trans.{TransState, first_of, read_condition, trans_written, trans_read, trans_deleted}
use Rattle.cics_transdata.specs.Undo.{reading_end, writing_end, KeepsEnds, IsTransImage}
use Rattle.cics_transdata.specs.Undo as td
use Rattle.cics_history.specs.State.{OpeningState}
use Rattle.cics_history.specs.Store.{only, numbered, with_content}
use Rattle.cics_history.specs.declared.ops.Answer.{Answer}
use Rattle.cics_history.specs.declared.ops.Op.{Op}
use Rattle.cics_history.specs.declared.ops.Op.TheVariants.{TsWrite, TsRewrite, TsDelete, TdWrite, TdRead, TdDelete}
use Rattle.cics_history.specs.Cells.{End, Reading, Writing}
use Rattle.cics_units.specs.Opening.StoreMatching.{StoreValue, AnyImage, end_cell}

-- ---- which queue a command is on
-- a command on a transient data queue
abbrev pub is_trans : Op → Bool
is_trans (TdWrite q d) = true
is_trans (TdRead q) = true
is_trans (TdDelete q) = true
is_trans _ = false

-- the queue that a command is on
abbrev pub queue_of : Op → Bytes
queue_of (TsWrite q d) = q
queue_of (TsRewrite q n d) = q
queue_of (TsDelete q) = q
queue_of (TdWrite q d) = q
queue_of (TdRead q) = q
queue_of (TdDelete q) = q
queue_of _ = []

-- ---- transient data: `own` says that the unit owns the writing end, and may read what it wrote
-- the queue after a command
abbrev pub trans_after : Op → Bool → TransState → TransState
trans_after (TdWrite q d) own t = trans_written t d
trans_after (TdRead q) own t = trans_read t own
trans_after (TdDelete q) own t = trans_deleted t
trans_after _ own t = t

-- the image that the command makes
abbrev pub trans_image : Op → Bool → TransState → Option TdImage
trans_image (TdWrite q d) own t = td.written_image t
trans_image (TdRead q) own t = td.read_image t own
trans_image (TdDelete q) own t = td.deleted_image t
trans_image _ own t = None

-- its answer
abbrev pub trans_answer : Op → Bool → TransState → Answer
trans_answer (TdRead q) own t = with_content (read_condition (first_of t own)) (first_of t own)
trans_answer _ own t = only Normal

-- the end whose marks it changes
abbrev pub end_of : Op → End
end_of (TdWrite q d) = Writing
end_of _ = Reading

-- a write leaves the reading end as it is. A read leaves the writing end, unless it may take a
-- record that its own unit wrote
abbrev pub leaves_end : Op → Bool → End → Bool
leaves_end (TdWrite q d) own Reading = true
leaves_end (TdRead q) own Writing = not own
leaves_end _ own end = false

-- a cell of the queue that isn't an end which the command changes
abbrev pub is_left_end : Op → Bool → images.Cell → Bool
is_left_end op own c =
    if bytes_eq c reading_end then leaves_end op own Reading
    else if bytes_eq c writing_end then leaves_end op own Writing else true

-- the same of a cell of transient data
abbrev pub is_left_split : Op → Bool → Option (Bytes × images.Cell) → Bool
is_left_split op own None = true
is_left_split op own (Some e) = if is_same e.0 (queue_of op) then is_left_end op own e.1 else true

-- a cell of the store that isn't an end which the command changes
abbrev pub is_left : Op → Bool → images.Cell → Bool
is_left op own c = by_part true (λ c. true) (λ c. true) (λ c. is_left_split op own (split c)) c

-- a command has changed a transient data queue and made an image. The queue is what the command
-- leaves, and the image undoes the change. The ends that the command leaves have what they had;
-- without an image both ends have
pub record IsTransChange (op : Op) (own : Bool) (old new : TransState) (image : Option TdImage) : Type 0 where
  pub value : new ≡ trans_after op own old
  pub given : image ≡ trans_image op own old
  pub undoable : IfSome image (IsTransImage old new (end_cell (end_of op)))
  pub others : KeepsEnds (is_left_end op own) old new
  pub without_image : IfNone image (KeepsEnds (λ _. true) old new)

-- ---- temporary storage: `recovers` says that the queue is recoverable: a change has an image
-- the rows after a command
abbrev pub rows_after : Op → Bool → Map Row → Map Row
rows_after (TsWrite q d) recovers rows = ts_written rows q d
rows_after (TsRewrite q n d) recovers rows = ts_rewritten rows q n d
rows_after (TsDelete q) recovers rows = ts_deleted recovers rows q
rows_after _ recovers rows = rows

-- the image that the command makes
abbrev pub rows_image : Op → Bool → Map Row → Option TsImage
rows_image (TsWrite q d) recovers rows = ts.written_image recovers q (queue_at q rows)
rows_image (TsRewrite q n d) recovers rows = ts.rewritten_image recovers q (queue_at q rows) n
rows_image (TsDelete q) recovers rows = ts.deleted_image recovers q (queue_at q rows)
rows_image _ recovers rows = None

-- its answer
abbrev pub rows_answer : Op → Map Row → Answer
rows_answer (TsWrite q d) rows = numbered (write_condition (queue_at q rows)) (write_number (queue_at q rows))
rows_answer (TsRewrite q n d) rows = numbered (item_condition (queue_at q rows) n) (rewrite_number (queue_at q rows) n)
rows_answer (TsDelete q) rows = only (delete_condition (queue_at q rows))
rows_answer _ rows = only Normal

-- a command has changed temporary storage and made an image. The rows are what the command leaves,
-- the image undoes the change, and every other queue is as it was
pub record IsTempChange (op : Op) (recovers : Bool) (old new : Map Row) (image : Option TsImage) : Type 0 where
  pub rising : T (is_rising old)
  pub value : new ≡ rows_after op recovers old
  pub given : image ≡ rows_image op recovers old
  pub undoable : IfSome image (IsTsImage old new (queue_of op))
  pub others : KeepsQueues (is_other (queue_of op)) old new

-- ---- the store and the images of the units
-- the images with one more as the newest, if there is one
abbrev pub with_image : Option AnyImage → List AnyImage → List AnyImage
with_image None is = is
with_image (Some i) is = i ∷ is

-- an image of a transient data queue, among those of the store
abbrev pub in_queue : Bytes → TdImage → AnyImage
in_queue q i = TransData (record { name = q; image = i })

-- ---- the kinds of recovery
-- each transient data queue that is defined is there with its recovery, and no other queue is
abbrev pub HaveRecoveries : OpeningState → StoreValue → Type 0
HaveRecoveries o store = (q : Bytes) → named_fixed (λ t. t.kind) store.trans_data q ≡ named_fixed (λ e. e.recovery) o.queues q
