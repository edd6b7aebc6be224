-- Recovery: what one updating command makes of the store in place, as the definition `apply` says,
-- and the images that undo it.
use Rattle.std.specs.Prelude.{◌≡◌, ℕ, zero, suc, Bool, true, false, if◌then◌else◌, not, T, Option, Some, None, IfSome, List, [], ◌++◌, MatchBool}
use Rattle.cics_names.specs.Keyed.{Bytes, Map, value_at, is_rising}
use Rattle.cics_images.specs.Cells.{Cell, AreReadyInTurn, is_other}
use Rattle.cics_images.specs.NamedValues.{changed_at}
use Rattle.cics_images.specs.StoreCells.{temp_cell}
use Rattle.cics_ksds.specs.Files.{FileValue, IsContent}
use Rattle.cics_transdata.specs.Trans.{TransState, IsMarked, is_logical}
use Rattle.cics_history.specs.Store.{apply, only, numbered}
use Rattle.cics_names.specs.declared.conditions.Condition.TheVariants.{Normal, Notfnd}
use Rattle.cics_history.specs.Cells.{content}
use Rattle.cics_history.specs.Holding.{is_nothing}
use Rattle.cics_history.specs.Undo.{Image, images_by}
use Rattle.cics_history.specs.Marks.{MarkedQueue, Queues, seen, shown, marks_of}
use Rattle.cics_history.specs.MarkImages.{MarkImage, mark_images}
use Rattle.cics_history.specs.Records.{is_file_op, file_of}
use Rattle.cics_history.specs.declared.ops.Answer.{Answer}
use Rattle.cics_history.specs.declared.ops.Op.{Op}
use Rattle.cics_history.specs.declared.ops.Op.TheVariants.{ReadUpdate, TdRead}
use Rattle.cics_units.specs.Parts.{leaves_any, IsHeldAsBefore}
use Rattle.cics_units.specs.QueueChanges.{is_trans, queue_of, is_left, rows_after, trans_after}
use Rattle.cics_units.specs.Opening.StoreMatching.{StoreValue, AnyImage, shown_store, IsAnyReady, any_undone, AnyKeep, AreImagesOf}

-- ---- where a command acts
-- the file of a name is there, and is recoverable or not; the names of the files rise
pub record IsFileBound (s : StoreValue) (name : Bytes) (recovers : Bool) : Type 0 where
  pub file : FileValue
  pub there : value_at name s.files ≡ Some file
  pub recoverable : recovers ≡ file.definition.recoverable
  pub rising : T (is_rising s.files)
  pub content : IsContent file.definition file.records

-- the transient data queue of a name is there, and is LOGICAL or not
pub record IsQueueBound (s : StoreValue) (name : Bytes) (recovers : Bool) : Type 0 where
  pub queue : TransState
  pub there : value_at name s.trans_data ≡ Some queue
  pub logical : recovers ≡ is_logical queue.kind
  pub marked : IsMarked queue

-- a command's file or transient data queue is there; `recovers` says whether what it acts on is
-- recoverable
abbrev pub IsBound : StoreValue → Op → Bool → Type 0
IsBound s op recovers = MatchBool (is_file_op op) (IsFileBound s (file_of op) recovers)
    (MatchBool (is_trans op) (IsQueueBound s (queue_of op) recovers) (Unit {0}))

-- ---- what a reader sees
-- a reader sees a record exactly if the queue shows one; `own` says that the reader may read what
-- it wrote itself
abbrev pub IsSeenIn : Bool → MarkedQueue → Type 0
IsSeenIn own m = is_nothing (seen false (not own) m) ≡ is_nothing (shown m)

-- READQ TD doesn't have to wait: of a LOGICAL queue it sees a record exactly if the queue shows one
abbrev pub IsSeen : StoreValue → Op → Bool → Type 0
IsSeen s (TdRead q) own = IfSome (value_at q s.trans_data) (λ t. is_logical t.kind ≡ true → IsSeenIn own (marks_of t))
IsSeen s _ own = Unit {0}

-- the record that READ UPDATE is answered
abbrev pub read_given : StoreValue → Op → Option Bytes
read_given s (ReadUpdate f k) = (apply (shown_store s) (ReadUpdate f k)).answer.content
read_given s _ = None

-- what DELETE GENERIC is answered for this number of records
abbrev pub counted_as : ℕ → Answer
counted_as zero = only Notfnd
counted_as (suc n) = numbered Normal (Some (suc n))

-- ---- what it leaves
-- the transient data queues after a command
abbrev pub queues_after : Op → Bool → Map TransState → Map TransState
queues_after op own queues = if is_trans op then changed_at (λ t. trans_after op own t) (queue_of op) queues else queues

-- the cells that a command leaves as they were
abbrev pub spares : Op → Bool → Cell → Bool
spares op own c =
    if is_file_op op then leaves_any op c else if is_trans op then is_left op own c else is_other (temp_cell (queue_of op)) c

-- the marks of a queue, none if it isn't there
abbrev pub marks_if : Option TransState → MarkedQueue
marks_if None = record { settled = []; fresh = []; taken = 0 }
marks_if (Some t) = marks_of t

-- the marks of each queue
abbrev pub marks_in : StoreValue → Queues
marks_in s q = marks_if (value_at q s.trans_data)

-- the changes that a command makes to cells; one on transient data makes none
abbrev pub changes_of : StoreValue → Op → List Image
changes_of s op = if is_trans op then [] else images_by (shown_store s) op (content (shown_store s))

-- the changes that it makes to the marks of a transient data queue
abbrev pub marks_made : StoreValue → Op → List MarkImage
marks_made s op = if is_trans op then mark_images op (marks_in s) else []

-- the images that a command makes stand for its changes, if it acts on something recoverable; else
-- it makes none
abbrev pub AreImagesMade : StoreValue → Op → Bool → List AnyImage → Type 0
AreImagesMade s op recovers is = MatchBool recovers (AreImagesOf (changes_of s op) (marks_made s op) is) (is ≡ [])

-- a command has been applied, with this answer. The store and the answer are those of `apply`. Its
-- images are the unit's newest, and undo it. What it doesn't act on stays as it was
pub record IsApplied (old new : StoreValue) (before after : List AnyImage) (op : Op) (recovers own : Bool) (answer : Answer) : Type 0 where
  pub answered : answer ≡ (apply (shown_store old) op).answer
  pub shown : shown_store new ≡ (apply (shown_store old) op).store
  -- its images, newest first, stand for what it changed
  pub made : List AnyImage
  pub newest : after ≡ made ++ before
  pub stand : AreImagesMade old op recovers made
  -- if the unit's earlier images could be undone, newest first, all of them can now. A command on
  -- something unrecoverable has no images: then it follows from `others`, if the earlier ones are
  -- of what the command leaves
  pub ready : recovers ≡ true → AreReadyInTurn IsAnyReady any_undone old before → AreReadyInTurn IsAnyReady any_undone new after
  -- what it doesn't act on stays, with what an undo there needs
  pub others : AnyKeep (spares op own) old new
  -- no empty slot, empty row or mark is new, but at the cells of the unit's images
  pub held : IsHeldAsBefore old new after
  -- the rows of temporary storage with their NEXT cursors, and the marks of queues
  pub rows : new.temp_storage ≡ rows_after op recovers old.temp_storage
  pub queues : new.trans_data ≡ queues_after op own old.trans_data
