-- The checks of a command before it looks at what other units own. The order is: the file or queue
-- that it names is defined; the length of its key; the length of its FROM or RESOURCE; the update
-- read and the browse of its task; the key in its record. The first check that fails is answered by
-- its condition, and takes no memory.
use Rattle.std.specs.Prelude.{ℕ, Bool, not, ◌&&◌, ◌||◌, Option, Some, None, option_map, is_some, is_none, nat_le, length, [], ◌∷◌}
use Rattle.cics_names.specs.Commands.{file_named}
use Rattle.cics_names.specs.Keyed.{Bytes, value_at, has_key}
use Rattle.cics_names.specs.declared.conditions.Condition.{Condition}
use Rattle.cics_ksds.specs.declared.definition.FileDef.{FileDef}
use Rattle.cics_browse.specs.Positions.{Position}
use Rattle.cics_history.specs.Execution.{has_read, is_item}
use Rattle.cics_dispatch.specs.Machine.Lengths.{unless, first_reason, key_reason, is_within, used_of, from_reason, own_key_reason, write_reason}
use Rattle.cics_dispatch.specs.Machine.Machine.{Machine, Task, task_at, definition_of}
use Rattle.cics_dispatch.specs.Machine.Reasons.{condition_of}
use Rattle.cics_dispatch.specs.declared.machine.reasons.Reason.{Reason}
use Rattle.cics_dispatch.specs.declared.machine.reasons.Reason.TheVariants.{FileNotDefined, QueueNotDefined, UpdateNotByKey, PrefixEmpty, NoRidfld, LengthNotInFrom, ItemSize, ValueSize, ValueTooShort, UpdateReadOpen, NoUpdateRead, KeyIsNotRead, BrowseOpen, NoBrowse, BrowseIsGeneric}
use Rattle.cics_names.specs.declared.commands.Verb.{Verb}
use Rattle.cics_names.specs.declared.commands.Verb.TheVariants.{Read, Write, Rewrite, Delete, StartBr, ResetBr, ReadNext, ReadPrev, EndBr, WriteqTs, WriteqTd, ReadqTd, DeleteqTd, Enq, Deq}

-- the file is defined, before every other check
abbrev pub defined_reason : Option FileDef → (FileDef → Option Reason) → Option Reason
defined_reason None check = Some FileNotDefined
defined_reason (Some d) check = check d

-- the transient data queue is defined, before every other check
abbrev pub queue_reason : Machine → Bytes → Option Reason
queue_reason m q = unless (has_key q m.units.opening.queues) QueueNotDefined

-- an item or a transient data record: LENGTH is from 1 to the length of FROM, and it has a byte and
-- not too many
abbrev pub item_reason : Bytes → Option ℕ → Option Reason
item_reason from n = first_reason (unless (is_within from n) LengthNotInFrom ∷ unless (is_item (used_of from n)) ItemSize ∷ [])

-- ENQ and DEQ: LENGTH is 1 to 255, and not above the length of the value as written
abbrev pub resource_reason : Bytes → ℕ → Option Reason
resource_reason value n = first_reason (unless (nat_le 1 n && nat_le n 255) ValueSize ∷ unless (nat_le n (length value)) ValueTooShort ∷ [])

-- the key of the task's open update read of a file
abbrev pub open_key : Machine → Task → Bytes → Option Bytes
open_key m t f = has_read m.units t.unit f

-- READ: UPDATE without GTEQ and GENERIC; the length of its key; with UPDATE no open update read of
-- the file
abbrev pub read_reason : FileDef → Option Bytes → Bytes → Option ℕ → Bool → Bool → Bool → Option Reason
read_reason d open_read key given generic gteq update =
    first_reason (
    unless (not (update && (gteq || generic))) UpdateNotByKey
    ∷ key_reason d key given generic
    ∷ unless (not (update && is_some open_read)) UpdateReadOpen
    ∷ []
    )

-- REWRITE: the length of its record; an update read that is open; the key in the record is the one
-- that was read
abbrev pub rewrite_reason : FileDef → Option Bytes → Bytes → Option ℕ → Option Reason
rewrite_reason d None from n = first_reason (from_reason d from n ∷ Some NoUpdateRead ∷ [])
rewrite_reason d (Some key) from n = first_reason (from_reason d from n ∷ own_key_reason d key from n KeyIsNotRead ∷ [])

-- DELETE with RIDFLD: the length of its key, with GENERIC no fewer than one byte
abbrev pub deleted_key_reason : FileDef → Bytes → Option ℕ → Bool → Option Reason
deleted_key_reason d key given generic =
    first_reason (key_reason d key given generic ∷ unless (nat_le 1 (length key) || not generic) PrefixEmpty ∷ [])

-- DELETE without RIDFLD: neither KEYLENGTH nor GENERIC, and an open update read
abbrev pub deleted_read_reason : Option Bytes → Option ℕ → Bool → Option Reason
deleted_read_reason open_read given generic =
    first_reason (unless (is_none given && not generic) NoRidfld ∷ unless (is_some open_read) NoUpdateRead ∷ [])

-- DELETE: with RIDFLD, or without it
abbrev pub delete_reason : FileDef → Option Bytes → Option Bytes → Option ℕ → Bool → Option Reason
delete_reason d open_read (Some key) given generic = deleted_key_reason d key given generic
delete_reason d open_read None given generic = deleted_read_reason open_read given generic

-- READNEXT, RESETBR and ENDBR: a browse of the file is open
abbrev pub browse_reason : Option Position → Option Reason
browse_reason browse = unless (is_some browse) NoBrowse

-- READPREV: a browse of the file is open, whose last STARTBR or RESETBR had no GENERIC
abbrev pub back_reason : Option Position → Option Reason
back_reason None = Some NoBrowse
back_reason (Some p) = unless (not p.generic) BrowseIsGeneric

-- STARTBR: the length of its key, then that no browse of the file is open
abbrev pub startbr_reason : FileDef → Option Position → Bytes → Option ℕ → Bool → Option Reason
startbr_reason d browse key given generic =
    first_reason (key_reason d key given generic ∷ unless (is_none browse) BrowseOpen ∷ [])

-- RESETBR: the length of its key, then that a browse of the file is open
abbrev pub resetbr_reason : FileDef → Option Position → Bytes → Option ℕ → Bool → Option Reason
resetbr_reason d browse key given generic =
    first_reason (key_reason d key given generic ∷ browse_reason browse ∷ [])

-- the first check that fails of a command of a browse, from the task's browse of the file
abbrev pub browsing_reason : FileDef → Option Position → Verb → Option Reason
browsing_reason d browse (StartBr f key given generic equal) = startbr_reason d browse key given generic
browsing_reason d browse (ResetBr f key given generic equal) = resetbr_reason d browse key given generic
browsing_reason d browse (ReadNext f n) = browse_reason browse
browsing_reason d browse (ReadPrev f n) = back_reason browse
browsing_reason d browse (EndBr f) = browse_reason browse
browsing_reason d browse _ = None

-- the first check that fails of a command on a defined file, by the key of the open update read and
-- the browse of it
abbrev pub file_reason : FileDef → Option Bytes → Option Position → Verb → Option Reason
file_reason d open_read browse (Read f key given n generic gteq update) =
    read_reason d open_read key given generic gteq update
file_reason d open_read browse (Write f key given from n) = write_reason d key given from n
file_reason d open_read browse (Rewrite f from n) = rewrite_reason d open_read from n
file_reason d open_read browse (Delete f key given generic) = delete_reason d open_read key given generic
file_reason d open_read browse verb = browsing_reason d browse verb

-- the check of ENQ or DEQ
abbrev pub value_reason : Verb → Option Reason
value_reason (Enq value n nosuspend) = resource_reason value n
value_reason (Deq value n) = resource_reason value n
value_reason _ = None

-- the first check that fails of a command that names no file
abbrev pub other_reason : Machine → Verb → Option Reason
other_reason m (WriteqTs q from n item) = item_reason from n
other_reason m (WriteqTd q from n) = first_reason (queue_reason m q ∷ item_reason from n ∷ [])
other_reason m (ReadqTd q n nosuspend) = queue_reason m q
other_reason m (DeleteqTd q) = queue_reason m q
other_reason m verb = value_reason verb

-- the first check that fails of a command that names this file, or no file
abbrev pub named_reason : Machine → Task → Verb → Option Bytes → Option Reason
named_reason m t verb None = other_reason m verb
named_reason m t verb (Some f) =
    defined_reason (definition_of m f) (λ d. file_reason d (open_key m t f) (value_at f t.browses) verb)

-- the first check that fails of a command: why it is answered
abbrev pub reason_of : Machine → Task → Verb → Option Reason
reason_of m t verb = named_reason m t verb (file_named verb)

-- the condition that answers it
abbrev pub fault_of : Machine → Task → Verb → Option Condition
fault_of m t verb = option_map condition_of (reason_of m t verb)

-- the first check that fails of a command of this task, if there is such a task
abbrev pub reason_by : Machine → Verb → Option Task → Option Reason
reason_by m verb None = None
reason_by m verb (Some t) = reason_of m t verb

-- the first check that fails of a command of a label's task
abbrev pub reason_for : Machine → Bytes → Verb → Option Reason
reason_for m label verb = reason_by m verb (task_at m.tasks label)
