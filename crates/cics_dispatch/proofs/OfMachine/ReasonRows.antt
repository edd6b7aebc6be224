-- Worked examples of checks: which a command of T1 fails first, and the event that tells it.
use Rattle.std.specs.Prelude.{◌≡◌, true, false, Option, Some, None, map, List, [], ◌∷◌, refl}
use Rattle.cics_names.specs.declared.conditions.Condition.TheVariants.{Normal, Dsiderr, Invreq}
use Rattle.cics_history.specs.State.{OpeningState}
use Rattle.cics_history.specs.Openings.{initial_opening, with_file}
use Rattle.cics_names.specs.declared.commands.Verb.{Verb}
use Rattle.cics_names.specs.declared.commands.Verb.TheVariants.{Read, Write, Rewrite, Delete, StartBr, ResetBr, ReadNext, ReadPrev, EndBr, WriteqTs, WriteqTd, ReadqTd, DeleteqTd, Enq, Deq}
use Rattle.cics_dispatch.specs.Machine.Checks.{reason_for}
use Rattle.cics_dispatch.specs.Machine.Events.{played}
use Rattle.cics_dispatch.specs.declared.machine.events.Event.{Event as RegionEvent}
use Rattle.cics_dispatch.specs.declared.machine.events.Event.TheVariants.{Issued, Refused}
use Rattle.cics_dispatch.specs.declared.machine.events.Request.TheVariants.{Issue}
use Rattle.cics_dispatch.specs.declared.machine.events.Subject.TheVariants as subject
use Rattle.cics_dispatch.specs.declared.machine.outcomes.Refused.TheVariants.{NoTask}
use Rattle.cics_dispatch.specs.declared.machine.reasons.Reason.{Reason}
use Rattle.cics_dispatch.specs.declared.machine.reasons.Reason.TheVariants.{FileNotDefined, QueueNotDefined, UpdateNotByKey, KeyLengthDiffers, KeySize, PrefixTooLong, PrefixEmpty, NoRidfld, LengthNotInFrom, RecordTooShort, RecordTooLong, ItemSize, ValueSize, ValueTooShort, UpdateReadOpen, NoUpdateRead, KeyIsNotRidfld, KeyIsNotRead, BrowseOpen, NoBrowse, BrowseIsGeneric}
use Rattle.cics_dispatch.proofs.OfMachine.Examples.{acct, rq, tdq1, t1, t3, zeros, key_1, key_2, record_1, record_2, keyed, both_files, files_and_queues, read, read_update, write, delete, replied, abend}
use Rattle.cics_dispatch.proofs.OfMachine.Journal.{Event, at_end, two_tasks}
use Rattle.cics_dispatch.proofs.OfMachine.Journal.Event.{does}

-- the first check that each of these commands fails after these events
abbrev why : OpeningState → List Event → List Verb → List (Option Reason)
why o events verbs = map (reason_for (at_end o events) t1) verbs

-- a name that isn't defined comes before every other check
not_defined : why files_and_queues [] (read t1 zeros ∷ WriteqTd t1 [] None ∷ ReadqTd t1 None false ∷ DeleteqTd t1 ∷ []) ≡ Some FileNotDefined ∷ Some QueueNotDefined ∷ Some QueueNotDefined ∷ Some QueueNotDefined ∷ []
not_defined = refl

-- the key: KEYLENGTH comes before its own length
keys : why both_files [] (
    Read acct zeros (Some 4) None false false false ∷ read acct zeros ∷ Read acct record_1 None None true false false ∷ Read acct zeros None None true false false
    ∷ delete acct record_1 ∷ Delete acct (Some []) None true ∷ Delete acct None (Some 4) false ∷ Delete acct None None true ∷ []
    ) ≡ Some KeyLengthDiffers ∷ Some KeySize ∷ Some PrefixTooLong ∷ None ∷ Some KeySize ∷ Some PrefixEmpty ∷ Some NoRidfld ∷ Some NoRidfld ∷ []
keys = refl

-- READ UPDATE is by a full key, and that comes before the key
by_key : why both_files [] (Read acct zeros (Some 4) None true false true ∷ Read acct key_1 None None false true true ∷ read_update acct zeros ∷ read_update acct key_1 ∷ []) ≡ Some UpdateNotByKey ∷ Some UpdateNotByKey ∷ Some KeySize ∷ None ∷ []
by_key = refl

-- FROM: LENGTH comes before the record that it makes, and both before the key in it
abbrev five_bytes : OpeningState
five_bytes = with_file initial_opening acct (record (keyed true) { record_size = 5 })

records : why five_bytes [] (
    write acct zeros [] ∷ Write acct key_1 None [] (Some 1) ∷ Write acct key_1 None record_2 (Some 0) ∷ write acct key_1 zeros ∷ write acct key_1 record_2
    ∷ Write acct key_1 None record_2 (Some 5) ∷ Write acct key_2 None record_2 (Some 5) ∷ []
    ) ≡ Some KeySize ∷ Some LengthNotInFrom ∷ Some LengthNotInFrom ∷ Some RecordTooShort ∷ Some RecordTooLong ∷ Some KeyIsNotRidfld ∷ None ∷ []
records = refl

items : why files_and_queues [] (WriteqTs rq zeros (Some 4) None ∷ WriteqTs rq [] None None ∷ WriteqTd tdq1 zeros (Some 0) ∷ WriteqTd tdq1 [] None ∷ []) ≡ Some LengthNotInFrom ∷ Some ItemSize ∷ Some LengthNotInFrom ∷ Some ItemSize ∷ []
items = refl

values : why both_files [] (Enq zeros 0 false ∷ Enq zeros 256 false ∷ Deq zeros 4 ∷ Deq zeros 3 ∷ []) ≡ Some ValueSize ∷ Some ValueSize ∷ Some ValueTooShort ∷ None ∷ []
values = refl

-- the update read: of a REWRITE the record comes first, and the key in it last
without_read : why both_files [] (Rewrite acct [] None ∷ Rewrite acct record_1 None ∷ Delete acct None None false ∷ []) ≡ Some RecordTooShort ∷ Some NoUpdateRead ∷ Some NoUpdateRead ∷ []
without_read = refl

with_read : why both_files (does t1 (read_update acct key_1) ∷ []) (
    read_update acct zeros ∷ read_update acct key_2 ∷ read acct key_2 ∷ Rewrite acct zeros None ∷ Rewrite acct record_2 None ∷ Rewrite acct record_1 None ∷ Delete acct None None false ∷ []
    ) ≡ Some KeySize ∷ Some UpdateReadOpen ∷ None ∷ Some RecordTooShort ∷ Some KeyIsNotRead ∷ None ∷ None ∷ []
with_read = refl

-- the browse
without_browse : why both_files [] (ResetBr acct zeros None false false ∷ ResetBr acct key_1 None false false ∷ ReadNext acct None ∷ ReadPrev acct None ∷ EndBr acct ∷ []) ≡ Some KeySize ∷ Some NoBrowse ∷ Some NoBrowse ∷ Some NoBrowse ∷ Some NoBrowse ∷ []
without_browse = refl

with_browse : why both_files (does t1 (StartBr acct zeros None true false) ∷ []) (
    StartBr acct zeros None false false ∷ StartBr acct key_1 None false false ∷ ReadPrev acct None ∷ ReadNext acct None ∷ []
    ) ≡ Some KeySize ∷ Some BrowseOpen ∷ Some BrowseIsGeneric ∷ None ∷ []
with_browse = refl

-- the event of a command tells the check that it fails, handled or not, and else none
abbrev issues : Verb → RegionEvent
issues verb = (played (two_tasks both_files) (Issue t1 (record { verb = verb; resp = true }))).event

told_handled : issues (write acct key_1 record_2) ≡ Issued t1 (replied Invreq) (Some KeyIsNotRidfld)
told_handled = refl

told_abend : (played (two_tasks both_files) (Issue t1 (record { verb = read t1 key_1; resp = false }))).event ≡ Issued t1 (abend 0xC9 0xD3 Dsiderr) (Some FileNotDefined)
told_abend = refl

told_none : issues (write acct key_2 record_2) ≡ Issued t1 (replied Normal) None
told_none = refl

-- a refused command failed no check
refused_none : (played (two_tasks both_files) (Issue t3 (record { verb = read acct zeros; resp = true }))).event ≡ Refused (subject.Task t3) NoTask
refused_none = refl
