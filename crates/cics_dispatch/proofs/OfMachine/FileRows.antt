-- Worked examples of files: units backed out and committed, waiting for a record, update reads,
-- browses.
use Rattle.std.specs.Prelude.{◌≡◌, ℕ, true, false, Some, None, List, [], ◌∷◌, ◌++◌, refl}
use Rattle.cics_names.specs.Keyed.{Bytes, Map}
use Rattle.cics_names.specs.declared.conditions.Condition.TheVariants.{Normal, Dsiderr, Notfnd, Duprec, Invreq, Endfile, Lengerr}
use Rattle.cics_history.specs.State.{OpeningState}
use Rattle.cics_history.specs.Openings.{initial_opening, with_file, with_record}
use Rattle.cics_units.specs.declared.replay.listings.TaskState.TheVariants.{Idle, HasUnit, IsWaiting}
use Rattle.cics_dispatch.specs.Machine.Replies.{giving}
use Rattle.cics_dispatch.specs.Machine.Machine.{timed_out}
use Rattle.cics_dispatch.specs.Machine.Answers.{tasks_listed}
use Rattle.cics_names.specs.declared.commands.Verb.{Verb}
use Rattle.cics_names.specs.declared.commands.Verb.TheVariants.{Read, Rewrite, Delete, Unlock, StartBr, ResetBr, ReadNext, ReadPrev, EndBr, Syncpoint, Rollback, Return, Abend}
use Rattle.cics_dispatch.specs.declared.machine.outcomes.Outcome.{Outcome}
use Rattle.cics_dispatch.specs.declared.machine.outcomes.Number.TheVariants.{Numrec}
use Rattle.cics_dispatch.specs.declared.machine.outcomes.Outcome.TheVariants.{Replied, Waiting, Abended, Ended}
use Rattle.cics_dispatch.proofs.OfMachine.Examples.{acct, log, t1, t2, t3, zeros, key_1, key_2, key_3, record_1, record_2, record_3, keyed, both_files, read, read_update, write, delete, replied, abend}
use Rattle.cics_dispatch.proofs.OfMachine.Journal.{Event, journal, at_end, left}
use Rattle.cics_dispatch.proofs.OfMachine.Journal.Event.{attaches, does, asks, clock}
use Rattle.cics_dispatch.proofs.OfMachine.Journal.Line.{began, told, ticked, woke, late}

-- the files of a store with these records in ACCT and LOG
abbrev files_with : Map Bytes → Map Bytes → Map (Map Bytes)
files_with accounts lines = (acct, accounts) ∷ (log, lines) ∷ []

abbrev two_accounts : OpeningState
two_accounts = with_record both_files acct record_2

abbrev normal : Outcome
normal = replied Normal

abbrev gives : Bytes → Outcome
gives content = Replied (giving content)

-- 0001zz, 0001bb, 0001cc, 0002x
abbrev record_1z : Bytes
record_1z = key_1 ++ 0xA9 ∷ 0xA9 ∷ []

abbrev record_1b : Bytes
record_1b = key_1 ++ 0x82 ∷ 0x82 ∷ []

abbrev record_1c : Bytes
record_1c = key_1 ++ 0x83 ∷ 0x83 ∷ []

abbrev record_2x : Bytes
record_2x = key_2 ++ 0xA7 ∷ []

-- ---- Backout of one unit

-- a record that is rewritten, read again and rewritten, comes back
abbrev rewritten_twice : List Event
rewritten_twice =
    does t1 (read_update acct key_1) ∷ does t1 (Rewrite acct record_1b None) ∷ does t1 (read_update acct key_1)
    ∷ does t1 (Rewrite acct record_1c None) ∷ does t1 Rollback ∷ []

rewritten_journal : journal both_files rewritten_twice ≡ told t1 (gives record_1) ∷ told t1 normal ∷ told t1 (gives record_1b) ∷ told t1 normal ∷ told t1 normal ∷ []
rewritten_journal = refl

rewritten_back : (left both_files rewritten_twice).files ≡ files_with ((key_1, record_1) ∷ []) []
rewritten_back = refl

-- a record that is written, deleted and written again goes
added_back : (left both_files (does t1 (write acct key_2 record_2x) ∷ does t1 (delete acct key_2) ∷ does t1 (write acct key_2 record_2x) ∷ does t1 Rollback ∷ [])).files ≡ files_with ((key_1, record_1) ∷ []) []
added_back = refl

-- an ABEND leaves what was written to an unrecoverable file
abbrev abended : List Event
abended = does t1 (write log key_1 record_1) ∷ does t1 (write acct key_2 record_2x) ∷ does t1 (Abend (Some (0xE3 ∷ 0xC5 ∷ 0xE2 ∷ 0xE3 ∷ []))) ∷ []

abended_journal : journal both_files abended ≡ told t1 normal ∷ told t1 normal ∷ told t1 (Abended (record { 0 = 0xE3 ∷ 0xC5 ∷ 0xE2 ∷ 0xE3 ∷ [] }) None) ∷ []
abended_journal = refl

abended_back : (left both_files abended).files ≡ files_with ((key_1, record_1) ∷ []) ((key_1, record_1) ∷ [])
abended_back = refl

only_t2 : tasks_listed (at_end both_files abended) ≡ (t2, Idle) ∷ []
only_t2 = refl

-- ABEND without a code
abend_journal : journal both_files (does t1 (Abend None) ∷ []) ≡ told t1 (Abended (record { 0 = 0x6F ∷ 0x6F ∷ 0x6F ∷ 0x6F ∷ [] }) None) ∷ []
abend_journal = refl

-- ---- Units of two tasks

-- a write waits for the unit that deleted its key, and finds the key once that is rolled back
abbrev deleted_then : (Bytes → Verb → Event) → Verb → List Event
deleted_then writes end = does t1 (delete acct key_1) ∷ writes t2 (write acct key_1 record_1z) ∷ does t1 end ∷ []

found_again : journal both_files (deleted_then asks Rollback) ≡ told t1 normal ∷ told t2 (Waiting t1) ∷ told t1 normal ∷ woke t2 (replied Duprec) ∷ []
found_again = refl

found_again_tasks : tasks_listed (at_end both_files (deleted_then asks Rollback)) ≡ (t1, Idle) ∷ (t2, HasUnit) ∷ []
found_again_tasks = refl

found_again_unhandled : journal both_files (deleted_then does Rollback) ≡ told t1 normal ∷ told t2 (Waiting t1) ∷ told t1 normal ∷ woke t2 (abend 0xC9 0xD5 Duprec) ∷ []
found_again_unhandled = refl

found_again_ended : tasks_listed (at_end both_files (deleted_then does Rollback)) ≡ (t1, Idle) ∷ []
found_again_ended = refl

waiting_listed : tasks_listed (at_end both_files (does t1 (delete acct key_1) ∷ does t2 (write acct key_1 record_1z) ∷ [])) ≡ (t1, HasUnit) ∷ (t2, IsWaiting) ∷ []
waiting_listed = refl

-- two units that are ended in the other order: one back, one kept
one_of_two : (left two_accounts (does t1 (read_update acct key_1) ∷ does t2 (read_update acct key_2) ∷ does t1 (Rewrite acct record_1z None) ∷ does t2 (Rewrite acct record_2x None) ∷ does t1 Rollback ∷ does t2 Syncpoint ∷ [])).files ≡ files_with ((key_1, record_1) ∷ (key_2, record_2x) ∷ []) []
one_of_two = refl

-- three tasks want a key: the second has it once the first has committed its delete, the third once
-- the second is rolled back
abbrev three_want : List Event
three_want =
    attaches t3 0 ∷ does t1 (delete acct key_1) ∷ does t2 (write acct key_1 record_1z) ∷ does t3 (write acct key_1 record_1z)
    ∷ does t1 Syncpoint ∷ does t2 Rollback ∷ []

three_journal : journal both_files three_want ≡ began t3 ∷ told t1 normal ∷ told t2 (Waiting t1) ∷ told t3 (Waiting t1) ∷ told t1 normal ∷ woke t2 normal ∷ told t2 normal ∷ woke t3 normal ∷ []
three_journal = refl

three_left : (left both_files three_want).files ≡ files_with ((key_1, record_1z) ∷ []) []
three_left = refl

-- plain READ waits for nobody, and sees what isn't committed
uncommitted : journal both_files (does t1 (write acct key_2 record_2) ∷ does t2 (read acct key_2) ∷ []) ≡ told t1 normal ∷ told t2 (gives record_2) ∷ []
uncommitted = refl

-- ---- Update reads

-- UNLOCK ends the update read of a recoverable file, and its record stays owned until the unit's
-- end
abbrev unlocked : List Event
unlocked = does t1 (read_update acct key_1) ∷ does t1 (Unlock acct) ∷ does t2 (read_update acct key_1) ∷ does t1 Syncpoint ∷ []

unlocked_journal : journal both_files unlocked ≡ told t1 (gives record_1) ∷ told t1 normal ∷ told t2 (Waiting t1) ∷ told t1 normal ∷ woke t2 (gives record_1) ∷ []
unlocked_journal = refl

-- of an unrecoverable file it is free at once, and what the other unit does to it isn't undone
abbrev unlocked_log : List Event
unlocked_log = does t1 (read_update log key_1) ∷ does t2 (delete log key_1) ∷ does t1 (Unlock log) ∷ does t2 Rollback ∷ []

unlocked_log_journal : journal (with_record both_files log record_1) unlocked_log ≡ told t1 (gives record_1) ∷ told t2 (Waiting t1) ∷ told t1 normal ∷ woke t2 normal ∷ told t2 normal ∷ []
unlocked_log_journal = refl

unlocked_log_left : (left (with_record both_files log record_1) unlocked_log).files ≡ files_with ((key_1, record_1) ∷ []) []
unlocked_log_left = refl

-- a second update read of the file, a REWRITE of another key, one without an update read
update_reads : journal both_files (
    does t1 (read_update acct key_1) ∷ asks t1 (read_update acct key_1) ∷ asks t1 (Rewrite acct record_2 None) ∷ does t1 (Rewrite acct record_1b None)
    ∷ asks t1 (Rewrite acct record_1c None) ∷ does t1 (Unlock acct) ∷ []
    ) ≡ told t1 (gives record_1) ∷ told t1 (replied Invreq) ∷ told t1 (replied Invreq) ∷ told t1 normal ∷ told t1 (replied Invreq) ∷ told t1 normal ∷ []
update_reads = refl

-- DELETE without RIDFLD deletes the record that was read for update, and has no KEYLENGTH
delete_read : journal both_files (asks t1 (Delete acct None None false) ∷ does t1 (read_update acct key_1) ∷ asks t1 (Delete acct None (Some 4) false)
    ∷ does t1 (Delete acct None None false) ∷ asks t1 (read acct key_1) ∷ []) ≡ told t1 (replied Invreq) ∷ told t1 (gives record_1)
    ∷ told t1 (replied Invreq) ∷ told t1 normal ∷ told t1 (replied Notfnd) ∷ []
delete_read = refl

-- a READ UPDATE that finds no record opens nothing and acquires nothing
not_found : journal both_files (asks t1 (read_update acct key_2) ∷ does t1 (read_update acct key_1) ∷ does t2 (write acct key_2 record_2) ∷ []) ≡ told t1 (replied Notfnd) ∷ told t1 (gives record_1) ∷ told t2 normal ∷ []
not_found = refl

-- LENGERR of a READ UPDATE counts as read: the record is owned
cut_update : journal both_files (asks t1 (Read acct key_1 None (Some 4) false false true) ∷ does t2 (delete acct key_1) ∷ []) ≡ told t1 (Replied (record { condition = Lengerr; key = None; content = Some key_1; number = None })) ∷ told t2 (Waiting t1) ∷ []
cut_update = refl

-- ---- A deadlock, which the time-out of the task that has waited longest ends at the very second

abbrev deadlock : List Event
deadlock = does t1 (delete acct key_1) ∷ does t2 (delete acct key_2) ∷ does t1 (delete acct key_2) ∷ does t2 (delete acct key_1) ∷ clock 4 ∷ clock 5 ∷ does t2 Return ∷ []

deadlock_journal : journal two_accounts deadlock ≡ told t1 normal ∷ told t2 normal ∷ told t1 (Waiting t2) ∷ told t2 (Waiting t1) ∷ ticked 4 ∷ ticked 5 ∷ late t1 timed_out ∷ woke t2 normal ∷ told t2 Ended ∷ []
deadlock_journal = refl

deadlock_left : (left two_accounts deadlock).files ≡ files_with [] []
deadlock_left = refl

deadlock_tasks : tasks_listed (at_end two_accounts deadlock) ≡ []
deadlock_tasks = refl

-- a DTIMOUT of 0 is no limit
no_limit : journal both_files (attaches t3 0 ∷ does t1 (delete acct key_1) ∷ does t3 (delete acct key_1) ∷ clock 100000 ∷ []) ≡ began t3 ∷ told t1 normal ∷ told t3 (Waiting t1) ∷ ticked 100000 ∷ []
no_limit = refl

-- ---- Browses

abbrev given : Bytes → Bytes → Outcome
given key content = Replied (record { condition = Normal; key = Some key; content = Some content; number = None })

abbrev next : Event
next = asks t1 (ReadNext acct None)

abbrev prev : Event
prev = asks t1 (ReadPrev acct None)

-- from the file's end back, and on in both directions: a change of direction gives the same record
-- again
from_the_end : journal two_accounts (
    does t1 (StartBr acct (255 ∷ 255 ∷ 255 ∷ 255 ∷ []) None false false) ∷ prev ∷ next ∷ next ∷ prev ∷ prev
    ∷ does t1 (ResetBr acct key_2 None false false) ∷ next ∷ does t1 (EndBr acct) ∷ next ∷ []
    ) ≡ told t1 normal ∷ told t1 (given key_2 record_2) ∷ told t1 (given key_2 record_2) ∷ told t1 (replied Endfile) ∷ told t1 (given key_2 record_2)
    ∷ told t1 (given key_1 record_1) ∷ told t1 normal ∷ told t1 (given key_2 record_2) ∷ told t1 normal ∷ told t1 (replied Invreq) ∷ []
from_the_end = refl

-- the order of the keys is that of their codes: a, A, 0
in_order : journal (with_record (with_record (with_record (with_file initial_opening acct (record (keyed true) { key_length = 1 })) acct (0xF0 ∷ [])) acct (0xC1 ∷ [])) acct (0x81 ∷ [])) (
    does t1 (StartBr acct (0 ∷ []) None false false) ∷ next ∷ next ∷ next ∷ next ∷ []
    ) ≡ told t1 normal ∷ told t1 (given (0x81 ∷ []) (0x81 ∷ [])) ∷ told t1 (given (0xC1 ∷ []) (0xC1 ∷ [])) ∷ told t1 (given (0xF0 ∷ []) (0xF0 ∷ [])) ∷ told t1 (replied Endfile) ∷ []
in_order = refl

-- a browse by a prefix goes forward alone, and sees what another unit deletes and brings back
by_prefix : journal two_accounts (
    does t1 (StartBr acct zeros None true false) ∷ prev ∷ next ∷ does t2 (delete acct key_2) ∷ next ∷ does t2 Rollback ∷ next ∷ []
    ) ≡ told t1 normal ∷ told t1 (replied Invreq) ∷ told t1 (given key_1 record_1) ∷ told t2 normal ∷ told t1 (replied Endfile) ∷ told t2 normal ∷ told t1 (given key_2 record_2) ∷ []
by_prefix = refl

-- records that come and go under a browse
under_change : journal (with_record two_accounts acct record_3) (
    does t1 (StartBr acct key_1 None false false) ∷ next ∷ does t2 (delete acct key_2) ∷ next ∷ does t2 (write acct key_2 record_2) ∷ prev ∷ prev ∷ []
    ) ≡ told t1 normal ∷ told t1 (given key_1 record_1) ∷ told t2 normal ∷ told t1 (given key_3 record_3) ∷ told t2 normal ∷ told t1 (given key_3 record_3) ∷ told t1 (given key_2 record_2) ∷ []
under_change = refl

-- a browse is one for each task and file, STARTBR that finds nothing opens none, and any SYNCPOINT
-- ends it
browse_ends : journal both_files (
    asks t1 (StartBr acct key_2 None false true) ∷ next ∷ does t1 (StartBr acct key_1 None false true) ∷ asks t1 (StartBr acct key_1 None false true)
    ∷ does t1 Syncpoint ∷ next ∷ []
    ) ≡ told t1 (replied Notfnd) ∷ told t1 (replied Invreq) ∷ told t1 normal ∷ told t1 (replied Invreq) ∷ told t1 normal ∷ told t1 (replied Invreq) ∷ []
browse_ends = refl

-- LENGERR passes the record
cut_browse : journal two_accounts (does t1 (StartBr acct key_1 None false true) ∷ asks t1 (ReadNext acct (Some 4)) ∷ next ∷ []) ≡ told t1 normal ∷ told t1 (Replied (record { condition = Lengerr; key = Some key_1; content = Some key_1; number = None })) ∷ told t1 (given key_2 record_2) ∷ []
cut_browse = refl

-- ---- Plain READ

plain_reads : journal both_files (
    does t1 (Read acct zeros None None true false false) ∷ asks t1 (Read acct key_3 None None false true false) ∷ does t1 (Read acct zeros None None true true false)
    ∷ asks t1 (Read acct key_1 None (Some 3) false false false) ∷ asks t1 (Read acct key_1 None (Some 0) false false false) ∷ []
    ) ≡ told t1 (gives record_1) ∷ told t1 (replied Notfnd) ∷ told t1 (gives record_1)
    ∷ told t1 (Replied (record { condition = Lengerr; key = None; content = Some zeros; number = None }))
    ∷ told t1 (Replied (record { condition = Lengerr; key = None; content = Some []; number = None })) ∷ []
plain_reads = refl

-- ---- The order of checks

-- the file, the key's length, the record's length, the update read, the key in the record
order_of_checks : journal both_files (
    asks t1 (write t1 zeros []) ∷ asks t1 (write acct zeros []) ∷ asks t1 (write acct key_1 []) ∷ asks t1 (write acct key_1 record_2)
    ∷ asks t1 (Rewrite acct [] None) ∷ asks t1 (Rewrite acct record_1 None) ∷ asks t1 (Read acct key_1 None None true false true)
    ∷ asks t1 (Read acct key_1 (Some 3) None false false false) ∷ asks t1 (StartBr acct zeros None false false) ∷ asks t1 (Unlock t1) ∷ []
    ) ≡ told t1 (replied Dsiderr) ∷ told t1 (replied Invreq) ∷ told t1 (replied Lengerr) ∷ told t1 (replied Invreq)
    ∷ told t1 (replied Lengerr) ∷ told t1 (replied Invreq) ∷ told t1 (replied Invreq)
    ∷ told t1 (replied Invreq) ∷ told t1 (replied Invreq) ∷ told t1 (replied Dsiderr) ∷ []
order_of_checks = refl

-- a command that a check answers begins no unit, one that is executed does, whatever it answers
no_unit : tasks_listed (at_end both_files (asks t1 (write acct key_1 record_2) ∷ asks t2 (delete acct key_2) ∷ [])) ≡ (t1, Idle) ∷ (t2, HasUnit) ∷ []
no_unit = refl

-- a check comes before the wait: the record is owned by the other unit, and LENGERR is told all the
-- same
check_before_wait : journal both_files (does t1 (delete acct key_1) ∷ asks t2 (write acct key_1 []) ∷ does t2 (write acct key_1 record_1) ∷ []) ≡ told t1 normal ∷ told t2 (replied Lengerr) ∷ told t2 (Waiting t1) ∷ []
check_before_wait = refl

-- a fault of a check abends, and the unit is backed out
fault_abends : journal both_files (does t1 (delete acct key_1) ∷ does t1 (read t1 key_1) ∷ does t2 (read acct key_1) ∷ []) ≡ told t1 normal ∷ told t1 (abend 0xC9 0xD3 Dsiderr) ∷ told t2 (gives record_1) ∷ []
fault_abends = refl

-- ---- DELETE GENERIC

abbrev deleted : ℕ → Outcome
deleted n = Replied (record { condition = Normal; key = None; content = None; number = Some (Numrec n) })

abbrev delete_generic : Bytes → Verb
delete_generic prefix = Delete acct (Some prefix) None true

-- 0009, 9000, and the record 0009n
abbrev key_9 : Bytes
key_9 = zeros ++ 0xF9 ∷ []

abbrev other_key : Bytes
other_key = 0xF9 ∷ zeros

abbrev record_9 : Bytes
record_9 = key_9 ++ 0x95 ∷ []

-- it acquires every key that begins with its prefix, present or not, and a backout brings the
-- records back
abbrev prefix_held : List Event
prefix_held = does t1 (delete_generic zeros) ∷ does t2 (write acct key_9 record_9) ∷ does t1 Rollback ∷ []

prefix_held_journal : journal both_files prefix_held ≡ told t1 (deleted 1) ∷ told t2 (Waiting t1) ∷ told t1 normal ∷ woke t2 normal ∷ []
prefix_held_journal = refl

prefix_held_left : (left both_files prefix_held).files ≡ files_with ((key_1, record_1) ∷ (key_9, record_9) ∷ []) []
prefix_held_left = refl

-- if no key begins with it it is NOTFND, and acquires nothing; a prefix of no byte is INVREQ
prefix_absent : journal both_files (asks t1 (delete_generic (0xF9 ∷ [])) ∷ does t2 (write acct other_key other_key) ∷ asks t1 (delete_generic []) ∷ []) ≡ told t1 (replied Notfnd) ∷ told t2 normal ∷ told t1 (replied Invreq) ∷ []
prefix_absent = refl

-- without RIDFLD GENERIC is INVREQ, also with an update read open
generic_alone : journal both_files (does t1 (read_update acct key_1) ∷ asks t1 (Delete acct None None true) ∷ []) ≡ told t1 (gives record_1) ∷ told t1 (replied Invreq) ∷ []
generic_alone = refl

-- it waits for a unit that owns a key of the prefix, and deletes once that unit was backed out
prefix_waits : journal two_accounts (does t1 (delete acct key_2) ∷ does t2 (delete_generic zeros) ∷ does t1 Rollback ∷ []) ≡ told t1 normal ∷ told t2 (Waiting t1) ∷ told t1 normal ∷ woke t2 (deleted 2) ∷ []
prefix_waits = refl

-- it ends the update read that its prefix covers
covered_read : journal both_files (does t1 (read_update acct key_1) ∷ does t1 (delete_generic zeros) ∷ asks t1 (Rewrite acct record_1b None) ∷ []) ≡ told t1 (gives record_1) ∷ told t1 (deleted 1) ∷ told t1 (replied Invreq) ∷ []
covered_read = refl
