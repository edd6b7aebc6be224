-- Worked examples of units of work: what commands answer, who waits for whom, and what stands after units have ended,
-- computed from the definitions.
use Rattle.std.specs.Prelude.{◌≡◌, ℕ, true, false, Some, None, List, [], ◌∷◌, refl}
use Rattle.cics_names.specs.Keyed.{Bytes}
use Rattle.cics_names.specs.declared.conditions.Condition.TheVariants.{Normal, Duprec, Notfnd, Qzero, Itemerr, Qiderr}
use Rattle.cics_ksds.specs.declared.definition.FileDef.{FileDef}
use Rattle.cics_transdata.specs.declared.queues.Recovery.TheVariants.{Logical, Unrecovered}
use Rattle.cics_history.specs.State.{OpeningState, UnitsState, initial_units}
use Rattle.cics_history.specs.Openings.{initial_opening, with_file, with_record, with_queue, with_prefix, with_td_record}
use Rattle.cics_history.specs.Store.{only, with_content, numbered}
use Rattle.cics_history.specs.Headline.{kept}
use Rattle.cics_history.specs.Holding.{store_of, committed_for, held_by}
use Rattle.cics_history.specs.Execution.{execution, after_execution, after_end, after_unlock, enqueue, after_enqueue, after_dequeue, is_ready_op, place_at, ts_reading, after_ts_reading, item_asked, read_at}
use Rattle.cics_history.specs.declared.ops.Op.{Op}
use Rattle.cics_history.specs.declared.ops.Op.TheVariants.{Write, Rewrite, Delete, DeleteGeneric, ReadUpdate, TsWrite, TsRewrite, TsDelete, TdWrite, TdRead, TdDelete}
use Rattle.cics_history.specs.declared.ops.Done.TheVariants.{Answered, MustWait}
use Rattle.cics_history.specs.declared.ops.Enqueued.TheVariants.{Taken, MustWait as EnqMustWait, CountFull}
use Rattle.cics_history.specs.declared.ops.UnitState.TheVariants.{Open, Committed, BackedOut}
use Rattle.std.proofs.Math.ListN.{replicate}
use lib.Chars.{codes}

-- ---- what the examples are about: a recoverable and an unrecoverable file of accounts, the recoverable temporary storage
-- queue RQ by its prefix, and a LOGICAL queue
abbrev pub acct : Bytes
acct = 0xC1 ∷ 0xC3 ∷ 0xC3 ∷ 0xE3 ∷ 0x40 ∷ 0x40 ∷ 0x40 ∷ 0x40 ∷ []

abbrev pub log : Bytes
log = 0xD3 ∷ 0xD6 ∷ 0xC7 ∷ 0x40 ∷ 0x40 ∷ 0x40 ∷ 0x40 ∷ 0x40 ∷ []

abbrev pub rq : Bytes
rq = 0xD9 ∷ 0xD8 ∷ 0x40 ∷ 0x40 ∷ 0x40 ∷ 0x40 ∷ 0x40 ∷ 0x40 ∷ []

abbrev r_names : Bytes
r_names = 0xD9 ∷ 0x40 ∷ 0x40 ∷ 0x40 ∷ 0x40 ∷ 0x40 ∷ 0x40 ∷ 0x40 ∷ []

abbrev pub tdq1 : Bytes
tdq1 = 0xE3 ∷ 0xC4 ∷ 0xD8 ∷ 0xF1 ∷ []

abbrev accounts : FileDef
accounts = record { key_length = 4; key_offset = 0; record_size = 32767; recoverable = true }

abbrev entries : FileDef
entries = record { key_length = 4; key_offset = 0; record_size = 32767; recoverable = false }

abbrev pub k1 : Bytes
k1 = codes "0001"

abbrev pub k2 : Bytes
k2 = codes "0002"

abbrev pub defined : OpeningState
defined = with_queue (with_prefix (with_file (with_record (with_file initial_opening acct accounts) acct (codes "0001aa")) log entries) r_names) tdq1 Logical

abbrev start : UnitsState
start = initial_units defined

-- with a second account
abbrev start_2 : UnitsState
start_2 = initial_units (with_record defined acct (codes "0002bb"))

-- with a record in the queue
abbrev loaded : UnitsState
loaded = initial_units (with_td_record defined tdq1 (codes "r1"))

-- ---- Backout of files

-- a key that a unit has deleted makes others wait for it, and is there again after its backout
abbrev deleted : UnitsState
deleted = after_execution start None (Delete acct k1)

abbrev write_1 : Op
write_1 = Write acct k1 (codes "0001zz")

deletes : execution start None (Delete acct k1) ≡ Answered 0 (only Normal)
deletes = refl

waits_for_deleter : execution deleted None write_1 ≡ MustWait 0
waits_for_deleter = refl

there_again : execution (after_end deleted 0 BackedOut) None write_1 ≡ Answered 1 (only Duprec)
there_again = refl

gone_for_good : execution (after_end deleted 0 Committed) None write_1 ≡ Answered 1 (only Normal)
gone_for_good = refl

-- a key that is written, deleted and written again by one unit, and then backed out
abbrev write_2 : Op
write_2 = Write acct k2 (codes "0002x")

abbrev written_twice : UnitsState
written_twice = after_execution (after_execution (after_execution start None write_2) (Some 0) (Delete acct k2)) (Some 0) write_2

changes_stand : (store_of written_twice).files ≡ (acct, (k1, codes "0001aa") ∷ (k2, codes "0002x") ∷ []) ∷ (log, []) ∷ []
changes_stand = refl

changes_go : (store_of (after_end written_twice 0 BackedOut)).files ≡ (acct, (k1, codes "0001aa") ∷ []) ∷ (log, []) ∷ []
changes_go = refl

-- two rewrites of one record, backed out
abbrev rewritten : UnitsState
rewritten = after_execution (after_execution start None (ReadUpdate acct k1)) (Some 0) (Rewrite acct k1 (codes "0001bb"))

abbrev rewritten_again : UnitsState
rewritten_again = after_execution (after_execution rewritten (Some 0) (ReadUpdate acct k1)) (Some 0) (Rewrite acct k1 (codes "0001cc"))

reads_rewritten : execution rewritten (Some 0) (ReadUpdate acct k1) ≡ Answered 0 (with_content Normal (Some (codes "0001bb")))
reads_rewritten = refl

first_record : (store_of (after_end rewritten_again 0 BackedOut)).files ≡ (acct, (k1, codes "0001aa") ∷ []) ∷ (log, []) ∷ []
first_record = refl

-- an unrecoverable file keeps what a backed-out unit wrote
abbrev both_files : UnitsState
both_files = after_execution (after_execution start None (Write log k1 (codes "0001log"))) (Some 0) write_2

log_stays : (store_of (after_end both_files 0 BackedOut)).files ≡ (acct, (k1, codes "0001aa") ∷ []) ∷ (log, (k1, codes "0001log") ∷ []) ∷ []
log_stays = refl

-- ---- Backout of several units

-- two units change two records of a file; one is backed out and the other is committed, in either order
abbrev two_units : UnitsState
two_units = after_execution
    (after_execution (after_execution (after_execution start_2 None (ReadUpdate acct k1)) None (ReadUpdate acct k2)) (Some 0) (Rewrite acct k1 (codes "0001xx")))
    (Some 1) (Rewrite acct k2 (codes "0002yy"))

one_backed_out : (store_of (after_end (after_end two_units 0 BackedOut) 1 Committed)).files ≡ (acct, (k1, codes "0001aa") ∷ (k2, codes "0002yy") ∷ []) ∷ (log, []) ∷ []
one_backed_out = refl

the_other_first : (store_of (after_end (after_end two_units 1 Committed) 0 BackedOut)).files ≡ (acct, (k1, codes "0001aa") ∷ (k2, codes "0002yy") ∷ []) ∷ (log, []) ∷ []
the_other_first = refl

both_backed_out : (store_of (after_end (after_end two_units 1 BackedOut) 0 BackedOut)).files ≡ (acct, (k1, codes "0001aa") ∷ (k2, codes "0002bb") ∷ []) ∷ (log, []) ∷ []
both_backed_out = refl

-- the history keeps what the backed-out unit did, but it doesn't count
still_entered : (after_end two_units 0 BackedOut).trace ≡ two_units.trace
still_entered = refl

counts_no_more : kept start_2.opening deleted.trace (BackedOut ∷ []) ≡ []
counts_no_more = refl

-- ---- Waiting

-- UNLOCK ends an update read, but the record of a recoverable file stays held until the unit ends
abbrev read_0 : UnitsState
read_0 = after_execution start None (ReadUpdate acct k1)

reads_for_update : read_at read_0.reads 0 acct ≡ Some k1
reads_for_update = refl

unlocked : read_at (after_unlock read_0 0 acct).reads 0 acct ≡ None
unlocked = refl

still_held : execution (after_unlock read_0 0 acct) None (ReadUpdate acct k1) ≡ MustWait 0
still_held = refl

free_at_the_end : execution (after_end (after_unlock read_0 0 acct) 0 Committed) None (ReadUpdate acct k1) ≡ Answered 1 (with_content Normal (Some (codes "0001aa")))
free_at_the_end = refl

-- an unrecoverable file's record is held by the open update read alone
abbrev log_read : UnitsState
log_read = after_execution (initial_units (with_record defined log (codes "0001log"))) None (ReadUpdate log k1)

log_waits : execution log_read None (Delete log k1) ≡ MustWait 0
log_waits = refl

log_free : execution (after_unlock log_read 0 log) None (Delete log k1) ≡ Answered 1 (only Normal)
log_free = refl

-- a command that isn't answered NORMAL holds nothing
abbrev refused : UnitsState
refused = after_execution start None (Delete acct k2)

not_found : execution start None (Delete acct k2) ≡ Answered 0 (only Notfnd)
not_found = refl

holds_nothing : held_by refused 0 ≡ []
holds_nothing = refl

free_for_others : execution refused None write_2 ≡ Answered 1 (only Normal)
free_for_others = refl

-- an absent key that a unit has written is held like any other
absent_key_held : execution (after_execution start None write_2) None (Delete acct k2) ≡ MustWait 0
absent_key_held = refl

-- two units each wait for the other, until one of them is backed out
abbrev crossed : UnitsState
crossed = after_execution (after_execution start_2 None (Delete acct k1)) None (Delete acct k2)

first_waits : execution crossed (Some 0) (Delete acct k2) ≡ MustWait 1
first_waits = refl

second_waits : execution crossed (Some 1) (Delete acct k1) ≡ MustWait 0
second_waits = refl

second_goes_on : execution (after_end crossed 0 BackedOut) (Some 1) (Delete acct k1) ≡ Answered 1 (only Normal)
second_goes_on = refl

-- ---- The two ends of a LOGICAL queue

-- a reader waits while all that it finds is another unit's, and finds nothing once that unit is backed out
abbrev fresh : UnitsState
fresh = after_execution start None (TdWrite tdq1 (codes "r1"))

reader_waits : execution fresh None (TdRead tdq1) ≡ MustWait 0
reader_waits = refl

nothing_to_read : committed_for fresh None tdq1 ≡ []
nothing_to_read = refl

own_record : execution fresh (Some 0) (TdRead tdq1) ≡ Answered 0 (with_content Normal (Some (codes "r1")))
own_record = refl

queue_empty : execution (after_end fresh 0 BackedOut) None (TdRead tdq1) ≡ Answered 1 (only Qzero)
queue_empty = refl

-- a reader passes a writer while there is a committed record, and takes the writer's once it is committed
abbrev read_1 : UnitsState
read_1 = after_execution loaded None (TdRead tdq1)

abbrev pub written_2 : UnitsState
written_2 = after_end (after_execution read_1 None (TdWrite tdq1 (codes "r2"))) 1 Committed

reads_first : execution loaded None (TdRead tdq1) ≡ Answered 0 (with_content Normal (Some (codes "r1")))
reads_first = refl

reads_second : execution written_2 (Some 0) (TdRead tdq1) ≡ Answered 0 (with_content Normal (Some (codes "r2")))
reads_second = refl

both_come_back : (store_of (after_end (after_execution written_2 (Some 0) (TdRead tdq1)) 0 BackedOut)).td ≡ (tdq1, codes "r1" ∷ codes "r2" ∷ []) ∷ []
both_come_back = refl

-- a delete holds both ends; after its backout the loaded record is there, and the next one follows it
abbrev emptied : UnitsState
emptied = after_execution (after_execution loaded None (TdWrite tdq1 (codes "r2"))) (Some 0) (TdDelete tdq1)

both_ends_held : (execution emptied None (TdWrite tdq1 (codes "r3")) ≡ MustWait 0) × (execution emptied None (TdRead tdq1) ≡ MustWait 0)
both_ends_held = (refl, refl)

record_follows : (store_of (after_execution (after_end emptied 0 BackedOut) None (TdWrite tdq1 (codes "r3")))).td ≡ (tdq1, codes "r1" ∷ codes "r3" ∷ []) ∷ []
record_follows = refl

-- one unit has read the record 'r1', another has written 'r2', and the two end in either order
abbrev at_both_ends : UnitsState
at_both_ends = after_execution read_1 None (TdWrite tdq1 (codes "r2"))

abbrev left : UnitsState → List Bytes → Type 0
left s records = (store_of s).td ≡ (tdq1, records) ∷ []

both_back : left (after_end (after_end at_both_ends 1 BackedOut) 0 BackedOut) (codes "r1" ∷ []) × left (after_end (after_end at_both_ends 0 BackedOut) 1 BackedOut) (codes "r1" ∷ [])
both_back = (refl, refl)

both_committed : left (after_end (after_end at_both_ends 0 Committed) 1 Committed) (codes "r2" ∷ []) × left (after_end (after_end at_both_ends 1 Committed) 0 Committed) (codes "r2" ∷ [])
both_committed = (refl, refl)

reader_back : left (after_end (after_end at_both_ends 0 BackedOut) 1 Committed) (codes "r1" ∷ codes "r2" ∷ []) × left (after_end (after_end at_both_ends 1 Committed) 0 BackedOut) (codes "r1" ∷ codes "r2" ∷ [])
reader_back = (refl, refl)

writer_back : left (after_end (after_end at_both_ends 0 Committed) 1 BackedOut) [] × left (after_end (after_end at_both_ends 1 BackedOut) 0 Committed) []
writer_back = (refl, refl)

-- a third unit waits for the reader at the reading end, and then for the writer, whose record it may not see before
third_at_the_reader : execution at_both_ends None (TdRead tdq1) ≡ MustWait 0
third_at_the_reader = refl

third_at_the_writer : execution (after_end at_both_ends 0 Committed) None (TdRead tdq1) ≡ MustWait 1
third_at_the_writer = refl

third_gets_the_first : execution (after_end at_both_ends 0 BackedOut) None (TdRead tdq1) ≡ Answered 2 (with_content Normal (Some (codes "r1")))
third_gets_the_first = refl

third_gets_the_second : execution (after_end (after_end at_both_ends 0 Committed) 1 Committed) None (TdRead tdq1) ≡ Answered 2 (with_content Normal (Some (codes "r2")))
third_gets_the_second = refl

third_gets_nothing : execution (after_end (after_end at_both_ends 0 Committed) 1 BackedOut) None (TdRead tdq1) ≡ Answered 2 (only Qzero)
third_gets_nothing = refl

-- a queue that isn't LOGICAL has no ends to wait for, and a record that was read from it is lost
abbrev plain : UnitsState
plain = after_execution (initial_units (with_td_record (with_queue initial_opening tdq1 Unrecovered) tdq1 (codes "r1"))) None (TdRead tdq1)

no_wait : execution plain None (TdRead tdq1) ≡ Answered 1 (only Qzero)
no_wait = refl

lost : (store_of (after_end plain 0 BackedOut)).td ≡ (tdq1, []) ∷ []
lost = refl

-- ---- Temporary storage and NEXT places

-- the NEXT place moves for all tasks, is 0 while the queue is absent, and stays through a backout
abbrev two_items : UnitsState
two_items = after_execution (after_execution start None (TsWrite rq (codes "one"))) (Some 0) (TsWrite rq (codes "two"))

abbrev next_read : UnitsState → UnitsState
next_read s = after_ts_reading s rq (item_asked s rq None)

second_item : execution (after_execution start None (TsWrite rq (codes "one"))) (Some 0) (TsWrite rq (codes "two")) ≡ Answered 0 (numbered Normal (Some 2))
second_item = refl

reads_next : ts_reading (next_read two_items) rq (item_asked (next_read two_items) rq None) ≡ record { condition = Normal; content = Some (codes "two"); number = Some 2 }
reads_next = refl

abbrev gone : UnitsState
gone = after_end (next_read (next_read two_items)) 0 BackedOut

absent_place : (ts_reading gone rq (item_asked gone rq None) ≡ only Qiderr) × (place_at gone rq ≡ 0)
absent_place = (refl, refl)

abbrev made_again : UnitsState
made_again = after_execution gone None (TsWrite rq (codes "new"))

from_the_first : ts_reading made_again rq (item_asked made_again rq None) ≡ record { condition = Normal; content = Some (codes "new"); number = Some 1 }
from_the_first = refl

-- an item that is rewritten, and a queue that is deleted and made again, by a unit that is backed out
abbrev one_item : UnitsState
one_item = after_end (after_execution start None (TsWrite rq (codes "one"))) 0 Committed

item_rewritten : (execution one_item None (TsRewrite rq 1 (codes "uno")) ≡ Answered 1 (numbered Normal (Some 1))) × (execution one_item None (TsRewrite rq 2 (codes "uno")) ≡ Answered 1 (only Itemerr))
item_rewritten = (refl, refl)

abbrev replaced : UnitsState
replaced = after_execution (after_execution (after_execution one_item None (TsRewrite rq 1 (codes "uno"))) (Some 1) (TsDelete rq)) (Some 1) (TsWrite rq (codes "x"))

reads_replaced : ts_reading replaced rq (item_asked replaced rq None) ≡ record { condition = Normal; content = Some (codes "x"); number = Some 1 }
reads_replaced = refl

abbrev back_again : UnitsState
back_again = after_end (next_read replaced) 1 BackedOut

item_back : (store_of back_again).ts ≡ (rq, codes "one" ∷ []) ∷ []
item_back = refl

place_stays : (place_at back_again rq ≡ 1) × (ts_reading back_again rq (item_asked back_again rq None) ≡ only Itemerr)
place_stays = (refl, refl)

-- a recoverable queue's name is held until the unit ends, and READQ TS waits for nobody
name_held : execution two_items None (TsWrite rq (codes "x")) ≡ MustWait 0
name_held = refl

-- a name without a defined prefix isn't recoverable: nobody waits, and what a backed-out unit wrote stays
abbrev unprefixed : UnitsState
unprefixed = after_execution start None (TsWrite acct (codes "x"))

not_held : execution unprefixed None (TsWrite acct (codes "y")) ≡ Answered 1 (numbered Normal (Some 2))
not_held = refl

stays_written : (store_of (after_end unprefixed 0 BackedOut)).ts ≡ (acct, codes "x" ∷ []) ∷ []
stays_written = refl

-- ---- ENQ and DEQ

-- a value is held until it was dequeued as many times as it was enqueued
abbrev enqueued_twice : UnitsState
enqueued_twice = after_enqueue (after_enqueue start None (codes "X")) (Some 0) (codes "X")

takes_value : enqueue start None (codes "X") ≡ Taken 0
takes_value = refl

value_busy : enqueue enqueued_twice None (codes "X") ≡ EnqMustWait 0
value_busy = refl

busy_after_one : enqueue (after_dequeue enqueued_twice 0 (codes "X")) None (codes "X") ≡ EnqMustWait 0
busy_after_one = refl

free_after_two : enqueue (after_dequeue (after_dequeue enqueued_twice 0 (codes "X")) 0 (codes "X")) None (codes "X") ≡ Taken 1
free_after_two = refl

free_after_the_end : enqueue (after_end enqueued_twice 0 BackedOut) None (codes "X") ≡ Taken 1
free_after_the_end = refl

-- what isn't held isn't given up, and another value is another's to take
nothing_given_up : after_dequeue enqueued_twice 0 (codes "Y") ≡ enqueued_twice
nothing_given_up = refl

other_value : enqueue enqueued_twice None (codes "Y") ≡ Taken 1
other_value = refl

-- a value that a unit has enqueued on 65,535 times is full for it
abbrev enqueued_often : UnitsState
enqueued_often = record { opening = defined; trace = []; outcomes = Open ∷ []; commits = []; reads = []; counts = record { value = codes "X"; unit = 0; count = 65535 } ∷ []; next = [] }

full : enqueue enqueued_often (Some 0) (codes "X") ≡ CountFull
full = refl

full_changes_nothing : after_enqueue enqueued_often (Some 0) (codes "X") ≡ enqueued_often
full_changes_nothing = refl

-- ---- What a caller sees to

ready : (is_ready_op start None (Delete acct k1) ≡ true) × (is_ready_op start None write_1 ≡ true) × (is_ready_op start None (TdWrite tdq1 (codes "r1")) ≡ true) × (is_ready_op read_0 (Some 0) (Rewrite acct k1 (codes "0001b")) ≡ true)
ready = (refl, refl, refl, refl)

-- a REWRITE without an update read, a second READ UPDATE, a key that isn't the record's, and a queue that isn't defined
not_ready : (is_ready_op start None (Rewrite acct k1 (codes "0001b")) ≡ false) × (is_ready_op read_0 (Some 0) (ReadUpdate acct k2) ≡ false) × (is_ready_op start None (Write acct k1 (codes "0002b")) ≡ false) × (is_ready_op start None (TdRead rq) ≡ false)
not_ready = (refl, refl, refl, refl)

-- a key of 255 bytes may name a record, one of 256 bytes may not, and neither may such a prefix
abbrev long : ℕ → Bytes
long n = replicate n 0xF0

short_enough : (is_ready_op start None (Delete acct (long 255)) ≡ true) × (is_ready_op start None (DeleteGeneric acct (long 255)) ≡ true)
    × (is_ready_op start None (ReadUpdate acct (long 255)) ≡ true)
short_enough = (refl, refl, refl)

too_long : (is_ready_op start None (Delete acct (long 256)) ≡ false) × (is_ready_op start None (DeleteGeneric acct (long 256)) ≡ false)
    × (is_ready_op start None (ReadUpdate acct (long 256)) ≡ false)
too_long = (refl, refl, refl)
