-- Worked examples of queues: temporary storage with its NEXT cursors, and both ends of a transient
-- data queue.
use Rattle.std.specs.Prelude.{◌≡◌, ℕ, true, false, Option, Some, None, List, [], ◌∷◌, refl}
use Rattle.cics_names.specs.Keyed.{Bytes}
use Rattle.cics_names.specs.declared.conditions.Condition.{Condition}
use Rattle.cics_names.specs.declared.conditions.Condition.TheVariants.{Normal, Lengerr, Qzero, Qbusy, Itemerr, Qiderr}
use Rattle.cics_history.specs.State.{OpeningState}
use Rattle.cics_history.specs.Openings.{with_td_record}
use Rattle.cics_units.specs.declared.replay.listings.TaskState.TheVariants.{Idle, HasUnit}
use Rattle.cics_dispatch.specs.Machine.Replies.{giving}
use Rattle.cics_dispatch.specs.Machine.Answers.{tasks_listed}
use Rattle.cics_names.specs.declared.commands.Verb.{Verb}
use Rattle.cics_names.specs.declared.commands.Verb.TheVariants.{WriteqTs, ReadqTs, DeleteqTs, WriteqTd, ReadqTd, DeleteqTd, Syncpoint, Rollback}
use Rattle.cics_dispatch.specs.declared.machine.outcomes.Outcome.{Outcome}
use Rattle.cics_dispatch.specs.declared.machine.outcomes.Outcome.TheVariants.{Replied, Waiting, Abended}
use Rattle.cics_dispatch.specs.declared.machine.outcomes.Number.TheVariants.{Item}
use Rattle.cics_dispatch.specs.declared.machine.outcomes.Reply.{Reply}
use Rattle.cics_dispatch.proofs.OfMachine.Examples.{acct, rq, tdq1, t1, t2, files_and_queues, replied, abend_code}
use Rattle.cics_dispatch.proofs.OfMachine.Journal.{Event, journal, at_end, left}
use Rattle.cics_dispatch.proofs.OfMachine.Journal.Event.{does, asks}
use Rattle.cics_dispatch.proofs.OfMachine.Journal.Line.{told, woke}

abbrev normal : Outcome
normal = replied Normal

-- ---- Temporary storage

-- one, two, new
abbrev one : Bytes
one = 0x96 ∷ 0x95 ∷ 0x85 ∷ []

abbrev two : Bytes
two = 0xA3 ∷ 0xA6 ∷ 0x96 ∷ []

abbrev fresh : Bytes
fresh = 0x95 ∷ 0x85 ∷ 0xA6 ∷ []

abbrev write_ts : Bytes → Bytes → Verb
write_ts q from = WriteqTs q from None None

abbrev rewrite_ts : Bytes → Bytes → ℕ → Verb
rewrite_ts q from item = WriteqTs q from None (Some item)

abbrev next : Bytes → Verb
next q = ReadqTs q None None

abbrev item : Condition → ℕ → Option Bytes → Outcome
item condition n content = Replied (record { condition = condition; key = None; content = content; number = Some (Item n) })

-- a rollback takes the queue away that its unit made, and its NEXT cursor is 0 then
abbrev taken_away : List Event
taken_away =
    does t1 (write_ts rq one) ∷ does t1 (write_ts rq two) ∷ does t1 (next rq) ∷ does t2 (next rq) ∷ does t1 Rollback
    ∷ asks t2 (next rq) ∷ does t2 (write_ts rq fresh) ∷ does t2 (next rq) ∷ []

taken_away_journal : journal files_and_queues taken_away ≡ told t1 (item Normal 1 None) ∷ told t1 (item Normal 2 None) ∷ told t1 (item Normal 1 (Some one)) ∷ told t2 (item Normal 2 (Some two)) ∷ told t1 normal
    ∷ told t2 (replied Qiderr) ∷ told t2 (item Normal 1 None) ∷ told t2 (item Normal 1 (Some fresh)) ∷ []
taken_away_journal = refl

taken_away_left : (left files_and_queues taken_away).ts ≡ (rq, fresh ∷ []) ∷ []
taken_away_left = refl

taken_away_tasks : tasks_listed (at_end files_and_queues taken_away) ≡ (t1, Idle) ∷ (t2, HasUnit) ∷ []
taken_away_tasks = refl

-- a rollback brings a queue back, and not its NEXT cursor: it stays at the item that was read last
abbrev brought_back : List Event
brought_back =
    does t1 (write_ts rq one) ∷ does t1 Syncpoint ∷ does t1 (rewrite_ts rq fresh 1) ∷ asks t1 (rewrite_ts rq two 2) ∷ does t1 (DeleteqTs rq)
    ∷ does t1 (write_ts rq two) ∷ does t2 (next rq) ∷ does t1 Rollback ∷ asks t2 (next rq) ∷ []

brought_back_journal : journal files_and_queues brought_back ≡ told t1 (item Normal 1 None) ∷ told t1 normal ∷ told t1 (item Normal 1 None) ∷ told t1 (replied Itemerr) ∷ told t1 normal
    ∷ told t1 (item Normal 1 None) ∷ told t2 (item Normal 1 (Some two)) ∷ told t1 normal ∷ told t2 (replied Itemerr) ∷ []
brought_back_journal = refl

brought_back_left : (left files_and_queues brought_back).ts ≡ (rq, one ∷ []) ∷ []
brought_back_left = refl

-- a queue that isn't recoverable keeps its items
not_recoverable : (left files_and_queues (does t1 (write_ts acct one) ∷ does t1 (write_ts acct two) ∷ does t1 Rollback ∷ [])).ts ≡ (acct, one ∷ two ∷ []) ∷ []
not_recoverable = refl

-- the name of a recoverable queue is owned until the unit's end, that of another queue isn't
name_held : journal files_and_queues (does t1 (write_ts rq one) ∷ does t1 (write_ts acct one) ∷ does t2 (write_ts acct two) ∷ does t2 (DeleteqTs rq)
    ∷ does t1 Syncpoint ∷ []) ≡ told t1 (item Normal 1 None) ∷ told t1 (item Normal 1 None) ∷ told t2 (item Normal 2 None) ∷ told t2 (Waiting t1)
    ∷ told t1 normal ∷ woke t2 normal ∷ []
name_held = refl

-- LENGERR moves the NEXT cursor, ITEM(n) too; a length that is wrong comes before a queue that is
-- absent
places : journal files_and_queues (
    asks t1 (rewrite_ts rq [] 1) ∷ asks t1 (rewrite_ts rq one 1) ∷ does t1 (write_ts rq one) ∷ does t1 (write_ts rq two)
    ∷ asks t2 (ReadqTs rq (Some 1) None) ∷ does t2 (next rq) ∷ does t2 (ReadqTs rq None (Some 1)) ∷ does t2 (next rq) ∷ asks t2 (ReadqTs rq None (Some 0)) ∷ []
    ) ≡ told t1 (replied Lengerr) ∷ told t1 (replied Qiderr) ∷ told t1 (item Normal 1 None) ∷ told t1 (item Normal 2 None)
    ∷ told t2 (item Lengerr 1 (Some (0x96 ∷ []))) ∷ told t2 (item Normal 2 (Some two)) ∷ told t2 (item Normal 1 (Some one)) ∷ told t2 (item Normal 2 (Some two)) ∷ told t2 (replied Itemerr) ∷ []
places = refl

-- ---- Transient data

-- r1, r2, r3, 1234567
abbrev r1 : Bytes
r1 = 0x99 ∷ 0xF1 ∷ []

abbrev r2 : Bytes
r2 = 0x99 ∷ 0xF2 ∷ []

abbrev r3 : Bytes
r3 = 0x99 ∷ 0xF3 ∷ []

abbrev seven : Bytes
seven = 0xF1 ∷ 0xF2 ∷ 0xF3 ∷ 0xF4 ∷ 0xF5 ∷ 0xF6 ∷ 0xF7 ∷ []

abbrev with_r1 : OpeningState
with_r1 = with_td_record files_and_queues tdq1 r1

abbrev put : Bytes → Verb
put from = WriteqTd tdq1 from None

abbrev get : Verb
get = ReadqTd tdq1 None false

abbrev gives : Bytes → Outcome
gives content = Replied (giving content)

abbrev first_three : Reply
first_three = record { condition = Lengerr; key = None; content = Some (0xF1 ∷ 0xF2 ∷ 0xF3 ∷ []); number = None }

-- a reader doesn't see the record of an open unit: it waits, or with NOSUSPEND it is QBUSY, which
-- never abends
uncommitted : journal files_and_queues (does t1 (put r1) ∷ does t2 (ReadqTd tdq1 None true) ∷ asks t2 get ∷ does t1 Rollback ∷ []) ≡ told t1 normal ∷ told t2 (replied Qbusy) ∷ told t2 (Waiting t1) ∷ told t1 normal ∷ woke t2 (replied Qzero) ∷ []
uncommitted = refl

-- once it is committed the reader has it; the writer reads its own
then_committed : journal files_and_queues (does t1 (put r1) ∷ does t2 get ∷ does t1 Syncpoint ∷ []) ≡ told t1 normal ∷ told t2 (Waiting t1) ∷ told t1 normal ∷ woke t2 (gives r1) ∷ []
then_committed = refl

own_record : journal files_and_queues (does t1 (put r1) ∷ does t1 get ∷ []) ≡ told t1 normal ∷ told t1 (gives r1) ∷ []
own_record = refl

-- records that were read come back first
abbrev read_back : List Event
read_back = does t2 get ∷ does t1 (put r2) ∷ does t1 Syncpoint ∷ does t2 get ∷ does t2 Rollback ∷ []

read_back_journal : journal with_r1 read_back ≡ told t2 (gives r1) ∷ told t1 normal ∷ told t1 normal ∷ told t2 (gives r2) ∷ told t2 normal ∷ []
read_back_journal = refl

read_back_left : (left with_r1 read_back).td ≡ (tdq1, r1 ∷ r2 ∷ []) ∷ []
read_back_left = refl

-- a unit reads while another writes, and they end in either order
abbrev both_ends : Verb → Verb → List Event
both_ends first second = does t1 get ∷ does t2 (put r2) ∷ does t2 first ∷ does t1 second ∷ []

reader_last : (left with_r1 (both_ends Rollback Rollback)).td ≡ (tdq1, r1 ∷ []) ∷ []
reader_last = refl

writer_kept : (left with_r1 (both_ends Syncpoint Rollback)).td ≡ (tdq1, r1 ∷ r2 ∷ []) ∷ []
writer_kept = refl

reader_kept : (left with_r1 (both_ends Rollback Syncpoint)).td ≡ (tdq1, []) ∷ []
reader_kept = refl

writer_last : (left with_r1 (does t1 get ∷ does t2 (put r2) ∷ does t1 Rollback ∷ does t2 Rollback ∷ [])).td ≡ (tdq1, r1 ∷ []) ∷ []
writer_last = refl

both_kept : (left with_r1 (does t1 get ∷ does t2 (put r2) ∷ does t1 Syncpoint ∷ does t2 Syncpoint ∷ [])).td ≡ (tdq1, r2 ∷ []) ∷ []
both_kept = refl

-- DELETEQ TD acquires both ends, also if the writer is the same unit
abbrev emptied : List Event
emptied = does t1 (put r2) ∷ does t1 (DeleteqTd tdq1) ∷ does t2 (put r3) ∷ does t1 Rollback ∷ []

emptied_journal : journal with_r1 emptied ≡ told t1 normal ∷ told t1 normal ∷ told t2 (Waiting t1) ∷ told t1 normal ∷ woke t2 normal ∷ []
emptied_journal = refl

emptied_left : (left with_r1 emptied).td ≡ (tdq1, r1 ∷ r3 ∷ []) ∷ []
emptied_left = refl

-- a short LENGTH is LENGERR, and the record counts as read; unhandled it abends, and the record
-- comes back
abbrev with_seven : OpeningState
with_seven = with_td_record files_and_queues tdq1 seven

short_journal : journal with_seven (asks t1 (ReadqTd tdq1 (Some 3) false) ∷ asks t1 get ∷ []) ≡ told t1 (Replied first_three) ∷ told t1 (replied Qzero) ∷ []
short_journal = refl

short_left : (left with_seven (asks t1 (ReadqTd tdq1 (Some 3) false) ∷ does t1 Rollback ∷ [])).td ≡ (tdq1, seven ∷ []) ∷ []
short_left = refl

short_unhandled : journal with_seven (does t1 (ReadqTd tdq1 (Some 3) false) ∷ does t2 get ∷ []) ≡ told t1 (Abended (abend_code 0xC9 0xE5) (Some first_three)) ∷ told t2 (gives seven) ∷ []
short_unhandled = refl

-- a queue that isn't defined comes before a length that is wrong
undefined : journal files_and_queues (asks t1 (WriteqTd (0x40 ∷ tdq1) [] None) ∷ asks t1 (put []) ∷ asks t1 get ∷ []) ≡ told t1 (replied Qiderr) ∷ told t1 (replied Lengerr) ∷ told t1 (replied Qzero) ∷ []
undefined = refl
