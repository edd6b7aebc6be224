-- Worked runs: what the laws speak of does happen, in the history and in place.
use Rattle.std.proofs.Common.{◌≡◌, ℕ, Bool, true, false, Option, Some, None, List, [], ◌∷◌, refl, length}
use Rattle.std.specs.Prelude.{map}
use Rattle.cics_names.specs.Keyed.{Bytes}
use Rattle.cics_names.specs.declared.conditions.Condition.{Condition}
use Rattle.cics_names.specs.declared.conditions.Condition.TheVariants.{Normal, Notfnd, Duprec, Qzero}
use Rattle.std.specs.List.{list_any}
use Rattle.cics_history.specs.Resources.{bytes_of, is_one}
use Rattle.cics_history.specs.declared.resources.Resource.TheVariants.{FileKey, FilePrefix, TdRead as ReadingEnd, TdWrite as WritingEnd, User}
use Rattle.cics_ksds.specs.declared.definition.FileDef.{FileDef}
use Rattle.cics_transdata.specs.declared.queues.Recovery.TheVariants.{Logical}
use Rattle.cics_history.specs.State.{OpeningState, UnitsState, initial_units}
use Rattle.cics_history.specs.Headline.{kept}
use Rattle.cics_history.specs.Holding.{store_of, held_by, awaited, value_holder}
use Rattle.cics_history.specs.Execution.{place_at, item_asked}
use Rattle.cics_history.specs.declared.ops.UnitState.TheVariants.{Open}
use Rattle.cics_history.specs.declared.ops.Op.TheVariants.{Write, Rewrite, Delete, DeleteGeneric, ReadUpdate, TsWrite, TsDelete, TdWrite, TdRead, TdDelete}
use Rattle.cics_history.specs.Cells.{Cell, Key, Ts, Td, Content, content, End, Reading, Writing}
use Rattle.cics_history.specs.Holders.{end_of}
use Rattle.cics_history.specs.Events.{Event, Execute, Commit, BackOut, Enqueue, Dequeue, Unlock, ReadItem, run}
use Rattle.cics_history.specs.InPlace.{content_in_place, parts_opened, run_in_place}

-- a recoverable file with one record, an unrecoverable file, a recoverable prefix, and a LOGICAL queue with one
-- record
abbrev acct : Bytes
acct = 65 ∷ []

abbrev log : Bytes
log = 76 ∷ []

abbrev orders : Bytes
orders = 79 ∷ []

abbrev scratch : Bytes
scratch = 82 ∷ 49 ∷ []

abbrev queue : Bytes
queue = 81 ∷ []

abbrev defined : Bool → FileDef
defined recoverable = record { key_length = 1; key_offset = 0; record_size = 4; recoverable = recoverable }

abbrev long_keys : FileDef
long_keys = record { key_length = 2; key_offset = 0; record_size = 4; recoverable = true }

abbrev opening : OpeningState
opening = record {
  files =
      (acct, record { definition = defined true; records = (1 ∷ [], 1 ∷ 10 ∷ []) ∷ [] })
      ∷ (log, record { definition = defined false; records = [] })
      ∷ (orders, record { definition = long_keys; records = (5 ∷ 1 ∷ [], 5 ∷ 1 ∷ []) ∷ (5 ∷ 2 ∷ [], 5 ∷ 2 ∷ []) ∷ [] })
      ∷ [];
  prefixes = (82 ∷ []) ∷ [];
  queues = (queue, record { recovery = Logical; records = (7 ∷ []) ∷ [] }) ∷ [];
}

-- the state after these events, and what a cell holds then by the history and in place
abbrev after : List Event → UnitsState
after events = run (initial_units opening) events

abbrev replayed : List Event → Cell → Content
replayed events x = content (store_of (after events)) x

abbrev placed : List Event → Cell → Content
placed events x = content_in_place opening (run_in_place (initial_units opening) (parts_opened opening) events) x

abbrev answers : UnitsState → List Condition
answers s = map (λ e. e.answer.condition) s.trace

-- ---- A record rewritten twice and rolled back: the images are undone newest first

abbrev rewritten_twice : List Event
rewritten_twice =
    Execute None (ReadUpdate acct (1 ∷ []))
    ∷ Execute (Some 0) (Rewrite acct (1 ∷ []) (1 ∷ 11 ∷ []))
    ∷ Execute (Some 0) (ReadUpdate acct (1 ∷ []))
    ∷ Execute (Some 0) (Rewrite acct (1 ∷ []) (1 ∷ 12 ∷ []))
    ∷ BackOut 0
    ∷ []

rewritten_twice_ran : answers (after rewritten_twice) ≡ Normal ∷ Normal ∷ Normal ∷ Normal ∷ []
rewritten_twice_ran = refl

rewritten_twice_placed : placed rewritten_twice (Key acct (1 ∷ [])) ≡ Some ((1 ∷ 10 ∷ []) ∷ [])
rewritten_twice_placed = refl

rewritten_twice_replayed : replayed rewritten_twice (Key acct (1 ∷ [])) ≡ Some ((1 ∷ 10 ∷ []) ∷ [])
rewritten_twice_replayed = refl

-- ---- A key that was deleted is held, though it isn't there; after the backout its write is DUPREC

abbrev deleted : UnitsState
deleted = after (Execute None (Delete acct (1 ∷ [])) ∷ [])

deleted_held : held_by deleted 0 ≡ FileKey acct (bytes_of (1 ∷ [])) ∷ []
deleted_held = refl

write_waits : awaited deleted None (Write acct (1 ∷ []) (1 ∷ 20 ∷ [])) ≡ Some 0
write_waits = refl

abbrev woken : List Event
woken =
    Execute None (Delete acct (1 ∷ []))
    ∷ Execute None (Write acct (1 ∷ []) (1 ∷ 20 ∷ []))
    ∷ BackOut 0
    ∷ Execute None (Write acct (1 ∷ []) (1 ∷ 20 ∷ []))
    ∷ []

woken_answers : answers (after woken) ≡ Normal ∷ Duprec ∷ []
woken_answers = refl

-- a key that wasn't there is held by its write
written_held :
    awaited (after (Execute None (Write acct (2 ∷ []) (2 ∷ 20 ∷ [])) ∷ [])) None (Delete acct (2 ∷ [])) ≡ Some 0
written_held = refl

-- ---- A command that is refused holds nothing

abbrev refused : UnitsState
refused =
    after (Execute None (Write acct (1 ∷ []) (1 ∷ 20 ∷ [])) ∷ Execute (Some 0) (Delete acct (2 ∷ [])) ∷ [])

refused_answers : answers refused ≡ Duprec ∷ Notfnd ∷ []
refused_answers = refl

refused_holds_nothing : held_by refused 0 ≡ []
refused_holds_nothing = refl

refused_lets_on : awaited refused None (Delete acct (1 ∷ [])) ≡ None
refused_lets_on = refl

-- ---- What an unrecoverable file got stays, and the recoverable ones of the same unit go

abbrev mixed : List Event
mixed =
    Execute None (Write log (1 ∷ []) (1 ∷ 30 ∷ []))
    ∷ Execute (Some 0) (Write acct (3 ∷ []) (3 ∷ 30 ∷ []))
    ∷ Execute (Some 0) (TsWrite scratch (40 ∷ []))
    ∷ BackOut 0
    ∷ []

mixed_kept : length (kept opening (after mixed).trace (after mixed).outcomes) ≡ 1
mixed_kept = refl

mixed_log : placed mixed (Key log (1 ∷ [])) ≡ Some ((1 ∷ 30 ∷ []) ∷ [])
mixed_log = refl

mixed_acct : placed mixed (Key acct (3 ∷ [])) ≡ Some []
mixed_acct = refl

mixed_scratch : placed mixed (Ts scratch) ≡ Some []
mixed_scratch = refl

-- ---- A temporary storage queue deleted and written anew is back with its old items

abbrev queue_anew : List Event
queue_anew =
    Execute None (TsWrite scratch (40 ∷ []))
    ∷ Commit 0
    ∷ Execute None (TsDelete scratch)
    ∷ Execute (Some 1) (TsWrite scratch (41 ∷ []))
    ∷ BackOut 1
    ∷ []

queue_anew_placed : placed queue_anew (Ts scratch) ≡ Some ((40 ∷ []) ∷ [])
queue_anew_placed = refl

-- ---- The two ends of a queue: unit 0 writes and unit 1 reads, and they end in either order

abbrev two_ends : List Event → List Event
two_ends rest = Execute None (TdWrite queue (8 ∷ [])) ∷ Execute None (TdRead queue) ∷ rest

abbrev held : UnitsState
held = after (two_ends [])

two_ends_ran : answers held ≡ Normal ∷ Normal ∷ []
two_ends_ran = refl

two_ends_held : (held_by held 0 ≡ WritingEnd queue ∷ []) × (held_by held 1 ≡ ReadingEnd queue ∷ [])
two_ends_held = (refl, refl)

reader_gone : placed (two_ends (BackOut 1 ∷ Commit 0 ∷ [])) (Td queue) ≡ Some ((7 ∷ []) ∷ (8 ∷ []) ∷ [])
reader_gone = refl

writer_gone : placed (two_ends (Commit 1 ∷ BackOut 0 ∷ [])) (Td queue) ≡ Some []
writer_gone = refl

both_gone : placed (two_ends (BackOut 0 ∷ BackOut 1 ∷ [])) (Td queue) ≡ Some ((7 ∷ []) ∷ [])
both_gone = refl

both_gone_replayed : replayed (two_ends (BackOut 0 ∷ BackOut 1 ∷ [])) (Td queue) ≡ Some ((7 ∷ []) ∷ [])
both_gone_replayed = refl

-- each end is named where it was used, and no other is
abbrev names_end : UnitsState → ℕ → End → Bool
names_end s unit end = list_any (is_one (end_of queue end)) (held_by s unit)

ends_named : (names_end held 0 Writing ≡ true) × (names_end held 0 Reading ≡ false) × (names_end held 1 Reading ≡ true)
ends_named = (refl, refl, refl)

ended_unnamed : names_end (after (two_ends (Commit 0 ∷ []))) 0 Writing ≡ false
ended_unnamed = refl

-- each end is held until its unit ends: nobody else writes, and nobody else reads
writing_end_held : awaited held None (TdWrite queue (9 ∷ [])) ≡ Some 0
writing_end_held = refl

reading_end_held : awaited held None (TdRead queue) ≡ Some 1
reading_end_held = refl

-- the reading end is free once its unit has ended; then the next reader waits for the writer
reader_ended : awaited (after (two_ends (Commit 1 ∷ []))) None (TdRead queue) ≡ Some 0
reader_ended = refl

-- ---- A reader doesn't see a record that another unit wrote and hasn't committed

reader_waits : awaited held (Some 1) (TdRead queue) ≡ Some 0
reader_waits = refl

abbrev reader_woken : List Event
reader_woken =
    two_ends (Execute (Some 1) (TdRead queue) ∷ BackOut 0 ∷ Execute (Some 1) (TdRead queue) ∷ [])

reader_woken_answers : answers (after reader_woken) ≡ Normal ∷ Normal ∷ Qzero ∷ []
reader_woken_answers = refl

-- the writer reads its own record
abbrev own_reader : List Event
own_reader = Execute None (TdRead queue) ∷ Execute (Some 0) (TdWrite queue (8 ∷ [])) ∷ []

own_record : awaited (after own_reader) (Some 0) (TdRead queue) ≡ None
own_record = refl

-- ---- A unit that wrote and deleted holds both ends; after its backout a record of another stands behind the old one

abbrev emptied : List Event
emptied =
    Execute None (TdWrite queue (8 ∷ []))
    ∷ Execute (Some 0) (TdDelete queue)
    ∷ Execute None (TdWrite queue (9 ∷ []))
    ∷ BackOut 0
    ∷ Execute None (TdWrite queue (9 ∷ []))
    ∷ []

emptied_ran : answers (after emptied) ≡ Normal ∷ Normal ∷ Normal ∷ []
emptied_ran = refl

emptied_placed : placed emptied (Td queue) ≡ Some ((7 ∷ []) ∷ (9 ∷ []) ∷ [])
emptied_placed = refl

emptied_replayed : replayed emptied (Td queue) ≡ Some ((7 ∷ []) ∷ (9 ∷ []) ∷ [])
emptied_replayed = refl

-- ---- All records under a prefix, which is held, present or not, until the unit ends

-- three records of a file are added, and those under the prefix 2 are taken away: two of them
abbrev generic : List Event → List Event
generic more =
    Execute None (Write orders (2 ∷ 1 ∷ []) (2 ∷ 1 ∷ []))
    ∷ Execute (Some 0) (Write orders (2 ∷ 2 ∷ []) (2 ∷ 2 ∷ []))
    ∷ Execute (Some 0) (Write orders (3 ∷ 0 ∷ []) (3 ∷ 0 ∷ []))
    ∷ Commit 0
    ∷ Execute None (DeleteGeneric orders (2 ∷ []))
    ∷ more

abbrev numbers : UnitsState → List (Option ℕ)
numbers s = map (λ e. e.answer.number) s.trace

generic_counts : numbers (after (generic [])) ≡ None ∷ None ∷ None ∷ Some 2 ∷ []
generic_counts = refl

generic_gone : replayed (generic []) (Key orders (2 ∷ 1 ∷ [])) ≡ Some []
generic_gone = refl

generic_beside : replayed (generic []) (Key orders (3 ∷ 0 ∷ [])) ≡ Some ((3 ∷ 0 ∷ []) ∷ [])
generic_beside = refl

generic_placed : placed (generic []) (Key orders (2 ∷ 2 ∷ [])) ≡ Some []
generic_placed = refl

-- the unit holds the prefix, so another waits for it at a key that isn't there, and not at a key beside it
generic_held : held_by (after (generic [])) 1 ≡ FilePrefix orders (bytes_of (2 ∷ [])) ∷ []
generic_held = refl

generic_waited : awaited (after (generic [])) None (Write orders (2 ∷ 9 ∷ []) (2 ∷ 9 ∷ [])) ≡ Some 1
generic_waited = refl

generic_free : awaited (after (generic [])) None (Delete orders (3 ∷ 0 ∷ [])) ≡ None
generic_free = refl

-- its backout brings both records back, in the history and in place
generic_back : replayed (generic (BackOut 1 ∷ [])) (Key orders (2 ∷ 1 ∷ [])) ≡ Some ((2 ∷ 1 ∷ []) ∷ [])
generic_back = refl

generic_back_placed : placed (generic (BackOut 1 ∷ [])) (Key orders (2 ∷ 2 ∷ [])) ≡ Some ((2 ∷ 2 ∷ []) ∷ [])
generic_back_placed = refl

-- where no record is under the prefix it is NOTFND, counts none and holds nothing
abbrev generic_none : List Event
generic_none = Execute None (DeleteGeneric orders (9 ∷ [])) ∷ []

generic_refused : answers (after generic_none) ≡ Notfnd ∷ []
generic_refused = refl

generic_uncounted : numbers (after generic_none) ≡ None ∷ []
generic_uncounted = refl

generic_holds_nothing : held_by (after generic_none) 0 ≡ []
generic_holds_nothing = refl

-- it waits for the unit at the least key under its prefix, present or not, whoever took hold first
abbrev under_two : List Event
under_two =
    Execute None (Write orders (2 ∷ 7 ∷ []) (2 ∷ 7 ∷ []))
    ∷ Execute None (Write orders (2 ∷ 3 ∷ []) (2 ∷ 3 ∷ []))
    ∷ Execute (Some 1) (Delete orders (2 ∷ 3 ∷ []))
    ∷ []

generic_waits : awaited (after under_two) None (DeleteGeneric orders (2 ∷ [])) ≡ Some 1
generic_waits = refl

generic_own_passed : awaited (after under_two) (Some 1) (DeleteGeneric orders (2 ∷ [])) ≡ Some 0
generic_own_passed = refl

-- after its backout the write that waited is NORMAL, and the old records and the new one stand
abbrev written_behind : List Event
written_behind = generic (BackOut 1 ∷ Execute None (Write orders (2 ∷ 9 ∷ []) (2 ∷ 9 ∷ [])) ∷ [])

behind_answered : answers (after written_behind) ≡ Normal ∷ Normal ∷ Normal ∷ Normal ∷ Normal ∷ []
behind_answered = refl

behind_old : replayed written_behind (Key orders (2 ∷ 1 ∷ [])) ≡ Some ((2 ∷ 1 ∷ []) ∷ [])
behind_old = refl

behind_new : replayed written_behind (Key orders (2 ∷ 9 ∷ [])) ≡ Some ((2 ∷ 9 ∷ []) ∷ [])
behind_new = refl

-- under a prefix that was NOTFND another unit writes at once
none_free : awaited (after generic_none) None (Write orders (9 ∷ 1 ∷ []) (9 ∷ 1 ∷ [])) ≡ None
none_free = refl

-- it waits for the unit that deleted a key under it, and counts the record that comes back
abbrev deleted_first : List Event → List Event
deleted_first more = Execute None (Delete orders (5 ∷ 1 ∷ [])) ∷ more

deleted_waits : awaited (after (deleted_first [])) None (DeleteGeneric orders (5 ∷ [])) ≡ Some 0
deleted_waits = refl

deleted_counts : numbers (after (deleted_first (BackOut 0 ∷ Execute None (DeleteGeneric orders (5 ∷ [])) ∷ []))) ≡ None ∷ Some 2 ∷ []
deleted_counts = refl

-- one prefix keeps others from a longer and from a shorter one, and the unit that has it from neither
abbrev prefix_held : List Event
prefix_held = Execute None (DeleteGeneric orders (5 ∷ [])) ∷ []

longer_waits : awaited (after prefix_held) None (DeleteGeneric orders (5 ∷ 1 ∷ [])) ≡ Some 0
longer_waits = refl

shorter_waits : awaited (after prefix_held) None (DeleteGeneric orders []) ≡ Some 0
shorter_waits = refl

own_goes_on : awaited (after prefix_held) (Some 0) (DeleteGeneric orders []) ≡ None
own_goes_on = refl

-- it ends the unit's update read of a record under its prefix
abbrev read_covered : List Event
read_covered = Execute None (ReadUpdate orders (5 ∷ 1 ∷ [])) ∷ Execute (Some 0) (DeleteGeneric orders (5 ∷ [])) ∷ []

read_ended : (after read_covered).reads ≡ []
read_ended = refl

-- in an unrecoverable file it holds nothing, no backout brings a record back, and it waits for an open update read alone
abbrev unrecovered : List Event
unrecovered = Execute None (Write log (4 ∷ []) (4 ∷ [])) ∷ Execute (Some 0) (DeleteGeneric log (4 ∷ [])) ∷ []

unrecovered_holds_nothing : held_by (after unrecovered) 0 ≡ []
unrecovered_holds_nothing = refl

unrecovered_gone : replayed (Execute None (Write log (4 ∷ []) (4 ∷ [])) ∷ Commit 0 ∷ Execute None (DeleteGeneric log (4 ∷ [])) ∷ BackOut 1 ∷ []) (Key log (4 ∷ [])) ≡ Some []
unrecovered_gone = refl

unrecovered_waits : awaited (after (Execute None (Write log (4 ∷ []) (4 ∷ [])) ∷ Execute (Some 0) (ReadUpdate log (4 ∷ [])) ∷ [])) None (DeleteGeneric log []) ≡ Some 0
unrecovered_waits = refl

-- ---- ENQ, DEQ, UNLOCK and READQ TS among the other events

abbrev counter : Bytes
counter = 67 ∷ []

-- an ENQ of a task without a unit begins one, which holds the value; the history has nothing of it
abbrev enqueued : UnitsState
enqueued = after (Enqueue None counter ∷ [])

enqueued_begins : (enqueued.outcomes ≡ Open ∷ []) × (enqueued.trace ≡ [])
enqueued_begins = (refl, refl)

enqueued_holds : held_by enqueued 0 ≡ User (bytes_of counter) ∷ []
enqueued_holds = refl

-- another that must wait for it changes nothing, and begins no unit
enqueue_waits : (value_holder enqueued None counter ≡ Some 0) × (after (Enqueue None counter ∷ Enqueue None counter ∷ []) ≡ enqueued)
enqueue_waits = (refl, refl)

-- the unit itself holds it twice then, and gives it back with its second DEQ
abbrev enqueued_twice : List Event → UnitsState
enqueued_twice rest = after (Enqueue None counter ∷ Enqueue (Some 0) counter ∷ Dequeue 0 counter ∷ rest)

dequeued_once : value_holder (enqueued_twice []) None counter ≡ Some 0
dequeued_once = refl

dequeued_twice : (held_by (enqueued_twice (Dequeue 0 counter ∷ [])) 0 ≡ []) × (value_holder (enqueued_twice (Dequeue 0 counter ∷ [])) None counter ≡ None)
dequeued_twice = (refl, refl)

-- a DEQ of a unit that hasn't begun changes nothing, and neither does one of a value that isn't held
dequeue_of_none : (after (Enqueue None counter ∷ Dequeue 1 counter ∷ []) ≡ enqueued) × (after (Enqueue None counter ∷ Dequeue 0 queue ∷ []) ≡ enqueued)
dequeue_of_none = (refl, refl)

-- a unit that ends gives its values up, and from then on its calls change nothing
enqueue_ended : value_holder (after (Enqueue None counter ∷ Commit 0 ∷ [])) None counter ≡ None
enqueue_ended = refl

enqueue_after_end : after (Enqueue None counter ∷ BackOut 0 ∷ Enqueue (Some 0) counter ∷ []) ≡ after (Enqueue None counter ∷ BackOut 0 ∷ [])
enqueue_after_end = refl

-- UNLOCK frees the record of an update read where the file isn't recoverable
abbrev read_for_update : List Event → UnitsState
read_for_update rest =
    after (Execute None (Write log (4 ∷ []) (4 ∷ [])) ∷ Execute (Some 0) (ReadUpdate log (4 ∷ [])) ∷ rest)

read_holds : awaited (read_for_update []) None (Delete log (4 ∷ [])) ≡ Some 0
read_holds = refl

unlocked_frees : awaited (read_for_update (Unlock 0 log ∷ [])) None (Delete log (4 ∷ [])) ≡ None
unlocked_frees = refl

-- another unit's UNLOCK doesn't
unlocked_by_other : awaited (read_for_update (Enqueue None counter ∷ Unlock 1 log ∷ [])) None (Delete log (4 ∷ [])) ≡ Some 0
unlocked_by_other = refl

-- in a recoverable file the record stays held until the unit ends
abbrev unlocked_acct : UnitsState
unlocked_acct = after (Execute None (ReadUpdate acct (1 ∷ [])) ∷ Unlock 0 acct ∷ [])

unlocked_stays_held : (unlocked_acct.reads ≡ []) × (awaited unlocked_acct None (Delete acct (1 ∷ [])) ≡ Some 0)
unlocked_stays_held = (refl, refl)

-- READQ TS sets the NEXT place where the item is there; with its queue the place goes
abbrev two_items : List Event → UnitsState
two_items rest = after (Execute None (TsWrite scratch (40 ∷ [])) ∷ Execute (Some 0) (TsWrite scratch (41 ∷ [])) ∷ rest)

item_read : place_at (two_items (ReadItem scratch 1 ∷ [])) scratch ≡ 1
item_read = refl

next_is_second : item_asked (two_items (ReadItem scratch 1 ∷ [])) scratch None ≡ 2
next_is_second = refl

absent_item : place_at (two_items (ReadItem scratch 1 ∷ ReadItem scratch 3 ∷ [])) scratch ≡ 1
absent_item = refl

place_gone : place_at (two_items (ReadItem scratch 2 ∷ BackOut 0 ∷ [])) scratch ≡ 0
place_gone = refl

-- a unit that began with an ENQ is rolled back, and all of these calls stand between its commands
abbrev with_calls : List Event
with_calls =
    Enqueue None counter
    ∷ Execute (Some 0) (ReadUpdate acct (1 ∷ []))
    ∷ Execute (Some 0) (Rewrite acct (1 ∷ []) (1 ∷ 11 ∷ []))
    ∷ Execute (Some 0) (TsWrite scratch (40 ∷ []))
    ∷ ReadItem scratch 1
    ∷ Dequeue 0 counter
    ∷ Enqueue None counter
    ∷ Execute (Some 0) (ReadUpdate acct (1 ∷ []))
    ∷ Unlock 0 acct
    ∷ Execute (Some 1) (TdWrite queue (8 ∷ []))
    ∷ BackOut 0
    ∷ []

with_calls_ran : answers (after with_calls) ≡ Normal ∷ Normal ∷ Normal ∷ Normal ∷ Normal ∷ []
with_calls_ran = refl

with_calls_placed : (placed with_calls (Key acct (1 ∷ [])) ≡ Some ((1 ∷ 10 ∷ []) ∷ [])) × (placed with_calls (Ts scratch) ≡ Some [])
with_calls_placed = (refl, refl)

with_calls_replayed : replayed with_calls (Key acct (1 ∷ [])) ≡ Some ((1 ∷ 10 ∷ []) ∷ [])
with_calls_replayed = refl

-- the other unit goes on holding its value and its end of the queue, and the unit that ended holds nothing
with_calls_held : (held_by (after with_calls) 1 ≡ WritingEnd queue ∷ User (bytes_of counter) ∷ []) × (held_by (after with_calls) 0 ≡ [])
with_calls_held = (refl, refl)
