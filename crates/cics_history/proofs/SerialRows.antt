-- Worked examples of units that take turns: the order in which they committed gives what stands, another order may not, and
-- what is left out cannot be had.
use Rattle.std.proofs.Common.{◌≡◌, ℕ, Bool, true, false, List, [], ◌∷◌, refl, eqb}
use Rattle.std.specs.Prelude.{map, filter, flat_map, Some, None}
use Rattle.cics_names.specs.Keyed.{Bytes}
use Rattle.cics_names.specs.declared.conditions.Condition.{Condition}
use Rattle.cics_names.specs.declared.conditions.Condition.TheVariants.{Normal, Notfnd, Qzero}
use Rattle.cics_ksds.specs.declared.definition.FileDef.{FileDef}
use Rattle.cics_transdata.specs.declared.queues.Recovery.TheVariants.{Logical}
use Rattle.cics_history.specs.State.{OpeningState, Store, initial_store, UnitsState, initial_units}
use Rattle.cics_history.specs.Store.{apply}
use Rattle.cics_history.specs.Holding.{store_of}
use Rattle.cics_history.specs.declared.ops.Entry.{Entry}
use Rattle.cics_history.specs.declared.ops.Op.TheVariants.{Write, Rewrite, Delete, ReadUpdate, TsWrite, TsRewrite, TdWrite, TdRead, TdDelete}
use Rattle.cics_history.specs.Cells.{Cell, Key, Ts, Td, Content, content}
use Rattle.cics_history.specs.Events.{Event, Execute, Commit, BackOut, Enqueue, Dequeue, ReadItem, run}
use Rattle.cics_history.specs.Serial.{commit_order, one_by_one, store_without_others, serial_store}

-- a recoverable file with one record, an unrecoverable file, a recoverable prefix, and a LOGICAL queue with one record
abbrev acct : Bytes
acct = 65 ∷ []

abbrev log : Bytes
log = 76 ∷ []

abbrev scratch : Bytes
scratch = 82 ∷ 49 ∷ []

abbrev queue : Bytes
queue = 81 ∷ []

abbrev defined : Bool → FileDef
defined recoverable = record { key_length = 1; key_offset = 0; record_size = 4; recoverable = recoverable }

abbrev opening : OpeningState
opening = record {
  files =
      (acct, record { definition = defined true; records = (1 ∷ [], 1 ∷ 10 ∷ []) ∷ [] })
      ∷ (log, record { definition = defined false; records = [] })
      ∷ [];
  prefixes = (82 ∷ []) ∷ [];
  queues = (queue, record { recovery = Logical; records = (7 ∷ []) ∷ [] }) ∷ [];
}

abbrev after : List Event → UnitsState
after events = run (initial_units opening) events

-- the list of those that committed, as the state keeps it, and as the events say
abbrev order : List Event → List ℕ
order events = (after events).commits

abbrev committing : List Event → List ℕ
committing events = commit_order (initial_units opening) events

-- the conditions that the tasks were given
abbrev given : List Entry → List Condition
given es = map (λ e. e.answer.condition) es

-- the conditions that replaying the entries gives
abbrev replayed : Store → List Entry → List Condition
replayed s [] = []
replayed s (e ∷ es) = (apply s e.op).answer.condition ∷ replayed (apply s e.op).store es

-- the conditions when these units take turns
abbrev by_turns : List Event → List ℕ → List Condition
by_turns events units = replayed (initial_store opening) (one_by_one opening (after events).trace units)

-- all commands of these units in turn, whatever they were answered and wherever they acted
abbrev all_commands : List Entry → List ℕ → List Entry
all_commands es units = flat_map (λ u. filter (λ e. eqb e.unit u) es) units

abbrev all_by_turns : List Event → List ℕ → List Condition
all_by_turns events units = replayed (initial_store opening) (all_commands (after events).trace units)

-- what a cell holds after these units took turns, and what it holds as it stands
abbrev in_turn : List Event → List ℕ → Cell → Content
in_turn events units x = content (serial_store (after events) units) x

abbrev stands : List Event → Cell → Content
stands events x = content (store_of (after events)) x

-- ---- Unit 0 begins first and commits last; it reads what unit 1 committed meanwhile

abbrev deposits : List Event
deposits =
    Execute None (ReadUpdate acct (1 ∷ []))
    ∷ Execute None (Write acct (2 ∷ []) (2 ∷ 20 ∷ []))
    ∷ Execute (Some 0) (Rewrite acct (1 ∷ []) (1 ∷ 11 ∷ []))
    ∷ Commit 1
    ∷ Execute (Some 0) (ReadUpdate acct (2 ∷ []))
    ∷ Execute (Some 0) (Rewrite acct (2 ∷ []) (2 ∷ 21 ∷ []))
    ∷ Commit 0
    ∷ []

deposits_order : order deposits ≡ 1 ∷ 0 ∷ []
deposits_order = refl

deposits_committing : committing deposits ≡ 1 ∷ 0 ∷ []
deposits_committing = refl

deposits_answers : by_turns deposits (1 ∷ 0 ∷ []) ≡ Normal ∷ Normal ∷ Normal ∷ Normal ∷ Normal ∷ []
deposits_answers = refl

deposits_stores :
    (in_turn deposits (1 ∷ 0 ∷ []) (Key acct (1 ∷ [])) ≡ Some ((1 ∷ 11 ∷ []) ∷ []))
    × (stands deposits (Key acct (1 ∷ [])) ≡ Some ((1 ∷ 11 ∷ []) ∷ []))
    × (in_turn deposits (1 ∷ 0 ∷ []) (Key acct (2 ∷ [])) ≡ Some ((2 ∷ 21 ∷ []) ∷ []))
    × (stands deposits (Key acct (2 ∷ [])) ≡ Some ((2 ∷ 21 ∷ []) ∷ []))
deposits_stores = (refl, refl, refl, refl)

-- in the order in which they began, unit 0 would find no record
deposits_as_begun : by_turns deposits (0 ∷ 1 ∷ []) ≡ Normal ∷ Normal ∷ Notfnd ∷ Notfnd ∷ Normal ∷ []
deposits_as_begun = refl

-- ---- The same units with the commits the other way round: then unit 1 waits, and comes last

abbrev waited : List Event
waited =
    Execute None (ReadUpdate acct (1 ∷ []))
    ∷ Execute None (TsWrite scratch (40 ∷ []))
    ∷ Execute (Some 1) (ReadUpdate acct (1 ∷ []))
    ∷ Execute (Some 0) (Rewrite acct (1 ∷ []) (1 ∷ 11 ∷ []))
    ∷ Commit 0
    ∷ Execute (Some 1) (ReadUpdate acct (1 ∷ []))
    ∷ Execute (Some 1) (Rewrite acct (1 ∷ []) (1 ∷ 12 ∷ []))
    ∷ Commit 1
    ∷ []

waited_order : order waited ≡ 0 ∷ 1 ∷ []
waited_order = refl

waited_stores :
    (in_turn waited (0 ∷ 1 ∷ []) (Key acct (1 ∷ [])) ≡ Some ((1 ∷ 12 ∷ []) ∷ []))
    × (stands waited (Key acct (1 ∷ [])) ≡ Some ((1 ∷ 12 ∷ []) ∷ []))
    × (in_turn waited (0 ∷ 1 ∷ []) (Ts scratch) ≡ Some ((40 ∷ []) ∷ []))
    × (stands waited (Ts scratch) ≡ Some ((40 ∷ []) ∷ []))
waited_stores = (refl, refl, refl, refl)

waited_turned : in_turn waited (1 ∷ 0 ∷ []) (Key acct (1 ∷ [])) ≡ Some ((1 ∷ 11 ∷ []) ∷ [])
waited_turned = refl

-- ---- Two records of a file: unit 0 writes one and unit 1 rewrites the other, and either commits first

abbrev two_records : List Event → List Event
two_records rest =
    Execute None (Write acct (2 ∷ []) (2 ∷ 20 ∷ []))
    ∷ Execute None (ReadUpdate acct (1 ∷ []))
    ∷ Execute (Some 1) (Rewrite acct (1 ∷ []) (1 ∷ 11 ∷ []))
    ∷ rest

either_order :
    (order (two_records (Commit 0 ∷ Commit 1 ∷ [])) ≡ 0 ∷ 1 ∷ [])
    × (order (two_records (Commit 1 ∷ Commit 0 ∷ [])) ≡ 1 ∷ 0 ∷ [])
either_order = (refl, refl)

-- each order gives every command its answer, and both give what stands
either_answers :
    (by_turns (two_records (Commit 0 ∷ Commit 1 ∷ [])) (0 ∷ 1 ∷ []) ≡ Normal ∷ Normal ∷ Normal ∷ [])
    × (by_turns (two_records (Commit 1 ∷ Commit 0 ∷ [])) (1 ∷ 0 ∷ []) ≡ Normal ∷ Normal ∷ Normal ∷ [])
either_answers = (refl, refl)

either_stores :
    (in_turn (two_records (Commit 0 ∷ Commit 1 ∷ [])) (0 ∷ 1 ∷ []) (Key acct (1 ∷ [])) ≡ Some ((1 ∷ 11 ∷ []) ∷ []))
    × (in_turn (two_records (Commit 1 ∷ Commit 0 ∷ [])) (1 ∷ 0 ∷ []) (Key acct (1 ∷ [])) ≡ Some ((1 ∷ 11 ∷ []) ∷ []))
    × (in_turn (two_records (Commit 0 ∷ Commit 1 ∷ [])) (0 ∷ 1 ∷ []) (Key acct (2 ∷ [])) ≡ Some ((2 ∷ 20 ∷ []) ∷ []))
    × (in_turn (two_records (Commit 1 ∷ Commit 0 ∷ [])) (1 ∷ 0 ∷ []) (Key acct (2 ∷ [])) ≡ Some ((2 ∷ 20 ∷ []) ∷ []))
either_stores = (refl, refl, refl, refl)

-- ---- A temporary storage queue: the number of an item depends on the order

abbrev items : List Event
items =
    Execute None (Write acct (2 ∷ []) (2 ∷ 20 ∷ []))
    ∷ Execute None (TsWrite scratch (40 ∷ []))
    ∷ Commit 1
    ∷ Execute (Some 0) (TsWrite scratch (41 ∷ []))
    ∷ Execute (Some 0) (TsRewrite scratch 1 (42 ∷ []))
    ∷ Commit 0
    ∷ []

items_order : order items ≡ 1 ∷ 0 ∷ []
items_order = refl

items_stores :
    (in_turn items (1 ∷ 0 ∷ []) (Ts scratch) ≡ Some ((42 ∷ []) ∷ (41 ∷ []) ∷ []))
    × (stands items (Ts scratch) ≡ Some ((42 ∷ []) ∷ (41 ∷ []) ∷ []))
items_stores = (refl, refl)

items_as_begun : in_turn items (0 ∷ 1 ∷ []) (Ts scratch) ≡ Some ((42 ∷ []) ∷ (40 ∷ []) ∷ [])
items_as_begun = refl

-- ---- The two ends of a queue: unit 0 writes and unit 1 reads, and either commits first

abbrev two_ends : List Event → List Event
two_ends rest = Execute None (TdWrite queue (8 ∷ [])) ∷ Execute None (TdRead queue) ∷ rest

reader_first : order (two_ends (Commit 1 ∷ Commit 0 ∷ [])) ≡ 1 ∷ 0 ∷ []
reader_first = refl

reader_first_stores :
    (in_turn (two_ends (Commit 1 ∷ Commit 0 ∷ [])) (1 ∷ 0 ∷ []) (Td queue) ≡ Some ((8 ∷ []) ∷ []))
    × (stands (two_ends (Commit 1 ∷ Commit 0 ∷ [])) (Td queue) ≡ Some ((8 ∷ []) ∷ []))
reader_first_stores = (refl, refl)

writer_first : order (two_ends (Commit 0 ∷ Commit 1 ∷ [])) ≡ 0 ∷ 1 ∷ []
writer_first = refl

writer_first_stores :
    (in_turn (two_ends (Commit 0 ∷ Commit 1 ∷ [])) (0 ∷ 1 ∷ []) (Td queue) ≡ Some ((8 ∷ []) ∷ []))
    × (stands (two_ends (Commit 0 ∷ Commit 1 ∷ [])) (Td queue) ≡ Some ((8 ∷ []) ∷ []))
writer_first_stores = (refl, refl)

-- both give the reader the record that was loaded
both_answers :
    (by_turns (two_ends (Commit 1 ∷ Commit 0 ∷ [])) (1 ∷ 0 ∷ []) ≡ Normal ∷ Normal ∷ [])
    × (by_turns (two_ends (Commit 0 ∷ Commit 1 ∷ [])) (0 ∷ 1 ∷ []) ≡ Normal ∷ Normal ∷ [])
both_answers = (refl, refl)

-- a reader that goes on to what the writer has committed comes behind it, though it began to read before
abbrev reads_on : List Event
reads_on = two_ends (Execute (Some 1) (TdRead queue) ∷ Commit 0 ∷ Execute (Some 1) (TdRead queue) ∷ Commit 1 ∷ [])

reads_on_given : given (after reads_on).trace ≡ Normal ∷ Normal ∷ Normal ∷ []
reads_on_given = refl

reads_on_order : order reads_on ≡ 0 ∷ 1 ∷ []
reads_on_order = refl

reads_on_answers : by_turns reads_on (0 ∷ 1 ∷ []) ≡ Normal ∷ Normal ∷ Normal ∷ []
reads_on_answers = refl

reads_on_turned : by_turns reads_on (1 ∷ 0 ∷ []) ≡ Normal ∷ Qzero ∷ Normal ∷ []
reads_on_turned = refl

-- a delete has both ends, so it comes behind whoever read or wrote before
abbrev deleted : List Event
deleted =
    two_ends
    (Commit 1
    ∷ Execute None (TdDelete queue)
    ∷ Commit 0
    ∷ Execute None (TdDelete queue)
    ∷ Execute None (TdWrite queue (9 ∷ []))
    ∷ Execute (Some 2) (TdWrite queue (10 ∷ []))
    ∷ Commit 2
    ∷ Execute None (TdRead queue)
    ∷ Commit 3
    ∷ [])

deleted_order : order deleted ≡ 1 ∷ 0 ∷ 2 ∷ 3 ∷ []
deleted_order = refl

deleted_answers : by_turns deleted (1 ∷ 0 ∷ 2 ∷ 3 ∷ []) ≡ Normal ∷ Normal ∷ Normal ∷ Normal ∷ Normal ∷ []
deleted_answers = refl

deleted_stores :
    (in_turn deleted (1 ∷ 0 ∷ 2 ∷ []) (Td queue) ≡ Some ((10 ∷ []) ∷ []))
    × (in_turn deleted (1 ∷ 0 ∷ 2 ∷ 3 ∷ []) (Td queue) ≡ Some [])
    × (stands deleted (Td queue) ≡ Some [])
deleted_stores = (refl, refl, refl)

-- ---- Open units come last, or count as backed out; a unit that is backed out has no turn

abbrev some_open : List Event
some_open =
    Execute None (Write acct (2 ∷ []) (2 ∷ 20 ∷ []))
    ∷ Execute None (ReadUpdate acct (1 ∷ []))
    ∷ Execute None (Write acct (3 ∷ []) (3 ∷ 30 ∷ []))
    ∷ Execute None (TdWrite queue (8 ∷ []))
    ∷ Execute (Some 1) (TdRead queue)
    ∷ Commit 1
    ∷ BackOut 2
    ∷ []

-- neither of the open ones is told, nor the one that was backed out
some_open_order : order some_open ≡ 1 ∷ []
some_open_order = refl

some_open_committing : committing some_open ≡ 1 ∷ []
some_open_committing = refl

-- with both of them backed out, one, and none
committed_alone :
    (in_turn some_open (1 ∷ []) (Td queue) ≡ Some [])
    × (content (store_without_others (after some_open) []) (Td queue) ≡ Some [])
    × (in_turn some_open (1 ∷ []) (Key acct (2 ∷ [])) ≡ Some [])
    × (content (store_without_others (after some_open) []) (Key acct (2 ∷ [])) ≡ Some [])
committed_alone = (refl, refl, refl, refl)

one_open_last :
    (in_turn some_open (1 ∷ 3 ∷ []) (Td queue) ≡ Some ((8 ∷ []) ∷ []))
    × (content (store_without_others (after some_open) (3 ∷ [])) (Td queue) ≡ Some ((8 ∷ []) ∷ []))
    × (in_turn some_open (1 ∷ 3 ∷ []) (Key acct (2 ∷ [])) ≡ Some [])
    × (content (store_without_others (after some_open) (3 ∷ [])) (Key acct (2 ∷ [])) ≡ Some [])
one_open_last = (refl, refl, refl, refl)

all_open_last :
    (in_turn some_open (1 ∷ 0 ∷ 3 ∷ []) (Td queue) ≡ Some ((8 ∷ []) ∷ []))
    × (stands some_open (Td queue) ≡ Some ((8 ∷ []) ∷ []))
    × (in_turn some_open (1 ∷ 0 ∷ 3 ∷ []) (Key acct (2 ∷ [])) ≡ Some ((2 ∷ 20 ∷ []) ∷ []))
    × (stands some_open (Key acct (2 ∷ [])) ≡ Some ((2 ∷ 20 ∷ []) ∷ []))
    × (in_turn some_open (1 ∷ 0 ∷ 3 ∷ []) (Key acct (3 ∷ [])) ≡ Some [])
    × (stands some_open (Key acct (3 ∷ [])) ≡ Some [])
all_open_last = (refl, refl, refl, refl, refl, refl)

all_open_last_turned :
    (in_turn some_open (1 ∷ 3 ∷ 0 ∷ []) (Td queue) ≡ Some ((8 ∷ []) ∷ []))
    × (stands some_open (Td queue) ≡ Some ((8 ∷ []) ∷ []))
    × (in_turn some_open (1 ∷ 3 ∷ 0 ∷ []) (Key acct (2 ∷ [])) ≡ Some ((2 ∷ 20 ∷ []) ∷ []))
    × (stands some_open (Key acct (2 ∷ [])) ≡ Some ((2 ∷ 20 ∷ []) ∷ []))
all_open_last_turned = (refl, refl, refl, refl)

-- ---- What is left out: commands that are refused hold nothing. Each of two units finds no record, and then writes the one
-- that the other did not find: no order gives both the answers that they were given

abbrev not_found : List Event
not_found =
    Execute None (ReadUpdate acct (2 ∷ []))
    ∷ Execute None (ReadUpdate acct (3 ∷ []))
    ∷ Execute (Some 0) (Write acct (3 ∷ []) (3 ∷ 30 ∷ []))
    ∷ Execute (Some 1) (Write acct (2 ∷ []) (2 ∷ 20 ∷ []))
    ∷ Commit 0
    ∷ Commit 1
    ∷ []

not_found_given : given (after not_found).trace ≡ Notfnd ∷ Notfnd ∷ Normal ∷ Normal ∷ []
not_found_given = refl

not_found_as_committed : all_by_turns not_found (0 ∷ 1 ∷ []) ≡ Notfnd ∷ Normal ∷ Normal ∷ Normal ∷ []
not_found_as_committed = refl

not_found_turned : all_by_turns not_found (1 ∷ 0 ∷ []) ≡ Notfnd ∷ Normal ∷ Normal ∷ Normal ∷ []
not_found_turned = refl

-- without them the order gives what stands
not_found_stores :
    (in_turn not_found (0 ∷ 1 ∷ []) (Key acct (2 ∷ [])) ≡ Some ((2 ∷ 20 ∷ []) ∷ []))
    × (stands not_found (Key acct (2 ∷ [])) ≡ Some ((2 ∷ 20 ∷ []) ∷ []))
    × (in_turn not_found (0 ∷ 1 ∷ []) (Key acct (3 ∷ [])) ≡ Some ((3 ∷ 30 ∷ []) ∷ []))
    × (stands not_found (Key acct (3 ∷ [])) ≡ Some ((3 ∷ 30 ∷ []) ∷ []))
not_found_stores = (refl, refl, refl, refl)

-- a queue that was found empty may be written by a unit that commits earlier
abbrev found_empty : List Event
found_empty =
    Execute None (TdRead queue)
    ∷ Commit 0
    ∷ Execute None (TdRead queue)
    ∷ Execute None (TdWrite queue (8 ∷ []))
    ∷ Commit 2
    ∷ Commit 1
    ∷ []

found_empty_given : given (after found_empty).trace ≡ Normal ∷ Qzero ∷ Normal ∷ []
found_empty_given = refl

found_empty_by_turns : all_by_turns found_empty (0 ∷ 2 ∷ 1 ∷ []) ≡ Normal ∷ Normal ∷ Normal ∷ []
found_empty_by_turns = refl

-- ---- What is left out: nothing of an unrecoverable file is held once it is changed. A unit reads there what one wrote that
-- commits later

abbrev unprotected : List Event
unprotected =
    Execute None (Write log (1 ∷ []) (1 ∷ 30 ∷ []))
    ∷ Execute None (Delete log (1 ∷ []))
    ∷ Commit 1
    ∷ Commit 0
    ∷ []

unprotected_given : given (after unprotected).trace ≡ Normal ∷ Normal ∷ []
unprotected_given = refl

unprotected_by_turns : all_by_turns unprotected (1 ∷ 0 ∷ []) ≡ Notfnd ∷ Normal ∷ []
unprotected_by_turns = refl

-- ---- A unit that began with an ENQ, or did nothing else, is in the order where it commits

abbrev enqueued_first : List Event
enqueued_first =
    Enqueue None acct
    ∷ Enqueue None log
    ∷ Execute (Some 0) (Rewrite acct (1 ∷ []) (1 ∷ 11 ∷ []))
    ∷ Commit 1
    ∷ ReadItem scratch 1
    ∷ Dequeue 0 acct
    ∷ Commit 0
    ∷ []

enqueued_order : order enqueued_first ≡ 1 ∷ 0 ∷ []
enqueued_order = refl

enqueued_by_turns : all_by_turns enqueued_first (1 ∷ 0 ∷ []) ≡ Normal ∷ []
enqueued_by_turns = refl
