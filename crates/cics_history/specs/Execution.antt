-- Recovery and task control: what each call on the units of a region returns, and what it leaves.
-- The calls are executing a command, ENQ and DEQ, UNLOCK, the end of a unit, READQ TS.
use Rattle.std.specs.Prelude.{ℕ, ◌+◌, ◌-◌, ◌==◌, ◌<◌, Bool, true, false, not, ◌&&◌, ◌||◌, if◌then◌else◌, IsTrue, Option, Some, None, is_some, unwrap_or, filter, slice_set, nat_lt, nat_le, slice_get, List, [], ◌∷◌, ◌++◌, length}
use Rattle.cics_names.specs.Keyed.{Bytes, Map, value_at, has_key, with_value, without, is_same, is_below}
use Rattle.cics_names.specs.declared.conditions.Condition.{Condition}
use Rattle.cics_ksds.specs.Files.{key_of, fits_file}
use Rattle.cics_ksds.specs.Prefixes.{has_prefix}
use Rattle.cics_tempstor.specs.Queues.{item_condition, has_item, number_if}
use Rattle.cics_history.specs.Resources.{most_count}
use Rattle.cics_history.specs.State.{FileOpening, Store, UnitsState, UpdateRead, EnqCount}
use Rattle.cics_history.specs.Openings.{is_record_size}
use Rattle.cics_history.specs.Store.{apply, ts_queue, is_normal}
use Rattle.cics_history.specs.Headline.{outcome_of, is_open}
use Rattle.cics_history.specs.Holding.{store_of, awaited, value_holder}
use Rattle.cics_history.specs.declared.ops.Op.{Op}
use Rattle.cics_history.specs.declared.ops.Op.TheVariants.{Write, Rewrite, Delete, DeleteGeneric, ReadUpdate, TsWrite, TsRewrite, TsDelete, TdWrite, TdRead, TdDelete}
use Rattle.cics_history.specs.declared.ops.Answer.{Answer}
use Rattle.cics_history.specs.declared.ops.Done.{Done}
use Rattle.cics_history.specs.declared.ops.Done.TheVariants.{Answered, MustWait}
use Rattle.cics_history.specs.declared.ops.Enqueued.{Enqueued}
use Rattle.cics_history.specs.declared.ops.Enqueued.TheVariants.{Taken, MustWait as EnqMustWait, CountFull}
use Rattle.cics_history.specs.declared.ops.UnitState.{UnitState}
use Rattle.cics_history.specs.declared.ops.UnitState.TheVariants.{Open, Committed, BackedOut}

-- ---- Units

-- the given unit, or else the next one, which begins
abbrev pub unit_or_next : Option ℕ → List UnitState → ℕ
unit_or_next None outcomes = length outcomes
unit_or_next (Some u) outcomes = u

-- a unit that begins is open
abbrev pub outcomes_with : Option ℕ → List UnitState → List UnitState
outcomes_with None outcomes = outcomes ++ Open ∷ []
outcomes_with (Some u) outcomes = outcomes

-- ---- Update reads: at most one for each unit and file

-- an update read is of this unit and this file
abbrev pub is_read_of : ℕ → Bytes → UpdateRead → Bool
is_read_of u f r = (r.unit == u) && is_same r.file f

-- the key that a unit has read for update in a file
abbrev pub read_at : List UpdateRead → ℕ → Bytes → Option Bytes
read_at [] u f = None
read_at (r ∷ rs) u f = if is_read_of u f r then Some r.key else read_at rs u f

-- the same for a task, which has no key if it has no unit
abbrev pub has_read : UnitsState → Option ℕ → Bytes → Option Bytes
has_read s None f = None
has_read s (Some u) f = read_at s.reads u f

-- update reads are in the order of their units, and those of a unit in the order of their files'
-- names
abbrev pub is_read_before : UpdateRead → UpdateRead → Bool
is_read_before r x = nat_lt r.unit x.unit || ((r.unit == x.unit) && is_below r.file x.file)

-- the update reads with one more
abbrev pub with_read : UpdateRead → List UpdateRead → List UpdateRead
with_read r [] = r ∷ []
with_read r (x ∷ xs) = if is_read_before r x then r ∷ x ∷ xs else x ∷ with_read r xs

-- a command covers the unit's update read if it is REWRITE or DELETE of the key that was read. So
-- does DELETE GENERIC of a prefix with which that key begins
abbrev pub covers : ℕ → Op → UpdateRead → Bool
covers u (Rewrite f k r) x = is_read_of u f x && is_same x.key k
covers u (Delete f k) x = is_read_of u f x && is_same x.key k
covers u (DeleteGeneric f p) x = is_read_of u f x && has_prefix p x.key
covers u (Write f k r) x = false
covers u (ReadUpdate f k) x = false
covers u (TsWrite q d) x = false
covers u (TsRewrite q n d) x = false
covers u (TsDelete q) x = false
covers u (TdWrite q d) x = false
covers u (TdRead q) x = false
covers u (TdDelete q) x = false

-- READ UPDATE opens an update read
abbrev pub opened : ℕ → Op → List UpdateRead → List UpdateRead
opened u (ReadUpdate f k) reads = with_read (record { unit = u; file = f; key = k }) reads
opened u _ reads = reads

-- a command answered NORMAL ends the update read that it covers, and opens its own
abbrev pub reads_after : ℕ → Op → Condition → List UpdateRead → List UpdateRead
reads_after u op c reads = if is_normal c then opened u op (filter (λ r. not (covers u op r)) reads) else reads

-- ---- Executing a command

-- the write that makes a temporary storage queue sets the queue's NEXT cursor to 0, and so does its
-- delete
abbrev pub next_after : Store → Op → Condition → Map ℕ → Map ℕ
next_after s (TsWrite q d) c next = if has_key q s.ts then next else without q next
next_after s (TsDelete q) c next = if is_normal c then without q next else next
next_after s _ c next = next

-- an executed command enters the history with its unit and its answer
abbrev pub entered : UnitsState → Option ℕ → Op → Answer → UnitsState
entered s u op answer =
    let unit = unit_or_next u s.outcomes in
    record {
      opening = s.opening;
      trace = s.trace ++ record { unit = unit; op = op; answer = answer } ∷ [];
      outcomes = outcomes_with u s.outcomes;
      commits = s.commits;
      reads = reads_after unit op answer.condition s.reads;
      counts = s.counts;
      next = next_after (store_of s) op answer.condition s.next;
    }

-- a command with a blocker must wait for it; otherwise its answer is the one that the store gives
abbrev pub done_of : UnitsState → Option ℕ → Op → Option ℕ → Done
done_of s u op (Some holder) = MustWait holder
done_of s u op None = Answered (unit_or_next u s.outcomes) (apply (store_of s) op).answer

-- a command that must wait changes nothing; one that is executed enters the history
abbrev pub state_of : UnitsState → Option ℕ → Op → Option ℕ → UnitsState
state_of s u op (Some holder) = s
state_of s u op None = entered s u op (apply (store_of s) op).answer

-- a property of the blocker, if the command must wait
abbrev pub IfMustWait : Done → (ℕ → Type 0) → Type 0
IfMustWait (Answered unit a) P = Unit {0}
IfMustWait (MustWait holder) P = P holder

-- the result of a command of a unit, or of a task without one
abbrev pub execution : UnitsState → Option ℕ → Op → Done
execution s u op = done_of s u op (awaited s u op)

-- the state after a command
abbrev pub after_execution : UnitsState → Option ℕ → Op → UnitsState
after_execution s u op = state_of s u op (awaited s u op)

-- ---- ENQ and DEQ

-- a count is of this unit and this value
abbrev pub is_count : ℕ → Bytes → EnqCount → Bool
is_count u v c = (c.unit == u) && is_same c.value v

-- how many times a unit has enqueued on a value
abbrev pub count_at : List EnqCount → ℕ → Bytes → ℕ
count_at [] u v = 0
count_at (c ∷ cs) u v = if is_count u v c then c.count else count_at cs u v

-- a unit enqueues on a value once more; the counts are in rising order of their values
abbrev pub counted : List EnqCount → ℕ → Bytes → List EnqCount
counted [] u v = record { value = v; unit = u; count = 1 } ∷ []
counted (c ∷ cs) u v =
    if is_count u v c then record { value = c.value; unit = u; count = c.count + 1 } ∷ cs
    else if is_below v c.value then record { value = v; unit = u; count = 1 } ∷ c ∷ cs
    else c ∷ counted cs u v

-- a unit dequeues from a value once. If its count is 1, the count goes; if it has none, nothing
-- changes
abbrev pub uncounted : List EnqCount → ℕ → Bytes → List EnqCount
uncounted [] u v = []
uncounted (c ∷ cs) u v =
    if is_count u v c then (if nat_lt 1 c.count then record { value = c.value; unit = u; count = c.count - 1 } ∷ cs else cs)
    else c ∷ uncounted cs u v

-- the state with these outcomes and counts, else as it was
abbrev pub with_counts : UnitsState → List UnitState → List EnqCount → UnitsState
with_counts s outcomes counts = record { opening = s.opening; trace = s.trace; outcomes = outcomes; commits = s.commits; reads = s.reads; counts = counts; next = s.next }

-- ENQ must wait for another unit that owns the value. A unit whose count of the value is at its
-- greatest doesn't acquire it again
abbrev pub enq_of : UnitsState → Option ℕ → Bytes → Option ℕ → Enqueued
enq_of s u v (Some holder) = EnqMustWait holder
enq_of s u v None = if nat_le most_count (count_at s.counts (unit_or_next u s.outcomes) v) then CountFull else Taken (unit_or_next u s.outcomes)

-- a property of the blocker, if ENQ must wait
abbrev pub IfEnqMustWait : Enqueued → (ℕ → Type 0) → Type 0
IfEnqMustWait (Taken unit) P = Unit {0}
IfEnqMustWait (EnqMustWait holder) P = P holder
IfEnqMustWait CountFull P = Unit {0}

-- the result of an ENQ
abbrev pub enqueue : UnitsState → Option ℕ → Bytes → Enqueued
enqueue s u v = enq_of s u v (value_holder s u v)

-- an ENQ that acquires its value adds one to its count, and nothing else changes
abbrev pub after_enqueued : UnitsState → Option ℕ → Bytes → Enqueued → UnitsState
after_enqueued s u v (Taken unit) = with_counts s (outcomes_with u s.outcomes) (counted s.counts unit v)
after_enqueued s u v (EnqMustWait holder) = s
after_enqueued s u v CountFull = s

-- the state after an ENQ
abbrev pub after_enqueue : UnitsState → Option ℕ → Bytes → UnitsState
after_enqueue s u v = after_enqueued s u v (enqueue s u v)

-- the state after a DEQ
abbrev pub after_dequeue : UnitsState → ℕ → Bytes → UnitsState
after_dequeue s u v = with_counts s s.outcomes (uncounted s.counts u v)

-- ---- UNLOCK

-- the state with these update reads, else as it was
abbrev pub with_reads : UnitsState → List UpdateRead → UnitsState
with_reads s reads = record { opening = s.opening; trace = s.trace; outcomes = s.outcomes; commits = s.commits; reads = reads; counts = s.counts; next = s.next }

-- UNLOCK ends the unit's update read of the file, if it has one; the unit still owns what its
-- entries used
abbrev pub after_unlock : UnitsState → ℕ → Bytes → UnitsState
after_unlock s u f = with_reads s (filter (λ r. not (is_read_of u f r)) s.reads)

-- ---- The end of a unit

-- a unit that commits comes behind those that committed before it
abbrev pub commits_with : UnitState → ℕ → List ℕ → List ℕ
commits_with Committed u commits = commits ++ u ∷ []
commits_with BackedOut u commits = commits
commits_with Open u commits = commits

-- a unit that ends has this outcome, and no longer any update read or count
abbrev pub ended_as : UnitsState → ℕ → UnitState → UnitsState
ended_as s u outcome =
    record {
      opening = s.opening;
      trace = s.trace;
      outcomes = slice_set s.outcomes u outcome;
      commits = commits_with outcome u s.commits;
      reads = filter (λ r. not (r.unit == u)) s.reads;
      counts = filter (λ c. not (c.unit == u)) s.counts;
      next = s.next;
    }

-- the NEXT cursor of a queue that isn't there is 0
abbrev pub places_there : UnitsState → UnitsState
places_there s =
    record {
      opening = s.opening;
      trace = s.trace;
      outcomes = s.outcomes;
      commits = s.commits;
      reads = s.reads;
      counts = s.counts;
      next = filter (λ e. has_key e.0 (store_of s).ts) s.next;
    }

-- the state after a unit's commit or backout: the NEXT cursors of queues that are there stay
abbrev pub after_end : UnitsState → ℕ → UnitState → UnitsState
after_end s u outcome = places_there (ended_as s u outcome)

-- ---- READQ TS

-- the NEXT cursor of a queue, at first 0
abbrev pub place_at : UnitsState → Bytes → ℕ
place_at s q = unwrap_or (value_at q s.next) 0

-- READQ TS ITEM(n) asks for the item n, READQ TS NEXT for the item after the one that any task read
-- last
abbrev pub item_asked : UnitsState → Bytes → Option ℕ → ℕ
item_asked s q None = place_at s q + 1
item_asked s q (Some n) = n

-- READQ TS is answered the item, an open unit's changes included. For an absent queue it is
-- answered QIDERR, for an absent item ITEMERR
abbrev pub ts_reading : UnitsState → Bytes → ℕ → Answer
ts_reading s q n =
    let items = ts_queue (store_of s) q in
    record {
      condition = item_condition items n;
      content = if has_item items n then slice_get items (n - 1) else None;
      number = number_if (has_item items n) n;
    }

-- a READQ TS that is answered an item sets the NEXT cursor to its number
abbrev pub after_ts_reading : UnitsState → Bytes → ℕ → UnitsState
after_ts_reading s q n =
    if has_item (ts_queue (store_of s) q) n
    then record { opening = s.opening; trace = s.trace; outcomes = s.outcomes; commits = s.commits; reads = s.reads; counts = s.counts; next = with_value q n s.next }
    else s

-- ---- What a caller ensures before a command is executed

-- a unit that has begun and not ended
abbrev pub IsOpenUnit : UnitsState → ℕ → Type 0
IsOpenUnit s u = (u < length s.outcomes) × IsTrue (is_open (outcome_of s.outcomes u))

-- a task has an open unit, or none
abbrev pub IsOpenOrNone : UnitsState → Option ℕ → Type 0
IsOpenOrNone s None = Unit {0}
IsOpenOrNone s (Some u) = IsOpenUnit s u

-- a record fits the file, and the key is the one that lies in it
abbrev pub is_fit_for : Option FileOpening → Bytes → Bytes → Bool
is_fit_for None k r = false
is_fit_for (Some file) k r = fits_file file.definition r && is_same (key_of file.definition r) k

-- an item or a transient data record has 1 to 32,767 bytes
abbrev pub is_item : Bytes → Bool
is_item d = is_record_size (length d)

-- a key, or a prefix of keys, has at most 255 bytes
abbrev pub is_short_key : Bytes → Bool
is_short_key k = nat_le (length k) 255

-- a command is ready to be executed if its file or queue is defined, its record fits, and its key
-- or prefix isn't too long. REWRITE must have the key of the open update read, and READ UPDATE must
-- find none open. The key of a record that fits has the length that its file defines
abbrev pub is_ready_op : UnitsState → Option ℕ → Op → Bool
is_ready_op s u (Write f k r) = is_fit_for (value_at f s.opening.files) k r
is_ready_op s u (Rewrite f k r) = is_fit_for (value_at f s.opening.files) k r && same_key (has_read s u f) k where
  same_key : Option Bytes → Bytes → Bool
  same_key None k = false
  same_key (Some l) k = is_same l k
is_ready_op s u (Delete f k) = has_key f s.opening.files && is_short_key k
is_ready_op s u (DeleteGeneric f p) = has_key f s.opening.files && is_short_key p
is_ready_op s u (ReadUpdate f k) = has_key f s.opening.files && is_short_key k && not (is_some (has_read s u f))
is_ready_op s u (TsWrite q d) = is_item d
is_ready_op s u (TsRewrite q n d) = is_item d
is_ready_op s u (TsDelete q) = true
is_ready_op s u (TdWrite q d) = has_key q s.opening.queues && is_item d
is_ready_op s u (TdRead q) = has_key q s.opening.queues
is_ready_op s u (TdDelete q) = has_key q s.opening.queues
