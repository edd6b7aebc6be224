-- What the units show after each call is what the call makes of their state.
use Rattle.std.proofs.Common.{◌≡◌, ℕ, ◌+◌, length-append, ◌<◌, ◌≤◌, Bool, true, false, not, Option, Some, None, List, [], ◌∷◌, ◌++◌, length, refl, ap, sym, subst, ◌∙◌, arith, inl, inr, eqb}
use Rattle.std.specs.Prelude.{if◌then◌else◌, IfSome, filter, slice_set, ◌==◌, All, is_some}
use Rattle.std.proofs.lemmas.List.Elements.{All-head, All-tail}
use Rattle.cics_names.specs.Keyed.{is_same, Bytes, Map}
use Rattle.std.specs.List.{list_any}
use Rattle.std.proofs.lemmas.Bool.{cases_Bool, and_parts, or_left, or_right, false≢true, and_from, lt-ltb}
use Rattle.cics_tempstor.specs.Queues.{places_of}
use Rattle.cics_enqueue.specs.Table.{Table, released}
use Rattle.cics_history.specs.State.{OpeningState, UnitsState, UpdateRead, UnitsValue, initial_units}
use Rattle.cics_history.specs.Store.{apply, is_normal, is_recoverable}
use Rattle.cics_history.specs.Holding.{store_of, awaited}
use Rattle.cics_history.specs.Execution.{execution, done_of, state_of, has_read, IsOpenUnit, IsOpenOrNone, unit_or_next, outcomes_with, reads_after, is_read_of, read_at, commits_with, entered, after_execution, after_unlock, after_end, is_ready_op}
use Rattle.cics_history.specs.Events.{is_live, may_act}
use Rattle.cics_units.specs.Opening.StoreMatching.{StoreValue, shown_store}
use Rattle.cics_history.specs.Records.{file_of}
use Rattle.cics_units.specs.Uses.{uses_if, listed, AreFreeFor}
use Rattle.cics_units.specs.Cores.{IsBoundFor}
use Rattle.cics_units.specs.declared.units_core.BoundOp.{BoundOp}
use Rattle.cics_units.specs.Awaiting.{is_writer, IsOwn, blocking_unit}
use Rattle.cics_units.specs.QueueChanges.{queue_of as queue_on}
use Rattle.cics_units.specs.Opening.Prefixed.{is_temp}
use Rattle.cics_units.specs.Applied.{IsApplied, IsBound, IsSeen}
use Rattle.cics_units.specs.Executed.{IsExecuted}
use Rattle.cics_units.specs.ImageRows.{kept_by, AreOthersKept}
use Rattle.cics_units.specs.TableInPlace.{is_read, counts_in, table_changed, table_executed, table_unlocked}
use Rattle.cics_units.specs.Parts.{CoreValue, IsCoreAsBefore, given_record}
use Rattle.cics_units.specs.KeptUnits.{state_shown, AreValid}
use Rattle.cics_history.specs.declared.ops.Op.{Op}
use Rattle.cics_history.specs.declared.ops.Op.TheVariants.{ReadUpdate}
use Rattle.cics_history.specs.declared.ops.Answer.{Answer}
use Rattle.cics_history.specs.declared.ops.Done.TheVariants.{Answered, MustWait}
use Rattle.cics_history.specs.declared.ops.Entry.{Entry}
use Rattle.cics_history.specs.declared.ops.UnitState.{UnitState}
use Rattle.cics_history.specs.declared.ops.UnitState.TheVariants.{Open}
use Rattle.cics_units.proofs.UsesInTable.{uses_alike, uses_free, awaited_open}
use Rattle.cics_units.proofs.Awaiting.{awaited-in_place}
use Rattle.cics_units.proofs.AppliedKept.{bound_as_opened, op_seen, kept_applied, applied_answer, applied_content}
use Rattle.cics_units.proofs.KeptUnits.{kept_roomier, logical_alike, is_entered, kept_unlocked}

-- a unit that is open has begun and not ended
pub live_of : (s : UnitsState) (u : ℕ) → IsOpenUnit s u → is_live s u ≡ true
live_of s u opened = and_from _ _ (lt-ltb u (length s.outcomes) opened.0) opened.1

-- a task with an open unit, or with none, may execute a command
pub acts_of : (s : UnitsState) (u : Option ℕ) → IsOpenOrNone s u → may_act s u ≡ true
acts_of s None opened = refl
acts_of s (Some u) opened = live_of s u opened

-- what holds of the units holds of them with lists that have the same
pub in_lists : (P : UnitsValue → Type 0) (o : OpeningState) (p : CoreValue) {trace es : List Entry} {outcomes outs : List UnitState} {commits cs : List ℕ} → es ≡ trace → outs ≡ outcomes → cs ≡ commits →
    P (record { state = state_shown o trace outcomes commits p; store = shown_store p.stores.store }) → P (record { state = state_shown o es outs cs p; store = shown_store p.stores.store })
in_lists P o p es outs cs = subst P (λ i. record { state = state_shown o (sym es i) (sym outs i) (sym cs i) p; store = shown_store p.stores.store })

module _ (o : OpeningState) (trace : List Entry) (outcomes : List UnitState) (commits : List ℕ) (p new : CoreValue)
    (is : AreValid (state_shown o trace outcomes commits p) p.stores p.table) where
  abbrev before : UnitsState
  before = state_shown o trace outcomes commits p

  -- ---- UNLOCK
  module _ (u : ℕ) (f : Bytes) (live : is_live before u ≡ true)
      (done : new ≡ record p { table = table_unlocked o u f (read_at p.reads u f) p.table; reads = filter (λ r. not (is_read_of u f r)) p.reads }) where
    abbrev unlocked : CoreValue
    unlocked = record p { table = table_unlocked o u f (read_at p.reads u f) p.table; reads = filter (λ r. not (is_read_of u f r)) p.reads }

    unlocked_then : AreValid (after_unlock before u f) p.stores unlocked.table
    unlocked_then = kept_unlocked before p.stores p.table is u f live

    state_then : state_shown o trace outcomes commits unlocked ≡ after_unlock before u f
    state_then = λ i. record before { reads = unlocked.reads; counts = sym unlocked_then.table.counts i }

    pub unlocked_state : state_shown o trace outcomes commits new ≡ after_unlock before u f
    unlocked_state = ap (state_shown o trace outcomes commits) done ∙ state_then

    pub unlocked_kept : AreValid (state_shown o trace outcomes commits new) new.stores new.table
    unlocked_kept = subst (λ n. AreValid (state_shown o trace outcomes commits n) n.stores n.table) (sym done)
        (subst (λ s. AreValid s p.stores unlocked.table) (sym state_then) unlocked_then)

  -- ---- The end of a unit
  module _ (u : ℕ) (live : is_live before u ≡ true) (outcome : UnitState) (table : new.table ≡ released p.table u)
      (reads : new.reads ≡ filter (λ r. not (r.unit == u)) p.reads) (kept : AreValid (after_end before u outcome) new.stores (released p.table u)) where
    pub ended_state : state_shown o trace (slice_set outcomes u outcome) (commits_with outcome u commits) new ≡ after_end before u outcome
    ended_state = λ i. record before {
      outcomes = slice_set outcomes u outcome;
      commits = commits_with outcome u commits;
      reads = reads i;
      counts = (ap counts_in table ∙ sym kept.table.counts) i;
      next = sym kept.places i;
    }

    pub ended_kept : AreValid (state_shown o trace (slice_set outcomes u outcome) (commits_with outcome u commits) new) new.stores new.table
    ended_kept = subst (λ s. AreValid s new.stores new.table) (sym ended_state) (subst (AreValid (after_end before u outcome) new.stores) (sym table) kept)

  -- ---- A command
  module _ (u : Option ℕ) (op : Op) (acts : may_act before u ≡ true) (free : awaited before u op ≡ None) (ready : is_ready_op before u op ≡ true)
      (room : unit_or_next u outcomes < length p.stores.images) (answer : Answer) (bound : IsBound p.stores.store op (is_recoverable o op)) (own : Bool)
      (own_is : IsOwn op (is_writer p.table (unit_or_next u outcomes) (queue_on op)) own)
      (applied : IsApplied p.stores.store new.stores.store (kept_by p.stores.images (unit_or_next u outcomes)) (kept_by new.stores.images (unit_or_next u outcomes)) op (is_recoverable o op) own answer)
      (others : AreOthersKept p.stores.images new.stores.images (unit_or_next u outcomes))
      (table : new.table ≡ table_executed o (unit_or_next u outcomes) op answer.condition p.reads p.table)
      (reads : new.reads ≡ reads_after (unit_or_next u outcomes) op answer.condition p.reads) where
    pub told : answer ≡ (apply (store_of before) op).answer
    told = applied_answer before p.stores new.stores p.table is u op acts free ready room own answer own_is bound applied others

    abbrev entry : Entry
    entry = record { unit = unit_or_next u outcomes; op = op; answer = answer }

    kept_then : AreValid (entered before u op answer) new.stores (table_executed o (unit_or_next u outcomes) op answer.condition p.reads p.table)
    kept_then = subst (λ a. AreValid (entered before u op a) new.stores (table_executed o (unit_or_next u outcomes) op a.condition p.reads p.table)) (sym told)
        (kept_applied before p.stores new.stores p.table is u op acts free ready room own answer own_is bound applied others)

    entered_state : state_shown o (trace ++ entry ∷ []) (outcomes_with u outcomes) commits new ≡ entered before u op answer
    entered_state = λ i. record (entered before u op answer) {
      reads = reads i;
      counts = (ap counts_in table ∙ sym kept_then.table.counts) i;
      next = sym kept_then.places i;
    }

    pub content : answer.content ≡ given_record p.stores.store (is_writer p.table (unit_or_next u outcomes) (queue_on op)) op
    content = applied_content before p.stores new.stores p.table is u op acts free ready room own answer own_is bound applied others

    pub executed_state : state_shown o (trace ++ entry ∷ []) (outcomes_with u outcomes) commits new ≡ after_execution before u op
    executed_state = entered_state ∙ ap (entered before u op) told ∙ sym (is_entered before p.stores new.stores p.table is u op acts free)

    pub executed_shown : AreValid (state_shown o (trace ++ entry ∷ []) (outcomes_with u outcomes) commits new) new.stores new.table
    executed_shown = subst (λ s. AreValid s new.stores new.table) (sym entered_state) (subst (AreValid (entered before u op answer) new.stores) (sym table) kept_then)

-- a unit that begins is one more
pub with_len : (u : Option ℕ) (outs : List UnitState) → length (outcomes_with u outs) ≤ length outs + 1
with_len None outs = omega (arith, length-append outs (Open ∷ []))
with_len (Some u) outs = omega arith

-- the key of an update read is as short as those of all
pub read_short : (reads : List UpdateRead) (u : ℕ) (f : Bytes) → All (λ r. length r.key ≤ 255) reads → IfSome (read_at reads u f) (λ k. length k ≤ 255)
read_short [] u f short = tt
read_short (r ∷ rs) u f short =
    elim (is_read_of u f r) as (λ b. IfSome (if b then Some r.key else read_at rs u f) (λ k. length k ≤ 255)) [
      | true ↦ All-head (λ x. length x.key ≤ 255) r rs short
      | false ↦ read_short rs u f (All-tail (λ x. length x.key ≤ 255) r rs short)
    ]

-- ---- The beginning
-- what has just begun shows the beginning
pub begun_shown : (o : OpeningState) (trace : List Entry) (outcomes : List UnitState) (commits : List ℕ) (p : CoreValue) (m : StoreValue) →
    p ≡ record { stores = record { store = m; images = [] }; table = []; reads = [] } → trace ≡ [] → outcomes ≡ [] → commits ≡ [] →
    AreValid (initial_units o) (record { store = m; images = [] }) [] → AreValid (state_shown o trace outcomes commits p) p.stores p.table
begun_shown o trace outcomes commits p m parts no_entry no_unit no_commit kept = rw (parts, no_entry, no_unit, no_commit) (subst (λ next. AreValid (record (initial_units o) { next = next })
    (record { store = m; images = [] }) []) kept.places kept)

-- ---- A command that is bound
-- what is known of it once it is asked which unit is in its way
pub record IsAsked (o : OpeningState) (trace : List Entry) (outcomes : List UnitState) (commits : List ℕ) (p : CoreValue) (u : Option ℕ) (b : BoundOp) (n : ℕ) (h : Option ℕ) : Type 0 where
  pub acts : may_act (state_shown o trace outcomes commits p) u ≡ true
  pub ready : is_ready_op (state_shown o trace outcomes commits p) u b.op.now ≡ true
  pub acting : n ≡ unit_or_next u outcomes
  -- it is as recoverable as the opening has it
  pub recoverable : b.recoverable ≡ is_recoverable o b.op.now
  pub stands : IsBound p.stores.store b.op.now (is_recoverable o b.op.now)
  pub used : listed b.uses ≡ uses_if (is_recoverable o b.op.now) b.op.now
  pub own : IsOwn b.op.now (is_writer p.table (unit_or_next u outcomes) (queue_on b.op.now)) b.own
  -- whom it has to wait for is the unit in its way
  pub way : h ≡ blocking_unit p.table p.stores.store.trans_data (is_recoverable o b.op.now) u (unit_or_next u outcomes) b.op.now

-- ---- Calls of the core
module _ (o : OpeningState) (trace : List Entry) (outcomes : List UnitState) (commits : List ℕ) (p new : CoreValue)
    (is : AreValid (state_shown o trace outcomes commits p) p.stores p.table) where
  abbrev state_before : UnitsState
  state_before = state_shown o trace outcomes commits p

  -- units with these commands, outcomes, commits, reads, counts and NEXT cursors
  abbrev shows : List Entry → List UnitState → List ℕ → List UpdateRead → Table → Map ℕ → UnitsState
  shows entries outs turns reads t next = record { opening = o; trace = entries; outcomes = outs; commits = turns; reads = reads; counts = counts_in t; next = next }

  -- after a refused call all is as it was, but for more room
  pub refused_kept : IsCoreAsBefore p new → (entries : List Entry) (outs : List UnitState) (turns : List ℕ) → entries ≡ trace → outs ≡ outcomes → turns ≡ commits →
      AreValid (state_shown o entries outs turns new) new.stores new.table
  refused_kept same entries outs turns entries_same outs_same turns_same =
      subst (λ t. AreValid (shows entries outs turns new.reads t (places_of new.stores.store.temp_storage)) new.stores t) (sym same.table)
      (subst (λ r. AreValid (shows entries outs turns r p.table (places_of new.stores.store.temp_storage)) new.stores p.table) (sym same.reads)
      (subst (λ (m : StoreValue). AreValid (shows entries outs turns p.reads p.table (places_of m.temp_storage)) new.stores p.table) (sym same.stores.store)
      (rw (entries_same, outs_same, turns_same) (kept_roomier state_before p.stores p.table is new.stores same.stores.store same.stores.kept same.stores.longer))))

  module _ (u : Option ℕ) (op : Op) (acts : may_act state_before u ≡ true) where
    -- the unit in a command's way, as the table and the queues tell
    abbrev pub blocker_now : Option ℕ
    blocker_now = blocking_unit p.table p.stores.store.trans_data (is_recoverable o op) u (unit_or_next u outcomes) op

    -- is the one that it waits for
    pub awaited_is : awaited state_before u op ≡ blocker_now
    awaited_is = awaited-in_place state_before p.table is.sound is.table u acts p.stores.store p.stores.images is.place (logical_alike state_before p.stores p.table is) op

    pub waits : (h : ℕ) → blocker_now ≡ Some h → MustWait h ≡ execution state_before u op
    waits h held = sym (ap (done_of state_before u op) (awaited_is ∙ held))

    pub waits_unchanged : (h : ℕ) → blocker_now ≡ Some h → state_before ≡ after_execution state_before u op
    waits_unchanged h held = sym (ap (state_of state_before u op) (awaited_is ∙ held))

    -- and is open
    pub waits_open : (h : ℕ) → blocker_now ≡ Some h → IsOpenUnit state_before h
    waits_open h held = awaited_open state_before p.table is.sound is.table u op h (awaited_is ∙ held)

    -- if there is none, what it uses is free for the unit that acts
    pub free_way : blocker_now ≡ None → AreFreeFor p.table (uses_if (is_recoverable o op) op) (unit_or_next u outcomes)
    free_way none = subst (λ rs. AreFreeFor p.table rs (unit_or_next u outcomes)) (sym (uses_alike o op))
        (uses_free state_before p.table is.sound is.table u op (awaited_is ∙ none))

    -- and it sees enough
    pub seen_way : blocker_now ≡ None → IsSeen p.stores.store op (is_writer p.table (unit_or_next u outcomes) (queue_on op))
    seen_way none = op_seen state_before p.stores p.stores p.table is u op acts (awaited_is ∙ none) op (awaited_is ∙ none)

    module _ (none : blocker_now ≡ None) (ready : is_ready_op state_before u op ≡ true)
        (answer : Answer) (bound : IsBound p.stores.store op (is_recoverable o op)) (done : IsExecuted p new (unit_or_next u outcomes) op (is_recoverable o op) answer) where
      free : awaited state_before u op ≡ None
      free = awaited_is ∙ none

      abbrev roomy_parts : CoreValue
      roomy_parts = record { stores = done.roomy; table = p.table; reads = p.reads }

      -- room changes no NEXT cursor
      roomy_state : state_shown o trace outcomes commits roomy_parts ≡ state_before
      roomy_state = λ i. record state_before { next = ap (λ (m : StoreValue). places_of m.temp_storage) done.room.store i }

      roomy_kept : AreValid (state_shown o trace outcomes commits roomy_parts) done.roomy p.table
      roomy_kept = subst (λ s. AreValid s done.roomy p.table) (sym roomy_state) (kept_roomier state_before p.stores p.table is done.roomy done.room.store done.room.kept done.room.longer)

      -- so the unit may act with that room too
      roomy_acts : may_act (state_shown o trace outcomes commits roomy_parts) u ≡ true
      roomy_acts = ap (λ s. may_act s u) roomy_state ∙ acts

      roomy_free : awaited (state_shown o trace outcomes commits roomy_parts) u op ≡ None
      roomy_free = ap (λ s. awaited s u op) roomy_state ∙ free

      roomy_ready : is_ready_op (state_shown o trace outcomes commits roomy_parts) u op ≡ true
      roomy_ready = ap (λ s. is_ready_op s u op) roomy_state ∙ ready

      table_is : new.table ≡ table_executed o (unit_or_next u outcomes) op answer.condition p.reads p.table
      table_is = done.done.table ∙ by (is_normal answer.condition)
        where
          by : (b : Bool) →
              (if b then table_changed (is_recoverable o op) (unit_or_next u outcomes) op p.reads p.table else p.table)
              ≡ (if not b then p.table else table_changed (is_recoverable o op) (unit_or_next u outcomes) op p.reads p.table)
          by true = refl
          by false = refl

      bound_then : IsBound done.roomy.store op (is_recoverable o op)
      bound_then = subst (λ m. IsBound m op (is_recoverable o op)) (sym done.room.store) bound

      -- the record of the answer is the one that was looked up
      pub record_given : answer.content ≡ given_record p.stores.store (is_writer p.table (unit_or_next u outcomes) (queue_on op)) op
      record_given = content o trace outcomes commits roomy_parts new roomy_kept u op roomy_acts roomy_free roomy_ready done.begun answer bound_then done.own done.own_is done.done.applied done.done.others table_is done.done.reads
          ∙ ap (λ m. given_record m (is_writer p.table (unit_or_next u outcomes) (queue_on op)) op) done.room.store

      pub parts_state : state_shown o (trace ++ record { unit = unit_or_next u outcomes; op = op; answer = answer } ∷ []) (outcomes_with u outcomes) commits new ≡ after_execution state_before u op
      parts_state = executed_state o trace outcomes commits roomy_parts new roomy_kept u op roomy_acts roomy_free roomy_ready done.begun answer bound_then done.own done.own_is done.done.applied done.done.others table_is done.done.reads
          ∙ ap (λ s. after_execution s u op) roomy_state

      pub parts_kept : AreValid (state_shown o (trace ++ record { unit = unit_or_next u outcomes; op = op; answer = answer } ∷ []) (outcomes_with u outcomes) commits new) new.stores new.table
      parts_kept = executed_shown o trace outcomes commits roomy_parts new roomy_kept u op roomy_acts roomy_free roomy_ready done.begun answer bound_then done.own done.own_is done.done.applied done.done.others table_is done.done.reads

      pub answered : Answered (unit_or_next u outcomes) answer ≡ execution state_before u op
      answered = ap (Answered (unit_or_next u outcomes))
          (told o trace outcomes commits roomy_parts new roomy_kept u op roomy_acts roomy_free roomy_ready done.begun answer bound_then done.own done.own_is done.done.applied done.done.others table_is done.done.reads
          ∙ ap (λ s. (apply (store_of s) op).answer) roomy_state)
          ∙ sym (ap (done_of state_before u op) free)

  -- ---- A command that is bound to what stands, and the unit that it has to wait for
  module _ (u : Option ℕ) (op : Op) (b : BoundOp) (n : ℕ) (h : Option ℕ) (same : b.op.now ≡ op) (bound : IsBoundFor p n b) (acting : n ≡ unit_or_next u outcomes)
      (acts : may_act state_before u ≡ true) (ready : is_ready_op state_before u op ≡ true) (temp : is_temp op ≡ true → b.recoverable ≡ is_recoverable o op)
      (told : (n : ℕ) → IsBoundFor p n b → h ≡ blocking_unit p.table p.stores.store.trans_data b.recoverable u n b.op.now) where
    as_opened : b.recoverable ≡ is_recoverable o b.op.now
    as_opened = bound_as_opened state_before p.stores p.table is b.op.now b.recoverable bound.bound
        (λ on_temp. temp (sym (ap is_temp same) ∙ on_temp) ∙ ap (is_recoverable o) (sym same))

    pub asked : IsAsked o trace outcomes commits p u b n h
    asked = record {
      acts = acts;
      ready = subst (λ x. is_ready_op state_before u x ≡ true) (sym same) ready;
      acting = acting;
      recoverable = as_opened;
      stands = subst (IsBound p.stores.store b.op.now) as_opened bound.bound;
      used = bound.used ∙ ap (λ r. uses_if r b.op.now) as_opened;
      own = subst (λ n. IsOwn b.op.now (is_writer p.table n (queue_on b.op.now)) b.own) acting bound.own;
      way = told n bound ∙ ap (λ r. blocking_unit p.table p.stores.store.trans_data r u n b.op.now) as_opened
          ∙ ap (λ n. blocking_unit p.table p.stores.store.trans_data (is_recoverable o b.op.now) u n b.op.now) acting;
    }

-- READ UPDATE is ready if the unit has no record of the file read for update
pub none_open_of : (s : UnitsState) (u : Option ℕ) (op : Op) → ((v : ℕ) → list_any (λ r. r.unit == v) s.reads ≡ true → v < length s.outcomes) → is_ready_op s u op ≡ true → is_read op ≡ true → read_at s.reads (unit_or_next u s.outcomes) (file_of op) ≡ None
none_open_of s u (ReadUpdate f k) known ready read = by u (and_parts _ _ ready).1
  where
    by : (u : Option ℕ) → not (is_some (has_read s u f)) ≡ true → read_at s.reads (unit_or_next u s.outcomes) f ≡ None
    by None t = no_reads s.reads known
      where
        no_reads : (reads : List UpdateRead) → ((v : ℕ) → list_any (λ r. r.unit == v) reads ≡ true → v < length s.outcomes) → read_at reads (length s.outcomes) f ≡ None
        no_reads [] known = refl
        no_reads (r ∷ rs) known = elim (cases_Bool (is_read_of (length s.outcomes) f r)) [
          | inl own ↦ absurd (not_less (length s.outcomes) (known (length s.outcomes) (or_left _ _ (and_parts (eqb r.unit (length s.outcomes)) (is_same r.file f) own).0)))
          | inr other ↦ rw other (no_reads rs (λ v h. known v (or_right _ _ h)))
        ]
          where
            not_less : (n : ℕ) → n < n → ⊥
            not_less n h = omega (arith, h)
    by (Some v) t = nothing (read_at s.reads v f) t
      where
        nothing : (b : Option Bytes) → not (is_some b) ≡ true → b ≡ None
        nothing None t = refl
        nothing (Some k) t = absurd (false≢true t)
none_open_of s u _ known ready read = absurd (false≢true read)

-- what follows of whatever is there
pub if_open : {P : ℕ → Type 0} (o : Option ℕ) → ((h : ℕ) → o ≡ Some h → P h) → IfSome o P
if_open None f = tt
if_open (Some h) f = f h refl
