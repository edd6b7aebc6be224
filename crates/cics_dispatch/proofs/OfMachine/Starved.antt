-- Recovery: a queue that has nothing to read until its writer commits stays so over a step of a
-- unit of work.
use Rattle.std.specs.Prelude.{◌≡◌, ℕ, ◌<◌, ◌==◌, Bool, true, false, not, cond, ◌&&◌, ◌||◌, if◌then◌else◌, Option, Some, None, unwrap_or, List, [], ◌∷◌, ◌++◌, filter, nat_lt, length, refl}
use Rattle.std.specs.List.{list_any}
use Rattle.std.proofs.Common.{inl, inr, sym, ap, ◌∙◌, arith}
use Rattle.std.proofs.lemmas.Bool.{false≢true, true≢false, cases_Bool, and_parts, and_from, eqb-true, eq-eqb}
use Rattle.cics_names.specs.Keyed.{Bytes, Map, is_same}
use Rattle.cics_names.specs.KeyedLaws.{is_same-self, is_same-eq}
use Rattle.cics_history.specs.declared.resources.Resource.{Resource}
use Rattle.cics_history.specs.declared.resources.Resource.TheVariants.{TdRead as ReadingEnd, TdWrite as WritingEnd}
use Rattle.cics_history.specs.State.{queue_logical, initial_store, UnitsState, UpdateRead, EnqCount}
use Rattle.cics_history.specs.Store.{apply, is_recoverable}
use Rattle.cics_history.specs.Headline.{outcome_of, is_open, is_backed_out, replay}
use Rattle.cics_history.specs.Holding.{uses_of, held_by, conflicts, is_other, owned, blocker_at, blocker_among, is_own, committed_for, is_nothing, writer_awaited, awaited}
use Rattle.cics_history.specs.Execution.{unit_or_next, outcomes_with, entered, with_counts, after_unlock, after_dequeue, after_end, after_ts_reading}
use Rattle.cics_history.specs.Events.{is_live, may_act}
use Rattle.cics_history.specs.Cells.{Content, Td, content, touches, effect, Reading, Writing}
use Rattle.cics_history.specs.Isolation.{Begins, Outcomes, stays, store_by, used, Extends, Alike, AtMost, IsSound}
use Rattle.cics_history.specs.declared.ops.Op.{Op}
use Rattle.cics_history.specs.declared.ops.Op.TheVariants.{Write, Rewrite, Delete, DeleteGeneric, ReadUpdate, TsWrite, TsRewrite, TsDelete, TdWrite, TdRead, TdDelete}
use Rattle.cics_history.specs.declared.ops.Answer.{Answer}
use Rattle.cics_history.specs.declared.ops.Entry.{Entry}
use Rattle.cics_history.specs.declared.ops.UnitState.{UnitState}
use Rattle.cics_history.specs.declared.ops.UnitState.TheVariants.{Open, Committed, BackedOut}
use Rattle.cics_history.proofs.Outcomes.{outcome_of-with, outcome_of-set}
use Rattle.cics_history.proofs.Joining.{touches-recovers}
use Rattle.cics_history.proofs.Replays.{Each_from, replay-push, replay-at, apply-other, apply-own}
use Rattle.cics_history.proofs.Isolated.{used-more}
use Rattle.cics_history.proofs.Waiting.{in_table, none_first, none_either, used_known, other_unit, free_end}
use Rattle.cics_history.proofs.EndsHeld.{end_held}
use Rattle.cics_history.proofs.States.{holder_holds, one_at_each_end}
use Rattle.cics_dispatch.specs.Machine.Machine.{units_after}
use Rattle.cics_dispatch.specs.Machine.Settled.{records_by, is_kept_in, IsStarved}
use Rattle.cics_dispatch.proofs.OfMachine.OtherUnits.{begun, item_read_is}

-- a step of a unit, or of a task without one, leaves each queue without a record that had none for
-- a reader
pub record LeavesStarved (old new : UnitsState) : Type 0 where
  pub starved : (own : Option ℕ) (h : ℕ) (q : Bytes) → is_live old h ≡ true → IsStarved old own h q → IsStarved new own h q

-- ---- The writer is found

-- whoever else owns something of a resource is found
pub held_first : (s : UnitsState) (u : Option ℕ) (r : Resource) (h : ℕ) → is_live s h ≡ true → is_other u h ≡ true → list_any (conflicts r) (held_by s h) ≡ true →
    blocker_at (owned s) u r ≡ None → ⊥
held_first s u r h live other holds none =
    true≢false (sym (in_table s (conflicts r) u h (begun s h live) other holds) ∙ none_first (owned s) u r none)

-- an open unit that wrote to a LOGICAL queue owns its writing end
holds_end : (s : UnitsState) (h : ℕ) (q : Bytes) → is_open (outcome_of s.outcomes h) ≡ true → queue_logical s.opening q ≡ true → used s.trace h (Td q) Writing ≡ true →
    list_any (conflicts (WritingEnd q)) (held_by s h) ≡ true
holds_end s h q began logical writes = end_held s h q Writing ∙ and_from _ _ began (and_from _ _ logical writes)

pub writer_found : (s : UnitsState) (u : Option ℕ) (h : ℕ) (q : Bytes) → is_live s h ≡ true → is_other u h ≡ true → queue_logical s.opening q ≡ true → used s.trace h (Td q) Writing ≡ true →
    blocker_at (owned s) u (WritingEnd q) ≡ None → ⊥
writer_found s u h q live other logical writes none =
    held_first s u (WritingEnd q) h live other (holds_end s h q (and_parts (nat_lt h (length s.outcomes)) _ live).1 logical writes) none

-- ---- A command that is executed

-- a command on a queue without a record leaves it so, unless it writes to it
abbrev writes_to : Op → Bool
writes_to (TdWrite q d) = true
writes_to o = false

effect_nothing : (op : Op) (q : Bytes) (c : Content) → touches op (Td q) ≡ true → writes_to op ≡ false → unwrap_or c [] ≡ [] → unwrap_or (effect op c).cell [] ≡ []
effect_nothing (TdRead r) q None on reads none = refl
effect_nothing (TdRead r) q (Some []) on reads none = refl
effect_nothing (TdRead r) q (Some (x ∷ xs)) on reads none = cc
effect_nothing (TdDelete r) q None on reads none = refl
effect_nothing (TdDelete r) q (Some c) on reads none = refl
effect_nothing (TdWrite r d) q c on reads none = absurd (true≢false reads)
effect_nothing (Write f k r) q c on reads none = absurd (false≢true on)
effect_nothing (Rewrite f k r) q c on reads none = absurd (false≢true on)
effect_nothing (Delete f k) q c on reads none = absurd (false≢true on)
effect_nothing (DeleteGeneric f p) q c on reads none = absurd (false≢true on)
effect_nothing (ReadUpdate f k) q c on reads none = absurd (false≢true on)
effect_nothing (TsWrite r d) q c on reads none = absurd (false≢true on)
effect_nothing (TsRewrite r n d) q c on reads none = absurd (false≢true on)
effect_nothing (TsDelete r) q c on reads none = absurd (false≢true on)

module _ (s : UnitsState) (u : Option ℕ) (op : Op) (a : Answer) (free : awaited s u op ≡ None) (own : Option ℕ) (h : ℕ) (q : Bytes) (live : is_live s h ≡ true) (is : IsStarved s own h q) where
  abbrev acting : ℕ
  acting = unit_or_next u s.outcomes

  -- whoever else writes to it has to wait
  other_writer : (r d : Bytes) → op ≡ TdWrite r d → is_same r q ≡ true → (h == acting) ≡ false → ⊥
  other_writer r d this same differs =
      let one : r ≡ q = is_same-eq r q same in
      let awaits : awaited s u (TdWrite q d) ≡ None = ap (λ x. awaited s u (TdWrite x d)) (sym one) ∙ ap (awaited s u) (sym this) ∙ free in
      let none : blocker_among (owned s) u (uses_of s.opening (TdWrite q d)) ≡ None = (none_either _ _ awaits).0 in
      let ends : blocker_among (owned s) u (WritingEnd q ∷ []) ≡ None = ap (λ b. blocker_among (owned s) u (if b then WritingEnd q ∷ [] else [])) (sym is.logical) ∙ none in
      writer_found s u h q live (other_unit u s.outcomes h differs) is.logical is.writes (none_either _ _ ends).0

  module _ (fin : Outcomes) (gone : is_backed_out (fin h) ≡ true) where
    abbrev entry : Entry
    entry = record { unit = acting; op = op; answer = a }

    -- what the writer writes doesn't stay
    own_writer : (r d : Bytes) → op ≡ TdWrite r d → is_same r q ≡ true → (h == acting) ≡ true → stays s.opening fin entry ≡ false
    own_writer r d this same own_one =
        let recoverable : is_recoverable s.opening op ≡ true = ap (is_recoverable s.opening) this ∙ ap (queue_logical s.opening) (is_same-eq r q same) ∙ is.logical in
        let back : is_backed_out (fin acting) ≡ true = ap (λ n. is_backed_out (fin n)) (sym (eqb-true h acting own_one)) ∙ gone in
        rw (recoverable, back) refl

    -- so what stays of the command doesn't write to it
    not_written : (o : Op) → op ≡ o → touches o (Td q) ≡ true → stays s.opening fin entry ≡ true → writes_to o ≡ false
    not_written (TdWrite r d) this on stay = elim (cases_Bool (h == acting)) [
      | inl own_one ↦ absurd (false≢true (sym (own_writer r d this on own_one) ∙ stay))
      | inr differs ↦ absurd (other_writer r d this on differs)
    ]
    not_written _ this on stay = refl

    records_entered : records_by s fin q ≡ [] → unwrap_or (content (store_by s.opening fin (s.trace ++ entry ∷ [])) (Td q)) [] ≡ []
    records_entered none =
        let before = store_by s.opening fin s.trace in
        ap (λ t. unwrap_or (content t (Td q)) []) (replay-push (stays s.opening fin) entry (initial_store s.opening) s.trace)
        ∙ elim (stays s.opening fin entry) as (λ b. stays s.opening fin entry ≡ b → unwrap_or (content (cond b (apply before op).store before) (Td q)) [] ≡ []) [
          | false ↦ λ goes. none
          | true ↦ λ stay. elim (cases_Bool (touches op (Td q))) [
            | inr off ↦ ap (λ c. unwrap_or c []) (apply-other before op (Td q) off) ∙ none
            | inl on ↦
                ap (λ c. unwrap_or c []) (apply-own before op (Td q) on)
                ∙ effect_nothing op q (content before (Td q)) on (not_written op refl on stay) none
          ]
        ] refl

  entered_one : IsStarved (entered s u op a) own h q
  entered_one = record {
    logical = is.logical;
    writes = used-more s.trace (record { unit = acting; op = op; answer = a }) h (Td q) Writing is.writes;
    nothing = λ fin ends gone kept.
        records_entered fin gone
        (is.nothing fin (λ n shut. ends n (ap is_open (outcome_of-with u s.outcomes n) ∙ shut) ∙ outcome_of-with u s.outcomes n) gone kept);
  }

pub entered_starved : (s : UnitsState) (u : Option ℕ) (op : Op) (a : Answer) → awaited s u op ≡ None → LeavesStarved s (entered s u op a)
entered_starved s u op a free = record { starved = λ own h q live is. entered_one s u op a free own h q live is }

-- ---- The other steps

-- another history with the same commands and no more endings
starved_yet : (s : UnitsState) (outcomes : List UnitState) (commits : List ℕ) (reads : List UpdateRead) (counts : List EnqCount) (next : Map ℕ) →
    ((fin : Outcomes) → Extends (outcome_of outcomes) fin → Extends (outcome_of s.outcomes) fin) → (own : Option ℕ) (h : ℕ) (q : Bytes) → IsStarved s own h q →
    IsStarved (record { opening = s.opening; trace = s.trace; outcomes = outcomes; commits = commits; reads = reads; counts = counts; next = next }) own h q
starved_yet s outcomes commits reads counts next fewer own h q is = record {
  logical = is.logical;
  writes = is.writes;
  nothing = λ fin ends gone kept. is.nothing fin (fewer fin ends) gone kept;
}

-- no step
pub starved_all : (s : UnitsState) → LeavesStarved s s
starved_all s = record { starved = λ own h q live is. is }

-- ENQ that acquires its value
pub counted_starved : (s : UnitsState) (u : Option ℕ) (counts : List EnqCount) → LeavesStarved s (with_counts s (outcomes_with u s.outcomes) counts)
counted_starved s u counts = record {
  starved = λ own h q live is.
      starved_yet s (outcomes_with u s.outcomes) s.commits s.reads counts s.next
      (λ fin ends n shut. ends n (ap is_open (outcome_of-with u s.outcomes n) ∙ shut) ∙ outcome_of-with u s.outcomes n) own h q is;
}

-- DEQ
pub dequeued_starved : (s : UnitsState) (u : ℕ) (value : Bytes) → LeavesStarved s (after_dequeue s u value)
dequeued_starved s u value = record { starved = λ own h q live is. starved_yet s s.outcomes s.commits s.reads (after_dequeue s u value).counts s.next (λ fin ends. ends) own h q is }

-- UNLOCK
pub unlocked_starved : (s : UnitsState) (u : ℕ) (f : Bytes) → LeavesStarved s (after_unlock s u f)
unlocked_starved s u f = record { starved = λ own h q live is. starved_yet s s.outcomes s.commits (after_unlock s u f).reads s.counts s.next (λ fin ends. ends) own h q is }

-- READQ TS
pub item_read_starved : (s : UnitsState) (q : Bytes) (item : ℕ) → LeavesStarved s (after_ts_reading s q item)
item_read_starved s q item =
    item_read_is (λ n. LeavesStarved s n) s q item (starved_all s) (record { starved = λ own h r live is. starved_yet s s.outcomes s.commits s.reads s.counts _ (λ fin ends. ends) own h r is })

-- the end of a task's unit, if it has one
pub closed_starved : (s : UnitsState) (u : Option ℕ) (outcome : UnitState) → may_act s u ≡ true → (own : Option ℕ) (h : ℕ) (q : Bytes) → IsStarved s own h q → IsStarved (units_after s u outcome) own h q
closed_starved s None outcome acts own h q is = is
closed_starved s (Some u) outcome acts own h q is =
    let after = after_end s u outcome in
    starved_yet s after.outcomes after.commits after.reads after.counts after.next fewer own h q is
  where
    fewer : (fin : Outcomes) → Extends (outcome_of (after_end s u outcome).outcomes) fin → Extends (outcome_of s.outcomes) fin
    fewer fin ends n shut =
        let other : (n == u) ≡ false = elim (cases_Bool (n == u)) [
          | inl own_one ↦ absurd (false≢true (sym shut ∙ ap (λ k. is_open (outcome_of s.outcomes k)) (eqb-true n u own_one) ∙ (and_parts (nat_lt u (length s.outcomes)) _ acts).1))
          | inr differs ↦ differs
        ] in
        let same = outcome_of-set s.outcomes u n outcome (λ e. false≢true (sym other ∙ eq-eqb n u e)) in
        ends n (ap is_open same ∙ shut) ∙ same

-- ---- What a reader finds

-- the ending in which every other open unit is backed out
abbrev others_gone : UnitsState → Option ℕ → Outcomes
others_gone s own = λ n. if is_open (outcome_of s.outcomes n) && is_other own n then BackedOut else outcome_of s.outcomes n

others_end : (s : UnitsState) (own : Option ℕ) → Extends (outcome_of s.outcomes) (others_gone s own)
others_end s own n shut = rw shut refl

-- what is left of the entries that were kept
filter_both : (p r : Entry → Bool) (es : List Entry) → filter r (filter p es) ≡ filter (λ e. p e && r e) es
filter_both p r [] = refl
filter_both p r (e ∷ es) =
    elim (p e) as (λ b. filter r (cond b (e ∷ filter p es) (filter p es)) ≡ cond (b && r e) (e ∷ filter (λ d. p d && r d) es) (filter (λ d. p d && r d) es)) [
      | true ↦ ap (λ l. cond (r e) (e ∷ l) l) (filter_both p r es)
      | false ↦ filter_both p r es
    ]

seen_yet : (oc : UnitState) (other : Bool) → (not (is_backed_out oc) && (not other || not (is_open oc))) ≡ not (is_backed_out (if is_open oc && other then BackedOut else oc))
seen_yet Open true = refl
seen_yet Open false = refl
seen_yet Committed true = refl
seen_yet Committed false = refl
seen_yet BackedOut true = refl
seen_yet BackedOut false = refl

-- it is what the ending leaves in which every other open unit is backed out
committed_is : (s : UnitsState) (own : Option ℕ) (q : Bytes) → queue_logical s.opening q ≡ true → committed_for s own q ≡ records_by s (others_gone s own) q
committed_is s own q logical =
    let o = s.opening in
    let out : Outcomes = outcome_of s.outcomes in
    let seen : Entry → Bool = λ e. is_own own e.unit || not (is_open (out e.unit)) in
    let on : (e : Entry) → touches e.op (Td q) ≡ true → (stays o out e && seen e) ≡ stays o (others_gone s own) e =
    λ e c. let rec : is_recoverable o e.op ≡ true = touches-recovers o e.op (Td q) c ∙ logical in rw rec (seen_yet (out e.unit) (is_other own e.unit)) in
    ap (λ c. unwrap_or c [])
    (ap (λ es. content (replay (initial_store o) es) (Td q)) (filter_both (stays o out) seen s.trace)
    ∙ replay-at (Td q) (λ e. stays o out e && seen e) (stays o (others_gone s own)) s.trace (Each_from _ on s.trace) (initial_store o) (initial_store o) refl)

-- a task's own unit is kept if it is open
own_kept : (s : UnitsState) (own : Option ℕ) → may_act s own ≡ true → is_kept_in (others_gone s own) own ≡ true
own_kept s None acts = refl
own_kept s (Some u) acts = rw (eq-eqb u u refl) (by (outcome_of s.outcomes u) (and_parts (nat_lt u (length s.outcomes)) _ acts).1)
  where
    by : (oc : UnitState) → is_open oc ≡ true → not (is_backed_out (if is_open oc && false then BackedOut else oc)) ≡ true
    by Open yet = refl
    by Committed yet = cc
    by BackedOut yet = cc

-- a reader that is starved has to wait
pub starved_waits : (s : UnitsState) (own : Option ℕ) (h : ℕ) (q : Bytes) → may_act s own ≡ true → is_live s h ≡ true → is_other own h ≡ true → IsStarved s own h q → awaited s own (TdRead q) ≡ None → ⊥
starved_waits s own h q acts live other is none =
    let yet = (and_parts (nat_lt h (length s.outcomes)) (is_open (outcome_of s.outcomes h)) live).1 in
    let gone : is_backed_out (others_gone s own h) ≡ true = rw (yet, other) refl in
    let nothing : is_nothing (committed_for s own q) ≡ true = ap is_nothing (committed_is s own q is.logical ∙ is.nothing (others_gone s own) (others_end s own) gone (own_kept s own acts)) in
    let writer : writer_awaited s own (TdRead q) ≡ None = (none_either (blocker_among (owned s) own (uses_of s.opening (TdRead q))) (writer_awaited s own (TdRead q)) none).1 in
    writer_found s own h q live other is.logical is.writes (rw (is.logical, nothing) at writer)

-- ---- Where a reader is starved

-- a queue begins with another that has no record
begins_nothing : (c d : Content) → Begins c d → unwrap_or d [] ≡ [] → unwrap_or c [] ≡ []
begins_nothing None d front none = refl
begins_nothing (Some []) d front none = refl
begins_nothing (Some (x ∷ xs)) None front none = absurd front
begins_nothing (Some (x ∷ xs)) (Some []) front none = absurd front
begins_nothing (Some (x ∷ xs)) (Some (y ∷ ys)) front none = cc

not_so : (b : Bool) → not b ≡ true → b ≡ false
not_so true is = cc
not_so false is = refl

nothing_is : (xs : List Bytes) → is_nothing xs ≡ true → xs ≡ []
nothing_is [] is = refl
nothing_is (x ∷ xs) is = cc

-- a task finds nothing to read, nobody else owns the reading end, and another unit owns the writing
-- end
module _ (s : UnitsState) (own : Option ℕ) (h : ℕ) (q : Bytes) (sound : IsSound s) (acts : may_act s own ≡ true) (logical : queue_logical s.opening q ≡ true)
    (nothing : is_nothing (committed_for s own q) ≡ true) (free : blocker_at (owned s) own (ReadingEnd q) ≡ None) (writer : blocker_at (owned s) own (WritingEnd q) ≡ Some h) where
  abbrev out : Outcomes
  out = outcome_of s.outcomes

  writer_uses : (is_open (out h) && (queue_logical s.opening q && used s.trace h (Td q) Writing)) ≡ true
  writer_uses = sym (end_held s h q Writing) ∙ (holder_holds s own (WritingEnd q) h writer).1

  module _ (fin : Outcomes) (ends : Extends out fin) (gone : is_backed_out (fin h) ≡ true) (kept : is_kept_in fin own ≡ true) where
    -- a unit that has begun and is the task's own is kept in both
    own_alike : (o : Option ℕ) (n : ℕ) → is_kept_in fin o ≡ true → is_kept_in (others_gone s own) o ≡ true → n < length s.outcomes → n ≡ unit_or_next o s.outcomes →
        is_backed_out (fin n) ≡ is_backed_out (others_gone s own n)
    own_alike None n kept_so kept_alone less is = absurd (never less is)
      where
        never : n < length s.outcomes → n ≡ length s.outcomes → ⊥
        never less is = omega (arith, less, is)
    own_alike (Some u) n kept_so kept_alone less is =
        ap (λ k. is_backed_out (fin k)) is ∙ not_so (is_backed_out (fin u)) kept_so ∙ sym (not_so (is_backed_out (others_gone s own u)) kept_alone)
        ∙ ap (λ k. is_backed_out (others_gone s own k)) (sym is)

    -- who read ends alike in both
    readers : Alike s.trace (Td q) Reading fin (others_gone s own)
    readers n reads = elim (free_end s sound.known own (Td q) Reading (ReadingEnd q) logical (is_same-self q) free n reads) [
      | inl mine ↦ own_alike own n kept (own_kept s own acts) (used_known (length s.outcomes) n (Td q) Reading s.trace sound.known reads) mine
      | inr shut ↦ ap is_backed_out (ends n shut ∙ sym (others_end s own n shut))
    ]

    -- only the writer wrote
    writers : AtMost s.trace (Td q) Writing fin (others_gone s own)
    writers n wrote back = elim (cases_Bool (is_open (out n))) [
      | inr shut ↦ ap is_backed_out (ends n shut) ∙ ap is_backed_out (sym (others_end s own n shut)) ∙ back
      | inl yet ↦
          let parts = and_parts (is_open (out h)) (queue_logical s.opening q && used s.trace h (Td q) Writing) writer_uses in
          let one : n ≡ h = one_at_each_end s sound.one (Td q) logical Writing n h yet parts.0 wrote (and_parts _ _ parts.1).1 in
          ap (λ k. is_backed_out (fin k)) one ∙ gone
    ]

    ended_nothing : records_by s fin q ≡ []
    ended_nothing =
        begins_nothing _ _ (sound.isolated.fronts (Td q) logical fin (others_gone s own) ends (others_end s own) readers writers)
        (sym (committed_is s own q logical) ∙ nothing_is (committed_for s own q) nothing)

  pub is_starved : IsStarved s own h q
  is_starved = record {
    logical = logical;
    writes = (and_parts _ _ (and_parts (is_open (out h)) _ writer_uses).1).1;
    nothing = λ fin ends gone kept. ended_nothing fin ends gone kept;
  }
