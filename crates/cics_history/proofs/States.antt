-- Every call of the units keeps the open units apart, so every run does.
use Rattle.std.proofs.Common.{arith, ◌≡◌, ℕ, eqb, leb, ltb, inl, inr, Bool, true, false, Option, Some, None, List, [], ◌∷◌, length, refl, ap, sym, subst, ◌∙◌, ◌<◌, ◌≤◌, length-append}
use Rattle.std.specs.Prelude.{if◌then◌else◌, unwrap_or, slice_set}
use Rattle.std.proofs.lemmas.Bool.{false≢true, cond_both, and_parts, ltb-true, eqb-true}
use Rattle.std.proofs.lemmas.Option.{slice_get_past}
use Rattle.std.proofs.lemmas.List.{length-set}
use Rattle.cics_names.specs.Keyed.{Bytes, with_value}
use Rattle.cics_tempstor.specs.Queues.{has_item}
use Rattle.cics_history.specs.Store.{ts_queue, apply}
use Rattle.cics_history.specs.Execution.{count_at, enq_of, after_enqueued, after_enqueue, after_dequeue, after_unlock, after_ts_reading, unit_or_next, outcomes_with, entered, state_of, after_execution, after_end}
use Rattle.cics_history.specs.declared.ops.Enqueued.TheVariants.{Taken, CountFull}
use Rattle.cics_history.specs.State.{OpeningState, initial_store, UnitsState, initial_units}
use Rattle.cics_history.specs.Openings.{IsOpeningInOrder}
use Rattle.cics_history.specs.Headline.{outcome_of, is_open, kept, Agrees}
use Rattle.cics_history.specs.Holding.{store_of, uses_of, held_by, owned, blocker_at, blocker_among, writer_awaited, awaited, value_holder, conflicts, is_other}
use Rattle.cics_history.specs.declared.ops.Op.{Op}
use Rattle.cics_history.specs.declared.ops.Entry.{Entry}
use Rattle.cics_history.specs.declared.ops.UnitState.{UnitState}
use Rattle.cics_history.specs.declared.ops.UnitState.TheVariants.{Open, Committed, BackedOut}
use Rattle.cics_history.specs.Events.{Event, Execute, Commit, BackOut, Enqueue, Dequeue, Unlock, ReadItem, is_live, may_act, happens, run}
use Rattle.cics_history.proofs.Effects.{Begins-refl}
use Rattle.cics_history.proofs.Replays.{Each-push, Each_more}
use Rattle.cics_history.proofs.Isolated.{Extends-refl}
use Rattle.cics_history.proofs.Steps.{executes, ends}
use Rattle.cics_history.proofs.SameHistory.{enqueue-same, ts_reading-same}
use Rattle.cics_history.specs.Holders.{IsHeldByOne, HaveBegun}
use Rattle.cics_history.specs.Resources.{is_prefix, most_count}
use Rattle.cics_history.specs.declared.resources.Resource.{Resource}
use Rattle.cics_history.specs.declared.ops.Op.TheVariants.{ReadUpdate}
use Rattle.cics_history.specs.declared.ops.Answer.{Answer}
use Rattle.std.specs.List.{list_any}
use Rattle.cics_history.proofs.Holders.{any_filter, new_read, any_reads_after, any_counted, any_uncounted, found_holds, found_other, holder-found, entered-one, enqueued-one, dequeued-one, unlocked-one, ended-one}
use Rattle.cics_history.proofs.Waiting.{MayRun_from, any_more, none_either, used-held, covers, covers-conflicts}
use Rattle.cics_history.proofs.Stores.{initial-canonical}
use Rattle.cics_history.proofs.Outcomes.{outcome_of-with, outcome_of-set}
use Rattle.cics_history.specs.Isolation.{Each, IsOneAtEachEnd, IsSound}

next_open : (outs : List UnitState) → is_open (outcome_of outs (length outs)) ≡ true
next_open outs = ap (λ o. is_open (unwrap_or o Open)) (slice_get_past outs (length outs) (omega arith))

pub acting_open : (s : UnitsState) (u : Option ℕ) → may_act s u ≡ true →
    is_open (outcome_of s.outcomes (unit_or_next u s.outcomes)) ≡ true
acting_open s None h = next_open s.outcomes
acting_open s (Some u) h = (and_parts _ _ h).1

grows : (u : Option ℕ) (outs : List UnitState) → length outs ≤ length (outcomes_with u outs)
grows None outs = omega (arith, length-append outs (Open ∷ []))
grows (Some u) outs = omega arith

acting_known : (s : UnitsState) (u : Option ℕ) → may_act s u ≡ true →
    unit_or_next u s.outcomes < length (outcomes_with u s.outcomes)
acting_known s None h = omega (arith, length-append s.outcomes (Open ∷ []))
acting_known s (Some u) h = ltb-true _ _ (and_parts _ _ h).0

-- a step that adds an outcome, or none, keeps what was known
known_more : (es : List Entry) (m n : ℕ) → m ≤ n → Each (λ e. e.unit < m) es → Each (λ e. e.unit < n) es
known_more es m n l h =
    Each_more _ _ (λ (e : Entry) (k : e.unit < m). let below : e.unit < n = omega arith in below) es h

-- a command that is executed
begun_more : (s : UnitsState) (u : Option ℕ) (n : ℕ) → n < length s.outcomes →
    n < length (outcomes_with u s.outcomes)
begun_more s u n h = let more = grows u s.outcomes in omega arith

entered-begun : (s : UnitsState) (u : Option ℕ) (op : Op) (a : Answer) → HaveBegun s → may_act s u ≡ true →
    HaveBegun (entered s u op a)
entered-begun s u op a b acts = record {
  readers = λ n h. elim (any_reads_after (λ r. eqb r.unit n)
      (unit_or_next u s.outcomes) op a.condition s.reads h) [
        | inl old ↦ begun_more s u n (b.readers n old)
        | inr new ↦ subst (λ k. k < length (outcomes_with u s.outcomes)) (reader op n new) (acting_known s u acts)
      ];
  counters = λ n h. begun_more s u n (b.counters n h);
}
  where
    reader : (op : Op) (n : ℕ) → new_read (unit_or_next u s.outcomes) op (λ r. eqb r.unit n) ≡ true →
        unit_or_next u s.outcomes ≡ n
    reader (ReadUpdate f k) n h = eqb-true _ _ h
    reader _ n h = absurd (false≢true h)

pub entered-IsSound : (s : UnitsState) (u : Option ℕ) (op : Op) → IsSound s → may_act s u ≡ true →
    awaited s u op ≡ None → IsSound (entered s u op (apply (store_of s) op).answer)
entered-IsSound s u op i acts free = record {
  isolated =
      ends
      (executes i.isolated (unit_or_next u s.outcomes) op
      (MayRun_from s i.known u op free (acting_open s u acts)))
      (λ n shut. outcome_of-with u s.outcomes n);
  known =
      Each-push _ s.trace _
      (known_more s.trace (length s.outcomes) (length (outcomes_with u s.outcomes))
      (grows u s.outcomes) i.known)
      (acting_known s u acts);
  begun = entered-begun s u op (apply (store_of s) op).answer i.begun acts;
  one =
      entered-one s i.known i.begun i.one u op (apply (store_of s) op).answer
      (none_either (blocker_among (owned s) u (uses_of s.opening op)) (writer_awaited s u op) free).0;
}

pub execution-IsSound : (s : UnitsState) (u : Option ℕ) (op : Op) → IsSound s → may_act s u ≡ true →
    IsSound (after_execution s u op)
execution-IsSound s u op i acts =
    elim (awaited s u op) as (λ h. awaited s u op ≡ h → IsSound (state_of s u op h)) [
      | None ↦ λ free. entered-IsSound s u op i acts free
      | Some holder ↦ λ waits. i
    ] refl

-- a unit that ends
pub end-IsSound : (s : UnitsState) (u : ℕ) (outcome : UnitState) → IsSound s → is_live s u ≡ true →
    IsSound (after_end s u outcome)
end-IsSound s u outcome i live = record {
  isolated =
      ends i.isolated
      (λ n shut. outcome_of-set s.outcomes u n outcome
      (λ e. false≢true (sym shut ∙ (ap (λ k. is_open (outcome_of s.outcomes k)) e ∙ was_open))));
  known =
      known_more s.trace (length s.outcomes) (length (slice_set s.outcomes u outcome))
      (omega (arith, length-set s.outcomes u outcome)) i.known;
  begun = record {
    readers =
        λ n h. subst (λ k. n < k) (sym (length-set s.outcomes u outcome))
        (i.begun.readers n (any_filter _ _ s.reads h));
    counters =
        λ n h. subst (λ k. n < k) (sym (length-set s.outcomes u outcome))
        (i.begun.counters n (any_filter _ _ s.counts h));
  };
  one = ended-one s i.one u outcome was_open;
}
  where
    was_open : is_open (outcome_of s.outcomes u) ≡ true
    was_open = (and_parts (ltb u (length s.outcomes)) (is_open (outcome_of s.outcomes u)) live).1

-- ENQ, DEQ, UNLOCK and READQ TS add no entry
pub enqueue-IsSound : (s : UnitsState) (u : Option ℕ) (v : Bytes) → IsSound s → may_act s u ≡ true →
    IsSound (after_enqueue s u v)
enqueue-IsSound s u v i acts =
    elim (value_holder s u v) as
    (λ h. value_holder s u v ≡ h → IsSound (after_enqueued s u v (enq_of s u v h))) [
      | Some holder ↦ λ waits. i
      | None ↦ λ free. elim (leb most_count (count_at s.counts (unit_or_next u s.outcomes) v)) as
          (λ b. IsSound (after_enqueued s u v (if b then CountFull else Taken (unit_or_next u s.outcomes)))) [
            | true ↦ i
            | false ↦ record {
              isolated = ends i.isolated (λ n shut. outcome_of-with u s.outcomes n);
              known =
                  known_more s.trace (length s.outcomes) (length (outcomes_with u s.outcomes))
                  (grows u s.outcomes) i.known;
              begun = record {
                readers = λ n h. begun_more s u n (i.begun.readers n h);
                counters = λ n h. elim (any_counted (λ m w. eqb m n) (unit_or_next u s.outcomes) v s.counts h) [
                  | inl old ↦ begun_more s u n (i.begun.counters n old)
                  | inr new ↦
                      subst (λ k. k < length (outcomes_with u s.outcomes)) (eqb-true _ _ new)
                      (acting_known s u acts)
                ];
              };
              one = enqueued-one s i.known i.begun i.one u v free;
            }
          ]
    ] refl

pub dequeue-IsSound : (s : UnitsState) (u : ℕ) (v : Bytes) → IsSound s → IsSound (after_dequeue s u v)
dequeue-IsSound s u v i = record {
  isolated = i.isolated;
  known = i.known;
  begun = record {
    readers = i.begun.readers;
    counters = λ n h. i.begun.counters n (any_uncounted (λ m w. eqb m n) u v s.counts h);
  };
  one = dequeued-one s i.one u v;
}

pub unlock-IsSound : (s : UnitsState) (u : ℕ) (f : Bytes) → IsSound s → IsSound (after_unlock s u f)
unlock-IsSound s u f i = record {
  isolated = i.isolated;
  known = i.known;
  begun = record { readers = λ n h. i.begun.readers n (any_filter _ _ s.reads h); counters = i.begun.counters };
  one = unlocked-one s i.one u f;
}

pub ts_reading-IsSound : (s : UnitsState) (q : Bytes) (n : ℕ) → IsSound s → IsSound (after_ts_reading s q n)
ts_reading-IsSound s q n i =
    cond_both (has_item (ts_queue (store_of s) q) n)
    (record {
      opening = s.opening;
      trace = s.trace;
      outcomes = s.outcomes;
      commits = s.commits;
      reads = s.reads;
      counts = s.counts;
      next = with_value q n s.next;
    }) s IsSound
    (λ t. record {
      isolated = i.isolated;
      known = i.known;
      begun = record { readers = i.begun.readers; counters = i.begun.counters };
      one = i.one;
    }) (λ f. i)

-- every event, and so every run
pub happens-IsSound : (s : UnitsState) (e : Event) → IsSound s → IsSound (happens s e)
happens-IsSound s (Execute u op) i =
    cond_both (may_act s u) (after_execution s u op) s IsSound (λ t. execution-IsSound s u op i t) (λ f. i)
happens-IsSound s (Commit u) i =
    cond_both (is_live s u) (after_end s u Committed) s IsSound (λ t. end-IsSound s u Committed i t)
    (λ f. i)
happens-IsSound s (BackOut u) i =
    cond_both (is_live s u) (after_end s u BackedOut) s IsSound (λ t. end-IsSound s u BackedOut i t)
    (λ f. i)
happens-IsSound s (Enqueue u v) i =
    cond_both (may_act s u) (after_enqueue s u v) s IsSound (λ t. enqueue-IsSound s u v i t) (λ f. i)
happens-IsSound s (Dequeue u v) i =
    cond_both (is_live s u) (after_dequeue s u v) s IsSound (λ t. dequeue-IsSound s u v i) (λ f. i)
happens-IsSound s (Unlock u f) i =
    cond_both (is_live s u) (after_unlock s u f) s IsSound (λ t. unlock-IsSound s u f i) (λ f. i)
happens-IsSound s (ReadItem q n) i = ts_reading-IsSound s q n i

pub run-IsSound : (s : UnitsState) (es : List Event) → IsSound s → IsSound (run s es)
run-IsSound s [] i = i
run-IsSound s (e ∷ es) i = run-IsSound (happens s e) es (happens-IsSound s e i)

pub initial_units-IsSound : (o : OpeningState) → IsOpeningInOrder o → IsSound (initial_units o)
initial_units-IsSound o order = record {
  isolated = record {
    ordered = (initial-canonical o order).records;
    answers = λ fin f. tt;
    fronts = λ x r fin more f m a b. Begins-refl _;
  };
  known = tt;
  begun = record { readers = λ n h. absurd (false≢true h); counters = λ n h. absurd (false≢true h) };
  one = λ u n h. absurd (false≢true h);
}

-- what is kept has the answers that it was given
pub agrees_of : (s : UnitsState) → IsSound s →
    Agrees (initial_store s.opening) (kept s.opening s.trace s.outcomes)
agrees_of s i = i.isolated.answers (outcome_of s.outcomes) (Extends-refl (outcome_of s.outcomes))

-- the opening stays, through every event and every run
execution_opening : (s : UnitsState) (u : Option ℕ) (op : Op) (h : Option ℕ) →
    (state_of s u op h).opening ≡ s.opening
execution_opening s u op None = refl
execution_opening s u op (Some holder) = refl

if_opening : (b : Bool) (t s : UnitsState) → t.opening ≡ s.opening → (if b then t else s).opening ≡ s.opening
if_opening true t s e = e
if_opening false t s e = refl

pub happens-opening : (s : UnitsState) (e : Event) → (happens s e).opening ≡ s.opening
happens-opening s (Execute u op) =
    if_opening (may_act s u) (after_execution s u op) s (execution_opening s u op (awaited s u op))
happens-opening s (Commit u) = if_opening (is_live s u) (after_end s u Committed) s refl
happens-opening s (BackOut u) = if_opening (is_live s u) (after_end s u BackedOut) s refl
happens-opening s (Enqueue u v) =
    if_opening (may_act s u) (after_enqueue s u v) s (enqueue-same (λ o es out. o ≡ s.opening) s refl u v)
happens-opening s (Dequeue u v) = if_opening (is_live s u) (after_dequeue s u v) s refl
happens-opening s (Unlock u f) = if_opening (is_live s u) (after_unlock s u f) s refl
happens-opening s (ReadItem q n) = ts_reading-same (λ o es out. o ≡ s.opening) s refl q n

pub run-opening : (s : UnitsState) (es : List Event) → (run s es).opening ≡ s.opening
run-opening s [] = refl
run-opening s (e ∷ es) = run-opening (happens s e) es ∙ happens-opening s e

pub agrees : (o : OpeningState) (es : List Event) → IsOpeningInOrder o → let s = run (initial_units o) es in
    Agrees (initial_store o) (kept o s.trace s.outcomes)
agrees o es order =
    let s = run (initial_units o) es in
    subst (λ p. Agrees (initial_store p) (kept p s.trace s.outcomes)) (run-opening (initial_units o) es)
    (agrees_of s (run-IsSound (initial_units o) es (initial_units-IsSound o order)))

-- one holder for each resource is one unit at each end of a recoverable cell
pub one_at_each_end : (s : UnitsState) → IsHeldByOne s →
    IsOneAtEachEnd s.opening s.trace (outcome_of s.outcomes)
one_at_each_end s one x r end u n a b h k =
    one u n
    (any_more (covers x end) (λ t. list_any (conflicts t) (held_by s n)) met (held_by s u)
    (used-held s u x end r a h))
  where
    met : (t : Resource) → covers x end t ≡ true → list_any (conflicts t) (held_by s n) ≡ true
    met t c =
        any_more (covers x end) (conflicts t) (λ w d. covers-conflicts x end t w c d) (held_by s n)
        (used-held s n x end r b k)

pub one_at_each_end_of : (s : UnitsState) → IsSound s →
    IsOneAtEachEnd s.opening s.trace (outcome_of s.outcomes)
one_at_each_end_of s i = one_at_each_end s i.one

pub one_holder_after : (o : OpeningState) (es : List Event) → IsOpeningInOrder o → IsHeldByOne (run (initial_units o) es)
one_holder_after o es order = (run-IsSound (initial_units o) es (initial_units-IsSound o order)).one

pub holder_found : (s : UnitsState) (u : Option ℕ) (r : Resource) (n : ℕ) → IsSound s → is_prefix r ≡ false →
    is_other u n ≡ true → list_any (conflicts r) (held_by s n) ≡ true →
    blocker_at (owned s) u r ≡ Some n
holder_found s u r n i plain other h = holder-found s i.known i.begun i.one u r n plain other h

-- the unit that is found is another one, and holds what conflicts with the resource
pub holder_holds : (s : UnitsState) (u : Option ℕ) (r : Resource) (n : ℕ) → blocker_at (owned s) u r ≡ Some n →
    (is_other u n ≡ true) × (list_any (conflicts r) (held_by s n) ≡ true)
holder_holds s u r n e = (found_other (owned s) u r n e, found_holds s u r n e)
