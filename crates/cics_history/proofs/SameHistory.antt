-- ENQ, DEQ, UNLOCK and READQ TS add no entry to the history and end no unit: what is said of the opening, the history and the
-- outcomes alone stays through each of them.
use Rattle.std.proofs.Common.{◌≡◌, ℕ, true, false, Option, List, refl, subst}
use Rattle.std.specs.Prelude.{if◌then◌else◌}
use Rattle.std.proofs.lemmas.Bool.{cond_both}
use Rattle.cics_names.specs.Keyed.{Bytes, with_value}
use Rattle.cics_tempstor.specs.Queues.{has_item}
use Rattle.cics_history.specs.State.{OpeningState, UnitsState}
use Rattle.cics_history.specs.Store.{ts_queue}
use Rattle.cics_history.specs.Headline.{outcome_of}
use Rattle.cics_history.specs.Holding.{store_of}
use Rattle.cics_history.specs.Execution.{enqueue, after_enqueued, after_enqueue, after_dequeue, after_unlock, after_ts_reading}
use Rattle.cics_history.specs.Isolation.{Outcomes}
use Rattle.cics_history.specs.declared.ops.Entry.{Entry}
use Rattle.cics_history.specs.declared.ops.Enqueued.{Enqueued}
use Rattle.cics_history.specs.declared.ops.Enqueued.TheVariants.{Taken, MustWait as EnqMustWait, CountFull}
use Rattle.cics_history.proofs.Outcomes.{same_outcomes}

module _ (P : OpeningState → List Entry → Outcomes → Type 0) (s : UnitsState)
    (h : P s.opening s.trace (outcome_of s.outcomes)) where
  -- what is said of the opening, the history and the outcomes of a state
  abbrev IsSaidOf : UnitsState → Type 0
  IsSaidOf t = P t.opening t.trace (outcome_of t.outcomes)

  -- an ENQ adds a unit that is open, as each is that hasn't begun, or none
  enqueued-same : (u : Option ℕ) (v : Bytes) (e : Enqueued) → IsSaidOf (after_enqueued s u v e)
  enqueued-same u v (Taken unit) = subst (P s.opening s.trace) (same_outcomes u s.outcomes) h
  enqueued-same u v (EnqMustWait holder) = h
  enqueued-same u v CountFull = h

  -- ENQ changes the counts, and the outcomes as lists alone
  pub enqueue-same : (u : Option ℕ) (v : Bytes) → IsSaidOf (after_enqueue s u v)
  enqueue-same u v = enqueued-same u v (enqueue s u v)

  -- DEQ changes the counts alone
  pub dequeue-same : (u : ℕ) (v : Bytes) → IsSaidOf (after_dequeue s u v)
  dequeue-same u v = h

  -- UNLOCK changes the update reads alone
  pub unlock-same : (u : ℕ) (f : Bytes) → IsSaidOf (after_unlock s u f)
  unlock-same u f = h

  -- READQ TS changes a NEXT place, or nothing
  pub ts_reading-same : (q : Bytes) (n : ℕ) → IsSaidOf (after_ts_reading s q n)
  ts_reading-same q n =
      cond_both (has_item (ts_queue (store_of s) q) n)
      (record {
        opening = s.opening;
        trace = s.trace;
        outcomes = s.outcomes;
        commits = s.commits;
        reads = s.reads;
        counts = s.counts;
        next = with_value q n s.next;
      }) s IsSaidOf (λ t. h) (λ f. h)

-- nor does a unit commit by one of them
enqueued-commits : (s : UnitsState) (u : Option ℕ) (v : Bytes) (e : Enqueued) → (after_enqueued s u v e).commits ≡ s.commits
enqueued-commits s u v (Taken unit) = refl
enqueued-commits s u v (EnqMustWait holder) = refl
enqueued-commits s u v CountFull = refl

pub enqueue-commits : (s : UnitsState) (u : Option ℕ) (v : Bytes) → (after_enqueue s u v).commits ≡ s.commits
enqueue-commits s u v = enqueued-commits s u v (enqueue s u v)

pub ts_reading-commits : (s : UnitsState) (q : Bytes) (n : ℕ) → (after_ts_reading s q n).commits ≡ s.commits
ts_reading-commits s q n = elim (has_item (ts_queue (store_of s) q) n) as (λ b. (if b then record s { next = with_value q n s.next } else s).commits ≡ s.commits) [
  | true ↦ refl
  | false ↦ refl
]
