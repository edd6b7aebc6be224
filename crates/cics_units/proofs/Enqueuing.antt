-- ENQ and DEQ: what they answer is what the table tells, and they keep the units.
use Rattle.std.proofs.Common.{◌≡◌, ℕ, ◌<◌, ◌≤◌, Bool, true, false, cond, Option, Some, None, List, [], ◌∷◌, length, length-append, refl, ap, sym, subst, ◌∙◌, inl, inr, arith}
use Rattle.std.specs.Prelude.{if◌then◌else◌, nat_le, ◌==◌}
use Rattle.std.specs.Ordering.{is_eq}
use Rattle.std.proofs.lemmas.Bool.{cases_Bool, eq-eqb, and_from, and_right}
use Rattle.cics_names.specs.Keyed.{Bytes, is_same}
use Rattle.cics_names.specs.RisingLaws.{is_same-turned}
use Rattle.cics_enqueue.specs.Order.{free_own}
use Rattle.cics_tempstor.specs.Queues.{places_of}
use Rattle.cics_history.specs.Resources.{most_count}
use Rattle.cics_enqueue.specs.Table.{Table, Held, resource_cmp, held_at, holder_over, count_in, count_of, is_full, IsFreeFor, taken, given_back}
use Rattle.cics_enqueue.proofs.TableLaws.{unit_in}
use Rattle.cics_history.specs.declared.resources.Resource.{Resource}
use Rattle.cics_history.specs.declared.resources.Resource.TheVariants.{User}
use Rattle.cics_history.specs.State.{OpeningState, UnitsState, EnqCount}
use Rattle.cics_history.specs.Headline.{outcome_of, is_open}
use Rattle.cics_history.specs.Holding.{value_holder}
use Rattle.cics_history.specs.Execution.{unit_or_next, outcomes_with, count_at, enq_of, enqueue, after_enqueued, after_enqueue, after_dequeue}
use Rattle.cics_history.specs.Events.{may_act}
use Rattle.cics_history.specs.Isolation.{IsSound}
use Rattle.cics_history.specs.Serial.{IsInOrder}
use Rattle.cics_history.proofs.SerialRuns.{enqueue-IsInOrder, dequeue-IsInOrder}
use Rattle.cics_history.specs.Cells.{content}
use Rattle.cics_history.specs.Undo.{IsUndoable}
use Rattle.cics_history.specs.Ends.{AreMarked}
use Rattle.cics_units.specs.Opening.StoreMatching.{StoreValue, StoreWithImages, shown_store}
use Rattle.cics_units.specs.TableInPlace.{value_of, counted_before, counts_in}
use Rattle.cics_units.specs.Parts.{CoreValue, AreRoomier, AreEnqueued, IsCoreAsBefore}
use Rattle.cics_units.specs.KeptUnits.{state_shown, AreValid}
use Rattle.cics_history.specs.declared.ops.Entry.{Entry}
use Rattle.cics_history.specs.declared.ops.UnitState.{UnitState}
use Rattle.cics_history.specs.declared.ops.UnitState.TheVariants.{Open}
use Rattle.cics_history.specs.declared.ops.Enqueued.TheVariants.{Taken, MustWait as EnqMustWait, CountFull}
use Rattle.cics_history.proofs.Outcomes.{outcome_of-with}
use Rattle.cics_history.proofs.States.{enqueue-IsSound, dequeue-IsSound}
use Rattle.cics_units.proofs.HeldOver.{same_over, table_holder, table_free}
use Rattle.cics_units.proofs.TableValues.{table_enqueued_of, table_dequeued_of}
use Rattle.cics_units.proofs.KeptUnits.{roomier_held, kept_roomier, kept_with}

-- ---- How often a unit has enqueued on a value

module _ (v : Bytes) (u : ℕ) where
  count_first : (r : Resource) (h : Held) (es : Table) →
      ((g : Held) → held_at (value_of v) ((r, h) ∷ es) ≡ Some g → g.unit ≡ u) →
      (is_eq (resource_cmp (value_of v) r) ≡ false → count_at (counts_in es) u v ≡ count_of (value_of v) es) →
      count_at (counted_before r h (counts_in es)) u v ≡ count_of (value_of v) ((r, h) ∷ es)
  count_first (User w) h es own rest =
      let c : EnqCount = record { value = w.items; unit = h.unit; count = h.count } in
      elim (cases_Bool (is_eq (resource_cmp (value_of v) (User w)))) [
        | inl tied ↦
            let at : held_at (value_of v) ((User w, h) ∷ es) ≡ Some h = ap (λ b. cond b (Some h) (held_at (value_of v) es)) tied in
            ap (λ b. if b then h.count else count_at (counts_in es) u v) (and_from (h.unit == u) (is_same w.items v) (eq-eqb h.unit u (own h at)) (is_same-turned w.items v ∙ tied))
            ∙ sym (ap (λ b. count_in (cond b (Some h) (held_at (value_of v) es))) tied)
        | inr other ↦
            ap (λ b. if b then h.count else count_at (counts_in es) u v) (and_right (h.unit == u) (is_same w.items v) (is_same-turned w.items v ∙ other))
            ∙ rest other
            ∙ sym (ap (λ b. count_in (cond b (Some h) (held_at (value_of v) es))) other)
      ]
  count_first _ h es own rest = rest refl

  -- the count of a value that no other unit owns is the table's
  pub count_at-table : (t : Table) → ((g : Held) → held_at (value_of v) t ≡ Some g → g.unit ≡ u) →
      count_at (counts_in t) u v ≡ count_of (value_of v) t
  count_at-table [] own = refl
  count_at-table (e ∷ es) own =
      count_first e.0 e.1 es own (λ other. count_at-table es (λ g at. own g (ap (λ b. cond b (Some e.1) (held_at (value_of v) es)) other ∙ at)))

-- ---- What ENQ answers

module _ (s : UnitsState) (st : StoreWithImages) (t : Table) (is : AreValid s st t) (u : Option ℕ) (v : Bytes) where
  abbrev pub taker : ℕ
  taker = unit_or_next u s.outcomes

  pub value_held : value_holder s u v ≡ holder_over (value_of v) u t
  value_held = table_holder s t is.sound is.table u (value_of v)

  -- the unit that acts has to wait for the same one
  pub value_over : (n : ℕ) → n ≡ taker → holder_over (value_of v) (Some n) t ≡ holder_over (value_of v) u t
  value_over n acting = ap (λ n. holder_over (value_of v) (Some n) t) acting ∙ same_over s t is.sound is.table u v

  -- another unit owns the value
  pub enqueue-waits : (h : ℕ) → holder_over (value_of v) u t ≡ Some h → enqueue s u v ≡ EnqMustWait h
  enqueue-waits h held = ap (enq_of s u v) (value_held ∙ held)

  module _ (none : holder_over (value_of v) u t ≡ None) where
    pub value_free : IsFreeFor t (value_of v) taker
    value_free = table_free s t is.sound is.table u (value_of v) none

    enqueue-by : (b : Bool) → is_full (value_of v) t ≡ b → enqueue s u v ≡ (if b then CountFull else Taken taker)
    enqueue-by b full =
        ap (enq_of s u v) (value_held ∙ none)
        ∙ ap (λ n. if nat_le most_count n then CountFull else Taken taker)
        (ap (λ cs. count_at cs taker v) is.table.counts ∙ count_at-table v taker t (λ g at. free_own t (value_of v) taker value_free g.unit (ap unit_in at)))
        ∙ ap (λ f. if f then CountFull else Taken taker) full

    -- the unit acquires the value, or owns it the most times
    pub enqueue-takes : is_full (value_of v) t ≡ false → enqueue s u v ≡ Taken taker
    enqueue-takes room = enqueue-by false room

    pub enqueue-full : is_full (value_of v) t ≡ true → enqueue s u v ≡ CountFull
    enqueue-full full = enqueue-by true full

-- ---- What ENQ and DEQ leave

module _ (s : UnitsState) (st new : StoreWithImages) (t : Table) (is : AreValid s st t) (u : Option ℕ) (v : Bytes) (acts : may_act s u ≡ true)
    (takes : enqueue s u v ≡ Taken (unit_or_next u s.outcomes)) (room : AreRoomier st new) (begun : unit_or_next u s.outcomes < length new.images) where
  -- ENQ changes neither the store nor what holds of it
  pub kept_enqueued : AreValid (after_enqueued s u v (Taken (unit_or_next u s.outcomes))) new (taken t (value_of v) (unit_or_next u s.outcomes))
  kept_enqueued =
      let roomier = kept_roomier s st t is new room.store room.kept room.longer in
      record {
        in_order = is.in_order;
        lawful_keys = is.lawful_keys;
        sound = subst (λ e. IsSound (after_enqueued s u v e)) takes (enqueue-IsSound s u v is.sound acts);
        order = subst (λ e. IsInOrder (after_enqueued s u v e)) takes (enqueue-IsInOrder s is.order u v);
        canonical = roomier.canonical;
        place = record {
          changes = roomier.place.changes;
          marks = roomier.place.marks;
          place = subst (λ out. IsUndoable s.opening s.trace out (record { cells = content (shown_store new.store); images = roomier.place.changes })) same_outcomes roomier.place.place;
          ends = subst (λ out. AreMarked s.opening s.trace out roomier.place.marks) same_outcomes roomier.place.ends;
          queues = roomier.place.queues;
          kept = roomier.place.kept;
          ready = roomier.place.ready;
          over = λ w shut. roomier.place.over w (ap is_open (sym (outcome_of-with u s.outcomes w)) ∙ shut);
        };
        defined = roomier.defined;
        rows = roomier.rows;
        places = roomier.places;
        table = table_enqueued_of s t u v (unit_or_next u s.outcomes) is.sound is.table acts takes;
        held = roomier_held st new is.held room.store room.kept;
        begun = begun_by u begun;
      }
    where
      -- a unit that begins is open, as one that hasn't begun
      same_outcomes : outcome_of s.outcomes ≡ outcome_of (outcomes_with u s.outcomes)
      same_outcomes = λ i n. sym (outcome_of-with u s.outcomes n) i

      begun_by : (u : Option ℕ) → unit_or_next u s.outcomes < length new.images → length (outcomes_with u s.outcomes) ≤ length new.images
      begun_by None begun = omega (arith, length-append s.outcomes (Open ∷ []), begun)
      begun_by (Some w) begun = omega (arith, is.begun, room.longer)

-- nor does DEQ
pub kept_dequeued : (s : UnitsState) (st : StoreWithImages) (t : Table) → AreValid s st t → (u : ℕ) (v : Bytes) → AreValid (after_dequeue s u v) st (given_back t (value_of v) u)
kept_dequeued s st t is u v = kept_with s st t (given_back t (value_of v) u) is s.reads (after_dequeue s u v).counts
    (dequeue-IsSound s u v is.sound) (dequeue-IsInOrder s is.order u v) (table_dequeued_of s t u v is.table)

-- ---- What the units show

module _ (o : OpeningState) (trace : List Entry) (outcomes : List UnitState) (commits : List ℕ) (p new : CoreValue)
    (is : AreValid (state_shown o trace outcomes commits p) p.stores p.table) where
  abbrev before : UnitsState
  before = state_shown o trace outcomes commits p

  -- ENQ that acquires its value
  module _ (u : Option ℕ) (v : Bytes) (acts : may_act before u ≡ true) (takes : enqueue before u v ≡ Taken (unit_or_next u outcomes))
      (done : AreEnqueued p new (unit_or_next u outcomes) v) where
    kept_then : AreValid (after_enqueued before u v (Taken (unit_or_next u outcomes))) new.stores (taken p.table (value_of v) (unit_or_next u outcomes))
    kept_then = kept_enqueued before p.stores new.stores p.table is u v acts takes done.stores done.begun

    enqueued_state : state_shown o trace (outcomes_with u outcomes) commits new ≡ after_enqueued before u v (Taken (unit_or_next u outcomes))
    enqueued_state = λ i. record before {
      outcomes = outcomes_with u outcomes;
      reads = done.reads i;
      counts = (ap counts_in done.table ∙ sym kept_then.table.counts) i;
      next = sym kept_then.places i;
    }

    pub enqueued_shown : state_shown o trace (outcomes_with u outcomes) commits new ≡ after_enqueue before u v
    enqueued_shown = enqueued_state ∙ ap (after_enqueued before u v) (sym takes)

    pub enqueued_kept : AreValid (state_shown o trace (outcomes_with u outcomes) commits new) new.stores new.table
    enqueued_kept = subst (λ s. AreValid s new.stores new.table) (sym enqueued_state)
        (subst (AreValid (after_enqueued before u v (Taken (unit_or_next u outcomes))) new.stores) (sym done.table) kept_then)

  -- a refused call shows what was there
  pub refused_shown : IsCoreAsBefore p new → (outs : List UnitState) (turns : List ℕ) → outs ≡ outcomes → turns ≡ commits → state_shown o trace outs turns new ≡ before
  refused_shown same outs turns outs_same turns_same = λ i. record before {
    outcomes = outs_same i;
    commits = turns_same i;
    reads = same.reads i;
    counts = counts_in (same.table i);
    next = ap (λ (m : StoreValue). places_of m.temp_storage) same.stores.store i;
  }

  -- DEQ
  module _ (u : ℕ) (v : Bytes) (done : new ≡ record p { table = given_back p.table (value_of v) u }) where
    abbrev after : CoreValue
    after = record p { table = given_back p.table (value_of v) u }

    after_state : state_shown o trace outcomes commits after ≡ after_dequeue before u v
    after_state = λ i. record before { counts = sym (kept_dequeued before p.stores p.table is u v).table.counts i }

    pub dequeued_shown : state_shown o trace outcomes commits new ≡ after_dequeue before u v
    dequeued_shown = ap (state_shown o trace outcomes commits) done ∙ after_state

    pub dequeued_kept : AreValid (state_shown o trace outcomes commits new) new.stores new.table
    dequeued_kept = subst (λ n. AreValid (state_shown o trace outcomes commits n) n.stores n.table) (sym done)
        (subst (λ s. AreValid s p.stores (given_back p.table (value_of v) u)) (sym after_state) (kept_dequeued before p.stores p.table is u v))
