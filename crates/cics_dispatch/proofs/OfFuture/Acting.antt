-- A step of a task in two regions that are alike: it changes what the task's own unit has, and each
-- store, in the same way.
use Rattle.std.proofs.Common.{◌≡◌, ◌≢◌, ℕ, ◌<◌, ◌==◌, Bool, true, false, not, ◌&&◌, cond, Option, Some, None, List, [], ◌∷◌, length, inl, inr, refl, ap, sym, ◌∙◌, arith}
use Rattle.std.specs.Prelude.{is_some, if◌then◌else◌, filter, map, slice_get}
use Rattle.std.proofs.lemmas.Bool.{true≢false, cases_Bool, ne_eqb}
use Rattle.std.proofs.lemmas.Option.{slice_get-get_or}
use Rattle.std.proofs.lemmas.List.Elements.{All-nil}
use Rattle.cics_names.specs.Keyed.{Bytes, Map, has_key, with_value, is_same}
use Rattle.cics_names.specs.KeyedLaws.{is_same-self, is_same-eq}
use Rattle.cics_browse.specs.Positions.{Position}
use Rattle.cics_tempstor.specs.Queues.{has_item}
use Rattle.cics_history.specs.State.{OpeningState, UnitsState, Store, initial_store}
use Rattle.cics_history.specs.Cells.{IsCanonical}
use Rattle.cics_history.specs.Store.{apply, ts_queue, is_recoverable}
use Rattle.cics_history.specs.Headline.{outcome_of, is_open, is_backed_out}
use Rattle.cics_history.specs.Holding.{store_of, awaited}
use Rattle.cics_history.specs.Execution.{unit_or_next, outcomes_with, is_read_of, next_after, done_of, state_of, after_execution, enqueue, after_enqueued, after_enqueue, after_ts_reading, after_unlock, after_dequeue, after_end}
use Rattle.cics_history.specs.Isolation.{stays, store_by}
use Rattle.cics_history.specs.Serial.{IsInOrder}
use Rattle.cics_history.specs.Events.{is_live, may_act}
use Rattle.cics_history.specs.declared.ops.Op.{Op}
use Rattle.cics_history.specs.declared.ops.Answer.{Answer}
use Rattle.cics_history.specs.declared.ops.Entry.{Entry}
use Rattle.cics_history.specs.declared.ops.Enqueued.TheVariants.{Taken}
use Rattle.cics_history.specs.declared.ops.UnitState.{UnitState}
use Rattle.cics_history.specs.declared.ops.UnitState.TheVariants.{Open, Committed, BackedOut}
use Rattle.cics_history.proofs.Executes.{open_kept}
use Rattle.cics_history.proofs.Outcomes.{same_function, outcome_of-with, outcome_of-set}
use Rattle.cics_history.proofs.Replays.{replay-push}
use Rattle.cics_history.proofs.States.{execution-IsSound, enqueue-IsSound, dequeue-IsSound, unlock-IsSound, ts_reading-IsSound, end-IsSound}
use Rattle.cics_history.proofs.SerialRuns.{execution-IsInOrder, commit-IsInOrder, backout-IsInOrder, enqueue-IsInOrder, dequeue-IsInOrder, unlock-IsInOrder, ts_reading-IsInOrder}
use Rattle.cics_dispatch.specs.Notes.Notes.{is_unit}
use Rattle.cics_dispatch.specs.Machine.Machine.{Machine, Task, Suspended, task_at, replaced, not_waiting, with_task, with_units, with_waiting, with_unit, with_browses, units_after, unit_closed, abended}
use Rattle.cics_dispatch.specs.Machine.Blockers.{unit_of}
use Rattle.cics_dispatch.specs.Machine.KeptTasks.{IsWaitKept, AreTasksKept}
use Rattle.cics_dispatch.specs.Machine.OwnedUnits.{AreUnitsOwned}
use Rattle.cics_dispatch.specs.Machine.Steps.{unlocked, dequeued}
use Rattle.cics_dispatch.specs.Machine.Tasks.{own_unit, had_by}
use Rattle.cics_dispatch.proofs.OfMachine.Elements.{get-set}
use Rattle.cics_dispatch.proofs.OfMachine.KeptTasks.{acts, kept_executed, kept_enqueued, kept_closed, kept_browses, kept_unlocked, kept_dequeued, kept_item_read}
use Rattle.cics_dispatch.proofs.OfMachine.OwnedUnits.{owned_executed, owned_enqueued, owned_closed, owned_browses, owned_unlocked, owned_dequeued, owned_item_read}
use Rattle.cics_dispatch.proofs.OfMachine.OtherUnits.{begun, acting_other, item_read_is}
use Rattle.cics_dispatch.proofs.OfMachine.TaskPlaces.{place_of_task, task_at-replaced, replaced-set, set_same}
use Rattle.cics_dispatch.specs.Future.Futures.{Own, own, own_by, unnumbered, ending, store_if, AreRising, is_earlier, is_lower, AreUnitsSteady, IsSteady, HaveSameFuture}
use Rattle.cics_dispatch.proofs.OfFuture.Rows.{rising-filter, reads_after-step, counted-step, uncounted-step}
use Rattle.cics_dispatch.proofs.OfFuture.Owning.{own_entered, entered_own, entered_other, own_counted, counted_own, counted_other, own_uncounted, dequeued_own, dequeued_other, own_unlocked, unlocked_own, unlocked_other, ended_other, item_read_own}
use Rattle.cics_dispatch.proofs.OfFuture.Labels.{both, live_open, unit_is, AreActing, own_acting, open_of, live_at, live_of, label_at, label_of_own, told_by_label, label_kept}
use Rattle.cics_dispatch.proofs.OfFuture.Blocking.{same_endings, same_if_open}

-- ---- The store as it stands

-- it is the ending that backs out no open unit
pub store_now : (m : Machine) → store_if m (λ l. false) ≡ store_of m.units
store_now m =
    ap (λ out. store_by m.units.opening out m.units.trace)
    (same_function (ending m (λ l. false)) (outcome_of m.units.outcomes)
    (λ u. elim (is_open (outcome_of m.units.outcomes u)) as (λ b. (if b && false then BackedOut else outcome_of m.units.outcomes u) ≡ outcome_of m.units.outcomes u) [ true ↦ refl | false ↦ refl ]))

pub same_store_now : (m n : Machine) → HaveSameFuture m n → store_of m.units ≡ store_of n.units
same_store_now m n same = sym (store_now m) ∙ (same.alike.stores (λ l. false) ∙ store_now n)

-- ---- Beside units and tasks

-- the waits, the clock and whether the region is down say nothing of units and tasks
pub same_beside : (m n : Machine) → HaveSameFuture m n → (ws vs : List Suspended) → ws ≡ vs → (c d : ℕ) → c ≡ d → (a b : Bool) → a ≡ b →
    HaveSameFuture (record m { waiting = ws; clock = c; is_down = a }) (record n { waiting = vs; clock = d; is_down = b })
same_beside m n same ws vs waits c d clocks a b downs = record {
  first = steady m ws c a same.first;
  second = steady n vs d b same.second;
  alike = record {
    opening = same.alike.opening;
    tasks = same.alike.tasks;
    own = same.alike.own;
    stores = same.alike.stores;
    next = same.alike.next;
    waiting = waits;
    clock = clocks;
    down = downs;
  };
}
  where
    steady : (k : Machine) (ws : List Suspended) (c : ℕ) (a : Bool) → IsSteady k → IsSteady (record k { waiting = ws; clock = c; is_down = a })
    steady k ws c a s = record {
      units = s.units;
      tasks = record { labels = s.tasks.labels; owners = s.tasks.owners; open_units = s.tasks.open_units; waits = All-nil (IsWaitKept (record k { waiting = []; clock = c; is_down = a })) };
      owned = record { owned = s.owned.owned };
    }

-- other waits
pub same_waits : (m n : Machine) → HaveSameFuture m n → (ws vs : List Suspended) → ws ≡ vs → HaveSameFuture (with_waiting m ws) (with_waiting n vs)
same_waits m n same ws vs waits = same_beside m n same ws vs waits m.clock n.clock same.alike.clock m.is_down n.is_down same.alike.down

-- ---- A task in place of the one of its label

-- it is the one of its label
put : (ts : List Task) (t v : Task) → task_at ts t.label ≡ Some t → v.label ≡ t.label → task_at (replaced ts v) v.label ≡ Some v
put [] t v there label = cc
put (x ∷ xs) t v there label = grind (arith, put xs t v, is_same-self v.label)

-- replacing looks at labels alone
bare-replaced : (ts : List Task) (t : Task) → map unnumbered (replaced ts t) ≡ replaced (map unnumbered ts) (unnumbered t)
bare-replaced [] t = refl
bare-replaced (u ∷ us) t = grind (arith, bare-replaced us t)

-- a task put in its own place
stays_there : (m : Machine) → IsSteady m → (t : Task) → task_at m.tasks t.label ≡ Some t → replaced m.tasks t ≡ m.tasks
stays_there m steady t there =
    let place = place_of_task m.tasks t.label t there in
    replaced-set m.tasks place.0 t t steady.tasks.labels place.1 refl ∙ set_same m.tasks place.0 t place.1

-- ---- One region

-- the region after a step of one task: other units, and a task in the place of the one of its label
abbrev pub after : Machine → UnitsState → Task → Machine
after m s v = with_task (with_units m s) v

-- What is known of such a step: its unit then has what f gives, the cursors are what g gives, and
-- each ending is what h gives. All three go by what two regions are compared by.
record IsStepOf (m : Machine) (t v : Task) (s : UnitsState) (f : OpeningState → Store → Own → Own) (g : Bool → Store → Store → Map ℕ → Map ℕ)
    (h : OpeningState → Bytes → ((Bytes → Bool) → Store) → (Bytes → Bool) → Store) : Type 0 where
  label : v.label ≡ t.label
  opening : s.opening ≡ m.units.opening
  others : (w : ℕ) → is_live m.units w ≡ true → (t.unit ≡ Some w → ⊥) → own_by s (Some w) ≡ own_by m.units (Some w)
  steady : IsSteady (after m s v)
  own : own_by s v.unit ≡ f m.units.opening (store_of m.units) (own_by m.units t.unit)
  next : s.next ≡ g (is_some t.unit) (store_of m.units) (store_of s) m.units.next
  stores : (gone : Bytes → Bool) → store_if (after m s v) gone ≡ h m.units.opening t.label (store_if m) gone

-- what the units of other labels have stays
own_after : (m : Machine) (steady : IsSteady m) (t v : Task) (s : UnitsState) → task_at m.tasks t.label ≡ Some t → v.label ≡ t.label →
    ((w : ℕ) → is_live m.units w ≡ true → (t.unit ≡ Some w → ⊥) → own_by s (Some w) ≡ own_by m.units (Some w)) →
    (l : Bytes) → own (after m s v) l ≡ (if is_same t.label l then own_by s v.unit else own m l)
own_after m steady t v s there label others l = elim (cases_Bool (is_same t.label l)) [
  | inl is ↦
      let mine : l ≡ v.label = sym (label ∙ is_same-eq t.label l is) in
      rw is (ap (λ k. own_by s (unit_of (with_task m v) k)) mine ∙ ap (λ o. own_by s (had_by own_unit o)) (put m.tasks t v there label))
  | inr off ↦
      let other : t.label ≢ l = λ e. true≢false (sym (ap (is_same t.label) (sym e) ∙ is_same-self t.label) ∙ off) in
      rw off (ap (λ o. own_by s (had_by own_unit o)) (task_at-replaced m.tasks v l (λ e. other (sym label ∙ e))) ∙ by other (unit_of m l) refl)
]
  where
    by : t.label ≢ l → (o : Option ℕ) → unit_of m l ≡ o → own_by s o ≡ own_by m.units o
    by other None has = refl
    by other (Some w) has =
        let live = live_at m steady l w has in
        others w live (λ own. other (sym (label_of_own m steady t there w own) ∙ label_at m steady l w has))

-- ---- Both regions

module _ (m n : Machine) (t u : Task) (acting : AreActing m n t u) (v : Task) (s : UnitsState) (w : Task) (r : UnitsState)
    (f : OpeningState → Store → Own → Own) (g : Bool → Store → Store → Map ℕ → Map ℕ) (h : OpeningState → Bytes → ((Bytes → Bool) → Store) → (Bytes → Bool) → Store)
    (first : IsStepOf m t v s f g h) (second : IsStepOf n u w r f g h) (bare : unnumbered v ≡ unnumbered w) where
  alike_stores : (gone : Bytes → Bool) → store_if (after m s v) gone ≡ store_if (after n r w) gone
  alike_stores gone =
      first.stores gone
      ∙ ((λ i. h (acting.same.alike.opening i) (acting.bare i).label (λ k. acting.same.alike.stores k i) gone) ∙ sym (second.stores gone))

  stepped : AreActing (after m s v) (after n r w) v w
  stepped = record {
    same = record {
      first = first.steady;
      second = second.steady;
      alike = record {
        opening = first.opening ∙ (acting.same.alike.opening ∙ sym second.opening);
        tasks = bare-replaced m.tasks v ∙ ((λ i. replaced (acting.same.alike.tasks i) (bare i)) ∙ sym (bare-replaced n.tasks w));
        own = λ l.
            own_after m acting.same.first t v s acting.there first.label first.others l
            ∙ ((λ i. if is_same (acting.bare i).label l then owned i else acting.same.alike.own l i)
            ∙ sym (own_after n acting.same.second u w r acting.too second.label second.others l));
        stores = alike_stores;
        next = first.next ∙ ((λ i. g (has i) (stores i) (later i) (acting.same.alike.next i)) ∙ sym second.next);
        waiting = acting.same.alike.waiting;
        clock = acting.same.alike.clock;
        down = acting.same.alike.down;
      };
    };
    there = put m.tasks t v acting.there first.label;
    too = put n.tasks u w acting.too second.label;
    bare = bare;
  }
    where
      stores : store_of m.units ≡ store_of n.units
      stores = same_store_now m n acting.same

      later : store_of s ≡ store_of r
      later = sym (store_now (after m s v)) ∙ (alike_stores (λ l. false) ∙ store_now (after n r w))

      owned : own_by s v.unit ≡ own_by r w.unit
      owned = first.own ∙ ((λ i. f (acting.same.alike.opening i) (stores i) (own_acting m n t u acting i)) ∙ sym second.own)

      has : is_some t.unit ≡ is_some u.unit
      has = both (λ x. 0) (λ x. 0) (λ o p. is_some o ≡ is_some p) t.unit u.unit (ap (λ (x : Task). x.unit) acting.bare) (λ none too. refl) (λ x y a b zero. refl)

-- ---- The steps of one region

-- a task with the unit that acts: its own, or the next
abbrev pub in_unit : Machine → Task → Task
in_unit m t = with_unit t (unit_or_next t.unit m.units.outcomes)

module _ (m : Machine) (steady : IsSteady m) (t : Task) (there : task_at m.tasks t.label ≡ Some t) where
  place : (i : ℕ) × (slice_get m.tasks i ≡ Some t) × (t.label ≡ t.label)
  place = place_of_task m.tasks t.label t there

  task_acts : may_act m.units t.unit ≡ true
  task_acts = acts (with_waiting m []) place.0 t steady.tasks place.1

  abbrev actor : ℕ
  actor = unit_or_next t.unit m.units.outcomes

  -- if a step only lets a unit begin, the units of the history end as before
  stays_so : (s : UnitsState) (v : Task) → v.label ≡ t.label → ((u : ℕ) → outcome_of s.outcomes u ≡ outcome_of m.units.outcomes u) →
      ((u : ℕ) → u < length m.units.outcomes → is_unit v.unit u ≡ is_unit t.unit u) → (gone : Bytes → Bool) →
      store_by m.units.opening (ending (after m s v) gone) m.units.trace ≡ store_if m gone
  stays_so s v label outs units gone =
      same_endings m.units (ending (after m s v) gone) (ending m gone) steady.units.sound.known (λ u below. rw (outs u, label_kept m.tasks t v u there label (units u below)) refl)

  actor_is : (u : ℕ) → u < length m.units.outcomes → is_unit (Some actor) u ≡ is_unit t.unit u
  actor_is u below = by t.unit
    where
      by : (o : Option ℕ) → is_unit (Some (unit_or_next o m.units.outcomes)) u ≡ is_unit o u
      by None = ne_eqb (length m.units.outcomes) u (λ e. omega (arith, below, e))
      by (Some x) = refl

  -- a command is executed
  module _ (o : Op) (free : awaited m.units t.unit o ≡ None) where
    abbrev answer : Answer
    answer = (apply (store_of m.units) o).answer

    steady_executed : IsSteady (after m (after_execution m.units t.unit o) (in_unit m t))
    steady_executed = record {
      units = record {
        canonical = rw free steady.units.canonical;
        sound = execution-IsSound m.units t.unit o steady.units.sound task_acts;
        order = execution-IsInOrder m.units t.unit o steady.units.sound steady.units.order task_acts;
        reads = rw free ((reads_after-step actor o answer.condition m.units.reads steady.units.reads).rising);
        counts = rw free steady.units.counts;
      };
      tasks = kept_executed (with_waiting m []) place.0 t steady.tasks place.1 refl o actor answer (ap (done_of m.units t.unit o) free);
      owned = owned_executed m t place.0 place.1 steady.tasks.labels steady.owned o actor answer (ap (done_of m.units t.unit o) free);
    }

    -- its entry goes with its task's unit
    entry_gone : (gone : Bytes → Bool) → is_backed_out (ending (after m (after_execution m.units t.unit o) (in_unit m t)) gone actor) ≡ gone t.label
    entry_gone gone =
        let here = put m.tasks t (in_unit m t) there refl in
        let stands = open_of (after m (after_execution m.units t.unit o) (in_unit m t)) steady_executed (in_unit m t) here actor refl in
        rw (stands, label_of_own (after m (after_execution m.units t.unit o) (in_unit m t)) steady_executed (in_unit m t) here actor refl)
        (grind (arith, open_kept (outcome_of (after_execution m.units t.unit o).outcomes actor) stands))

    step_executed : IsStepOf m t (in_unit m t) (after_execution m.units t.unit o) (λ p s x. own_entered p o (apply s o).answer x)
        (λ has s later next. next_after s o (apply s o).answer.condition next)
        (λ p l stores gone. cond (not (is_recoverable p o && gone l)) (apply (stores gone) o).store (stores gone))
    step_executed = record {
      label = refl;
      opening = rw free refl;
      others = λ w live other. rw free (entered_other m.units t.unit o answer w steady.units.reads (acting_other m.units t.unit w other live));
      steady = steady_executed;
      own = rw free (entered_own m.units t.unit o answer steady.units.sound steady.units.reads);
      next = rw free refl;
      stores = λ gone.
          let now = ending (after m (after_execution m.units t.unit o) (in_unit m t)) gone in
          let e : Entry = record { unit = actor; op = o; answer = answer } in
          ap (λ (s : UnitsState). store_by s.opening now s.trace) (ap (state_of m.units t.unit o) free)
          ∙ (replay-push (stays m.units.opening now) e (initial_store m.units.opening) m.units.trace
          ∙ (λ i. cond (not (is_recoverable m.units.opening o && entry_gone gone i)) (apply (before gone i) o).store (before gone i)));
    }
      where
        before : (gone : Bytes → Bool) → store_by m.units.opening (ending (after m (after_execution m.units t.unit o) (in_unit m t)) gone) m.units.trace ≡ store_if m gone
        before = stays_so (after_execution m.units t.unit o) (in_unit m t) refl (λ u. rw free (outcome_of-with t.unit m.units.outcomes u)) actor_is

  -- ENQ takes its value
  step_enqueued : (value : Bytes) → enqueue m.units t.unit value ≡ Taken actor →
      IsStepOf m t (in_unit m t) (after_enqueue m.units t.unit value) (λ p s x. own_counted value x) (λ has s later next. next) (λ p l stores. stores)
  step_enqueued value taken = record {
    label = refl;
    opening = rw taken refl;
    others = λ w live other. rw taken (counted_other m.units actor value (outcomes_with t.unit m.units.outcomes) w steady.units.counts (acting_other m.units t.unit w other live));
    steady = record {
      units = record {
        canonical = rw taken steady.units.canonical;
        sound = enqueue-IsSound m.units t.unit value steady.units.sound task_acts;
        order = enqueue-IsInOrder m.units steady.units.order t.unit value;
        reads = rw taken steady.units.reads;
        counts = rw taken ((counted-step actor value m.units.counts steady.units.counts).rising);
      };
      tasks = kept_enqueued (with_waiting m []) place.0 t steady.tasks place.1 refl value actor taken;
      owned = owned_enqueued m t place.0 place.1 steady.tasks.labels steady.owned value actor taken;
    };
    own = rw taken (counted_own m.units t.unit value (outcomes_with t.unit m.units.outcomes) steady.units.sound steady.units.counts);
    next = rw taken refl;
    stores = λ gone.
        ap (λ (s : UnitsState). store_by s.opening (ending (after m (after_enqueue m.units t.unit value) (in_unit m t)) gone) s.trace) (ap (after_enqueued m.units t.unit value) taken)
        ∙ stays_so (after_enqueue m.units t.unit value) (in_unit m t) refl (λ u. rw taken (outcome_of-with t.unit m.units.outcomes u)) actor_is gone;
  }

  -- the task has other browses
  step_browses : (browses : Map Position) → IsStepOf m t (with_browses t browses) m.units (λ p s x. x) (λ has s later next. next) (λ p l stores. stores)
  step_browses browses = record {
    label = refl;
    opening = refl;
    others = λ w live other. refl;
    steady = record {
      units = steady.units;
      tasks = kept_browses (with_waiting m []) place.0 t steady.tasks place.1 refl browses;
      owned = owned_browses m t place.0 place.1 steady.tasks.labels steady.owned browses;
    };
    own = refl;
    next = refl;
    stores = stays_so m.units (with_browses t browses) refl (λ u. refl) (λ u below. refl);
  }

  -- a step of the units that leaves the tasks, the history and the outcomes
  step_units : (s : UnitsState) (f : Own → Own) (g : Store → Map ℕ → Map ℕ) → AreUnitsSteady s → AreTasksKept (with_units (with_waiting m []) s) → AreUnitsOwned (with_units m s) →
      s.opening ≡ m.units.opening → s.trace ≡ m.units.trace → s.outcomes ≡ m.units.outcomes →
      ((w : ℕ) → (t.unit ≡ Some w → ⊥) → own_by s (Some w) ≡ own_by m.units (Some w)) → own_by s t.unit ≡ f (own_by m.units t.unit) → s.next ≡ g (store_of m.units) m.units.next →
      IsStepOf m t t s (λ p k x. f x) (λ has k later next. g k next) (λ p l stores. stores)
  step_units s f g units tasks owned opening trace outcomes others own next = record {
    label = refl;
    opening = opening;
    others = λ w live other. others w other;
    steady = rw (stays_there m steady t there) (record { units = units; tasks = tasks; owned = owned });
    own = own;
    next = next;
    stores = λ gone. rw (opening, trace) (stays_so s t refl (λ u. rw outcomes refl) (λ u below. refl) gone);
  }

  step_unlocked : (f : Bytes) (x : ℕ) → t.unit ≡ Some x →
      IsStepOf m t t (after_unlock m.units x f) (λ p k y. own_unlocked f y) (λ has k later next. next) (λ p l stores. stores)
  step_unlocked f x has =
      step_units (after_unlock m.units x f) (own_unlocked f) (λ k next. next)
      (record {
        canonical = steady.units.canonical;
        sound = unlock-IsSound m.units x f steady.units.sound;
        order = unlock-IsInOrder m.units steady.units.order x f;
        reads = rising-filter is_earlier (λ r. not (is_read_of x f r)) m.units.reads steady.units.reads;
        counts = steady.units.counts;
      })
      (rw has at (kept_unlocked (with_waiting m []) place.0 t steady.tasks place.1 refl f)) (owned_unlocked m (Some x) f steady.owned) refl refl refl
      (λ w other. unlocked_other m.units x f w (λ e. other (has ∙ ap Some e))) (rw has (unlocked_own m.units x f)) refl

  step_dequeued : (value : Bytes) (x : ℕ) → t.unit ≡ Some x →
      IsStepOf m t t (after_dequeue m.units x value) (λ p k y. own_uncounted value y) (λ has k later next. next) (λ p l stores. stores)
  step_dequeued value x has =
      step_units (after_dequeue m.units x value) (own_uncounted value) (λ k next. next)
      (record {
        canonical = steady.units.canonical;
        sound = dequeue-IsSound m.units x value steady.units.sound;
        order = dequeue-IsInOrder m.units steady.units.order x value;
        reads = steady.units.reads;
        counts = (uncounted-step x value m.units.counts steady.units.counts).rising;
      })
      (rw has at (kept_dequeued (with_waiting m []) place.0 t steady.tasks place.1 refl value)) (owned_dequeued m (Some x) value steady.owned) refl refl refl
      (λ w other. dequeued_other m.units x value w steady.units.counts (λ e. other (has ∙ ap Some e))) (rw has (dequeued_own m.units x value steady.units.counts)) refl

  step_item_read : (q : Bytes) (item : ℕ) → IsStepOf m t t (after_ts_reading m.units q item) (λ p k y. y)
      (λ has k later next. cond (has_item (ts_queue k q) item) (with_value q item next) next) (λ p l stores. stores)
  step_item_read q item =
      step_units (after_ts_reading m.units q item) (λ y. y) (λ k next. cond (has_item (ts_queue k q) item) (with_value q item next) next)
      (record {
        canonical = item_read_is (λ s. IsCanonical (initial_store s.opening)) m.units q item steady.units.canonical steady.units.canonical;
        sound = ts_reading-IsSound m.units q item steady.units.sound;
        order = ts_reading-IsInOrder m.units steady.units.order q item;
        reads = item_read_is (λ s. AreRising is_earlier s.reads) m.units q item steady.units.reads steady.units.reads;
        counts = item_read_is (λ s. AreRising is_lower s.counts) m.units q item steady.units.counts steady.units.counts;
      })
      (kept_item_read (with_waiting m []) place.0 t steady.tasks place.1 refl q item) (owned_item_read m q item steady.owned)
      (item_read_is (λ s. s.opening ≡ m.units.opening) m.units q item refl refl) (item_read_is (λ s. s.trace ≡ m.units.trace) m.units q item refl refl)
      (item_read_is (λ s. s.outcomes ≡ m.units.outcomes) m.units q item refl refl) (λ w other. item_read_own m.units q item (Some w)) (item_read_own m.units q item t.unit)
      (elim (cases_Bool (has_item (ts_queue (store_of m.units) q) item)) [ inl is ↦ rw is refl | inr off ↦ rw off refl ])

  -- ---- The end of the unit

  abbrev closed_task : Bool → Task
  closed_task has_ended = record t { unit = None; browses = []; has_ended = has_ended }

  module _ (outcome : UnitState) (has_ended : Bool) (closed : is_open outcome ≡ false) where
    history_after : (o : Option ℕ) → ((units_after m.units o outcome).opening ≡ m.units.opening) × ((units_after m.units o outcome).trace ≡ m.units.trace)
    history_after None = (refl, refl)
    history_after (Some x) = (refl, refl)

    units_steady : (o : Option ℕ) → t.unit ≡ o → (outcome : UnitState) → is_open outcome ≡ false → AreUnitsSteady (units_after m.units o outcome)
    units_steady None has outcome closed = steady.units
    units_steady (Some u) has outcome closed = record {
      canonical = steady.units.canonical;
      sound = end-IsSound m.units u outcome steady.units.sound live;
      order = order outcome closed;
      reads = rising-filter is_earlier (λ r. not (r.unit == u)) m.units.reads steady.units.reads;
      counts = rising-filter is_lower (λ c. not (c.unit == u)) m.units.counts steady.units.counts;
    }
      where
        live : is_live m.units u ≡ true
        live = live_of m steady t there u has

        order : (outcome : UnitState) → is_open outcome ≡ false → IsInOrder (after_end m.units u outcome)
        order Committed closed = commit-IsInOrder m.units u live steady.units.order
        order BackedOut closed = backout-IsInOrder m.units u live steady.units.order
        order Open closed = absurd (true≢false closed)

    outcome_after : (o : Option ℕ) (u : ℕ) → u < length m.units.outcomes →
        outcome_of (units_after m.units o outcome).outcomes u ≡ (if is_unit o u then outcome else outcome_of m.units.outcomes u)
    outcome_after None u below = refl
    outcome_after (Some x) u below =
        grind (arith, get-set m.units.outcomes x u outcome, slice_get-get_or m.units.outcomes u Open below, outcome_of-set m.units.outcomes x u outcome)

    -- each ending then is one of before in which the unit has this outcome
    stores_closed : (gone : Bytes → Bool) →
        store_if (unit_closed m t outcome has_ended) gone ≡ store_if m (λ l. if is_same l t.label then is_backed_out outcome else gone l)
    stores_closed gone =
        rw ((history_after t.unit).0, (history_after t.unit).1)
        (sym (same_if_open m steady (λ l. if is_same l t.label then is_backed_out outcome else gone l) (ending (unit_closed m t outcome has_ended) gone)
        (λ u below shut. grind (arith, outcome_after t.unit u below, shut, open_of m steady t there u, unit_is t.unit u))
        (λ u live. grind (
          arith,
          told_by_label m steady t there u live,
          outcome_after t.unit u (begun m.units u live),
          live_open m.units u live,
          label_kept m.tasks t (closed_task has_ended) u there refl,
          open_kept (outcome_of m.units.outcomes u),
          closed,
        ))))

    step_closed : IsStepOf m t (closed_task has_ended) (units_after m.units t.unit outcome) (λ p s x. own_by m.units None)
        (λ has s later next. if has then filter (λ c. has_key c.0 later.ts) next else next)
        (λ p l stores gone. stores (λ k. if is_same k l then is_backed_out outcome else gone k))
    step_closed = record {
      label = refl;
      opening = (history_after t.unit).0;
      others = λ w live other. ended_other m.units t.unit outcome w other;
      steady = record {
        units = units_steady t.unit refl outcome closed;
        tasks = kept_closed (with_waiting m []) place.0 t steady.tasks place.1 refl outcome has_ended;
        owned = owned_closed m t place.0 place.1 steady.tasks.labels steady.owned outcome has_ended closed;
      };
      own = refl;
      next = next t.unit;
      stores = stores_closed;
    }
      where
        next : (o : Option ℕ) → (units_after m.units o outcome).next ≡ (if is_some o then filter (λ c. has_key c.0 (store_of (units_after m.units o outcome)).ts) m.units.next else m.units.next)
        next None = refl
        next (Some x) = refl

-- ---- The steps of both

module _ (m n : Machine) (t u : Task) (acting : AreActing m n t u) where
  pub acting_executed : (o : Op) → awaited m.units t.unit o ≡ None → awaited n.units u.unit o ≡ None →
      AreActing (after m (after_execution m.units t.unit o) (in_unit m t)) (after n (after_execution n.units u.unit o) (in_unit n u)) (in_unit m t) (in_unit n u)
  acting_executed o free too =
      stepped m n t u acting _ _ _ _ _ _ _ (step_executed m acting.same.first t acting.there o free) (step_executed n acting.same.second u acting.too o too)
      (ap (λ (x : Task). record x { unit = Some 0 }) acting.bare)

  pub acting_enqueued : (value : Bytes) → enqueue m.units t.unit value ≡ Taken (unit_or_next t.unit m.units.outcomes) → enqueue n.units u.unit value ≡ Taken (unit_or_next u.unit n.units.outcomes) →
      AreActing (after m (after_enqueue m.units t.unit value) (in_unit m t)) (after n (after_enqueue n.units u.unit value) (in_unit n u)) (in_unit m t) (in_unit n u)
  acting_enqueued value taken too =
      stepped m n t u acting _ _ _ _ _ _ _ (step_enqueued m acting.same.first t acting.there value taken) (step_enqueued n acting.same.second u acting.too value too)
      (ap (λ (x : Task). record x { unit = Some 0 }) acting.bare)

  pub acting_browses : (browses : Map Position) →
      AreActing (with_task m (with_browses t browses)) (with_task n (with_browses u browses)) (with_browses t browses) (with_browses u browses)
  acting_browses browses =
      stepped m n t u acting _ _ _ _ _ _ _ (step_browses m acting.same.first t acting.there browses) (step_browses n acting.same.second u acting.too browses)
      (ap (λ (x : Task). record x { browses = browses }) acting.bare)

  -- steps of the units alone
  acting_units : (s r : UnitsState) (f : OpeningState → Store → Own → Own) (g : Bool → Store → Store → Map ℕ → Map ℕ) (h : OpeningState → Bytes → ((Bytes → Bool) → Store) → (Bytes → Bool) → Store) →
      IsStepOf m t t s f g h → IsStepOf n u u r f g h → AreActing (with_units m s) (with_units n r) t u
  acting_units s r f g h first second =
      rw (stays_there m acting.same.first t acting.there, stays_there n acting.same.second u acting.too) at
      (stepped m n t u acting t s u r f g h first second acting.bare)

  -- of tasks that have a unit, or of none
  if_unit : (P : Option ℕ → Option ℕ → Type 0) → P None None → ((x y : ℕ) → t.unit ≡ Some x → u.unit ≡ Some y → P (Some x) (Some y)) → P t.unit u.unit
  if_unit P none some = both (λ x. 0) (λ x. 0) P t.unit u.unit (ap (λ (x : Task). x.unit) acting.bare) (λ a b. none) (λ x y a b zero. some x y a b)

  pub acting_unlocked : (f : Bytes) → AreActing (unlocked m t.unit f) (unlocked n u.unit f) t u
  acting_unlocked f =
      if_unit (λ o p. AreActing (unlocked m o f) (unlocked n p f) t u) acting
      (λ x y a b. acting_units _ _ _ _ _ (step_unlocked m acting.same.first t acting.there f x a) (step_unlocked n acting.same.second u acting.too f y b))

  pub acting_dequeued : (value : Bytes) → AreActing (dequeued m t.unit value) (dequeued n u.unit value) t u
  acting_dequeued value =
      if_unit (λ o p. AreActing (dequeued m o value) (dequeued n p value) t u) acting
      (λ x y a b. acting_units _ _ _ _ _ (step_dequeued m acting.same.first t acting.there value x a) (step_dequeued n acting.same.second u acting.too value y b))

  pub acting_item_read : (q : Bytes) (item : ℕ) → AreActing (with_units m (after_ts_reading m.units q item)) (with_units n (after_ts_reading n.units q item)) t u
  acting_item_read q item =
      acting_units _ _ _ _ _ (step_item_read m acting.same.first t acting.there q item) (step_item_read n acting.same.second u acting.too q item)

  -- ---- The end of the unit

  pub same_closed : (outcome : UnitState) (has_ended : Bool) → is_open outcome ≡ false → HaveSameFuture (unit_closed m t outcome has_ended) (unit_closed n u outcome has_ended)
  same_closed outcome has_ended closed =
      (stepped m n t u acting _ _ _ _ _ _ _ (step_closed m acting.same.first t acting.there outcome has_ended closed) (step_closed n acting.same.second u acting.too outcome has_ended closed)
      (ap (λ (x : Task). record x { unit = None; browses = []; has_ended = has_ended }) acting.bare)).same

  pub same_abended : HaveSameFuture (abended m t) (abended n u)
  same_abended =
      same_waits (unit_closed m t BackedOut true) (unit_closed n u BackedOut true) (same_closed BackedOut true refl)
      (not_waiting m.waiting t.label) (not_waiting n.waiting u.label) (λ i. not_waiting (acting.same.alike.waiting i) (acting.bare i).label)
