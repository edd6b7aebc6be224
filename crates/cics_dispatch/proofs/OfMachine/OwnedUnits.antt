-- Task control: an open unit of work is a task's, and stays one's through each step of a region.
use Rattle.std.specs.Prelude.{◌≡◌, ℕ, Bool, true, false, cond, ◌&&◌, Option, Some, None, is_some, unwrap_or, IfNone, ◌⊎◌, List, [], ◌∷◌, ◌++◌, length, nat_lt, nat_le, nat_eq, get_or, slice_get, refl}
use Rattle.std.proofs.Common.{sym, ap, ◌∙◌, subst, inl, inr, zero, suc, arith}
use Rattle.std.proofs.lemmas.Bool.{and_parts, and_from, cases_Bool, false_from_ne_true, ltb-true, lt-ltb, eq-eqb, eqb-true}
use Rattle.std.proofs.lemmas.Option.{slice_get-get_or, slice_get_within}
use Rattle.cics_names.specs.Keyed.{Bytes, Map, is_same, with_value}
use Rattle.cics_names.specs.KeyedLaws.{is_same-self, is_same-eq}
use Rattle.cics_browse.specs.Positions.{Position}
use Rattle.cics_tempstor.specs.Queues.{has_item}
use Rattle.cics_history.specs.Resources.{most_count}
use Rattle.cics_dispatch.proofs.OfMachine.Elements.{get-set, get-pushed}
use Rattle.cics_history.specs.State.{OpeningState, UnitsState, initial_units}
use Rattle.cics_history.specs.Store.{ts_queue}
use Rattle.cics_history.specs.Headline.{outcome_of, is_open}
use Rattle.cics_history.specs.Holding.{store_of, awaited, value_holder}
use Rattle.cics_history.specs.Execution.{count_at, after_ts_reading, unit_or_next, outcomes_with, done_of, state_of, execution, after_execution, enq_of, enqueue, after_enqueue, after_enqueued}
use Rattle.cics_history.specs.Events.{is_live}
use Rattle.cics_history.specs.declared.ops.Op.{Op}
use Rattle.cics_history.specs.declared.ops.Answer.{Answer}
use Rattle.cics_history.specs.declared.ops.Done.TheVariants.{Answered, MustWait}
use Rattle.cics_history.specs.declared.ops.Enqueued.TheVariants.{Taken, CountFull}
use Rattle.cics_history.specs.declared.ops.UnitState.{UnitState}
use Rattle.cics_history.specs.declared.ops.UnitState.TheVariants.{Open, Committed, BackedOut}
use Rattle.cics_dispatch.specs.Machine.Machine.{Machine, Task, Suspended, initial_region, replaced, with_task, with_units, with_waiting, with_unit, with_browses, units_after, unit_closed}
use Rattle.cics_dispatch.specs.Notes.Notes.{is_unit}
use Rattle.cics_dispatch.specs.Machine.Steps.{new_task, with_new_task, unlocked, dequeued}
use Rattle.cics_dispatch.specs.Machine.Tasks.{IsOwn, HasNoOwner, own_label, had_by, had_at}
use Rattle.cics_dispatch.specs.Machine.OwnedUnits.{AreUnitsOwned}
use Rattle.cics_dispatch.proofs.OfMachine.TaskTable.{is_unit-has}

-- ---- Open units

differs : {b : Bool} → b ≡ true → b ≡ false → ⊥
differs t f = cc

none_some : {X : Type 0} {x : X} → None ≡ Some x → ⊥
none_some e = cc

open_alone : (o : UnitState) → is_open o ≡ true → o ≡ Open
open_alone Open e = refl
open_alone Committed e = cc
open_alone BackedOut e = cc

-- a unit is open if its outcome is there, and is the one of an open unit
live_there : (s : UnitsState) (u : ℕ) → is_live s u ≡ true → slice_get s.outcomes u ≡ Some Open
live_there s u live =
    let parts = and_parts (nat_lt u (length s.outcomes)) (is_open (outcome_of s.outcomes u)) live in
    let there = slice_get-get_or s.outcomes u Open (ltb-true u (length s.outcomes) parts.0) in
    there ∙ ap Some (open_alone (get_or s.outcomes u Open) (ap (λ o. is_open (unwrap_or o Open)) (sym there) ∙ parts.1))

there_live : (s : UnitsState) (u : ℕ) → slice_get s.outcomes u ≡ Some Open → is_live s u ≡ true
there_live s u there =
    and_from (nat_lt u (length s.outcomes)) (is_open (outcome_of s.outcomes u))
    (lt-ltb u (length s.outcomes) (slice_get_within s.outcomes u Open there))
    (ap (λ o. is_open (unwrap_or o Open)) there)

-- a task has a unit, or hasn't
has_or_not : (o : Option ℕ) (u : ℕ) → (o ≡ Some u → ⊥) ⊎ (o ≡ Some u)
has_or_not o u = elim (cases_Bool (is_unit o u)) [
  | inl e ↦ inr (is_unit-has o u e)
  | inr e ↦ inl (λ has. differs (ap (λ p. is_unit p u) has ∙ eq-eqb u u refl) e)
]

-- ---- Whose an open unit is

-- one is looked for among the tasks, and is found
pub owner_found : {X : Type 0} (m : Machine) (u : ℕ) (ts : List Task) (r : Option X) → AreUnitsOwned m → is_live m.units u ≡ true → ts ≡ m.tasks → IfNone r (HasNoOwner ts u) →
    is_some r ≡ true
owner_found m u ts None owned live view none = absurd (owned.owned u live (subst (λ l. HasNoOwner l u) view none))
owner_found m u ts (Some x) owned live view none = refl

-- ---- A task in the place of another

module _ (t owner : Task) (label : owner.label ≡ t.label) where
  -- if no other task has its label, it stands at the place of the other
  replaced_at : (ts : List Task) (at : ℕ) → slice_get ts at ≡ Some t → ((j : ℕ) → had_at own_label ts j ≡ Some owner.label → j ≡ at) →
      slice_get (replaced ts owner) at ≡ Some owner
  replaced_at [] at there one = cc
  replaced_at (v ∷ vs) zero there one =
      let is : v ≡ t = cc in
      let tied : is_same v.label owner.label ≡ true = ap (λ l. is_same l owner.label) (ap (λ r. r.label) is ∙ sym label) ∙ is_same-self owner.label in
      ap (λ b. slice_get (cond b (owner ∷ vs) (v ∷ replaced vs owner)) 0) tied
  replaced_at (v ∷ vs) (suc at) there one =
      ap (λ b. slice_get (cond b (owner ∷ vs) (v ∷ replaced vs owner)) (suc at))
      (false_from_ne_true (is_same v.label owner.label) (λ tied. first (one 0 (ap Some (is_same-eq v.label owner.label tied)))))
      ∙ replaced_at vs at there (λ j here. let next = one (suc j) here in omega arith)
    where
      first : 0 ≡ suc at → ⊥
      first e = cc

  pub replaced_there : (ts : List Task) (at : ℕ) → IsOwn own_label ts → slice_get ts at ≡ Some t → slice_get (replaced ts owner) at ≡ Some owner
  replaced_there ts at labels there =
      replaced_at ts at there (λ j here. labels.one j at owner.label here (ap (had_by own_label) there ∙ ap Some (sym label)))

module _ (owner : Task) where
  -- the tasks of other labels stay where they were
  replaced_other : (ts : List Task) (i : ℕ) (s : Task) → slice_get ts i ≡ Some s → is_same s.label owner.label ≡ false → slice_get (replaced ts owner) i ≡ Some s
  replaced_other [] i s there differ = cc
  replaced_other (v ∷ vs) zero s there differ =
      let is : v ≡ s = cc in
      ap (λ b. slice_get (cond b (owner ∷ vs) (v ∷ replaced vs owner)) 0) (ap (λ r. is_same r.label owner.label) is ∙ differ) ∙ there
  replaced_other (v ∷ vs) (suc i) s there differ =
      elim (is_same v.label owner.label) as (λ b. slice_get (cond b (owner ∷ vs) (v ∷ replaced vs owner)) (suc i) ≡ Some s) [
        | true ↦ there
        | false ↦ replaced_other vs i s there differ
      ]

  -- and each place has the label that it had
  replaced_label : (ts : List Task) (i : ℕ) → had_at own_label (replaced ts owner) i ≡ had_at own_label ts i
  replaced_label [] i = refl
  replaced_label (v ∷ vs) zero =
      elim (is_same v.label owner.label) as (λ b. is_same v.label owner.label ≡ b → had_at own_label (cond b (owner ∷ vs) (v ∷ replaced vs owner)) 0 ≡ Some v.label) [
        | true ↦ λ tied. ap Some (sym (is_same-eq v.label owner.label tied))
        | false ↦ λ differ. refl
      ] refl
  replaced_label (v ∷ vs) (suc i) =
      elim (is_same v.label owner.label) as (λ b. had_at own_label (cond b (owner ∷ vs) (v ∷ replaced vs owner)) (suc i) ≡ had_at own_label vs i) [
        | true ↦ refl
        | false ↦ replaced_label vs i
      ]

  pub replaced_labels : (ts : List Task) → IsOwn own_label ts → IsOwn own_label (replaced ts owner)
  replaced_labels ts labels = record {
    one = λ i j x at_i at_j. labels.one i j x (sym (replaced_label ts i) ∙ at_i) (sym (replaced_label ts j) ∙ at_j);
  }

-- ---- What a step keeps

-- if the tasks and the outcomes of units stay, so does whose they are
pub owned_same : (m n : Machine) → n.tasks ≡ m.tasks → n.units.outcomes ≡ m.units.outcomes → AreUnitsOwned m → AreUnitsOwned n
owned_same m n tasks outcomes owned = record {
  owned = λ u live none. owned.owned u (there_live m.units u (ap (λ o. slice_get o u) (sym outcomes) ∙ live_there n.units u live)) (subst (λ ts. HasNoOwner ts u) tasks none);
}

-- a task steps: each open unit was open and another's, or it is the task's now
pub owned_stepped : (m n : Machine) (t owner : Task) (at : ℕ) → slice_get m.tasks at ≡ Some t → IsOwn own_label m.tasks → AreUnitsOwned m →
    owner.label ≡ t.label → n.tasks ≡ replaced m.tasks owner →
    ((u : ℕ) → is_live n.units u ≡ true → ((is_live m.units u ≡ true) × (t.unit ≡ Some u → ⊥)) ⊎ (owner.unit ≡ Some u)) → AreUnitsOwned n
owned_stepped m n t owner at there labels owned label tasks each = record {
  owned = λ u live none. by u (each u live) (subst (λ ts. HasNoOwner ts u) tasks none);
}
  where
    -- a task of another label, or this one, which hasn't the unit
    stays : (u i : ℕ) (s : Task) → (t.unit ≡ Some u → ⊥) → slice_get m.tasks i ≡ Some s → s.unit ≡ Some u → HasNoOwner (replaced m.tasks owner) u → ⊥
    stays u i s not_own at_i has none = elim (cases_Bool (is_same s.label owner.label)) [
      | inl tied ↦
          let place : i ≡ at = labels.one i at t.label (ap (had_by own_label) at_i ∙ ap Some (is_same-eq s.label owner.label tied ∙ label)) (ap (had_by own_label) there) in
          let same : Some s ≡ Some t = sym at_i ∙ ap (slice_get m.tasks) place ∙ there in
          not_own (ap (λ o. unit_in o) (sym same) ∙ has)
      | inr differ ↦ none.other i s (replaced_other owner m.tasks i s at_i differ) has
    ]
      where
        unit_in : Option Task → Option ℕ
        unit_in None = None
        unit_in (Some r) = r.unit

    by : (u : ℕ) → ((is_live m.units u ≡ true) × (t.unit ≡ Some u → ⊥)) ⊎ (owner.unit ≡ Some u) → HasNoOwner (replaced m.tasks owner) u → ⊥
    by u (inl other) none = owned.owned u other.0 (record { other = λ i s at_i has. stays u i s other.1 at_i has none })
    by u (inr own) none = none.other at owner (replaced_there t owner label m.tasks at labels there) own

-- a region begins without a unit
pub owned_begins : (o : OpeningState) → AreUnitsOwned (initial_region o)
owned_begins o = record {
  owned = λ u live none. none_some (live_there (initial_units o) u live);
}

-- with one more task each task has the unit that it had
pub owned_attached : (m : Machine) (label : Bytes) (dtimout : ℕ) → AreUnitsOwned m → AreUnitsOwned (with_new_task m label dtimout)
owned_attached m label dtimout owned = record {
  owned = λ u live none. owned.owned u live (record { other = λ i s at_i has. none.other i s (stands m.tasks i s at_i) has });
}
  where
    stands : (ts : List Task) (i : ℕ) (s : Task) → slice_get ts i ≡ Some s → slice_get (ts ++ new_task label dtimout ∷ []) i ≡ Some s
    stands [] i s e = cc
    stands (t ∷ ts) zero s e = e
    stands (t ∷ ts) (suc i) s e = stands ts i s e

-- an UNLOCK, a DEQ and a READQ TS begin and end no unit
pub owned_unlocked : (m : Machine) (unit : Option ℕ) (f : Bytes) → AreUnitsOwned m → AreUnitsOwned (unlocked m unit f)
owned_unlocked m None f owned = owned
owned_unlocked m (Some u) f owned = owned_same m (unlocked m (Some u) f) refl refl owned

pub owned_dequeued : (m : Machine) (unit : Option ℕ) (value : Bytes) → AreUnitsOwned m → AreUnitsOwned (dequeued m unit value)
owned_dequeued m None value owned = owned
owned_dequeued m (Some u) value owned = owned_same m (dequeued m (Some u) value) refl refl owned

pub owned_item_read : (m : Machine) (q : Bytes) (item : ℕ) → AreUnitsOwned m → AreUnitsOwned (with_units m (after_ts_reading m.units q item))
owned_item_read m q item owned = owned_same m (with_units m (after_ts_reading m.units q item)) refl outcomes owned
  where
    outcomes : (after_ts_reading m.units q item).outcomes ≡ m.units.outcomes
    outcomes = elim (has_item (ts_queue (store_of m.units) q) item)
        as (λ b. (cond b (record { opening = m.units.opening; trace = m.units.trace; outcomes = m.units.outcomes; commits = m.units.commits; reads = m.units.reads; counts = m.units.counts; next = with_value q item m.units.next }) m.units).outcomes ≡ m.units.outcomes) [
          | true ↦ refl
          | false ↦ refl
        ]

-- a wait that begins or ends leaves tasks and units, and so does the clock
pub owned_suspended : (m : Machine) (ws : List Suspended) → AreUnitsOwned m → AreUnitsOwned (with_waiting m ws)
owned_suspended m ws owned = owned_same m (with_waiting m ws) refl refl owned

pub owned_clock : (m : Machine) (now : ℕ) → AreUnitsOwned m → AreUnitsOwned (record m { clock = now })
owned_clock m now owned = owned_same m (record m { clock = now }) refl refl owned

-- a unit is open once a task acts in its unit, or in the next one, which begins: it was and is
-- another's, or it is that unit
acts : (outcomes : List UnitState) (o : Option ℕ) (u : ℕ) → slice_get (outcomes_with o outcomes) u ≡ Some Open →
    ((slice_get outcomes u ≡ Some Open) × (o ≡ Some u → ⊥)) ⊎ (unit_or_next o outcomes ≡ u)
acts outcomes None u there = by (nat_eq u (length outcomes)) refl (sym (get-pushed outcomes Open u) ∙ there)
  where
    by : (b : Bool) → nat_eq u (length outcomes) ≡ b → cond b (Some Open) (slice_get outcomes u) ≡ Some Open →
        ((slice_get outcomes u ≡ Some Open) × (None ≡ Some u → ⊥)) ⊎ (length outcomes ≡ u)
    by true e h = inr (sym (eqb-true u (length outcomes) e))
    by false e h = inl (h, none_some)
acts outcomes (Some v) u there = elim (has_or_not (Some v) u) [
  | inl other ↦ inl (there, other)
  | inr own ↦ inr (ap (λ o. unwrap_or o v) own)
]

-- a unit is open once a task's unit has ended: it was and is another's
ends : (s : UnitsState) (outcome : UnitState) → is_open outcome ≡ false → (o : Option ℕ) (u : ℕ) → slice_get (units_after s o outcome).outcomes u ≡ Some Open →
    (slice_get s.outcomes u ≡ Some Open) × (o ≡ Some u → ⊥)
ends s outcome closed None u there = (there, none_some)
ends s outcome closed (Some v) u there = by (nat_eq u v) (slice_get s.outcomes u) refl (sym (get-set s.outcomes v u outcome) ∙ there)
  where
    by : (b : Bool) (g : Option UnitState) → nat_eq u v ≡ b → cond (b && is_some g) (Some outcome) g ≡ Some Open → (g ≡ Some Open) × (Some v ≡ Some u → ⊥)
    by true None e h = cc
    by true (Some x) e h = absurd (differs (ap (λ o. is_open (unwrap_or o outcome)) h) closed)
    by false g e h = (h, λ same. differs (eq-eqb u v (ap (λ o. unwrap_or o v) (sym same))) e)

module _ (m : Machine) (t : Task) (at : ℕ) (there : slice_get m.tasks at ≡ Some t) (labels : IsOwn own_label m.tasks) (owned : AreUnitsOwned m) where
  -- a task acts in its unit, or in the next one, which begins and is its own
  pub owned_acts : (units : UnitsState) (unit : ℕ) → unit_or_next t.unit m.units.outcomes ≡ unit → units.outcomes ≡ outcomes_with t.unit m.units.outcomes →
      AreUnitsOwned (with_task (with_units m units) (with_unit t unit))
  owned_acts units unit is outcomes = owned_stepped m (with_task (with_units m units) (with_unit t unit)) t (with_unit t unit) at there labels owned refl refl each
    where
      each : (u : ℕ) → is_live units u ≡ true → ((is_live m.units u ≡ true) × (t.unit ≡ Some u → ⊥)) ⊎ (Some unit ≡ Some u)
      each u live = elim (acts m.units.outcomes t.unit u (ap (λ o. slice_get o u) (sym outcomes) ∙ live_there units u live)) [
        | inl other ↦ inl (there_live m.units u other.0, other.1)
        | inr own ↦ inr (ap Some (sym is ∙ own))
      ]

  -- a command is executed
  pub owned_executed : (o : Op) (unit : ℕ) (a : Answer) → execution m.units t.unit o ≡ Answered unit a →
      AreUnitsOwned (with_task (with_units m (after_execution m.units t.unit o)) (with_unit t unit))
  owned_executed o unit a done = by (awaited m.units t.unit o) done
    where
      by : (r : Option ℕ) → done_of m.units t.unit o r ≡ Answered unit a → AreUnitsOwned (with_task (with_units m (state_of m.units t.unit o r)) (with_unit t unit))
      by (Some holder) e = absurd (never e)
        where
          never : MustWait holder ≡ Answered unit a → ⊥
          never e = cc
      by None e =
          let is : unit_or_next t.unit m.units.outcomes ≡ unit = cc in
          owned_acts (state_of m.units t.unit o None) unit is refl

  -- ENQ acquires its value
  pub owned_enqueued : (value : Bytes) (unit : ℕ) → enqueue m.units t.unit value ≡ Taken unit →
      AreUnitsOwned (with_task (with_units m (after_enqueue m.units t.unit value)) (with_unit t unit))
  owned_enqueued value unit taken =
      subst (λ d. AreUnitsOwned (with_task (with_units m (after_enqueued m.units t.unit value d)) (with_unit t unit))) (sym taken)
      (owned_acts (after_enqueued m.units t.unit value (Taken unit)) unit (by (value_holder m.units t.unit value) taken) refl)
    where
      by : (r : Option ℕ) → enq_of m.units t.unit value r ≡ Taken unit → unit_or_next t.unit m.units.outcomes ≡ unit
      by (Some holder) e = cc
      by None e = full (nat_le most_count (count_at m.units.counts (unit_or_next t.unit m.units.outcomes) value)) e
        where
          full : (b : Bool) → cond b CountFull (Taken (unit_or_next t.unit m.units.outcomes)) ≡ Taken unit → unit_or_next t.unit m.units.outcomes ≡ unit
          full true e = cc
          full false e = cc

  -- the task's unit is committed or backed out
  pub owned_closed : (outcome : UnitState) (has_ended : Bool) → is_open outcome ≡ false → AreUnitsOwned (unit_closed m t outcome has_ended)
  owned_closed outcome has_ended closed =
      owned_stepped m (unit_closed m t outcome has_ended) t (record t { unit = None; browses = []; has_ended = has_ended }) at there labels owned refl refl each
    where
      each : (u : ℕ) → is_live (units_after m.units t.unit outcome) u ≡ true → ((is_live m.units u ≡ true) × (t.unit ≡ Some u → ⊥)) ⊎ (None ≡ Some u)
      each u live =
          let other = ends m.units outcome closed t.unit u (live_there (units_after m.units t.unit outcome) u live) in
          inl (there_live m.units u other.0, other.1)

  -- the task has other browses
  pub owned_browses : (browses : Map Position) → AreUnitsOwned (with_task m (with_browses t browses))
  owned_browses browses = owned_stepped m (with_task m (with_browses t browses)) t (with_browses t browses) at there labels owned refl refl each
    where
      each : (u : ℕ) → is_live m.units u ≡ true → ((is_live m.units u ≡ true) × (t.unit ≡ Some u → ⊥)) ⊎ (t.unit ≡ Some u)
      each u live = elim (has_or_not t.unit u) [
        | inl other ↦ inl (live, other)
        | inr own ↦ inr own
      ]
