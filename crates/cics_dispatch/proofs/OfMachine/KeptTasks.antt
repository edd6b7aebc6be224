-- Task control: each step of a region keeps what holds between its tasks, its waiting commands and
-- its units.
use Rattle.std.specs.Prelude.{◌≡◌, ◌≢◌, ℕ, ◌<◌, Bool, true, false, not, cond, if◌then◌else◌, nat_le, Option, Some, None, is_some, List, [], ◌∷◌, ◌++◌, All, length, slice_get, slice_set, refl}
use Rattle.std.proofs.Common.{◌⊎◌, inl, inr, sym, ap, ◌∙◌, subst, arith}
use Rattle.std.proofs.lemmas.Bool.{false≢true, and_parts}
use Rattle.std.proofs.lemmas.List.Elements.{All-nil, All-cons, All-head, All-tail, All-filter, All-append}
use Rattle.cics_names.specs.Keyed.{Bytes, Map, is_same}
use Rattle.cics_names.specs.KeyedLaws.{is_same-self}
use Rattle.cics_browse.specs.Positions.{Position}
use Rattle.cics_history.specs.Resources.{most_count}
use Rattle.cics_history.specs.State.{OpeningState, UnitsState}
use Rattle.cics_history.specs.Holding.{store_of, awaited, value_holder}
use Rattle.cics_history.specs.Store.{apply}
use Rattle.cics_history.specs.Headline.{outcome_of, is_open}
use Rattle.cics_history.specs.Execution.{is_ready_op, has_read, unit_or_next, count_at, counted, done_of, state_of, execution, after_execution, enq_of, enqueue, after_enqueued, after_enqueue, after_dequeue, after_unlock, after_ts_reading, IsOpenUnit, IsOpenOrNone}
use Rattle.cics_history.specs.Events.{is_live, may_act}
use Rattle.cics_history.specs.declared.ops.Op.{Op}
use Rattle.cics_history.specs.declared.ops.Op.TheVariants.{Write, Rewrite, Delete, DeleteGeneric, ReadUpdate, TsWrite, TsRewrite, TsDelete, TdWrite, TdRead, TdDelete}
use Rattle.cics_names.specs.declared.commands.Verb.TheVariants.{Enq}
use Rattle.cics_history.specs.declared.ops.Answer.{Answer}
use Rattle.cics_history.specs.declared.ops.Done.TheVariants.{Answered}
use Rattle.cics_history.specs.declared.ops.Enqueued.TheVariants.{Taken, CountFull}
use Rattle.cics_history.specs.declared.ops.UnitState.{UnitState}
use Rattle.cics_history.specs.declared.ops.UnitState.TheVariants.{BackedOut}
use Rattle.cics_dispatch.specs.Machine.Machine.{Machine, Task, Suspended, initial_region, task_at, replaced, is_waiting, not_waiting, with_task, with_units, with_waiting, with_unit, with_browses, units_after, unit_closed, abended}
use Rattle.cics_dispatch.specs.Machine.Steps.{new_task, with_new_task, unlocked, dequeued}
use Rattle.cics_dispatch.specs.Machine.Tasks.{own_label, own_unit, had_at, IsOwn, HasNoOwner}
use Rattle.cics_dispatch.specs.Machine.KeptTasks.{IsReady, IsWaitKept, AreTasksKept}
use Rattle.cics_names.specs.declared.commands.Command.{Command}
use Rattle.cics_names.specs.declared.commands.Verb.{Verb}
use Rattle.cics_dispatch.proofs.OfMachine.TaskPlaces.{same_place, place-set, set_placed, set_same, IsOwn-set, task_at-place, place_of_task, replaced-set, task_at-replaced, place-push, IsOwn-push, task_at-push}
use Rattle.cics_dispatch.proofs.OfMachine.OtherUnits.{LeavesOthers, leaves_all, begun, acting_lives, entered_leaves, counted_leaves, dequeued_leaves, unlocked_leaves, item_read_leaves, item_read_live, closed_leaves}

-- ---- What the units and the tasks are told

-- a task's unit is open
pub acting : (m : Machine) (at : ℕ) (t : Task) → AreTasksKept m → slice_get m.tasks at ≡ Some t → (u : ℕ) → t.unit ≡ Some u → IsOpenUnit m.units u
acting m at t kept placed u own =
    let live = kept.open_units at t u placed own in
    (begun m.units u live, (and_parts _ (is_open (outcome_of m.units.outcomes u)) live).1)

-- a task has an open unit, or none
pub acting_or_none : (m : Machine) (at : ℕ) (t : Task) → AreTasksKept m → slice_get m.tasks at ≡ Some t → IsOpenOrNone m.units t.unit
acting_or_none m at t kept placed = by t.unit refl
  where
    by : (o : Option ℕ) → t.unit ≡ o → IsOpenOrNone m.units o
    by None own = tt
    by (Some u) own = acting m at t kept placed u own

-- a task may act
pub acts : (m : Machine) (at : ℕ) (t : Task) → AreTasksKept m → slice_get m.tasks at ≡ Some t → may_act m.units t.unit ≡ true
acts m at t kept placed = by t.unit refl
  where
    by : (o : Option ℕ) → t.unit ≡ o → may_act m.units o ≡ true
    by None own = refl
    by (Some u) own = kept.open_units at t u placed own

-- no task has the unit that begins next
pub no_owner_next : (m : Machine) → AreTasksKept m → HasNoOwner m.tasks (length m.units.outcomes)
no_owner_next m kept = record {
  other = λ i t placed own.
      let below : length m.units.outcomes < length m.units.outcomes = begun m.units (length m.units.outcomes) (kept.open_units i t (length m.units.outcomes) placed own) in
      omega arith;
}

-- ---- What is ready stays ready

-- whether an updating command is ready is told by the opening and the update reads that are open
-- for the task's unit
ready_kept : (s n : UnitsState) (u : Option ℕ) (o : Op) → n.opening ≡ s.opening → ((f : Bytes) → has_read n u f ≡ has_read s u f) →
    is_ready_op n u o ≡ is_ready_op s u o
ready_kept s n u (Write f k r) opening reads = rw opening refl
ready_kept s n u (Rewrite f k r) opening reads = rw (opening, reads f) refl
ready_kept s n u (Delete f k) opening reads = rw opening refl
ready_kept s n u (DeleteGeneric f k) opening reads = rw opening refl
ready_kept s n u (ReadUpdate f k) opening reads = rw (opening, reads f) refl
ready_kept s n u (TsWrite q d) opening reads = refl
ready_kept s n u (TsRewrite q i d) opening reads = refl
ready_kept s n u (TsDelete q) opening reads = refl
ready_kept s n u (TdWrite q d) opening reads = rw opening refl
ready_kept s n u (TdRead q) opening reads = rw opening refl
ready_kept s n u (TdDelete q) opening reads = rw opening refl

ready_yet : (s n : UnitsState) (u : Option ℕ) (verb : Verb) (o : Option Op) → n.opening ≡ s.opening → ((f : Bytes) → has_read n u f ≡ has_read s u f) →
    IsReady s u verb o → IsReady n u verb o
ready_yet s n u verb (Some o) opening reads is = ready_kept s n u o opening reads ∙ is
ready_yet s n u (Enq value k nosuspend) None opening reads is = is
ready_yet s n u verb None opening reads is = absurd is

-- ---- A step of one task

-- a task that no command waits for acts, and is put in its place: the other tasks keep their open
-- units and their update reads, and its own unit is open, and was its own or no task's
module _ (m n : Machine) (t owner : Task) (at : ℕ) (kept : AreTasksKept m) (placed : slice_get m.tasks at ≡ Some t) (free : is_waiting m.waiting t.label ≡ false)
    (label : owner.label ≡ t.label) (tasks : n.tasks ≡ replaced m.tasks owner) (waiting : n.waiting ≡ m.waiting) (others : LeavesOthers m.units n.units t.unit)
    (owner_live : (u : ℕ) → owner.unit ≡ Some u → is_live n.units u ≡ true)
    (owner_alone : (u : ℕ) → owner.unit ≡ Some u → (t.unit ≡ Some u) ⊎ HasNoOwner m.tasks u) where
  now : n.tasks ≡ slice_set m.tasks at owner
  now = tasks ∙ replaced-set m.tasks at t owner kept.labels placed label

  same_label : (i : ℕ) (v : Task) (x : Bytes) → slice_get m.tasks i ≡ Some v → own_label v ≡ Some x → own_label owner ≡ Some x → i ≡ at
  same_label i v x placed_v own_v own = same_place own_label m.tasks i at v t x kept.labels placed_v placed own_v (ap Some (sym label) ∙ own)

  same_unit : (i : ℕ) (v : Task) (x : ℕ) → slice_get m.tasks i ≡ Some v → own_unit v ≡ Some x → own_unit owner ≡ Some x → i ≡ at
  same_unit i v x placed_v own_v own =
      elim (owner_alone x own) [
        | inl own_t ↦ same_place own_unit m.tasks i at v t x kept.owners placed_v placed own_v own_t
        | inr none ↦ absurd (none.other i v placed_v own_v)
      ]

  -- another task's unit isn't this one's
  not_own : (i : ℕ) (v : Task) (u : ℕ) → i ≢ at → slice_get m.tasks i ≡ Some v → v.unit ≡ Some u → t.unit ≡ Some u → ⊥
  not_own i v u other placed_v own_v own = other (same_place own_unit m.tasks i at v t u kept.owners placed_v placed own_v own)

  open_now : (i : ℕ) (v : Task) (u : ℕ) → slice_get n.tasks i ≡ Some v → v.unit ≡ Some u → is_live n.units u ≡ true
  open_now i v u placed_v own =
      elim (place-set m.tasks at owner i v (ap (λ ts. slice_get ts i) (sym now) ∙ placed_v)) [
        | inl here ↦ owner_live u (ap (λ x. x.unit) (sym here.1) ∙ own)
        | inr other ↦ others.live u (not_own i v u other.0 other.1 own) (kept.open_units i v u other.1 own)
      ]

  -- what the command of another task goes on with is ready yet
  module _ (w : Suspended) (other : t.label ≢ w.label) (has : IsWaitKept m w) where
    same_task : task_at n.tasks w.label ≡ task_at m.tasks w.label
    same_task = ap (λ ts. task_at ts w.label) tasks ∙ task_at-replaced m.tasks owner w.label (λ e. other (sym label ∙ e))

    same_key : (v : Task) → task_at m.tasks w.label ≡ Some v → (f : Bytes) → (o : Option ℕ) → v.unit ≡ o → has_read n.units o f ≡ has_read m.units o f
    same_key v there f None own = refl
    same_key v there f (Some u) own =
        let place = place_of_task m.tasks w.label v there in
        let elsewhere : place.0 ≢ at = λ e. other (is_there place.0 e v place.1 ∙ place.2) in
        others.reads u f (not_own place.0 v u elsewhere place.1 own) (kept.open_units place.0 v u place.1 own)
      where
        is_there : (i : ℕ) → i ≡ at → (v : Task) → slice_get m.tasks i ≡ Some v → t.label ≡ v.label
        is_there i e v placed_v =
            let both : Some t ≡ Some v = sym placed ∙ ap (slice_get m.tasks) (sym e) ∙ placed_v in
            let same : t ≡ v = cc in
            ap (λ x. x.label) same

    wait_yet : IsWaitKept n w
    wait_yet = record {
      of_task = ap is_some same_task ∙ has.of_task;
      ready = λ v is.
          let there : task_at m.tasks w.label ≡ Some v = sym same_task ∙ is in
          ready_yet m.units n.units v.unit w.command.verb w.op others.opening (λ f. same_key v there f v.unit refl) (has.ready v there);
    }

  waits_all : (ws : List Suspended) → is_waiting ws t.label ≡ false → All (IsWaitKept m) ws → All (IsWaitKept n) ws
  waits_all [] none all = All-nil (IsWaitKept n)
  waits_all (w ∷ ws) none all =
      elim (is_same w.label t.label) as (λ b. is_same w.label t.label ≡ b → cond b true (is_waiting ws t.label) ≡ false → All (IsWaitKept n) (w ∷ ws)) [
        | true ↦ λ same wrong. absurd (false≢true (sym wrong))
        | false ↦ λ differs rest.
            All-cons (IsWaitKept n) w ws
            (wait_yet w (λ e. false≢true (sym differs ∙ ap (is_same w.label) e ∙ is_same-self w.label)) (All-head (IsWaitKept m) w ws all))
            (waits_all ws rest (All-tail (IsWaitKept m) w ws all))
      ] refl none

  pub stepped_kept : AreTasksKept n
  stepped_kept = record {
    labels = subst (IsOwn own_label) (sym now) (IsOwn-set own_label m.tasks at owner kept.labels same_label);
    owners = subst (IsOwn own_unit) (sym now) (IsOwn-set own_unit m.tasks at owner kept.owners same_unit);
    open_units = open_now;
    waits = subst (All (IsWaitKept n)) (sym waiting) (waits_all m.waiting free kept.waits);
  }

-- ---- The tasks, the waiting commands and the clock

-- a region begins without tasks
pub kept_begins : (o : OpeningState) → AreTasksKept (initial_region o)
kept_begins o = record {
  labels = record { one = λ i j x p q. absurd (no_task own_label i x p) };
  owners = record { one = λ i j x p q. absurd (no_task own_unit i x p) };
  open_units = λ i t u placed own. absurd (no_place i t placed);
  waits = All-nil (IsWaitKept (initial_region o));
}
  where
    no_place : (i : ℕ) (t : Task) → slice_get [] i ≡ Some t → ⊥
    no_place i t placed = cc

    no_task : {X : Type 0} (own : Task → Option X) (i : ℕ) (x : X) → had_at own [] i ≡ Some x → ⊥
    no_task own i x has = cc

-- a task more, with a label that no task has
pub kept_attached : (m : Machine) (label : Bytes) (dtimout : ℕ) → AreTasksKept m → task_at m.tasks label ≡ None → AreTasksKept (with_new_task m label dtimout)
kept_attached m label dtimout kept none = record {
  labels = IsOwn-push own_label m.tasks (new_task label dtimout) kept.labels other_label;
  owners = IsOwn-push own_unit m.tasks (new_task label dtimout) kept.owners (λ i v x placed_v own_v own. no_unit x own);
  open_units = λ i v u placed_v own.
      elim (place-push m.tasks (new_task label dtimout) i v placed_v) [
        | inl last ↦ absurd (no_unit u (ap (λ x. x.unit) (sym last.1) ∙ own))
        | inr before ↦ kept.open_units i v u before own
      ];
  waits = waits_all m.waiting kept.waits;
}
  where
    no_unit : (u : ℕ) → None ≡ Some u → ⊥
    no_unit u e = cc

    other_label : (i : ℕ) (v : Task) (x : Bytes) → slice_get m.tasks i ≡ Some v → own_label v ≡ Some x → own_label (new_task label dtimout) ≡ Some x → ⊥
    other_label i v x placed_v own_v own =
        let same : v.label ≡ label = cc in
        let there : None ≡ Some v = sym none ∙ ap (task_at m.tasks) (sym same) ∙ task_at-place m.tasks i v kept.labels placed_v in
        cc

    there_yet : (l : Bytes) (o : Option Task) → task_at m.tasks l ≡ o → is_some o ≡ true → task_at (m.tasks ++ new_task label dtimout ∷ []) l ≡ task_at m.tasks l
    there_yet l None is some = absurd (false≢true some)
    there_yet l (Some v) is some = task_at-push m.tasks (new_task label dtimout) l v is ∙ sym is

    wait_yet : (w : Suspended) → IsWaitKept m w → IsWaitKept (with_new_task m label dtimout) w
    wait_yet w has =
        let same = there_yet w.label (task_at m.tasks w.label) refl has.of_task in
        record {
          of_task = ap is_some same ∙ has.of_task;
          ready = λ v is. has.ready v (sym same ∙ is);
        }

    waits_all : (ws : List Suspended) → All (IsWaitKept m) ws → All (IsWaitKept (with_new_task m label dtimout)) ws
    waits_all [] all = All-nil (IsWaitKept (with_new_task m label dtimout))
    waits_all (w ∷ ws) all =
        All-cons (IsWaitKept (with_new_task m label dtimout)) w ws (wait_yet w (All-head (IsWaitKept m) w ws all))
        (waits_all ws (All-tail (IsWaitKept m) w ws all))

-- what a waiting command resumes with is told by the tasks and the units
waiting_now : (m : Machine) (waiting : List Suspended) (clock : ℕ) → AreTasksKept m → All (IsWaitKept m) waiting →
    AreTasksKept (record m { waiting = waiting; clock = clock })
waiting_now m waiting clock kept waits = record {
  labels = kept.labels;
  owners = kept.owners;
  open_units = kept.open_units;
  waits = all waiting waits;
}
  where
    all : (ws : List Suspended) → All (IsWaitKept m) ws → All (IsWaitKept (record m { waiting = waiting; clock = clock })) ws
    all [] waits = All-nil (IsWaitKept (record m { waiting = waiting; clock = clock }))
    all (w ∷ ws) waits =
        let has = All-head (IsWaitKept m) w ws waits in
        All-cons (IsWaitKept (record m { waiting = waiting; clock = clock })) w ws
        (record { of_task = has.of_task; ready = has.ready })
        (all ws (All-tail (IsWaitKept m) w ws waits))

-- the clock is set
pub kept_clock : (m : Machine) (now : ℕ) → AreTasksKept m → AreTasksKept (record m { clock = now })
kept_clock m now kept = waiting_now m m.waiting now kept kept.waits

-- a command waits no more
pub kept_not_waiting : (m : Machine) (label : Bytes) → AreTasksKept m → AreTasksKept (with_waiting m (not_waiting m.waiting label))
kept_not_waiting m label kept =
    waiting_now m (not_waiting m.waiting label) m.clock kept
    (All-filter (λ w. not (is_same w.label label)) (IsWaitKept m) m.waiting kept.waits)

-- the waits stand aside
pub kept_aside : (m : Machine) → AreTasksKept m → AreTasksKept (with_waiting m [])
kept_aside m kept = waiting_now m [] m.clock kept (All-nil (IsWaitKept m))

pub waits_aside : (m : Machine) (ws : List Suspended) → All (IsWaitKept m) ws → All (IsWaitKept (with_waiting m [])) ws
waits_aside m [] waits = All-nil (IsWaitKept (with_waiting m []))
waits_aside m (w ∷ ws) waits =
    let has = All-head (IsWaitKept m) w ws waits in
    All-cons (IsWaitKept (with_waiting m [])) w ws (record { of_task = has.of_task; ready = has.ready }) (waits_aside m ws (All-tail (IsWaitKept m) w ws waits))

pub not_waiting_then : (ws : List Suspended) (label : Bytes) → is_waiting (not_waiting ws label) label ≡ false
not_waiting_then [] label = refl
not_waiting_then (w ∷ ws) label =
    elim (is_same w.label label) as (λ b. is_same w.label label ≡ b → is_waiting (cond (not b) (w ∷ not_waiting ws label) (not_waiting ws label)) label ≡ false) [
      | true ↦ λ same. not_waiting_then ws label
      | false ↦ λ differs. ap (λ b. cond b true (is_waiting (not_waiting ws label) label)) differs ∙ not_waiting_then ws label
    ] refl

-- the command of a task as it begins to wait
abbrev pub begins_now : Bytes → Machine → Command → Option Op → Suspended
begins_now label m c o = record { label = label; command = c; op = o; since = m.clock }

-- a command that goes on with what is ready waits, last of all
pub kept_suspended : (m : Machine) (at : ℕ) (t : Task) (c : Command) (o : Option Op) → AreTasksKept m → slice_get m.tasks at ≡ Some t →
    IsReady m.units t.unit c.verb o → AreTasksKept (with_waiting m (m.waiting ++ begins_now t.label m c o ∷ []))
kept_suspended m at t c o kept placed ready =
    waiting_now m (m.waiting ++ last ∷ []) m.clock kept
    (All-append (IsWaitKept m) m.waiting (last ∷ []) kept.waits (All-cons (IsWaitKept m) last [] has (All-nil (IsWaitKept m))))
  where
    last : Suspended
    last = begins_now t.label m c o

    there : task_at m.tasks t.label ≡ Some t
    there = task_at-place m.tasks at t kept.labels placed

    has : IsWaitKept m last
    has = record {
      of_task = ap is_some there;
      ready = λ v is.
          let both : Some t ≡ Some v = sym there ∙ is in
          let same : t ≡ v = cc in
          subst (λ x. IsReady m.units x.unit c.verb o) same ready;
    }

-- ---- A task in the place of the one of its label

-- it stands at the place of that one
pub with_task_placed : (m : Machine) (at : ℕ) (t owner : Task) → AreTasksKept m → slice_get m.tasks at ≡ Some t → owner.label ≡ t.label →
    slice_get (replaced m.tasks owner) at ≡ Some owner
with_task_placed m at t owner kept placed label =
    ap (λ ts. slice_get ts at) (replaced-set m.tasks at t owner kept.labels placed label) ∙ set_placed m.tasks at t owner placed

-- ---- What the task of a command does

module _ (m : Machine) (at : ℕ) (t : Task) (kept : AreTasksKept m) (placed : slice_get m.tasks at ≡ Some t) (free : is_waiting m.waiting t.label ≡ false) where
  -- the units change, and the task may have another unit
  kept_with_units : (units : UnitsState) (owner : Task) → owner.label ≡ t.label → LeavesOthers m.units units t.unit →
      ((u : ℕ) → owner.unit ≡ Some u → is_live units u ≡ true) →
      ((u : ℕ) → owner.unit ≡ Some u → (t.unit ≡ Some u) ⊎ HasNoOwner m.tasks u) →
      AreTasksKept (with_task (with_units m units) owner)
  kept_with_units units owner label others live alone =
      stepped_kept m (with_task (with_units m units) owner) t owner at kept placed free label refl refl others live alone

  -- the task acts in the unit that it has, or in the one that begins
  own_or_next : (u : ℕ) → unit_or_next t.unit m.units.outcomes ≡ u → (t.unit ≡ Some u) ⊎ HasNoOwner m.tasks u
  own_or_next u = by t.unit refl
    where
      by : (o : Option ℕ) → t.unit ≡ o → unit_or_next o m.units.outcomes ≡ u → (t.unit ≡ Some u) ⊎ HasNoOwner m.tasks u
      by None own is = inr (subst (HasNoOwner m.tasks) is (no_owner_next m kept))
      by (Some v) own is = inl (own ∙ ap Some is)

  kept_in_unit : (units : UnitsState) (unit : ℕ) → unit_or_next t.unit m.units.outcomes ≡ unit → LeavesOthers m.units units t.unit → is_live units unit ≡ true →
      AreTasksKept (with_task (with_units m units) (with_unit t unit))
  kept_in_unit units unit is others live =
      kept_with_units units (with_unit t unit) refl others
      (λ u own. let same : unit ≡ u = cc in subst (λ v. is_live units v ≡ true) same live)
      (λ u own. let same : unit ≡ u = cc in own_or_next u (is ∙ same))

  -- an updating command is executed
  pub kept_executed : (o : Op) (unit : ℕ) (a : Answer) → execution m.units t.unit o ≡ Answered unit a →
      AreTasksKept (with_task (with_units m (after_execution m.units t.unit o)) (with_unit t unit))
  kept_executed o unit a = by (awaited m.units t.unit o)
    where
      by : (holder : Option ℕ) → done_of m.units t.unit o holder ≡ Answered unit a →
          AreTasksKept (with_task (with_units m (state_of m.units t.unit o holder)) (with_unit t unit))
      by (Some holder) is = cc
      by None is =
          let same : unit_or_next t.unit m.units.outcomes ≡ unit = cc in
          kept_in_unit _ unit same (entered_leaves m.units t.unit o (apply (store_of m.units) o).answer)
          (subst (λ v. is_live (state_of m.units t.unit o None) v ≡ true) same (acting_lives m.units t.unit (acts m at t kept placed)))

  -- ENQ acquires its value
  pub kept_enqueued : (value : Bytes) (unit : ℕ) → enqueue m.units t.unit value ≡ Taken unit →
      AreTasksKept (with_task (with_units m (after_enqueue m.units t.unit value)) (with_unit t unit))
  kept_enqueued value unit is =
      subst (λ e. AreTasksKept (with_task (with_units m (after_enqueued m.units t.unit value e)) (with_unit t unit))) (sym is)
      (kept_in_unit (after_enqueued m.units t.unit value (Taken unit)) unit same (counted_leaves m.units t.unit (counted m.units.counts unit value))
      (subst (λ v. is_live (after_enqueued m.units t.unit value (Taken unit)) v ≡ true) same (acting_lives m.units t.unit (acts m at t kept placed))))
    where
      full : (b : Bool) → (if b then CountFull else Taken (unit_or_next t.unit m.units.outcomes)) ≡ Taken unit → unit_or_next t.unit m.units.outcomes ≡ unit
      full true is = cc
      full false is = cc

      by : (holder : Option ℕ) → enq_of m.units t.unit value holder ≡ Taken unit → unit_or_next t.unit m.units.outcomes ≡ unit
      by (Some holder) is = cc
      by None is = full (nat_le most_count (count_at m.units.counts (unit_or_next t.unit m.units.outcomes) value)) is

      same : unit_or_next t.unit m.units.outcomes ≡ unit
      same = by (value_holder m.units t.unit value) is

  -- the unit of the task ends
  pub kept_closed : (outcome : UnitState) (has_ended : Bool) → AreTasksKept (unit_closed m t outcome has_ended)
  kept_closed outcome has_ended =
      kept_with_units (units_after m.units t.unit outcome) (record t { unit = None; browses = []; has_ended = has_ended }) refl
      (closed_leaves m.units t.unit outcome) (λ u own. absurd (none u own)) (λ u own. absurd (none u own))
    where
      none : (u : ℕ) → None ≡ Some u → ⊥
      none u e = cc

  -- the task has other browses
  pub kept_browses : (browses : Map Position) → AreTasksKept (with_task m (with_browses t browses))
  kept_browses browses =
      kept_with_units m.units (with_browses t browses) refl (leaves_all m.units t.unit) (λ u own. kept.open_units at t u placed own) (λ u own. inl own)

  -- the task stays, and its unit with it
  kept_units : (units : UnitsState) → LeavesOthers m.units units t.unit → ((u : ℕ) → t.unit ≡ Some u → is_live units u ≡ true) → AreTasksKept (with_units m units)
  kept_units units others live =
      stepped_kept m (with_units m units) t t at kept placed free refl
      (sym (replaced-set m.tasks at t t kept.labels placed refl ∙ set_same m.tasks at t placed)) refl others live (λ u own. inl own)

  -- UNLOCK
  pub kept_unlocked : (f : Bytes) → AreTasksKept (unlocked m t.unit f)
  kept_unlocked f = by t.unit refl
    where
      by : (o : Option ℕ) → t.unit ≡ o → AreTasksKept (unlocked m o f)
      by None own = kept
      by (Some u) own =
          kept_units (after_unlock m.units u f) (subst (LeavesOthers m.units (after_unlock m.units u f)) (sym own) (unlocked_leaves m.units u f))
          (λ v own_v. kept.open_units at t v placed own_v)

  -- DEQ
  pub kept_dequeued : (value : Bytes) → AreTasksKept (dequeued m t.unit value)
  kept_dequeued value = by t.unit refl
    where
      by : (o : Option ℕ) → t.unit ≡ o → AreTasksKept (dequeued m o value)
      by None own = kept
      by (Some u) own =
          kept_units (after_dequeue m.units u value) (subst (LeavesOthers m.units (after_dequeue m.units u value)) (sym own) (dequeued_leaves m.units u value))
          (λ v own_v. kept.open_units at t v placed own_v)

  -- READQ TS
  pub kept_item_read : (q : Bytes) (item : ℕ) → AreTasksKept (with_units m (after_ts_reading m.units q item))
  kept_item_read q item =
      let leaves = item_read_leaves m.units t.unit q item in
      kept_units (after_ts_reading m.units q item) leaves (λ u own. item_read_live m.units q item u (kept.open_units at t u placed own))

-- an abend, also if a command of the task waits
pub kept_abended : (m : Machine) (at : ℕ) (t : Task) → AreTasksKept m → slice_get m.tasks at ≡ Some t → AreTasksKept (abended m t)
kept_abended m at t kept placed =
    kept_closed (with_waiting m (not_waiting m.waiting t.label)) at t (kept_not_waiting m t.label kept) placed (not_waiting_then m.waiting t.label) BackedOut true
