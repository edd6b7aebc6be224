-- Each call of a region leaves what a region keeps.
use Rattle.std.specs.Prelude.{◌≡◌, ℕ, ◌<◌, IfNone, IfOk, OnOk, IsErr, Result, Ok, Err, Bool, true, false, Option, Some, None, is_some, slice_get, length, List, [], refl}
use Rattle.std.proofs.Common.{sym, ap, ◌∙◌, subst, arith, inl, inr, ◌≤◌}
use Rattle.std.proofs.lemmas.Option.{slice_get_cases, slice_get_within}
use Rattle.cics_names.specs.Keyed.{Bytes}
use Rattle.cics_history.specs.State.{UnitsValue, UnitsState}
use Rattle.cics_history.specs.Execution.{unit_or_next, execution, after_execution, done_of, state_of, IsOpenUnit}
use Rattle.cics_history.specs.Holding.{store_of, awaited}
use Rattle.cics_history.specs.declared.ops.Op.{Op}
use Rattle.cics_history.specs.declared.ops.Answer.{Answer}
use Rattle.cics_history.specs.declared.ops.Done.{Done}
use Rattle.cics_history.specs.declared.ops.Done.TheVariants.{Answered, MustWait}
use Rattle.cics_history.specs.Headline.{IsHeadline, is_open}
use Rattle.cics_history.specs.Serial.{IsSerializable}
use Rattle.cics_history.specs.declared.ops.UnitState.{UnitState}
use Rattle.cics_dispatch.specs.declared.machine.outcomes.UnitEnding.{UnitEnding}
use Rattle.cics_dispatch.specs.declared.machine.outcomes.UnitEnding.TheVariants.{Commit, Backout}
use Rattle.std.proofs.lemmas.Bool.{true≢false, false≢true}
use Rattle.cics_dispatch.specs.Machine.Machine.{Machine, Task, Suspended, RegionValue, replaced, is_waiting, not_waiting, units_after, state_after, unit_closed, with_unit, with_task, with_units, with_waiting}
use Rattle.cics_dispatch.specs.Machine.Answers.{IsHeadlineRegion, IsSerializableRegion}
use Rattle.cics_dispatch.specs.Machine.KeptTasks.{AreTasksKept}
use Rattle.cics_dispatch.specs.Machine.OwnedUnits.{AreUnitsOwned}
use Rattle.cics_dispatch.specs.Machine.Regions.{region_of, IsRegionKept, ArePromised}
use Rattle.cics_dispatch.specs.Machine.Tasks.{own_label, IsOwn, HasNoOwner}
use Rattle.cics_dispatch.specs.Machine.Steps.{Stepped, executed, by_op, answered, reply_of}
use Rattle.cics_dispatch.specs.Machine.Calls.{OfTask, HasChanged, IsAwake, HasBrowse, HasReady, IsStepOf, IsStepOrRefused, IsAttempt, going_on, waiting_for}
use Rattle.cics_names.specs.declared.records.NoMemory.{NoMemory}
use Rattle.cics_dispatch.specs.Machine.Waking.{awaited_by}
use Rattle.cics_dispatch.specs.declared.machine.outcomes.Attempt.{Attempt}
use Rattle.cics_dispatch.specs.declared.machine.outcomes.Attempt.TheVariants.{Told, MustWait as Waits}
use Rattle.cics_dispatch.specs.declared.machine.outcomes.Outcome.{Outcome}
use Rattle.cics_dispatch.specs.declared.machine.outcomes.Reply.{Reply}
use Rattle.cics_names.specs.declared.commands.Command.{Command}
use Rattle.cics_dispatch.proofs.OfMachine.KeptTasks.{kept_closed, kept_not_waiting, kept_executed, no_owner_next, with_task_placed}
use Rattle.cics_dispatch.proofs.OfMachine.OwnedUnits.{owned_closed, owned_suspended, owned_executed}
use Rattle.cics_dispatch.proofs.OfMachine.TaskPlaces.{replaced-set, set_same}

-- a task is at each place of the list
pub task_there : {Q : Type 0} (ts : List Task) (at : ℕ) → at < length ts → ((t : Task) → slice_get ts at ≡ Some t → Q) → Q
task_there ts at within follows = elim (slice_get_cases ts at).1 [
  | inl here ↦ follows here.0 here.2
  | inr past ↦ absurd (never past.0)
]
  where
    never : length ts ≤ at → ⊥
    never past = omega (arith, within, past)

-- a region whose machine is one that is kept is kept
pub kept_as : (r : RegionValue) (m : Machine) → r.machine ≡ m → AreTasksKept m → AreUnitsOwned m → IsHeadlineRegion r → IsSerializableRegion r → IsRegionKept r
kept_as r m is tasks owned headline serializable = record { tasks = subst AreTasksKept (sym is) tasks; owned = subst AreUnitsOwned (sym is) owned; headline = headline; serializable = serializable }

module _ {units : UnitsValue} {tasks : List Task} {waiting : List Suspended} {clock : ℕ} {is_down : Bool} (kept : IsRegionKept (region_of units tasks waiting clock is_down)) where
  abbrev machine : Machine
  machine = (region_of units tasks waiting clock is_down).machine

  -- the unit of a task ends
  pub closed_kept : (after : UnitsValue) (ts : List Task) (at : ℕ) (t : Task) (outcome : UnitState) (has_ended : Bool) → slice_get tasks at ≡ Some t → is_waiting waiting t.label ≡ false →
      is_open outcome ≡ false → after.state ≡ units_after units.state t.unit outcome → ts ≡ replaced tasks (record t { unit = None; browses = []; has_ended = has_ended }) →
      ArePromised after → IsRegionKept (region_of after ts waiting clock is_down)
  closed_kept after ts at t outcome has_ended there awake shut state is promised =
      kept_as (region_of after ts waiting clock is_down) (unit_closed machine t outcome has_ended) (λ i. record { units = state i; tasks = is i; waiting = waiting; clock = clock; is_down = is_down })
      (kept_closed machine at t kept.tasks there awake outcome has_ended) (owned_closed machine t at there kept.tasks.labels kept.owned outcome has_ended shut) (record { headline = promised.0 }) (record { serializable = promised.1 })

  -- the wait of a task ends
  pub unwaiting_kept : (ws : List Suspended) (label : Bytes) → ws ≡ not_waiting waiting label → IsRegionKept (region_of units tasks ws clock is_down)
  unwaiting_kept ws label gone =
      kept_as (region_of units tasks ws clock is_down) (with_waiting machine (not_waiting waiting label)) (λ i. record machine { waiting = gone i })
      (kept_not_waiting machine label kept.tasks) (owned_suspended machine (not_waiting waiting label) kept.owned) (record { headline = kept.headline.headline }) (record { serializable = kept.serializable.serializable })

-- a task that stands at its place stays if it is put in its own place
pub replaced_same : (ts : List Task) (at : ℕ) (t : Task) → IsOwn own_label ts → slice_get ts at ≡ Some t → replaced ts t ≡ ts
replaced_same ts at t labels there = replaced-set ts at t t labels there refl ∙ set_same ts at t there

-- a task with the unit that it has
pub has_own_unit : (t : Task) (u : ℕ) → t.unit ≡ Some u → with_unit t u ≡ t
has_own_unit t u own = λ i. record t { unit = sym own i }

-- if none is found, no task has the label
pub none_found : {Q : Type 0} (o : Option ℕ) → is_some o ≡ false → IfNone o Q → Q
none_found None none q = q
none_found (Some n) none q = absurd (true≢false none)

-- a unit that is committed or backed out isn't open any more
pub end_shut : (ending : UnitEnding) → is_open (state_after ending) ≡ false
end_shut Commit = refl
end_shut Backout = refl

-- a task that has a unit, which is none but this, has this one
pub own_unit_is : (t : Task) (unit : ℕ) (o : Option ℕ) → t.unit ≡ o → is_some o ≡ true → ((u : ℕ) → t.unit ≡ Some u → u ≡ unit) → t.unit ≡ Some unit
own_unit_is t unit None is some own = absurd (true≢false (sym some))
own_unit_is t unit (Some u) is some own = is ∙ ap Some (own u is)

-- a command that has to wait leaves the units
pub waits_state : (s : UnitsState) (u : Option ℕ) (o : Op) (holder : ℕ) → execution s u o ≡ MustWait holder → after_execution s u o ≡ s
waits_state s u o holder = by (awaited s u o)
  where
    by : (w : Option ℕ) → done_of s u o w ≡ MustWait holder → state_of s u o w ≡ s
    by (Some v) is = refl
    by None is = absurd (never is)
      where
        never : done_of s u o None ≡ MustWait holder → ⊥
        never e = cc

-- a command is executed in its task's unit, or in the next one
pub acts_in : (s : UnitsState) (u : Option ℕ) (o : Op) (unit : ℕ) (a : Answer) → execution s u o ≡ Answered unit a → unit_or_next u s.outcomes ≡ unit
acts_in s u o unit a = by (awaited s u o)
  where
    by : (w : Option ℕ) → done_of s u o w ≡ Answered unit a → unit_or_next u s.outcomes ≡ unit
    by (Some v) is = absurd (never is)
      where
        never : MustWait v ≡ Answered unit a → ⊥
        never e = cc
    by None is = cc

-- units that are in the state in which they were hold the store that they held
pub same_region : {units : UnitsValue} {tasks : List Task} {waiting : List Suspended} {clock : ℕ} {is_down : Bool} → IsRegionKept (region_of units tasks waiting clock is_down) →
    (after : UnitsValue) → after.state ≡ units.state → IsHeadline after → region_of after tasks waiting clock is_down ≡ region_of units tasks waiting clock is_down
same_region {units} {tasks} {waiting} {clock} {is_down} kept after state headline =
    λ i. region_of (record { state = state i; store = (headline.store ∙ ap store_of state ∙ sym kept.headline.headline.store) i }) tasks waiting clock is_down

-- an updating command of a task comes to this, and leaves these units
pub record Executes (before after : UnitsValue) (t : Task) (o : Op) (done : Done) : Type 0 where
  pub state : after.state ≡ after_execution before.state t.unit o
  pub comes_to : execution before.state t.unit o ≡ done

pub executes : (before after : UnitsValue) (t : Task) (asking : Option ℕ) (o : Op) (done : Done) → asking ≡ t.unit → after.state ≡ after_execution before.state asking o → done ≡ execution before.state asking o →
    Executes before after t o done
executes before after t asking o done own state comes_to = record {
  state = state ∙ ap (λ x. after_execution before.state x o) own;
  comes_to = ap (λ x. execution before.state x o) (sym own) ∙ sym comes_to;
}

-- ---- An updating command
module _ {units : UnitsValue} {tasks : List Task} {waiting : List Suspended} {clock : ℕ} {is_down : Bool} (kept : IsRegionKept (region_of units tasks waiting clock is_down))
    (at : ℕ) (t : Task) (there : slice_get tasks at ≡ Some t) {o : Op} {after : UnitsValue} {done : Done} (tried : Executes units after t o done) (headline : IsHeadline after) (serializable : IsSerializable after) where
  abbrev m : Machine
  m = (region_of units tasks waiting clock is_down).machine

  -- one that has to wait leaves the units
  pub waits_same : (holder : ℕ) → done ≡ MustWait holder → region_of after tasks waiting clock is_down ≡ region_of units tasks waiting clock is_down
  waits_same holder is = same_region kept after (tried.state ∙ waits_state units.state t.unit o holder (tried.comes_to ∙ is)) headline

  -- one that is executed makes its unit the task's
  module _ (unit : ℕ) (a : Answer) (acts : done ≡ Answered unit a) where
    pub owner_free : t.unit ≡ None → HasNoOwner tasks unit
    owner_free none = subst (HasNoOwner tasks) (ap (λ x. unit_or_next x units.state.outcomes) (sym none) ∙ acts_in units.state t.unit o unit a (tried.comes_to ∙ acts)) (no_owner_next m kept.tasks)

    module _ (ts : List Task) (is : ts ≡ replaced tasks (with_unit t unit)) where
      acted_machine : (region_of after ts waiting clock is_down).machine ≡ with_task (with_units m (after_execution units.state t.unit o)) (with_unit t unit)
      acted_machine = λ i. record { units = tried.state i; tasks = is i; waiting = waiting; clock = clock; is_down = is_down }

      pub acted_kept : is_waiting waiting t.label ≡ false → IsRegionKept (region_of after ts waiting clock is_down)
      acted_kept awake = kept_as (region_of after ts waiting clock is_down) _ acted_machine
          (kept_executed m at t kept.tasks there awake o unit a (tried.comes_to ∙ acts)) (owned_executed m t at there kept.tasks.labels kept.owned o unit a (tried.comes_to ∙ acts)) (record { headline = headline }) (record { serializable = serializable })

      pub owner_there : slice_get ts at ≡ Some (with_unit t unit)
      owner_there = ap (λ l. slice_get l at) is ∙ with_task_placed m at t (with_unit t unit) kept.tasks there refl

      -- what it answers, and the region that it leaves
      pub acted_step : (c : Command) (r : Reply) → r ≡ reply_of c.verb a → answered (region_of after ts waiting clock is_down).machine (with_unit t unit) c.resp r ≡ by_op m t c (Some o)
      acted_step c r told = (λ i. answered (acted_machine i) (with_unit t unit) c.resp (told i)) ∙ ap (executed m t c o) (sym (tried.comes_to ∙ acts))

-- a command that has to wait for a unit is executed by no other step than its wait, or its answer
-- with NOSUSPEND
pub waits_for : (m : Machine) (t : Task) (c : Command) (o : Op) (holder : ℕ) → awaited m.units t.unit o ≡ Some holder →
    waiting_for m c (Some o) holder t ≡ by_op m t c (Some o)
waits_for m t c o holder waits = ap (λ w. executed m t c o (done_of m.units t.unit o w)) (sym waits)

-- the unit that has to be waited for is the one that is awaited
pub holder_awaited : (s : UnitsState) (u : Option ℕ) (o : Op) (holder : ℕ) → execution s u o ≡ MustWait holder → awaited s u o ≡ Some holder
holder_awaited s u o holder = by (awaited s u o)
  where
    by : (w : Option ℕ) → done_of s u o w ≡ MustWait holder → w ≡ Some holder
    by (Some v) is = let same : v ≡ holder = cc in ap Some same
    by None is = absurd (never is)
      where
        never : done_of s u o None ≡ MustWait holder → ⊥
        never e = cc

-- a place that has a task is within the list
pub placed_within : (ts : List Task) (at : ℕ) (t : Task) → slice_get ts at ≡ Some t → at < length ts
placed_within ts at t there = slice_get_within ts at t there

-- the task at a place is one
pub one_task : {t s : Task} (ts : List Task) (at : ℕ) → slice_get ts at ≡ Some t → slice_get ts at ≡ Some s → t ≡ s
one_task {t} {s} ts at here there = let same : Some t ≡ Some s = sym here ∙ there in cc

-- what holds of the region that a call is given holds of its parts
pub seen_task : {Q : Type 0} {old now : RegionValue} (at : ℕ) → old ≡ now → at < length now.machine.tasks → ((t : Task) → slice_get old.machine.tasks at ≡ Some t → Q) → Q
seen_task {old = old} at seen within = task_there old.machine.tasks at (subst (λ v. at < length v.machine.tasks) (sym seen) within)

pub seen_awake : {old now : RegionValue} (at : ℕ) → old ≡ now → IsAwake now.machine at → IsAwake old.machine at
seen_awake at seen = subst (λ v. IsAwake v.machine at) (sym seen)

pub seen_browse : {old now : RegionValue} (at : ℕ) (f : Bytes) → old ≡ now → HasBrowse now.machine at f → HasBrowse old.machine at f
seen_browse at f seen = subst (λ v. HasBrowse v.machine at f) (sym seen)

-- the unit of a task ends, and with it the task if has_ended
pub closed_step : {units : UnitsValue} {tasks : List Task} {waiting : List Suspended} {clock : ℕ} {is_down : Bool} {old : RegionValue} → IsRegionKept (region_of units tasks waiting clock is_down) →
    (at : ℕ) → region_of units tasks waiting clock is_down ≡ old → at < length old.machine.tasks → IsAwake old.machine at → (after : UnitsValue) (ts : List Task) (ending : UnitEnding) (has_ended : Bool) →
    OfTask tasks at (λ t. after.state ≡ units_after units.state t.unit (state_after ending)) → HasChanged tasks at (λ t. record t { unit = None; browses = []; has_ended = has_ended }) ts → ArePromised after →
    IsRegionKept (region_of after ts waiting clock is_down) × OfTask old.machine.tasks at (λ t. (region_of after ts waiting clock is_down).machine ≡ unit_closed old.machine t (state_after ending) has_ended)
closed_step {units} {tasks} {waiting} {clock} {is_down} kept at seen within awake after ts ending has_ended state task promised = (
  seen_task at seen within (λ t there.
      closed_kept kept after ts at t (state_after ending) has_ended there (seen_awake at seen awake t there) (end_shut ending) (state t there) (task t there) promised),
  subst (λ v. OfTask v.machine.tasks at (λ t. (region_of after ts waiting clock is_down).machine ≡ unit_closed v.machine t (state_after ending) has_ended)) seen (λ t there i. record {
    units = state t there i;
    tasks = task t there i;
    waiting = waiting;
    clock = clock;
    is_down = is_down;
  }),
)

-- a step of the task at a place is one whichever way the region is seen
pub seen_step : {old now new : RegionValue} {x : Outcome} (at : ℕ) (f : Machine → Task → Stepped Outcome) → old ≡ now → IsStepOf old at (f old.machine) x new → IsStepOf now at (f now.machine) x new
seen_step {old} {now} {new} {x} at f seen = subst (λ v. IsStepOf v at (f v.machine) x new) seen

-- a task that is told a reply, once it and the region are changed, has made a step
pub then_told : {old mid new : RegionValue} {x : Outcome} (at : ℕ) (t owner : Task) (resp : Bool) (r : Reply) (f : Task → Stepped Outcome) →
    slice_get old.machine.tasks at ≡ Some t → slice_get mid.machine.tasks at ≡ Some owner → IsRegionKept mid → answered mid.machine owner resp r ≡ f t →
    IsStepOf mid at (λ s. answered mid.machine s resp r) x new → IsStepOf old at f x new
then_told {old} at t owner resp r f there here kept is step =
    (λ s other. step.0 owner here ∙ is ∙ ap f (one_task old.machine.tasks at there other), λ was. step.1 kept)

-- one that is told a reply that is another step's has made that step
pub told_as : {old new : RegionValue} {x : Outcome} (at : ℕ) (f g : Task → Stepped Outcome) → OfTask old.machine.tasks at (λ t. f t ≡ g t) → IsStepOf old at f x new → IsStepOf old at g x new
told_as at f g same step = (λ t there. step.0 t there ∙ same t there, step.1)

-- and so it is if a call may be refused
pub may_told_as : (old new : RegionValue) (r : Result Outcome NoMemory) (at : ℕ) (f g : Task → Stepped Outcome) → OfTask old.machine.tasks at (λ t. f t ≡ g t) →
    IsStepOrRefused old at f r new → IsStepOrRefused old at g r new
may_told_as old new (Ok x) at f g same step = told_as {old = old} {new = new} at f g same step
may_told_as old new (Err e) at f g same step = step

-- a command that was tried is told what its step answers, or must wait for an open unit
pub tried_told : (old new : RegionValue) (at : ℕ) (c : Command) (o : Option Op) (a : Attempt) (x : Outcome) → a ≡ Told x → IsAttempt old at c o (Ok a) new → IsStepOrRefused old at (going_on old.machine c o) (Ok x) new
tried_told old new at c o a x is tried = subst (λ b. IsAttempt old at c o (Ok b) new) is tried

pub tried_waits : (old new : RegionValue) (at : ℕ) (c : Command) (o : Option Op) (a : Attempt) (h : ℕ) (back : Option Op) → a ≡ Waits h back → IsAttempt old at c o (Ok a) new →
    (OfTask old.machine.tasks at (λ t. awaited_by old.machine.units t.unit c.verb o ≡ Some h) × (back ≡ o)) × (IsOpenUnit old.machine.units h × (new ≡ old))
tried_waits old new at c o a h back is tried = subst (λ b. IsAttempt old at c o (Ok b) new) is tried

-- what comes of a call on a region that is as it was, comes of it
pub seen_may : (old now new : RegionValue) (r : Result Outcome NoMemory) (at : ℕ) (f : Machine → Task → Stepped Outcome) → old ≡ now → IsStepOrRefused old at (f old.machine) r new → IsStepOrRefused now at (f now.machine) r new
seen_may old now new r at f seen = subst (λ v. IsStepOrRefused v at (f v.machine) r new) seen

pub IfOk-then : {A E : Type 0} (r : Result A E) {P Q : A → Type 0} → ((a : A) → P a → Q a) → IfOk r P → IfOk r Q
IfOk-then (Ok a) f p = f a p
IfOk-then (Err e) f p = tt

pub OnOk-then : {A E P Q : Type 0} (r : Result A E) → (P → Q) → OnOk r P → OnOk r Q
OnOk-then (Ok a) f p = f p
OnOk-then (Err e) f p = tt

-- a call that is refused leaves the region as it was
pub refused_as_was : (old new : RegionValue) (r : Result Outcome NoMemory) (at : ℕ) (f : Task → Stepped Outcome) → IsErr r → new ≡ old → IsStepOrRefused old at f r new
refused_as_was old new (Ok x) at f refused same = absurd (false≢true refused)
refused_as_was old new (Err e) at f refused same = same

-- ---- A command that was tried, and has to wait: all is as it was, and what it asked for came back
module _ (old new : RegionValue) (at : ℕ) (c : Command) (o : Option Op) (a : Attempt) (holder : ℕ) (back : Option Op) (is : a ≡ Waits holder back) (tried : IsAttempt old at c o (Ok a) new) where
  abbrev as_was : new ≡ old
  as_was = (tried_waits old new at c o a holder back is tried).1.1

  abbrev given_back : back ≡ o
  given_back = (tried_waits old new at c o a holder back is tried).0.1

  pub wait_within : at < length old.machine.tasks → at < length new.machine.tasks
  wait_within = subst (λ v. at < length v.machine.tasks) (sym as_was)

  pub wait_awake : IsAwake old.machine at → IsAwake new.machine at
  wait_awake = subst (λ v. IsAwake v.machine at) (sym as_was)

  pub wait_ready : HasReady old.machine at c.verb o → HasReady new.machine at c.verb back
  wait_ready ready = subst (λ x. HasReady new.machine at c.verb x) (sym given_back) (subst (λ v. HasReady v.machine at c.verb o) (sym as_was) ready)

  pub wait_open : IsOpenUnit new.machine.units holder
  wait_open = subst (λ v. IsOpenUnit v.machine.units holder) (sym as_was) (tried_waits old new at c o a holder back is tried).1.0

  -- its wait, or its answer with NOSUSPEND, is its step
  pub wait_told : (after : RegionValue) (r : Result Outcome NoMemory) →
      OfTask old.machine.tasks at (λ t. awaited_by old.machine.units t.unit c.verb o ≡ Some holder → waiting_for old.machine c o holder t ≡ going_on old.machine c o t) →
      IsStepOrRefused new at (waiting_for new.machine c back holder) r after → IsStepOrRefused old at (going_on old.machine c o) r after
  wait_told after r step told =
      may_told_as old after r at (waiting_for old.machine c o holder) (going_on old.machine c o) (λ t there. step t there ((tried_waits old new at c o a holder back is tried).0.0 t there))
      (seen_may new old after r at (λ k. waiting_for k c o holder) as_was (subst (λ x. IsStepOrRefused new at (waiting_for new.machine c x holder) r after) given_back told))

-- ---- A waiting command that is tried again, from a copy of it
module _ (at : ℕ) (command k : Command) (o op : Option Op) (same : k ≡ command) (is : o ≡ op) where
  pub ready_again : (m : Machine) → HasReady m at command.verb o → HasReady m at k.verb op
  ready_again m ready = subst (λ x. HasReady m at k.verb x) is (subst (λ x. HasReady m at x.verb o) (sym same) ready)

  pub attempt_again : (old : RegionValue) (r : Result Attempt NoMemory) (new : RegionValue) → IsAttempt old at k op r new → IsAttempt old at command o r new
  attempt_again old r new tried = subst (λ x. IsAttempt old at command x r new) (sym is) (subst (λ x. IsAttempt old at x op r new) same tried)
