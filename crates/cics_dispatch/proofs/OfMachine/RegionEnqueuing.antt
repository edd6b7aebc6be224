-- ENQ and DEQ leave what a region keeps, and the task stands where it stood.
use Rattle.std.specs.Prelude.{take, length, ◌≡◌, ◌≤◌, ℕ, if◌then◌else◌, Bool, true, false, Option, Some, None, slice_get, List, refl}
use Rattle.std.proofs.Common.{sym, ap, ◌∙◌, subst, arith}
use Rattle.std.proofs.lemmas.List.{length-take-le}
use Rattle.cics_names.specs.Keyed.{Bytes}
use Rattle.cics_names.specs.declared.conditions.Condition.TheVariants.{Normal, Invreq}
use Rattle.cics_history.specs.State.{UnitsValue, UnitsState}
use Rattle.cics_history.specs.Execution.{unit_or_next, enqueue, enq_of, after_enqueue, after_enqueued}
use Rattle.cics_history.specs.Holding.{value_holder}
use Rattle.cics_history.specs.Headline.{IsHeadline}
use Rattle.cics_history.specs.Serial.{IsSerializable}
use Rattle.cics_history.specs.declared.ops.Enqueued.{Enqueued}
use Rattle.cics_history.specs.declared.ops.Enqueued.TheVariants.{Taken, CountFull, MustWait as EnqMustWait}
use Rattle.cics_dispatch.specs.Machine.Machine.{Machine, Task, Suspended, replaced, is_waiting, with_units, with_task, with_unit}
use Rattle.cics_dispatch.specs.Machine.Replies.{plain}
use Rattle.cics_dispatch.specs.Machine.Steps.{by_op, other_command, answered, made_to_wait, busy_of, enqueued, dequeued, units_dequeued}
use Rattle.cics_dispatch.specs.Machine.Regions.{region_of, IsRegionKept, ArePromised}
use Rattle.cics_dispatch.specs.Machine.Tasks.{HasNoOwner}
use Rattle.cics_names.specs.declared.commands.Command.{Command}
use Rattle.cics_names.specs.declared.commands.Verb.{Verb}
use Rattle.cics_names.specs.declared.commands.Verb.TheVariants.{Enq}
use Rattle.cics_dispatch.specs.Machine.KeptTasks.{IsReady}
use Rattle.cics_dispatch.specs.Machine.Waking.{awaited_by}
use Rattle.cics_dispatch.specs.declared.machine.outcomes.Reply.{Reply}
use Rattle.cics_dispatch.proofs.OfMachine.KeptTasks.{with_task_placed, kept_enqueued, kept_dequeued, no_owner_next}
use Rattle.cics_dispatch.proofs.OfMachine.OwnedUnits.{owned_enqueued, owned_dequeued}
use Rattle.cics_dispatch.proofs.OfMachine.RegionSteps.{kept_as, same_region}

-- the first bytes of a value, as many as LENGTH says, if its checks have passed
pub first_fit : (n : ℕ) (value bytes : Bytes) → bytes ≡ value → (1 ≤ n) × (n ≤ 255) × (n ≤ length value) → (n ≡ length (take n bytes)) × (length (take n bytes) ≤ 255)
first_fit n value bytes own fits =
    let first : length (take n bytes) ≡ n = length-take-le n bytes (subst (λ b. n ≤ length b) (sym own) fits.2) in
    let most = fits.1 in
    (sym first, omega (arith, first, most))

-- ---- DEQ
module _ {units : UnitsValue} {tasks : List Task} {waiting : List Suspended} {clock : ℕ} {is_down : Bool} (kept : IsRegionKept (region_of units tasks waiting clock is_down))
    (at : ℕ) (t : Task) (there : slice_get tasks at ≡ Some t) (value : Bytes) (after : UnitsValue) (state : after.state ≡ units_dequeued units.state t.unit value) where
  abbrev machine : Machine
  machine = (region_of units tasks waiting clock is_down).machine

  -- the tasks stay, and each open unit is its task's
  pub dequeued_kept : is_waiting waiting t.label ≡ false → ArePromised after → IsRegionKept (region_of after tasks waiting clock is_down)
  dequeued_kept awake promised =
      kept_as (region_of after tasks waiting clock is_down) (dequeued machine t.unit value) (λ i. with_units machine (state i))
      (kept_dequeued machine at t kept.tasks there awake value) (owned_dequeued machine t.unit value kept.owned) (record { headline = promised.0 }) (record { serializable = promised.1 })

  -- the task is told that it is done
  pub dequeue_answered : (resp : Bool) (r : Reply) → r ≡ plain Normal →
      answered (region_of after tasks waiting clock is_down).machine t resp r ≡ answered (dequeued machine t.unit value) t resp (plain Normal)
  dequeue_answered resp r told = λ i. answered (with_units machine (state i)) t resp (told i)

-- ---- ENQ

-- an ENQ acquires its value for its task's unit, or for the next one
takes_for : (s : UnitsState) (u : Option ℕ) (value : Bytes) (unit : ℕ) → enqueue s u value ≡ Taken unit → unit_or_next u s.outcomes ≡ unit
takes_for s u value unit = by (value_holder s u value)
  where
    full : (b : Bool) → (if b then CountFull else Taken (unit_or_next u s.outcomes)) ≡ Taken unit → unit_or_next u s.outcomes ≡ unit
    full true is = cc
    full false is = cc

    by : (holder : Option ℕ) → enq_of s u value holder ≡ Taken unit → unit_or_next u s.outcomes ≡ unit
    by (Some holder) is = cc
    by None is = full _ is

-- an ENQ that has to wait waits for the unit that owns its value
pub enq_awaited : (s : UnitsState) (u : Option ℕ) (value : Bytes) (holder : ℕ) → enqueue s u value ≡ EnqMustWait holder → value_holder s u value ≡ Some holder
enq_awaited s u value holder = by (value_holder s u value)
  where
    full : (b : Bool) → (if b then CountFull else Taken (unit_or_next u s.outcomes)) ≡ EnqMustWait holder → ⊥
    full true is = cc
    full false is = cc

    by : (w : Option ℕ) → enq_of s u value w ≡ EnqMustWait holder → w ≡ Some holder
    by (Some v) is = let same : v ≡ holder = cc in ap Some same
    by None is = absurd (full _ is)

-- and its wait, or its answer with NOSUSPEND, is its step
pub enq_waits : (m : Machine) (t : Task) (c : Command) (holder : ℕ) → IsReady m.units t.unit c.verb None → awaited_by m.units t.unit c.verb None ≡ Some holder →
    made_to_wait m t c None holder (busy_of c.verb) ≡ by_op m t c None
enq_waits m t c holder = by c.verb
  where
    by : (verb : Verb) → IsReady m.units t.unit verb None → awaited_by m.units t.unit verb None ≡ Some holder →
        made_to_wait m t c None holder (busy_of c.verb) ≡ other_command m t c verb
    by (Enq value n nosuspend) ready waits = ap (λ w. enqueued m t c (take n value) (enq_of m.units t.unit (take n value) w)) (sym waits)
    by verb ready waits = absurd ready

-- an ENQ of a value by a task comes to this, and leaves these units
pub record Enqueues (before after : UnitsValue) (t : Task) (value : Bytes) (done : Enqueued) : Type 0 where
  pub state : after.state ≡ after_enqueue before.state t.unit value
  pub comes_to : enqueue before.state t.unit value ≡ done

pub enqueues : (before after : UnitsValue) (t : Task) (asking : Option ℕ) (n : ℕ) (value bytes : Bytes) (done : Enqueued) → asking ≡ t.unit → bytes ≡ value →
    after.state ≡ after_enqueue before.state asking (take n bytes) → done ≡ enqueue before.state asking (take n bytes) → Enqueues before after t (take n value) done
enqueues before after t asking n value bytes done own same state comes_to = record {
  state = state ∙ (λ i. after_enqueue before.state (own i) (take n (same i)));
  comes_to = sym (comes_to ∙ (λ i. enqueue before.state (own i) (take n (same i))));
}

module _ {units : UnitsValue} {tasks : List Task} {waiting : List Suspended} {clock : ℕ} {is_down : Bool} (kept : IsRegionKept (region_of units tasks waiting clock is_down))
    (at : ℕ) (t : Task) (there : slice_get tasks at ≡ Some t) {value : Bytes} {after : UnitsValue} {done : Enqueued} (tried : Enqueues units after t value done) (headline : IsHeadline after) (serializable : IsSerializable after) where
  abbrev m : Machine
  m = (region_of units tasks waiting clock is_down).machine

  -- one that has to wait leaves the units
  pub waits_same : (holder : ℕ) → done ≡ EnqMustWait holder → region_of after tasks waiting clock is_down ≡ region_of units tasks waiting clock is_down
  waits_same holder is = same_region kept after (tried.state ∙ ap (after_enqueued units.state t.unit value) (tried.comes_to ∙ is)) headline

  -- and so does one of a value that the unit owns the most times, which is told so
  module _ (full : done ≡ CountFull) where
    full_machine : (region_of after tasks waiting clock is_down).machine ≡ m
    full_machine = ap (with_units m) (tried.state ∙ ap (after_enqueued units.state t.unit value) (tried.comes_to ∙ full))

    pub full_kept : IsRegionKept (region_of after tasks waiting clock is_down)
    full_kept = kept_as (region_of after tasks waiting clock is_down) m full_machine kept.tasks kept.owned (record { headline = headline }) (record { serializable = serializable })

    pub full_step : (c : Command) (r : Reply) → r ≡ plain Invreq →
        answered (region_of after tasks waiting clock is_down).machine t c.resp r ≡ enqueued m t c value (enqueue units.state t.unit value)
    full_step c r told = (λ i. answered (full_machine i) t c.resp (told i)) ∙ ap (enqueued m t c value) (sym (tried.comes_to ∙ full))

  -- one that acquires its value makes its unit the task's
  module _ (unit : ℕ) (taken : done ≡ Taken unit) where
    -- no other task has the unit that begins
    pub owner_free : t.unit ≡ None → HasNoOwner tasks unit
    owner_free none = subst (HasNoOwner tasks) (ap (λ u. unit_or_next u units.state.outcomes) (sym none) ∙ takes_for units.state t.unit value unit (tried.comes_to ∙ taken)) (no_owner_next m kept.tasks)

    module _ (ts : List Task) (is : ts ≡ replaced tasks (with_unit t unit)) where
      -- the task stands where it stood
      pub owner_there : slice_get ts at ≡ Some (with_unit t unit)
      owner_there = ap (λ l. slice_get l at) is ∙ with_task_placed m at t (with_unit t unit) kept.tasks there refl

      taken_machine : (region_of after ts waiting clock is_down).machine ≡ with_task (with_units m (after_enqueue units.state t.unit value)) (with_unit t unit)
      taken_machine = λ i. record { units = tried.state i; tasks = is i; waiting = waiting; clock = clock; is_down = is_down }

      pub taken_kept : is_waiting waiting t.label ≡ false → IsRegionKept (region_of after ts waiting clock is_down)
      taken_kept awake =
          kept_as (region_of after ts waiting clock is_down) _ taken_machine
          (kept_enqueued m at t kept.tasks there awake value unit (tried.comes_to ∙ taken)) (owned_enqueued m t at there kept.tasks.labels kept.owned value unit (tried.comes_to ∙ taken)) (record { headline = headline }) (record { serializable = serializable })

      -- the task is told that the value is its own
      pub taken_step : (c : Command) (r : Reply) → r ≡ plain Normal →
          answered (region_of after ts waiting clock is_down).machine (with_unit t unit) c.resp r ≡ enqueued m t c value (enqueue units.state t.unit value)
      taken_step c r told = (λ i. answered (taken_machine i) (with_unit t unit) c.resp (told i)) ∙ ap (enqueued m t c value) (sym (tried.comes_to ∙ taken))
