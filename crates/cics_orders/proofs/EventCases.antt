-- A request is refused and changes nothing, or its step is taken. What holds in both cases holds,
-- and what each turn keeps holds once the region is at rest.
use Rattle.std.proofs.Common.{◌≡◌, ℕ, zero, suc, Bool, true, false, length, Option, None, Some, Result, Err, refl, subst}
use Rattle.std.specs.Prelude.{if◌then◌else◌}
use Rattle.cics_names.specs.Keyed.{Bytes}
use Rattle.cics_names.specs.declared.commands.Command.{Command}
use Rattle.cics_dispatch.specs.Machine.Machine.{Machine, Task, task_at, is_waiting}
use Rattle.cics_dispatch.specs.Machine.Steps.{Stepped, attach_refusal, with_new_task, refused_or, issued_by, checked}
use Rattle.cics_dispatch.specs.Machine.Checks.{fault_of}
use Rattle.cics_dispatch.specs.Machine.Waking.{woken, expired, clock_refusal}
use Rattle.cics_dispatch.specs.Machine.Shutdown.{shut_down}
use Rattle.cics_dispatch.specs.Machine.Events.{Happened, happened, issued_event, played, late_turn, waking_turn, turn, behind_turn, drained_within}
use Rattle.cics_dispatch.specs.declared.machine.events.Request.{Request}
use Rattle.cics_dispatch.specs.declared.machine.events.Request.TheVariants as request
use Rattle.cics_dispatch.specs.declared.machine.events.Subject.TheVariants as subject
use Rattle.cics_dispatch.specs.declared.machine.events.Event.TheVariants as event
use Rattle.cics_dispatch.specs.declared.machine.outcomes.Outcome.{Outcome}
use Rattle.cics_dispatch.specs.declared.machine.outcomes.Woken.{Woken}
use Rattle.cics_dispatch.specs.declared.machine.outcomes.Expired.{Expired}
use Rattle.cics_dispatch.specs.declared.machine.outcomes.Refused.{Refused}
use Rattle.cics_dispatch.specs.declared.machine.outcomes.Refused.TheVariants.{RegionDown, TaskEnded, TaskWaiting}
use Rattle.cics_orders.specs.declared.plans.plans.TaskPlan.{TaskPlan}
use Rattle.cics_orders.specs.Giving.{happening, with_task}

-- the step of a command of a task that has neither ended nor waits
abbrev pub step_of : Machine → Task → Command → Stepped Outcome
step_of m t c = checked m t c (fault_of m t c.verb)

-- ---- Requests

module _ (P : Machine → Type 0) (m : Machine) (same : P m) where
  -- a command is refused, or its step is taken
  pub issue_cases : (label : Bytes) (c : Command) →
      (m.is_down ≡ false → (t : Task) → task_at m.tasks label ≡ Some t → t.has_ended ≡ false → is_waiting m.waiting t.label ≡ false → P (step_of m t c).machine) →
      P (played m (request.Issue label c)).machine
  issue_cases label c taken = by m.is_down refl
    where
      left : Stepped (Result Outcome Refused) → Machine
      left r = (happened m (subject.Task label) (issued_event m label c) r.outcome r.machine).machine

      unless : m.is_down ≡ false → (t : Task) → task_at m.tasks label ≡ Some t → (b d : Bool) → t.has_ended ≡ b → is_waiting m.waiting t.label ≡ d →
          P (left (refused_or m (if b then Some TaskEnded else if d then Some TaskWaiting else None) (step_of m t c)))
      unless up t at true d ended waits = same
      unless up t at false true ended waits = same
      unless up t at false false ended waits = taken up t at ended waits

      task : m.is_down ≡ false → (o : Option Task) → task_at m.tasks label ≡ o → P (left (issued_by m c o))
      task up None at = same
      task up (Some t) at = unless up t at t.has_ended (is_waiting m.waiting t.label) refl refl

      by : (b : Bool) → m.is_down ≡ b → P (left (if b then record { outcome = Err RegionDown; machine = m } else issued_by m c (task_at m.tasks label)))
      by true is = same
      by false is = task is (task_at m.tasks label) refl

  -- a clock is refused, or it is set
  pub clock_cases : (seconds : ℕ) → P (record m { clock = seconds }) → P (played m (request.Clock seconds)).machine
  clock_cases seconds set = by m.is_down (clock_refusal m seconds)
    where
      left : Stepped (Result (Unit {0}) Refused) → Machine
      left r = (happened m subject.Clock (λ _. event.ClockSet seconds) r.outcome r.machine).machine

      by : (b : Bool) (r : Option Refused) →
          P (left (if b then record { outcome = Err RegionDown; machine = m } else refused_or m r (record { outcome = tt; machine = record m { clock = seconds } })))
      by true r = same
      by false (Some e) = same
      by false None = set

  -- a shutdown is refused, or the region is shut down
  pub shutdown_cases : (m.is_down ≡ false → P (shut_down m).machine) → P (played m request.Shutdown).machine
  shutdown_cases shut = by m.is_down refl
    where
      left : Stepped (Result ℕ Refused) → Machine
      left r = (happened m subject.Shutdown event.ShutDown r.outcome r.machine).machine

      by : (b : Bool) → m.is_down ≡ b → P (left (if b then record { outcome = Err RegionDown; machine = m } else shut_down m))
      by true is = same
      by false is = shut is

  -- an attach is refused, or the task is new
  pub attach_cases : (t : TaskPlan) → P (with_new_task m t.label t.dtimout) → P (with_task m t)
  unfolding with_task
  attach_cases t new = by m.is_down (attach_refusal m t.label)
    where
      left : Stepped (Result (Unit {0}) Refused) → Machine
      left r = (happened m (subject.Task t.label) (λ _. event.Attached t.label t.transaction) r.outcome r.machine).machine

      by : (down : Bool) (refusal : Option Refused) →
          P (left (if down then record { outcome = Err RegionDown; machine = m } else refused_or m refusal (record { outcome = tt; machine = with_new_task m t.label t.dtimout })))
      by true refusal = same
      by false (Some e) = same
      by false None = new

-- ---- Draining

-- a turn is a wake-up or a time-out
pub turn_cases : (P : Machine → Type 0) (m : Machine) (t : Happened) → P (woken m).machine → P (expired m).machine → turn m ≡ Some t → P t.machine
unfolding turn
turn_cases P m t wakes late = by (woken m).outcome (expired m).outcome
  where
    by : (w : Option Woken) (e : Option Expired) → waking_turn w (woken m).machine (late_turn e (expired m).machine) ≡ Some t → P t.machine
    by (Some w) e is =
        let same : record { event = event.Woken w; machine = (woken m).machine } ≡ t = cc in
        subst (λ (t : Happened). P t.machine) same wakes
    by None (Some e) is =
        let same : record { event = event.Expired e; machine = (expired m).machine } ≡ t = cc in
        subst (λ (t : Happened). P t.machine) same late
    by None None is = cc

module _ (P : Machine → Type 0) (keeps : (m : Machine) (t : Happened) → turn m ≡ Some t → P m → P t.machine) where
  within_keeps : (n : ℕ) (m : Machine) → P m → P (drained_within n m).machine
  unfolding drained_within
  within_keeps zero m so = so
  within_keeps (suc n) m so = by (within_keeps n) (turn m) refl
    where
      by : ((k : Machine) → P k → P (drained_within n k).machine) → (o : Option Happened) → turn m ≡ o → P (behind_turn m o (drained_within n)).machine
      by rest None is = so
      by rest (Some t) is = rest t.machine (keeps m t is so)

  -- what a request leaves, and each turn keeps, holds once the region is at rest
  pub happening_keeps : (m : Machine) (r : Request) → P (played m r).machine → P (happening m r).machine
  unfolding happening
  happening_keeps m r so = within_keeps (length (played m r).machine.waiting) (played m r).machine so
