-- Waiting commands: the first that may resume, and the first whose time is over.
use Rattle.std.specs.Prelude.{◌≡◌, ℕ, Bool, true, false, not, cond, if◌then◌else◌, List, [], ◌∷◌, All, Option, Some, None, is_none, nat_le, take, slice_get, refl}
use Rattle.std.proofs.Common.{◌∙◌, sym, ap, subst}
use Rattle.std.proofs.lemmas.List.Elements.{All-head, All-tail}
use Rattle.cics_names.specs.Keyed.{Bytes, is_same}
use Rattle.cics_names.specs.Conditions.{default_abend_of}
use Rattle.cics_names.specs.declared.conditions.AbendCode.{AbendCode}
use Rattle.cics_names.specs.declared.conditions.Condition.TheVariants.{Normal, Invreq}
use Rattle.cics_names.specs.declared.commands.Command.{Command}
use Rattle.cics_names.specs.declared.commands.Verb.{Verb}
use Rattle.cics_names.specs.declared.commands.Verb.TheVariants.{Enq}
use Rattle.cics_history.specs.Resources.{most_count}
use Rattle.cics_history.specs.declared.ops.Op.{Op}
use Rattle.cics_history.specs.declared.ops.Enqueued.{Enqueued}
use Rattle.cics_history.specs.declared.ops.Done.{Done}
use Rattle.cics_history.specs.declared.ops.Done.TheVariants.{Answered, MustWait as Waits}
use Rattle.cics_names.specs.declared.conditions.Condition.{Condition}
use Rattle.cics_history.specs.declared.ops.Enqueued.TheVariants.{Taken, CountFull, MustWait as EnqMustWait}
use Rattle.cics_history.specs.declared.ops.UnitState.TheVariants.{BackedOut}
use Rattle.cics_history.specs.Store.{apply}
use Rattle.cics_history.specs.Holding.{awaited, value_holder, store_of}
use Rattle.cics_history.specs.Execution.{unit_or_next, done_of, execution, after_execution, count_at, enq_of, enqueue, after_enqueue}
use Rattle.cics_dispatch.specs.Machine.Machine.{Machine, Task, Suspended, task_at, is_waiting, not_waiting, with_waiting, with_units, with_task, with_unit, unit_closed}
use Rattle.cics_dispatch.specs.Machine.Replies.{plain}
use Rattle.cics_dispatch.specs.Machine.Steps.{Stepped, with_outcome, unhandled, answered, made_to_wait, reply_of, executed, enqueued, other_command, by_op}
use Rattle.cics_dispatch.specs.Machine.Waking.{is_late, first_late, awaited_by, may_go_on, first_free, went_on, woken_first, woken}
use Rattle.cics_dispatch.specs.Machine.KeptTasks.{IsReady, IsWaitKept, AreTasksKept}
use Rattle.cics_dispatch.specs.declared.machine.outcomes.Reply.{Reply}
use Rattle.cics_dispatch.specs.declared.machine.outcomes.Outcome.{Outcome}
use Rattle.cics_dispatch.specs.declared.machine.outcomes.Outcome.TheVariants.{Abended}
use Rattle.cics_dispatch.specs.declared.machine.outcomes.Woken.{Woken}
use Rattle.cics_dispatch.proofs.OfMachine.TaskPlaces.{place_of_task}
use Rattle.cics_dispatch.proofs.OfMachine.KeptTasks.{kept_abended, kept_suspended, kept_executed, kept_enqueued, with_task_placed, kept_not_waiting, not_waiting_then}

-- ---- The first that may resume

-- one that may not is passed
pub first_free-passed : (m : Machine) (all ws rest : List Suspended) (w : Suspended) → first_free m ws ≡ first_free m all → ws ≡ w ∷ rest →
    may_go_on m w (task_at m.tasks w.label) ≡ false → first_free m rest ≡ first_free m all
first_free-passed m all ws rest w passed steps free =
    sym (ap (λ b. cond b (Some w) (first_free m rest)) free) ∙ sym (ap (first_free m) steps) ∙ passed

-- what holds of each waiting command holds of the first one that may resume
pub first_free_has : (P : Suspended → Type 0) (m : Machine) (w : Suspended) (ws : List Suspended) → All P ws → first_free m ws ≡ Some w → P w
first_free_has P m w [] all is = cc
first_free_has P m w (v ∷ ws) all is =
    elim (may_go_on m v (task_at m.tasks v.label)) as (λ b. cond b (Some v) (first_free m ws) ≡ Some w → P w) [
      | true ↦ λ is. let same : v ≡ w = cc in subst P same (All-head P v ws all)
      | false ↦ λ is. first_free_has P m w ws (All-tail P v ws all) is
    ] is

-- it needn't wait
pub first_free-goes : (m : Machine) (w : Suspended) (ws : List Suspended) → first_free m ws ≡ Some w → may_go_on m w (task_at m.tasks w.label) ≡ true
first_free-goes m w [] is = cc
first_free-goes m w (v ∷ ws) is =
    elim (may_go_on m v (task_at m.tasks v.label)) as (λ b. may_go_on m v (task_at m.tasks v.label) ≡ b → cond b (Some v) (first_free m ws) ≡ Some w → may_go_on m w (task_at m.tasks w.label) ≡ true) [
      | true ↦ λ goes is. let same : v ≡ w = cc in ap (λ x. may_go_on m x (task_at m.tasks x.label)) (sym same) ∙ goes
      | false ↦ λ waits is. first_free-goes m w ws is
    ] refl is

-- no unit is the one that is to be waited for
none_awaited : (o : Option ℕ) → is_none o ≡ true → o ≡ None
none_awaited None none = refl
none_awaited (Some u) none = cc

pub first_free_awaits : (m : Machine) (w : Suspended) (ws : List Suspended) (t : Task) → first_free m ws ≡ Some w → task_at m.tasks w.label ≡ Some t →
    awaited_by m.units t.unit w.command.verb w.op ≡ None
first_free_awaits m w ws t is there =
    none_awaited (awaited_by m.units t.unit w.command.verb w.op) (ap (may_go_on m w) (sym there) ∙ first_free-goes m w ws is)

-- ---- A command that resumes, while the waits stand aside

-- without a label's wait, the others stay
pub not_waiting_twice : (ws : List Suspended) (label : Bytes) → not_waiting (not_waiting ws label) label ≡ not_waiting ws label
not_waiting_twice [] label = refl
not_waiting_twice (w ∷ ws) label =
    elim (is_same w.label label) as (λ b. is_same w.label label ≡ b → not_waiting (cond (not b) (w ∷ not_waiting ws label) (not_waiting ws label)) label ≡ cond (not b) (w ∷ not_waiting ws label) (not_waiting ws label)) [
      | true ↦ λ same. not_waiting_twice ws label
      | false ↦ λ differs. ap (λ b. cond (not b) (w ∷ not_waiting (not_waiting ws label) label) (not_waiting (not_waiting ws label) label)) differs ∙ ap (λ r. w ∷ r) (not_waiting_twice ws label)
    ] refl

-- a step with these waits beside it
abbrev pub beside : {X : Type 0} → List Suspended → Stepped X → Stepped X
beside ws s = record { outcome = s.outcome; machine = with_waiting s.machine ws }

-- what a task is answered is the same beside other tasks' waits
answered_beside : (m : Machine) (t : Task) (ws : List Suspended) → not_waiting ws t.label ≡ ws → (resp : Bool) (r : Reply) →
    answered (with_waiting m ws) t resp r ≡ beside ws (answered (with_waiting m []) t resp r)
answered_beside m t ws others true r = refl
answered_beside m t ws others false r = by (default_abend_of r.condition)
  where
    by : (code : Option AbendCode) → unhandled (with_waiting m ws) t r code ≡ beside ws (unhandled (with_waiting m []) t r code)
    by None = refl
    by (Some code) = λ i. record { outcome = Abended code (Some r); machine = with_waiting (unit_closed (with_waiting m ws) t BackedOut true) (others i) }

-- a command that needn't wait is performed the same beside other tasks' waits
module _ (m : Machine) (t : Task) (c : Command) (ws : List Suspended) (others : not_waiting ws t.label ≡ ws) where
  executed_beside : (o : Op) → awaited m.units t.unit o ≡ None →
      executed (with_waiting m ws) t c o (execution m.units t.unit o) ≡ beside ws (executed (with_waiting m []) t c o (execution m.units t.unit o))
  executed_beside o free = by (awaited m.units t.unit o) free
    where
      by : (w : Option ℕ) → w ≡ None → executed (with_waiting m ws) t c o (done_of m.units t.unit o w) ≡ beside ws (executed (with_waiting m []) t c o (done_of m.units t.unit o w))
      by None none =
          let owner = with_unit t (unit_or_next t.unit m.units.outcomes) in
          answered_beside (with_task (with_units m (after_execution m.units t.unit o)) owner) owner ws others c.resp
          (reply_of c.verb (apply (store_of m.units) o).answer)
      by (Some v) none = cc

  enqueued_beside : (value : Bytes) → value_holder m.units t.unit value ≡ None →
      enqueued (with_waiting m ws) t c value (enqueue m.units t.unit value) ≡ beside ws (enqueued (with_waiting m []) t c value (enqueue m.units t.unit value))
  enqueued_beside value free = by (value_holder m.units t.unit value) free
    where
      unit : ℕ
      unit = unit_or_next t.unit m.units.outcomes

      taken : (b : Bool) → enqueued (with_waiting m ws) t c value (if b then CountFull else Taken unit) ≡ beside ws (enqueued (with_waiting m []) t c value (if b then CountFull else Taken unit))
      taken true = answered_beside m t ws others c.resp (plain Invreq)
      taken false = answered_beside (with_task (with_units m (after_enqueue m.units t.unit value)) (with_unit t unit)) (with_unit t unit) ws others c.resp (plain Normal)

      by : (w : Option ℕ) → w ≡ None → enqueued (with_waiting m ws) t c value (enq_of m.units t.unit value w) ≡ beside ws (enqueued (with_waiting m []) t c value (enq_of m.units t.unit value w))
      by None none = taken (nat_le most_count (count_at m.units.counts unit value))
      by (Some v) none = cc

  -- so does a waiting command that needn't wait any more
  going_beside : (o : Option Op) → IsReady m.units t.unit c.verb o → awaited_by m.units t.unit c.verb o ≡ None →
      by_op (with_waiting m ws) t c o ≡ beside ws (by_op (with_waiting m []) t c o)
  going_beside (Some o) ready free = executed_beside o free
  going_beside None ready free = by c.verb ready free
    where
      by : (verb : Verb) → IsReady m.units t.unit verb None → awaited_by m.units t.unit verb None ≡ None →
          other_command (with_waiting m ws) t c verb ≡ beside ws (other_command (with_waiting m []) t c verb)
      by (Enq value n nosuspend) ready free = enqueued_beside (take n value) free
      by verb ready free = absurd ready

-- whether a command may resume, the other waits make no difference to
may_aside : (m : Machine) (w : Suspended) (o : Option Task) → may_go_on (with_waiting m []) w o ≡ may_go_on m w o
may_aside m w None = refl
may_aside m w (Some t) = refl

pub free_aside : (m : Machine) (ws : List Suspended) → first_free (with_waiting m []) ws ≡ first_free m ws
free_aside m [] = refl
free_aside m (w ∷ ws) = λ i. cond (may_aside m w (task_at m.tasks w.label) i) (Some w) (free_aside m ws i)

-- a waiting command resumes if no command waits
pub went_alone : (m : Machine) (w : Suspended) (t : Task) (x : Outcome) (n : Machine) → m.waiting ≡ [] → with_outcome x n ≡ by_op m t w.command w.op →
    with_outcome (Some (record { label = w.label; outcome = x })) n ≡ went_on m w (Some t)
went_alone m w t x n none told =
    ap (λ (s : Stepped Outcome). with_outcome (Some (record { label = w.label; outcome = s.outcome })) s.machine) (told ∙ ap (λ k. by_op k t w.command w.op) same)
  where
    same : m ≡ with_waiting m (not_waiting m.waiting w.label)
    same = λ i. with_waiting m ((none ∙ sym (ap (λ ws. not_waiting ws w.label) none)) i)

-- the waits once a command has resumed, if one has
abbrev pub left_waiting : List Suspended → Option Woken → List Suspended
left_waiting ws None = ws
left_waiting ws (Some k) = not_waiting ws k.label

-- what comes of waking is what comes of it while the waits stand aside, with the other waits beside
-- it
pub woken_aside : (m : Machine) (s : Stepped (Option Woken)) → All (IsWaitKept m) m.waiting →
    s ≡ woken_first (with_waiting m []) (first_free (with_waiting m []) m.waiting) →
    with_outcome s.outcome (with_waiting s.machine (left_waiting m.waiting s.outcome)) ≡ woken m
woken_aside m s kept is =
    ap together (is ∙ ap (woken_first (with_waiting m [])) (free_aside m m.waiting)) ∙ by (first_free m m.waiting) refl
  where
    together : Stepped (Option Woken) → Stepped (Option Woken)
    together s = with_outcome s.outcome (with_waiting s.machine (left_waiting m.waiting s.outcome))

    task : (w : Suspended) → first_free m m.waiting ≡ Some w → (o : Option Task) → task_at m.tasks w.label ≡ o →
        together (went_on (with_waiting m []) w o) ≡ went_on m w o
    task w first None is = refl
    task w first (Some t) is =
        let label : t.label ≡ w.label = (place_of_task m.tasks w.label t is).2 in
        let ws = not_waiting m.waiting w.label in
        let has = first_free_has (IsWaitKept m) m w m.waiting kept first in
        let others : not_waiting ws t.label ≡ ws = ap (not_waiting ws) label ∙ not_waiting_twice m.waiting w.label in
        ap (λ (s : Stepped Outcome). with_outcome (Some (record { label = w.label; outcome = s.outcome })) s.machine)
        (sym (going_beside m t w.command ws others w.op (has.ready t is) (first_free_awaits m w m.waiting t first is)))

    by : (o : Option Suspended) → first_free m m.waiting ≡ o → together (woken_first (with_waiting m []) o) ≡ woken_first m o
    by None first = refl
    by (Some w) first = task w first (task_at m.tasks w.label) refl

-- and if a command has resumed, its wait is taken out of those that come back
pub woken_back : (m a n : Machine) (w : Woken) (x : Option Woken) (ws back : List Suspended) → All (IsWaitKept m) m.waiting → a ≡ with_waiting m [] → ws ≡ m.waiting →
    x ≡ Some w → with_outcome x n ≡ woken_first a (first_free a ws) → back ≡ not_waiting ws w.label → with_outcome (Some w) (with_waiting n back) ≡ woken m
woken_back m a n w x ws back kept aside same is step gone =
    (λ i. with_outcome (Some w) (with_waiting n ((gone ∙ ap (λ l. not_waiting l w.label) same) i)))
    ∙ woken_aside m (with_outcome (Some w) n) kept
    ((λ i. with_outcome (sym is i) n) ∙ step ∙ (λ i. woken_first (aside i) (first_free (aside i) (same i))))

-- ---- What a region keeps

-- what a task is answered leaves the region as it was, or abends the task
answered_kept : (m : Machine) (at : ℕ) (t : Task) → AreTasksKept m → slice_get m.tasks at ≡ Some t → (resp : Bool) (r : Reply) → AreTasksKept (answered m t resp r).machine
answered_kept m at t kept placed true r = kept
answered_kept m at t kept placed false r = by (default_abend_of r.condition)
  where
    by : (code : Option AbendCode) → AreTasksKept (unhandled m t r code).machine
    by None = kept
    by (Some code) = kept_abended m at t kept placed

module _ (m : Machine) (at : ℕ) (t : Task) (kept : AreTasksKept m) (placed : slice_get m.tasks at ≡ Some t) (awake : is_waiting m.waiting t.label ≡ false) (c : Command) where
  waits_kept : (o : Option Op) (holder : ℕ) (busy : Option Condition) → IsReady m.units t.unit c.verb o → AreTasksKept (made_to_wait m t c o holder busy).machine
  waits_kept o holder None ready = kept_suspended m at t c o kept placed ready
  waits_kept o holder (Some condition) ready = answered_kept m at t kept placed c.resp _

  executed_kept : (o : Op) → IsReady m.units t.unit c.verb (Some o) → AreTasksKept (executed m t c o (execution m.units t.unit o)).machine
  executed_kept o ready = by (execution m.units t.unit o) refl
    where
      by : (d : Done) → execution m.units t.unit o ≡ d → AreTasksKept (executed m t c o d).machine
      by (Waits holder) is = waits_kept (Some o) holder _ ready
      by (Answered unit a) is =
          answered_kept (with_task (with_units m (after_execution m.units t.unit o)) (with_unit t unit)) at (with_unit t unit)
          (kept_executed m at t kept placed awake o unit a is) (with_task_placed m at t (with_unit t unit) kept placed refl) c.resp _

  enqueued_kept : (value : Bytes) → IsReady m.units t.unit c.verb None → AreTasksKept (enqueued m t c value (enqueue m.units t.unit value)).machine
  enqueued_kept value ready = by (enqueue m.units t.unit value) refl
    where
      by : (e : Enqueued) → enqueue m.units t.unit value ≡ e → AreTasksKept (enqueued m t c value e).machine
      by (EnqMustWait holder) is = waits_kept None holder _ ready
      by CountFull is = answered_kept m at t kept placed c.resp _
      by (Taken unit) is =
          answered_kept (with_task (with_units m (after_enqueue m.units t.unit value)) (with_unit t unit)) at (with_unit t unit)
          (kept_enqueued m at t kept placed awake value unit is) (with_task_placed m at t (with_unit t unit) kept placed refl) c.resp _

  -- a command that may have to wait keeps it
  going_kept : (o : Option Op) → IsReady m.units t.unit c.verb o → AreTasksKept (by_op m t c o).machine
  going_kept (Some o) ready = executed_kept o ready
  going_kept None ready = by c.verb ready ready
    where
      by : (verb : Verb) → IsReady m.units t.unit verb None → IsReady m.units t.unit c.verb None → AreTasksKept (other_command m t c verb).machine
      by (Enq value n nosuspend) is ready = enqueued_kept (take n value) ready
      by verb is ready = absurd is

-- and so does waking
pub woken_kept : (m : Machine) → AreTasksKept m → AreTasksKept (woken m).machine
woken_kept m kept = by (first_free m m.waiting) refl
  where
    task : (w : Suspended) → first_free m m.waiting ≡ Some w → (o : Option Task) → task_at m.tasks w.label ≡ o → AreTasksKept (went_on m w o).machine
    task w first None is = kept
    task w first (Some t) is =
        let place = place_of_task m.tasks w.label t is in
        let ws = not_waiting m.waiting w.label in
        let has = first_free_has (IsWaitKept m) m w m.waiting kept.waits first in
        going_kept (with_waiting m ws) place.0 t (kept_not_waiting m w.label kept) place.1
        (ap (is_waiting ws) place.2 ∙ not_waiting_then m.waiting w.label) w.command w.op (has.ready t is)

    by : (o : Option Suspended) → first_free m m.waiting ≡ o → AreTasksKept (woken_first m o).machine
    by None first = kept
    by (Some w) first = task w first (task_at m.tasks w.label) refl

-- ---- The first whose time is over

-- a task that has waited too long is the first one
pub first_late-here : (m : Machine) (ws rest : List Suspended) (w : Suspended) (o : Option Task) → first_late m ws ≡ first_late m m.waiting → ws ≡ w ∷ rest →
    is_late m w (task_at m.tasks w.label) ≡ true → o ≡ task_at m.tasks w.label → o ≡ first_late m m.waiting
first_late-here m ws rest w o passed steps late is =
    is ∙ sym (ap (λ b. cond b (task_at m.tasks w.label) (first_late m rest)) late) ∙ sym (ap (first_late m) steps) ∙ passed
