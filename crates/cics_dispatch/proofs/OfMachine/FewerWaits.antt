-- Waking a command and abending a task for its time take a command out of the waiting ones, and add
-- none.
use Rattle.std.specs.Prelude.{◌≡◌, ℕ, ◌<◌, ◌≤◌, Bool, true, false, not, cond, if◌then◌else◌, List, [], ◌∷◌, length, take, nat_le, Option, Some, None, is_none, refl}
use Rattle.std.proofs.Common.{arith, sym, ap, ◌∙◌}
use Rattle.cics_names.specs.Keyed.{Bytes, value_at, without, is_same}
use Rattle.cics_names.specs.KeyedLaws.{is_same-self}
use Rattle.cics_names.specs.Conditions.{default_abend_of}
use Rattle.cics_names.specs.declared.conditions.AbendCode.{AbendCode}
use Rattle.cics_names.specs.declared.conditions.Condition.TheVariants.{Normal, Notfnd, Invreq}
use Rattle.cics_browse.specs.Positions.{Position, finds_start, start_at, read_next, after_next, read_prev, after_prev, reset_condition, after_reset}
use Rattle.cics_browse.specs.declared.browses.Browsed.{Browsed}
use Rattle.cics_history.specs.Resources.{most_count}
use Rattle.cics_history.specs.Holding.{awaited, value_holder, store_of}
use Rattle.cics_history.specs.Store.{apply}
use Rattle.cics_history.specs.Execution.{unit_or_next, done_of, execution, after_execution, count_at, enq_of, enqueue, after_enqueue, ts_reading, after_ts_reading, item_asked}
use Rattle.cics_history.specs.declared.ops.Op.{Op}
use Rattle.cics_history.specs.declared.ops.Enqueued.TheVariants.{Taken, CountFull}
use Rattle.cics_dispatch.specs.Machine.Machine.{Machine, Task, Suspended, task_at, is_waiting, not_waiting, with_waiting, with_units, with_task, with_unit, with_browses, records_in}
use Rattle.cics_dispatch.specs.Machine.Replies.{plain, cut, read_reply}
use Rattle.cics_dispatch.specs.Machine.Steps.{unhandled, answered, reply_of, executed, enqueued, unlocked, dequeued, browse_reply, with_browse, started, reset, browsed, other_command, by_op}
use Rattle.cics_dispatch.specs.Machine.Waking.{awaited_by, may_go_on, first_free, went_on, woken_first, woken, is_late, first_late, expired_task, expired}
use Rattle.cics_names.specs.declared.commands.Command.{Command}
use Rattle.cics_names.specs.declared.commands.Verb.{Verb}
use Rattle.cics_names.specs.declared.commands.Verb.TheVariants.{Read, Unlock, StartBr, ResetBr, ReadNext, ReadPrev, EndBr, ReadqTs, Enq, Deq, Syncpoint, Rollback, Return, Abend}
use Rattle.cics_dispatch.specs.declared.machine.outcomes.Reply.{Reply}
use Rattle.cics_dispatch.specs.declared.machine.outcomes.Woken.{Woken}
use Rattle.cics_dispatch.specs.declared.machine.outcomes.Expired.{Expired}
use Rattle.cics_dispatch.proofs.OfMachine.TaskPlaces.{place_of_task}

-- ---- Waiting commands

as_many : (n : ℕ) → n ≤ n
as_many n = omega arith

not_more : (ws : List Suspended) (label : Bytes) → length (not_waiting ws label) ≤ length ws
not_more [] label = omega arith
not_more (w ∷ ws) label =
    let rest = not_more ws label in
    elim (is_same w.label label) as (λ b. length (cond (not b) (w ∷ not_waiting ws label) (not_waiting ws label)) ≤ length (w ∷ ws)) [
      | true ↦ omega (arith, rest)
      | false ↦ omega (arith, rest)
    ]

-- without the command of a task that waits there are fewer
fewer : (ws : List Suspended) (label : Bytes) → is_waiting ws label ≡ true → length (not_waiting ws label) < length ws
fewer [] label waits = cc
fewer (w ∷ ws) label waits =
    elim (is_same w.label label) as (λ b. cond b true (is_waiting ws label) ≡ true → length (cond (not b) (w ∷ not_waiting ws label) (not_waiting ws label)) < length (w ∷ ws)) [
      | true ↦ λ here. omega (arith, not_more ws label)
      | false ↦ λ behind. omega (arith, fewer ws label behind)
    ] waits

-- a task whose command is among the later ones waits
waits_too : (v : Suspended) (ws : List Suspended) (label : Bytes) → is_waiting ws label ≡ true → is_waiting (v ∷ ws) label ≡ true
waits_too v ws label waits = elim (is_same v.label label) as (λ b. cond b true (is_waiting ws label) ≡ true) [ true ↦ refl | false ↦ waits ]

-- the first command that may resume waits
free_waits : (m : Machine) (w : Suspended) (ws : List Suspended) → first_free m ws ≡ Some w → is_waiting ws w.label ≡ true
free_waits m w [] is = cc
free_waits m w (v ∷ ws) is =
    elim (may_go_on m v (task_at m.tasks v.label)) as (λ b. cond b (Some v) (first_free m ws) ≡ Some w → is_waiting (v ∷ ws) w.label ≡ true) [
      | true ↦ λ is. let same : v ≡ w = cc in ap (λ x. cond (is_same x.label w.label) true (is_waiting ws w.label)) same ∙ ap (λ b. cond b true (is_waiting ws w.label)) (is_same-self w.label)
      | false ↦ λ is. waits_too v ws w.label (free_waits m w ws is)
    ] is

-- and so does that of the first task that has waited too long
late_waits : (m : Machine) (t : Task) (ws : List Suspended) → first_late m ws ≡ Some t → is_waiting ws t.label ≡ true
late_waits m t [] is = cc
late_waits m t (v ∷ ws) is =
    elim (is_late m v (task_at m.tasks v.label)) as (λ b. cond b (task_at m.tasks v.label) (first_late m ws) ≡ Some t → is_waiting (v ∷ ws) t.label ≡ true) [
      | true ↦ λ is.
          let label = (place_of_task m.tasks v.label t is).2 in
          ap (λ x. cond (is_same v.label x) true (is_waiting ws x)) label ∙ ap (λ b. cond b true (is_waiting ws v.label)) (is_same-self v.label)
      | false ↦ λ is. waits_too v ws t.label (late_waits m t ws is)
    ] is

-- ---- A command that needn't wait

-- what a task is answered adds no waiting command
answered_none : (m : Machine) (t : Task) (resp : Bool) (r : Reply) → length (answered m t resp r).machine.waiting ≤ length m.waiting
answered_none m t true r = as_many (length m.waiting)
answered_none m t false r = by (default_abend_of r.condition)
  where
    by : (code : Option AbendCode) → length (unhandled m t r code).machine.waiting ≤ length m.waiting
    by None = as_many (length m.waiting)
    by (Some code) = not_more m.waiting t.label

-- and neither does a command that needn't wait
module _ (m : Machine) (t : Task) (c : Command) where
  executed_none : (o : Op) → awaited m.units t.unit o ≡ None → length (executed m t c o (execution m.units t.unit o)).machine.waiting ≤ length m.waiting
  executed_none o free = by (awaited m.units t.unit o) free
    where
      by : (w : Option ℕ) → w ≡ None → length (executed m t c o (done_of m.units t.unit o w)).machine.waiting ≤ length m.waiting
      by None none =
          let owner = with_unit t (unit_or_next t.unit m.units.outcomes) in
          answered_none (with_task (with_units m (after_execution m.units t.unit o)) owner) owner c.resp (reply_of c.verb (apply (store_of m.units) o).answer)
      by (Some v) none = cc

  enqueued_none : (value : Bytes) → value_holder m.units t.unit value ≡ None → length (enqueued m t c value (enqueue m.units t.unit value)).machine.waiting ≤ length m.waiting
  enqueued_none value free = by (value_holder m.units t.unit value) free
    where
      unit : ℕ
      unit = unit_or_next t.unit m.units.outcomes

      taken : (b : Bool) → length (enqueued m t c value (if b then CountFull else Taken unit)).machine.waiting ≤ length m.waiting
      taken true = answered_none m t c.resp (plain Invreq)
      taken false = answered_none (with_task (with_units m (after_enqueue m.units t.unit value)) (with_unit t unit)) (with_unit t unit) c.resp (plain Normal)

      by : (w : Option ℕ) → w ≡ None → length (enqueued m t c value (enq_of m.units t.unit value w)).machine.waiting ≤ length m.waiting
      by None none = taken (nat_le most_count (count_at m.units.counts unit value))
      by (Some v) none = cc

  unlocked_none : (f : Bytes) (o : Option ℕ) → length (answered (unlocked m o f) t c.resp (plain Normal)).machine.waiting ≤ length m.waiting
  unlocked_none f None = answered_none m t c.resp (plain Normal)
  unlocked_none f (Some u) = answered_none (unlocked m (Some u) f) t c.resp (plain Normal)

  dequeued_none : (value : Bytes) (o : Option ℕ) → length (answered (dequeued m o value) t c.resp (plain Normal)).machine.waiting ≤ length m.waiting
  dequeued_none value None = answered_none m t c.resp (plain Normal)
  dequeued_none value (Some u) = answered_none (dequeued m (Some u) value) t c.resp (plain Normal)

  browse_none : (f : Bytes) (p : Position) (r : Reply) → length (answered (with_task m (with_browse t f p)) (with_browse t f p) c.resp r).machine.waiting ≤ length m.waiting
  browse_none f p r = answered_none (with_task m (with_browse t f p)) (with_browse t f p) c.resp r

  started_none : (f key : Bytes) (generic equal : Bool) → length (started m t c.resp f key generic equal).machine.waiting ≤ length m.waiting
  started_none f key generic equal = by (finds_start (records_in m f) key generic equal)
    where
      by : (finds : Bool) → length (if finds then answered (with_task m (with_browse t f (start_at key generic))) (with_browse t f (start_at key generic)) c.resp (plain Normal) else answered m t c.resp (plain Notfnd)).machine.waiting ≤ length m.waiting
      by true = browse_none f (start_at key generic) (plain Normal)
      by false = answered_none m t c.resp (plain Notfnd)

  reset_none : (f key : Bytes) (generic equal : Bool) (o : Option Position) → length (reset m t c.resp f key generic equal o).machine.waiting ≤ length m.waiting
  reset_none f key generic equal None = answered_none m t c.resp (plain Invreq)
  reset_none f key generic equal (Some p) = browse_none f (after_reset (records_in m f) p key generic equal) (plain (reset_condition (records_in m f) key generic equal))

  browsed_none : (f : Bytes) (n : Option ℕ) (o : Option Position) (given : Position → Browsed) (after : Position → Position) →
      length (browsed m t c.resp f n o given after).machine.waiting ≤ length m.waiting
  browsed_none f n None given after = answered_none m t c.resp (plain Invreq)
  browsed_none f n (Some p) given after = browse_none f (after p) (cut n (browse_reply (given p)))

  other_none : (verb : Verb) → awaited_by m.units t.unit verb None ≡ None → length (other_command m t c verb).machine.waiting ≤ length m.waiting
  other_none (Read f key given n generic gteq update) free = answered_none m t c.resp (cut n (read_reply (records_in m f) key generic gteq))
  other_none (Unlock f) free = unlocked_none f t.unit
  other_none (StartBr f key given generic equal) free = started_none f key generic equal
  other_none (ResetBr f key given generic equal) free = reset_none f key generic equal (value_at f t.browses)
  other_none (ReadNext f n) free = browsed_none f n (value_at f t.browses) (read_next (records_in m f)) (after_next (records_in m f))
  other_none (ReadPrev f n) free = browsed_none f n (value_at f t.browses) (read_prev (records_in m f)) (after_prev (records_in m f))
  other_none (EndBr f) free = let owner = with_browses t (without f t.browses) in answered_none (with_task m owner) owner c.resp (plain Normal)
  other_none (ReadqTs q n item) free = answered_none (with_units m (after_ts_reading m.units q (item_asked m.units q item))) t c.resp (reply_of (ReadqTs q n (Some (item_asked m.units q item))) (ts_reading m.units q (item_asked m.units q item)))
  other_none (Enq value n nosuspend) free = enqueued_none (take n value) free
  other_none (Deq value n) free = dequeued_none (take n value) t.unit
  other_none Syncpoint free = as_many (length m.waiting)
  other_none Rollback free = as_many (length m.waiting)
  other_none Return free = as_many (length m.waiting)
  other_none (Abend None) free = not_more m.waiting t.label
  other_none (Abend (Some code)) free = not_more m.waiting t.label
  other_none verb free = answered_none m t c.resp (plain Invreq)

  pub by_op_none : (o : Option Op) → awaited_by m.units t.unit c.verb o ≡ None → length (by_op m t c o).machine.waiting ≤ length m.waiting
  by_op_none (Some o) free = executed_none o free
  by_op_none None free = other_none c.verb free

-- ---- Waking and time-out

none_awaited : (o : Option ℕ) → is_none o ≡ true → o ≡ None
none_awaited None none = refl
none_awaited (Some u) none = cc

-- the first command that may resume needn't wait
free_goes : (m : Machine) (w : Suspended) (ws : List Suspended) → first_free m ws ≡ Some w → may_go_on m w (task_at m.tasks w.label) ≡ true
free_goes m w [] is = cc
free_goes m w (v ∷ ws) is =
    elim (may_go_on m v (task_at m.tasks v.label)) as (λ b. may_go_on m v (task_at m.tasks v.label) ≡ b → cond b (Some v) (first_free m ws) ≡ Some w → may_go_on m w (task_at m.tasks w.label) ≡ true) [
      | true ↦ λ goes is. let same : v ≡ w = cc in ap (λ x. may_go_on m x (task_at m.tasks x.label)) (sym same) ∙ goes
      | false ↦ λ waits is. free_goes m w ws is
    ] refl is

-- if a command resumes, fewer wait
pub woken_fewer : (m : Machine) (k : Woken) → (woken m).outcome ≡ Some k → length (woken m).machine.waiting < length m.waiting
woken_fewer m k = by (first_free m m.waiting) refl
  where
    task : (w : Suspended) → first_free m m.waiting ≡ Some w → (o : Option Task) → may_go_on m w o ≡ true → (went_on m w o).outcome ≡ Some k →
        length (went_on m w o).machine.waiting < length m.waiting
    task w is None goes told = cc
    task w is (Some t) goes told =
        let less = fewer m.waiting w.label (free_waits m w m.waiting is) in
        let none = by_op_none (with_waiting m (not_waiting m.waiting w.label)) t w.command w.op (none_awaited (awaited_by m.units t.unit w.command.verb w.op) goes) in
        omega (arith, less, none)

    by : (o : Option Suspended) → first_free m m.waiting ≡ o → (woken_first m o).outcome ≡ Some k → length (woken_first m o).machine.waiting < length m.waiting
    by None is told = cc
    by (Some w) is told = task w is (task_at m.tasks w.label) (free_goes m w m.waiting is) told

-- if no command resumes, nothing has changed
pub woken_none : (m : Machine) → (woken m).outcome ≡ None → (woken m).machine ≡ m
woken_none m = by (first_free m m.waiting)
  where
    task : (w : Suspended) (o : Option Task) → (went_on m w o).outcome ≡ None → (went_on m w o).machine ≡ m
    task w None told = refl
    task w (Some t) told = cc

    by : (o : Option Suspended) → (woken_first m o).outcome ≡ None → (woken_first m o).machine ≡ m
    by None told = refl
    by (Some w) told = task w (task_at m.tasks w.label) told

-- if a task is abended for its time, fewer wait
pub expired_fewer : (m : Machine) (k : Expired) → (expired m).outcome ≡ Some k → length (expired m).machine.waiting < length m.waiting
expired_fewer m k = by (first_late m m.waiting) refl
  where
    by : (o : Option Task) → first_late m m.waiting ≡ o → (expired_task m o).outcome ≡ Some k → length (expired_task m o).machine.waiting < length m.waiting
    by None is told = cc
    by (Some t) is told = fewer m.waiting t.label (late_waits m t m.waiting is)

-- if none is, nothing has changed
pub expired_none : (m : Machine) → (expired m).outcome ≡ None → (expired m).machine ≡ m
expired_none m = by (first_late m m.waiting)
  where
    by : (o : Option Task) → (expired_task m o).outcome ≡ None → (expired_task m o).machine ≡ m
    by None told = refl
    by (Some t) told = cc
