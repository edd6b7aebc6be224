-- The row of a command that has to wait names the task that blocks it.
use Rattle.std.proofs.Common.{◌≡◌, ℕ, Bool, true, false, cond, List, [], ◌∷◌, ◌++◌, take, refl, ap, sym, ◌∙◌, Option, Some, None, Result, Ok, Err}
use Rattle.std.proofs.lemmas.Bool.{true≢false}
use Rattle.std.specs.Prelude.{option_map, if◌then◌else◌}
use Rattle.cics_names.specs.Keyed.{Bytes, is_same, value_at}
use Rattle.cics_names.specs.KeyedLaws.{is_same-self}
use Rattle.cics_names.specs.Conditions.{default_abend_of}
use Rattle.cics_names.specs.declared.conditions.AbendCode.{AbendCode}
use Rattle.cics_names.specs.declared.conditions.Condition.{Condition}
use Rattle.cics_names.specs.declared.conditions.Condition.TheVariants.{Normal}
use Rattle.cics_names.specs.declared.commands.Command.{Command}
use Rattle.cics_names.specs.declared.commands.Verb.{Verb}
use Rattle.cics_names.specs.declared.commands.Verb.TheVariants.{StartBr, ResetBr, ReadNext, ReadPrev, Enq, Syncpoint, Rollback, Return, Abend}
use Rattle.cics_browse.specs.Positions.{finds_start, read_next, after_next, read_prev, after_prev}
use Rattle.cics_history.specs.Holding.{awaited as awaited_unit, value_holder}
use Rattle.cics_history.specs.Execution.{unit_or_next, done_of, enq_of}
use Rattle.cics_history.specs.declared.ops.Op.{Op}
use Rattle.cics_history.specs.declared.ops.Enqueued.TheVariants.{Taken, CountFull}
use Rattle.cics_dispatch.specs.Machine.Machine.{Machine, Task, Suspended, task_at, is_waiting, label_of, with_unit, records_in}
use Rattle.cics_dispatch.specs.Machine.Checks.{fault_of}
use Rattle.cics_dispatch.specs.Machine.Replies.{plain}
use Rattle.cics_dispatch.specs.Machine.Steps.{Stepped, unhandled, answered, suspended, made_to_wait, executed, enqueued, reset, browsed, code_of, other_command, by_op, op_of, checked, issue_refusal, refused_or, issued_by, issued}
use Rattle.cics_dispatch.specs.Machine.Waits.{wait_of}
use Rattle.cics_dispatch.specs.Machine.Waking.{awaited_by}
use Rattle.cics_dispatch.specs.Machine.Blockers.{awaited_of, blocker_of}
use Rattle.cics_dispatch.specs.Machine.Shutdown.{unless_down}
use Rattle.cics_dispatch.specs.declared.machine.outcomes.Reply.{Reply}
use Rattle.cics_dispatch.specs.declared.machine.outcomes.Outcome.{Outcome}
use Rattle.cics_dispatch.specs.declared.machine.outcomes.Outcome.TheVariants.{Replied, Waiting, Abended, Ended}
use Rattle.cics_dispatch.specs.declared.machine.outcomes.Refused.{Refused}
use Rattle.cics_dispatch.specs.declared.machine.outcomes.Refused.TheVariants.{NoTask, RegionDown}
use Rattle.cics_dispatch.specs.declared.machine.events.Subject.TheVariants as subject
use Rattle.cics_dispatch.specs.Machine.Events.{Happened, happened, issued_event, drained}
use Rattle.cics_dispatch.proofs.OfMachine.TaskPlaces.{place_of_task}
use Rattle.cics_dispatch.proofs.OfMachine.Remembered.{not_refused}
use Rattle.cics_run.specs.Stage.Stages.{step, followed, region_of}
use Rattle.cics_run.specs.declared.stage.stage.Stage.{Stage}
use Rattle.cics_picture.specs.declared.events.RowKind.{RowKind}
use Rattle.cics_picture.specs.declared.events.Told.{Told}
use Rattle.cics_picture.specs.Drawings.{Row, row, rows_from, rows_of}
use Rattle.cics_picture.proofs.Waits.{wait-drawn}
use Rattle.cics_picture.specs.Draw.Recording.{told_of, recorded}
use Rattle.cics_picture.specs.Draw.Pictures.{printed}
use Rattle.cics_picture.specs.Draw.Blocking.{commanded, HasToWait, ShowsBlocker}
use Rattle.cics_picture.proofs.OfDraw.Recording.{events_told, normal_of, faults_told, line-kept}

-- ---- The task that is told is the one that blocks

record Tells (label : Bytes) (s : Stepped Outcome) : Type 0 where
  names : (holder : Bytes) → s.outcome ≡ Waiting holder → blocker_of s.machine label ≡ Some holder

-- an answer is no wait
reply-tells : (label : Bytes) (m : Machine) (t : Task) (resp : Bool) (r : Reply) → Tells label (answered m t resp r)
reply-tells label m t true r = record { names = λ holder is. let wrong : Replied r ≡ Waiting holder = is in cc }
reply-tells label m t false r = by (default_abend_of r.condition)
  where
    by : (code : Option AbendCode) → Tells label (unhandled m t r code)
    by None = record { names = λ holder is. let wrong : Replied r ≡ Waiting holder = is in cc }
    by (Some code) = record { names = λ holder is. let wrong : Abended code (Some r) ≡ Waiting holder = is in cc }

either-tells : (label : Bytes) (b : Bool) (m n : Machine) (t u : Task) (resp : Bool) (q r : Reply) → Tells label (if b then answered m t resp q else answered n u resp r)
either-tells label true m n t u resp q r = reply-tells label m t resp q
either-tells label false m n t u resp q r = reply-tells label n u resp r

-- the wait that began last is found
last-wait : (ws : List Suspended) (w : Suspended) (label : Bytes) → w.label ≡ label → is_waiting ws label ≡ false → wait_of (ws ++ w ∷ []) label ≡ Some w
last-wait [] w label own none = ap (λ l. cond (is_same l label) (Some w) None) own ∙ ap (λ b. cond b (Some w) None) (is_same-self label)
last-wait (v ∷ ws) w label own none =
    elim (is_same v.label label) as (λ b. cond b true (is_waiting ws label) ≡ false → cond b (Some v) (wait_of (ws ++ w ∷ []) label) ≡ Some w) [
      | true ↦ λ e. absurd (true≢false e)
      | false ↦ λ e. last-wait ws w label own e
    ] none

module _ (m : Machine) (label : Bytes) (t : Task) (there : task_at m.tasks label ≡ Some t) (awake : is_waiting m.waiting label ≡ false) (c : Command) where
  waits-tells : (o : Option Op) (h : ℕ) (busy : Option Condition) → awaited_by m.units t.unit c.verb o ≡ Some h → Tells label (made_to_wait m t c o h busy)
  waits-tells o h (Some busy) awaits = reply-tells label m t c.resp (plain busy)
  waits-tells o h None awaits = record {
    names = λ holder is.
        let w : Suspended = record { label = t.label; command = c; op = o; since = m.clock } in
        let behind = (suspended m t c o h).machine in
        let same : Waiting (label_of m.tasks h) ≡ Waiting holder = is in
        let told : label_of m.tasks h ≡ holder = cc in
        ap (λ x. option_map (label_of m.tasks) (awaited_of behind x (task_at m.tasks label))) (last-wait m.waiting w label (place_of_task m.tasks label t there).2 awake)
        ∙ ap (λ x. option_map (label_of m.tasks) (awaited_of behind (Some w) x)) there
        ∙ ap (option_map (label_of m.tasks)) awaits
        ∙ ap Some told;
  }

  op-tells : (o : Op) (w : Option ℕ) → awaited_unit m.units t.unit o ≡ w → Tells label (executed m t c o (done_of m.units t.unit o w))
  op-tells o (Some h) awaits = waits-tells (Some o) h _ awaits
  op-tells o None awaits = reply-tells label _ (with_unit t (unit_or_next t.unit m.units.outcomes)) c.resp _

  free-tells : (value : Bytes) (full : Bool) (unit : ℕ) → Tells label (enqueued m t c value (if full then CountFull else Taken unit))
  free-tells value true unit = reply-tells label m t c.resp _
  free-tells value false unit = reply-tells label _ (with_unit t unit) c.resp _

  enq-tells : (value : Bytes) (w : Option ℕ) → awaited_by m.units t.unit c.verb None ≡ w → Tells label (enqueued m t c value (enq_of m.units t.unit value w))
  enq-tells value (Some h) awaits = waits-tells None h _ awaits
  enq-tells value None awaits = free-tells value _ _

  other-tells : (verb : Verb) → c.verb ≡ verb → Tells label (other_command m t c verb)
  other-tells (Enq value n nosuspend) is = enq-tells (take n value) (value_holder m.units t.unit (take n value)) (ap (λ v. awaited_by m.units t.unit v None) is)
  other-tells (StartBr f key given generic equal) is = either-tells label (finds_start (records_in m f) key generic equal) _ m t t c.resp _ _
  other-tells (ResetBr f key given generic equal) is =
      elim (value_at f t.browses) as (λ o. Tells label (reset m t c.resp f key generic equal o)) [
        | None ↦ reply-tells label m t c.resp _
        | Some p ↦ reply-tells label _ t c.resp _
      ]
  other-tells (ReadNext f n) is =
      elim (value_at f t.browses) as (λ o. Tells label (browsed m t c.resp f n o (read_next (records_in m f)) (after_next (records_in m f)))) [
        | None ↦ reply-tells label m t c.resp _
        | Some p ↦ reply-tells label _ t c.resp _
      ]
  other-tells (ReadPrev f n) is =
      elim (value_at f t.browses) as (λ o. Tells label (browsed m t c.resp f n o (read_prev (records_in m f)) (after_prev (records_in m f)))) [
        | None ↦ reply-tells label m t c.resp _
        | Some p ↦ reply-tells label _ t c.resp _
      ]
  other-tells Syncpoint is = record { names = λ holder e. let wrong : Replied (plain Normal) ≡ Waiting holder = e in cc }
  other-tells Rollback is = record { names = λ holder e. let wrong : Replied (plain Normal) ≡ Waiting holder = e in cc }
  other-tells Return is = record { names = λ holder e. let wrong : Ended ≡ Waiting holder = e in cc }
  other-tells (Abend code) is = record { names = λ holder e. let wrong : Abended (code_of code) None ≡ Waiting holder = e in cc }
  other-tells verb is = reply-tells label _ t c.resp _

  by-op-tells : (o : Option Op) → Tells label (by_op m t c o)
  by-op-tells (Some o) = op-tells o (awaited_unit m.units t.unit o) refl
  by-op-tells None = other-tells c.verb refl

  checked-tells : (fault : Option Condition) → Tells label (checked m t c fault)
  checked-tells (Some fault) = reply-tells label m t c.resp (plain fault)
  checked-tells None = by-op-tells (op_of m t c.verb)

-- a step, unless the region is shut down
abbrev unless : Machine → Bool → Stepped (Result Outcome Refused) → Stepped (Result Outcome Refused)
unless m down s = if down then record { outcome = Err RegionDown; machine = m } else s

named : (m : Machine) (label : Bytes) (c : Command) (holder : Bytes) → (unless_down m (issued m label c)).outcome ≡ Ok (Waiting holder)
    → blocker_of (unless_down m (issued m label c)).machine label ≡ Some holder
named m label c holder = up m.is_down
  where
    refusal-named : (t : Task) (refusal : Option Refused) → task_at m.tasks label ≡ Some t → issue_refusal m (Some t) ≡ refusal
        → (refused_or m refusal (checked m t c (fault_of m t c.verb))).outcome ≡ Ok (Waiting holder)
        → blocker_of (refused_or m refusal (checked m t c (fault_of m t c.verb))).machine label ≡ Some holder
    refusal-named t (Some refusal) there refused is = let wrong : Err refusal ≡ Ok (Waiting holder) = is in cc
    refusal-named t None there refused is =
        let s = checked m t c (fault_of m t c.verb) in
        let same : Ok s.outcome ≡ Ok (Waiting holder) = is in
        let told : s.outcome ≡ Waiting holder = cc in
        let awake = ap (is_waiting m.waiting) (sym (place_of_task m.tasks label t there).2) ∙ not_refused t.has_ended (is_waiting m.waiting t.label) refused in
        (checked-tells m label t there awake c (fault_of m t c.verb)).names holder told

    task-named : (o : Option Task) → task_at m.tasks label ≡ o → (issued_by m c o).outcome ≡ Ok (Waiting holder) → blocker_of (issued_by m c o).machine label ≡ Some holder
    task-named None there is = let wrong : Err NoTask ≡ Ok (Waiting holder) = is in cc
    task-named (Some t) there is = refusal-named t (issue_refusal m (Some t)) there refl is

    up : (down : Bool) → (unless m down (issued m label c)).outcome ≡ Ok (Waiting holder) → blocker_of (unless m down (issued m label c)).machine label ≡ Some holder
    up true is = let wrong : Err RegionDown ≡ Ok (Waiting holder) = is in cc
    up false is = task-named (task_at m.tasks label) refl is

-- ---- The row of a wait

-- the first event of the line is its wait, and then come the turns that the region takes
module _ (rows : List Row) (number : ℕ) (stage : Stage) (line : List ℕ) (w : HasToWait rows stage line) where
  abbrev behind : Machine
  behind = (commanded stage w.label w.command).machine

  abbrev wait : Happened
  wait = record { event = issued_event (region_of stage).machine w.label w.command (Waiting w.holder); machine = behind }

  events : (step stage line).events ≡ wait ∷ (drained behind).turns
  events =
      ap (λ r. (followed stage r).events) w.read
      ∙ ap (λ o. let first = happened (region_of stage).machine (subject.Task w.label) (issued_event (region_of stage).machine w.label w.command) o behind in first ∷ (drained first.machine).turns) w.waits

  no-fault : (step stage line).fault ≡ None
  no-fault = ap (λ r. (followed stage r).fault) w.read

  abbrev normal : RowKind
  normal = normal_of (step stage line).asked

  abbrev more : List Told
  more = events_told normal (drained behind).turns ++ []

  told : (recorded number (step stage line)).told ≡ told_of normal wait.event ∷ more
  told =
      line-kept number (step stage line)
      ∙ ap (λ all. events_told normal all ++ faults_told number (step stage line).fault) events
      ∙ ap (λ fault. events_told normal (wait ∷ (drained behind).turns) ++ faults_told number fault) no-fault

  pub blocker-shown : ShowsBlocker rows (rows_of (printed number stage line)) behind w.label
  blocker-shown =
      let r = row number line (told_of normal wait.event) in record {
        first = r;
        rest = rows_from 0 [] more;
        blocker = w.holder;
        begins = ap (rows_from number line) told;
        blocks = named (region_of stage).machine w.label w.command w.holder w.waits;
        from_waiter = refl;
        to_blocker = refl;
        arrow = wait-drawn rows r (record { waits = refl; few = w.few; waiter_attached = w.waiter_attached; awaited_attached = w.holder_attached });
      }
