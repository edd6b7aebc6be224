-- What a command does to a machine: its units change, a task is put in the place of that of its
-- label, and a command begins to wait or waits no more. What all these keep, each command keeps.
use Rattle.std.proofs.Common.{◌≡◌, ℕ, Bool, true, false, [], ◌∷◌, ◌++◌, take, Option, None, Some, refl}
use Rattle.std.specs.Prelude.{if◌then◌else◌}
use Rattle.cics_names.specs.Keyed.{Bytes, value_at, without}
use Rattle.cics_names.specs.Conditions.{default_abend_of}
use Rattle.cics_names.specs.declared.conditions.AbendCode.{AbendCode}
use Rattle.cics_names.specs.declared.conditions.Condition.{Condition}
use Rattle.cics_names.specs.declared.conditions.Condition.TheVariants.{Normal, Notfnd, Invreq}
use Rattle.cics_names.specs.declared.commands.Command.{Command}
use Rattle.cics_names.specs.declared.commands.Verb.{Verb}
use Rattle.cics_names.specs.declared.commands.Verb.TheVariants.{Read, Unlock, StartBr, ResetBr, ReadNext, ReadPrev, EndBr, ReadqTs, Enq, Deq, Syncpoint, Rollback, Return, Abend}
use Rattle.cics_browse.specs.Positions.{Position, finds_start, start_at, read_next, after_next, read_prev, after_prev, reset_condition, after_reset}
use Rattle.cics_browse.specs.declared.browses.Browsed.{Browsed}
use Rattle.cics_history.specs.Execution.{execution, state_of, after_execution, enqueue, after_enqueued, after_enqueue, ts_reading, after_ts_reading, item_asked}
use Rattle.cics_history.specs.State.{UnitsState}
use Rattle.cics_history.specs.Holding.{awaited}
use Rattle.cics_history.specs.declared.ops.UnitState.{UnitState}
use Rattle.cics_history.specs.declared.ops.UnitState.TheVariants.{Committed, BackedOut}
use Rattle.cics_history.specs.declared.ops.Op.{Op}
use Rattle.cics_history.specs.declared.ops.Done.{Done}
use Rattle.cics_history.specs.declared.ops.Done.TheVariants.{Answered, MustWait}
use Rattle.cics_history.specs.declared.ops.Enqueued.{Enqueued}
use Rattle.cics_history.specs.declared.ops.Enqueued.TheVariants.{Taken, MustWait as EnqMustWait, CountFull}
use Rattle.cics_dispatch.specs.Machine.Machine.{Machine, Task, Suspended, task_at, not_waiting, with_units, with_task, with_waiting, with_unit, with_browses, units_after, unit_closed, abended, records_in}
use Rattle.cics_dispatch.specs.Machine.Replies.{plain, cut, read_reply}
use Rattle.cics_dispatch.specs.Machine.Steps.{unhandled, answered, reply_of, busy_of, made_to_wait, executed, enqueued, unlocked, units_dequeued, browse_reply, with_browse, started, reset, browsed, other_command, by_op, op_of, checked}
use Rattle.cics_dispatch.specs.Machine.Waking.{first_free, went_on, woken_first, woken, first_late, expired_task, expired}
use Rattle.cics_dispatch.specs.declared.machine.outcomes.Reply.{Reply}
use Rattle.cics_dispatch.proofs.OfMachine.OtherUnits.{item_read_is}

-- ---- Openings

executed_opening : (s : UnitsState) (u : Option ℕ) (op : Op) (h : Option ℕ) → (state_of s u op h).opening ≡ s.opening
executed_opening s u op None = refl
executed_opening s u op (Some blocker) = refl

enqueued_opening : (s : UnitsState) (u : Option ℕ) (value : Bytes) (d : Enqueued) → (after_enqueued s u value d).opening ≡ s.opening
enqueued_opening s u value (Taken unit) = refl
enqueued_opening s u value (EnqMustWait blocker) = refl
enqueued_opening s u value CountFull = refl

dequeued_opening : (s : UnitsState) (u : Option ℕ) (value : Bytes) → (units_dequeued s u value).opening ≡ s.opening
dequeued_opening s None value = refl
dequeued_opening s (Some u) value = refl

closed_opening : (s : UnitsState) (u : Option ℕ) (state : UnitState) → (units_after s u state).opening ≡ s.opening
closed_opening s None state = refl
closed_opening s (Some u) state = refl

-- ---- What holds in any case

-- it stays if the units change but not their opening, if a task is put in its place, and if a
-- command waits no more
pub record IsKept (P : Machine → Type 0) : Type 0 where
  pub units : (m : Machine) (us : UnitsState) → us.opening ≡ m.units.opening → P m → P (with_units m us)
  pub task : (m : Machine) (t : Task) → P m → P (with_task m t)
  pub ends : (m : Machine) (label : Bytes) → P m → P (with_waiting m (not_waiting m.waiting label))

-- it stays if a command of a task begins to wait
abbrev pub Waits : (Machine → Type 0) → Bytes → Command → Type 0
Waits P label c = (m : Machine) (w : Suspended) → w.label ≡ label → w.command ≡ c → P m → P (with_waiting m (m.waiting ++ w ∷ []))

module _ (P : Machine → Type 0) (kept : IsKept P) where
  -- a unit ends
  pub closes : (m : Machine) (t : Task) (state : UnitState) (ends : Bool) → P m → P (unit_closed m t state ends)
  closes m t state ends all =
      kept.task (with_units m (units_after m.units t.unit state)) (record t { unit = None; browses = []; has_ended = ends })
      (kept.units m (units_after m.units t.unit state) (closed_opening m.units t.unit state) all)

  abends : (m : Machine) (t : Task) → P m → P (abended m t)
  abends m t all = kept.ends (unit_closed m t BackedOut true) t.label (closes m t BackedOut true all)

  module _ (m : Machine) (t : Task) (c : Command) (waits : Waits P t.label c) (all : P m) where
    answers : (n : Machine) (u : Task) (resp : Bool) (r : Reply) → P n → P (answered n u resp r).machine
    answers n u true r so = so
    answers n u false r so = by (default_abend_of r.condition)
      where
        by : (code : Option AbendCode) → P (unhandled n u r code).machine
        by None = so
        by (Some code) = abends n u so

    told : (r : Reply) → P (answered m t c.resp r).machine
    told r = answers m t c.resp r all

    moved : (us : UnitsState) (u : Task) (r : Reply) → us.opening ≡ m.units.opening → P (answered (with_units m us) u c.resp r).machine
    moved us u r same = answers (with_units m us) u c.resp r (kept.units m us same all)

    placed : (us : UnitsState) (u : Task) (r : Reply) → us.opening ≡ m.units.opening → P (answered (with_task (with_units m us) u) u c.resp r).machine
    placed us u r same = answers (with_task (with_units m us) u) u c.resp r (kept.task (with_units m us) u (kept.units m us same all))

    puts : (u : Task) (r : Reply) → P (answered (with_task m u) u c.resp r).machine
    puts u r = answers (with_task m u) u c.resp r (kept.task m u all)

    suspends : (o : Option Op) (blocker : ℕ) (busy : Option Condition) → P (made_to_wait m t c o blocker busy).machine
    suspends o blocker None = waits m (record { label = t.label; command = c; op = o; since = m.clock }) refl refl all
    suspends o blocker (Some busy) = told (plain busy)

    executes : (o : Op) (d : Done) → P (executed m t c o d).machine
    executes o (MustWait blocker) = suspends (Some o) blocker (busy_of c.verb)
    executes o (Answered unit a) =
        placed (after_execution m.units t.unit o) (with_unit t unit) (reply_of c.verb a) (executed_opening m.units t.unit o (awaited m.units t.unit o))

    enqueues : (value : Bytes) (d : Enqueued) → P (enqueued m t c value d).machine
    enqueues value (EnqMustWait blocker) = suspends None blocker (busy_of c.verb)
    enqueues value CountFull = told (plain Invreq)
    enqueues value (Taken unit) =
        placed (after_enqueue m.units t.unit value) (with_unit t unit) (plain Normal) (enqueued_opening m.units t.unit value (enqueue m.units t.unit value))

    unlocks : (f : Bytes) (o : Option ℕ) → P (answered (unlocked m o f) t c.resp (plain Normal)).machine
    unlocks f None = told (plain Normal)
    unlocks f (Some u) = moved ((unlocked m (Some u) f).units) t (plain Normal) refl

    starts : (f key : Bytes) (generic equal : Bool) → P (started m t c.resp f key generic equal).machine
    starts f key generic equal = by (finds_start (records_in m f) key generic equal)
      where
        by : (finds : Bool) → P (if finds then answered (with_task m (with_browse t f (start_at key generic))) (with_browse t f (start_at key generic)) c.resp (plain Normal) else answered m t c.resp (plain Notfnd)).machine
        by true = puts (with_browse t f (start_at key generic)) (plain Normal)
        by false = told (plain Notfnd)

    resets : (f key : Bytes) (generic equal : Bool) (o : Option Position) → P (reset m t c.resp f key generic equal o).machine
    resets f key generic equal None = told (plain Invreq)
    resets f key generic equal (Some p) = puts (with_browse t f (after_reset (records_in m f) p key generic equal)) (plain (reset_condition (records_in m f) key generic equal))

    reads_on : (f : Bytes) (n : Option ℕ) (o : Option Position) (given : Position → Browsed) (after : Position → Position) → P (browsed m t c.resp f n o given after).machine
    reads_on f n None given after = told (plain Invreq)
    reads_on f n (Some p) given after = puts (with_browse t f (after p)) (cut n (browse_reply (given p)))

    other : (verb : Verb) → P (other_command m t c verb).machine
    other (Read f key given n generic gteq update) = told (cut n (read_reply (records_in m f) key generic gteq))
    other (Unlock f) = unlocks f t.unit
    other (StartBr f key given generic equal) = starts f key generic equal
    other (ResetBr f key given generic equal) = resets f key generic equal (value_at f t.browses)
    other (ReadNext f n) = reads_on f n (value_at f t.browses) (read_next (records_in m f)) (after_next (records_in m f))
    other (ReadPrev f n) = reads_on f n (value_at f t.browses) (read_prev (records_in m f)) (after_prev (records_in m f))
    other (EndBr f) = puts (with_browses t (without f t.browses)) (plain Normal)
    other (ReadqTs q n item) =
        moved (after_ts_reading m.units q (item_asked m.units q item)) t (reply_of (ReadqTs q n (Some (item_asked m.units q item))) (ts_reading m.units q (item_asked m.units q item)))
        (item_read_is (λ s. s.opening ≡ m.units.opening) m.units q (item_asked m.units q item) refl refl)
    other (Enq value n nosuspend) = enqueues (take n value) (enqueue m.units t.unit (take n value))
    other (Deq value n) = moved (units_dequeued m.units t.unit (take n value)) t (plain Normal) (dequeued_opening m.units t.unit (take n value))
    other Syncpoint = closes m t Committed false all
    other Rollback = closes m t BackedOut false all
    other Return = closes m t Committed true all
    other (Abend code) = abends m t all
    other verb = told (plain Invreq)

    by_op_keeps : (o : Option Op) → P (by_op m t c o).machine
    by_op_keeps (Some o) = executes o (execution m.units t.unit o)
    by_op_keeps None = other c.verb

    -- a command of a task is answered, or waits
    pub checked_keeps : (fault : Option Condition) → P (checked m t c fault).machine
    checked_keeps None = by_op_keeps (op_of m t c.verb)
    checked_keeps (Some fault) = told (plain fault)

  -- a waiting command resumes
  pub woken_keeps : (m : Machine) → ((w : Suspended) (t : Task) → first_free m m.waiting ≡ Some w → task_at m.tasks w.label ≡ Some t → Waits P t.label w.command) → P m → P (woken m).machine
  woken_keeps m waits all = by (first_free m m.waiting) refl
    where
      more : (w : Suspended) → first_free m m.waiting ≡ Some w → (o : Option Task) → task_at m.tasks w.label ≡ o → P (went_on m w o).machine
      more w is None at = all
      more w is (Some t) at = by_op_keeps (with_waiting m (not_waiting m.waiting w.label)) t w.command (waits w t is at) (kept.ends m w.label all) w.op

      by : (o : Option Suspended) → first_free m m.waiting ≡ o → P (woken_first m o).machine
      by None is = all
      by (Some w) is = more w is (task_at m.tasks w.label) refl

  -- a task has waited too long
  pub expired_keeps : (m : Machine) → P m → P (expired m).machine
  expired_keeps m all = by (first_late m m.waiting)
    where
      by : (o : Option Task) → P (expired_task m o).machine
      by None = all
      by (Some t) = abends m t all
