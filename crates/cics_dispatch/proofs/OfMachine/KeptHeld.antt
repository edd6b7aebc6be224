-- Task control: a command that releases nothing leaves its task's unit what it owns, if the task
-- isn't abended.
use Rattle.std.specs.Prelude.{◌≡◌, ℕ, Bool, true, false, if◌then◌else◌, Option, Some, None, option_map, take, refl}
use Rattle.std.proofs.Common.{sym, subst}
use Rattle.std.proofs.lemmas.Bool.{false≢true}
use Rattle.cics_names.specs.Keyed.{Bytes, value_at, without}
use Rattle.cics_names.specs.Conditions.{default_abend_of}
use Rattle.cics_names.specs.declared.conditions.AbendCode.{AbendCode}
use Rattle.cics_names.specs.declared.conditions.Condition.{Condition}
use Rattle.cics_names.specs.declared.conditions.Condition.TheVariants.{Normal, Notfnd, Invreq}
use Rattle.cics_browse.specs.Positions.{Position, finds_start, start_at, read_next, after_next, read_prev, after_prev, after_reset, reset_condition}
use Rattle.cics_browse.specs.declared.browses.Browsed.{Browsed}
use Rattle.cics_history.specs.State.{OpeningState, file_recoverable}
use Rattle.cics_history.specs.Store.{apply}
use Rattle.cics_history.specs.Holding.{store_of, awaited, value_holder}
use Rattle.cics_history.specs.Execution.{unit_or_next, state_of, execution, after_execution, enqueue, after_enqueued, after_enqueue, after_ts_reading, item_asked}
use Rattle.cics_history.specs.declared.ops.Op.{Op}
use Rattle.cics_history.specs.declared.ops.Op.TheVariants as op
use Rattle.cics_history.specs.declared.ops.Done.{Done}
use Rattle.cics_history.specs.declared.ops.Done.TheVariants.{Answered, MustWait}
use Rattle.cics_history.specs.declared.ops.Enqueued.{Enqueued}
use Rattle.cics_history.specs.declared.ops.Enqueued.TheVariants.{Taken, MustWait as EnqMustWait, CountFull}
use Rattle.cics_dispatch.specs.Machine.Lengths.{used_of}
use Rattle.cics_dispatch.specs.Machine.Replies.{plain}
use Rattle.cics_dispatch.specs.Machine.Machine.{Machine, Task, with_task, with_units, with_unit, with_browses, records_in}
use Rattle.cics_dispatch.specs.Machine.Checks.{open_key, fault_of}
use Rattle.cics_dispatch.specs.Machine.Steps.{unhandled, answered, made_to_wait, executed, enqueued, unlocked, with_browse, started, reset, browsed, other_command, by_op, op_of, checked}
use Rattle.cics_dispatch.specs.Machine.Settled.{is_keeping, goes_on}
use Rattle.cics_names.specs.declared.commands.Command.{Command}
use Rattle.cics_names.specs.declared.commands.Verb.{Verb}
use Rattle.cics_names.specs.declared.commands.Verb.TheVariants.{Read, Write, Rewrite, Delete, Unlock, StartBr, ResetBr, ReadNext, ReadPrev, EndBr, WriteqTs, ReadqTs, DeleteqTs, WriteqTd, ReadqTd, DeleteqTd, Enq}
use Rattle.cics_dispatch.specs.declared.machine.outcomes.Reply.{Reply}
use Rattle.cics_dispatch.proofs.OfMachine.KeepsOwn.{Keeps, keeps_same, gives_up_nothing, entered_keeps, counted_keeps, unlocked_keeps, item_read_keeps}
use Rattle.cics_dispatch.proofs.OfMachine.ActsAlone.{taken_in}

-- ---- Answers

-- a task that is answered and goes on leaves the region as it was
told_same : (n : Machine) (t : Task) (resp : Bool) (r : Reply) → goes_on (answered n t resp r).outcome ≡ true → (answered n t resp r).machine ≡ n
told_same n t true r goes = refl
told_same n t false r goes = by (default_abend_of r.condition) goes
  where
    by : (code : Option AbendCode) → goes_on (unhandled n t r code).outcome ≡ true → (unhandled n t r code).machine ≡ n
    by None goes = refl
    by (Some code) goes = absurd (false≢true goes)

-- so its unit owns what it owns there
told_keeps : (m n : Machine) (t : Task) (v : ℕ) (resp : Bool) (r : Reply) → Keeps m.units n.units v → goes_on (answered n t resp r).outcome ≡ true →
    Keeps m.units (answered n t resp r).machine.units v
told_keeps m n t v resp r keeps goes = subst (λ x. Keeps m.units x.units v) (sym (told_same n t resp r goes)) keeps

-- ---- The updating command that is asked for

-- it releases nothing either
keeping_op : (m : Machine) (t : Task) (o : OpeningState) (verb : Verb) (c : Op) → is_keeping o verb ≡ true → op_of m t verb ≡ Some c → gives_up_nothing o c ≡ true
keeping_op m t o (Read f key given n generic gteq false) c keeps is = cc
keeping_op m t o (Read f key given n generic gteq true) c keeps is = let e : op.ReadUpdate f key ≡ c = cc in subst (λ c. gives_up_nothing o c ≡ true) e refl
keeping_op m t o (Write f key given from n) c keeps is = let e : op.Write f key (used_of from n) ≡ c = cc in subst (λ c. gives_up_nothing o c ≡ true) e refl
keeping_op m t o (Rewrite f from n) c keeps is = of (open_key m t f) is where
  of : (k : Option Bytes) → option_map (λ key. op.Rewrite f key (used_of from n)) k ≡ Some c → gives_up_nothing o c ≡ true
  of None is = cc
  of (Some k) is = let e : op.Rewrite f k (used_of from n) ≡ c = cc in subst (λ c. gives_up_nothing o c ≡ true) e keeps
keeping_op m t o (Delete f (Some key) given false) c keeps is = let e : op.Delete f key ≡ c = cc in subst (λ c. gives_up_nothing o c ≡ true) e keeps
keeping_op m t o (Delete f (Some key) given true) c keeps is = let e : op.DeleteGeneric f key ≡ c = cc in subst (λ c. gives_up_nothing o c ≡ true) e keeps
keeping_op m t o (Delete f None given generic) c keeps is = of (open_key m t f) is where
  of : (k : Option Bytes) → option_map (λ key. op.Delete f key) k ≡ Some c → gives_up_nothing o c ≡ true
  of None is = cc
  of (Some k) is = let e : op.Delete f k ≡ c = cc in subst (λ c. gives_up_nothing o c ≡ true) e keeps
keeping_op m t o (Unlock f) c keeps is = cc
keeping_op m t o (StartBr f key given generic equal) c keeps is = cc
keeping_op m t o (ResetBr f key given generic equal) c keeps is = cc
keeping_op m t o (ReadNext f n) c keeps is = cc
keeping_op m t o (ReadPrev f n) c keeps is = cc
keeping_op m t o (EndBr f) c keeps is = cc
keeping_op m t o (WriteqTs q from n None) c keeps is = let e : op.TsWrite q (used_of from n) ≡ c = cc in subst (λ c. gives_up_nothing o c ≡ true) e refl
keeping_op m t o (WriteqTs q from n (Some item)) c keeps is = let e : op.TsRewrite q item (used_of from n) ≡ c = cc in subst (λ c. gives_up_nothing o c ≡ true) e refl
keeping_op m t o (ReadqTs q n item) c keeps is = cc
keeping_op m t o (DeleteqTs q) c keeps is = let e : op.TsDelete q ≡ c = cc in subst (λ c. gives_up_nothing o c ≡ true) e refl
keeping_op m t o (WriteqTd q from n) c keeps is = let e : op.TdWrite q (used_of from n) ≡ c = cc in subst (λ c. gives_up_nothing o c ≡ true) e refl
keeping_op m t o (ReadqTd q n nosuspend) c keeps is = let e : op.TdRead q ≡ c = cc in subst (λ c. gives_up_nothing o c ≡ true) e refl
keeping_op m t o (DeleteqTd q) c keeps is = let e : op.TdDelete q ≡ c = cc in subst (λ c. gives_up_nothing o c ≡ true) e refl
keeping_op m t o (Enq value n nosuspend) c keeps is = cc
keeping_op m t o verb c keeps is = absurd (false≢true keeps)

-- ---- Commands

module _ (m : Machine) (t : Task) (v : ℕ) where
  answered_keeps : (resp : Bool) (r : Reply) → goes_on (answered m t resp r).outcome ≡ true → Keeps m.units (answered m t resp r).machine.units v
  answered_keeps resp r goes = told_keeps m m t v resp r (keeps_same m.units v) goes

  browse_keeps : (f : Bytes) (p : Position) (resp : Bool) (r : Reply) → goes_on (answered (with_task m (with_browse t f p)) (with_browse t f p) resp r).outcome ≡ true →
      Keeps m.units (answered (with_task m (with_browse t f p)) (with_browse t f p) resp r).machine.units v
  browse_keeps f p resp r goes = told_keeps m (with_task m (with_browse t f p)) (with_browse t f p) v resp r (keeps_same m.units v) goes

  started_keeps : (resp : Bool) (f key : Bytes) (generic equal : Bool) → goes_on (started m t resp f key generic equal).outcome ≡ true → Keeps m.units (started m t resp f key generic equal).machine.units v
  started_keeps resp f key generic equal goes = by (finds_start (records_in m f) key generic equal) goes
    where
      by : (finds : Bool) →
          goes_on (if finds then answered (with_task m (with_browse t f (start_at key generic))) (with_browse t f (start_at key generic)) resp (plain Normal) else answered m t resp (plain Notfnd)).outcome ≡ true →
          Keeps m.units (if finds then answered (with_task m (with_browse t f (start_at key generic))) (with_browse t f (start_at key generic)) resp (plain Normal) else answered m t resp (plain Notfnd)).machine.units v
      by true goes = browse_keeps f (start_at key generic) resp (plain Normal) goes
      by false goes = answered_keeps resp (plain Notfnd) goes

  reset_keeps : (resp : Bool) (f key : Bytes) (generic equal : Bool) (browse : Option Position) → goes_on (reset m t resp f key generic equal browse).outcome ≡ true →
      Keeps m.units (reset m t resp f key generic equal browse).machine.units v
  reset_keeps resp f key generic equal None goes = answered_keeps resp (plain Invreq) goes
  reset_keeps resp f key generic equal (Some p) goes =
      browse_keeps f (after_reset (records_in m f) p key generic equal) resp (plain (reset_condition (records_in m f) key generic equal)) goes

  browsed_keeps : (resp : Bool) (f : Bytes) (n : Option ℕ) (browse : Option Position) (given : Position → Browsed) (after : Position → Position) →
      goes_on (browsed m t resp f n browse given after).outcome ≡ true → Keeps m.units (browsed m t resp f n browse given after).machine.units v
  browsed_keeps resp f n None given after goes = answered_keeps resp (plain Invreq) goes
  browsed_keeps resp f n (Some p) given after goes = browse_keeps f (after p) resp _ goes

  unlocked_told : (f : Bytes) (resp : Bool) (r : Reply) → file_recoverable m.units.opening f ≡ true → (o : Option ℕ) → goes_on (answered (unlocked m o f) t resp r).outcome ≡ true →
      Keeps m.units (answered (unlocked m o f) t resp r).machine.units v
  unlocked_told f resp r recoverable None goes = answered_keeps resp r goes
  unlocked_told f resp r recoverable (Some u) goes = told_keeps m (unlocked m (Some u) f) t v resp r (unlocked_keeps m.units u v f recoverable) goes

  module _ (c : Command) where
    waits_keeps : (o : Option Op) (holder : ℕ) (busy : Option Condition) → goes_on (made_to_wait m t c o holder busy).outcome ≡ true → Keeps m.units (made_to_wait m t c o holder busy).machine.units v
    waits_keeps o holder None goes = keeps_same m.units v
    waits_keeps o holder (Some condition) goes = answered_keeps c.resp (plain condition) goes

    state_keeps : (o : Op) (w : Option ℕ) → gives_up_nothing m.units.opening o ≡ true → Keeps m.units (state_of m.units t.unit o w) v
    state_keeps o (Some holder) keeps = keeps_same m.units v
    state_keeps o None keeps = entered_keeps m.units t.unit v o (apply (store_of m.units) o).answer keeps

    executed_keeps : (o : Op) → gives_up_nothing m.units.opening o ≡ true → (d : Done) → goes_on (executed m t c o d).outcome ≡ true → Keeps m.units (executed m t c o d).machine.units v
    executed_keeps o keeps (MustWait holder) goes = waits_keeps (Some o) holder _ goes
    executed_keeps o keeps (Answered unit a) goes =
        told_keeps m (with_task (with_units m (after_execution m.units t.unit o)) (with_unit t unit)) (with_unit t unit) v c.resp _ (state_keeps o (awaited m.units t.unit o) keeps) goes

    enqueued_told : (value : Bytes) → goes_on (enqueued m t c value (enqueue m.units t.unit value)).outcome ≡ true → Keeps m.units (enqueued m t c value (enqueue m.units t.unit value)).machine.units v
    enqueued_told value = by (enqueue m.units t.unit value) refl
      where
        by : (e : Enqueued) → enqueue m.units t.unit value ≡ e → goes_on (enqueued m t c value e).outcome ≡ true → Keeps m.units (enqueued m t c value e).machine.units v
        by (EnqMustWait holder) is goes = waits_keeps None holder _ goes
        by CountFull is goes = answered_keeps c.resp (plain Invreq) goes
        by (Taken unit) is goes =
            let same : unit_or_next t.unit m.units.outcomes ≡ unit = taken_in m t value unit (value_holder m.units t.unit value) is in
            told_keeps m (with_task (with_units m (after_enqueue m.units t.unit value)) (with_unit t unit)) (with_unit t unit) v c.resp (plain Normal)
            (subst (λ e. Keeps m.units (after_enqueued m.units t.unit value e) v) (sym is)
            (subst (λ u. Keeps m.units (after_enqueued m.units t.unit value (Taken u)) v) same (counted_keeps m.units t.unit v value))) goes

    other_keeps : (verb : Verb) → is_keeping m.units.opening verb ≡ true → goes_on (other_command m t c verb).outcome ≡ true → Keeps m.units (other_command m t c verb).machine.units v
    other_keeps (Read f key given n generic gteq update) keeps goes = answered_keeps c.resp _ goes
    other_keeps (Write f key given from n) keeps goes = answered_keeps c.resp _ goes
    other_keeps (Rewrite f from n) keeps goes = answered_keeps c.resp _ goes
    other_keeps (Delete f key given generic) keeps goes = answered_keeps c.resp _ goes
    other_keeps (Unlock f) keeps goes = unlocked_told f c.resp (plain Normal) keeps t.unit goes
    other_keeps (StartBr f key given generic equal) keeps goes = started_keeps c.resp f key generic equal goes
    other_keeps (ResetBr f key given generic equal) keeps goes = reset_keeps c.resp f key generic equal (value_at f t.browses) goes
    other_keeps (ReadNext f n) keeps goes = browsed_keeps c.resp f n (value_at f t.browses) (read_next (records_in m f)) (after_next (records_in m f)) goes
    other_keeps (ReadPrev f n) keeps goes = browsed_keeps c.resp f n (value_at f t.browses) (read_prev (records_in m f)) (after_prev (records_in m f)) goes
    other_keeps (EndBr f) keeps goes =
        told_keeps m (with_task m (with_browses t (without f t.browses))) (with_browses t (without f t.browses)) v c.resp (plain Normal) (keeps_same m.units v) goes
    other_keeps (WriteqTs q from n item) keeps goes = answered_keeps c.resp _ goes
    other_keeps (ReadqTs q n item) keeps goes =
        let asked = item_asked m.units q item in
        told_keeps m (with_units m (after_ts_reading m.units q asked)) t v c.resp _ (item_read_keeps m.units v q asked) goes
    other_keeps (DeleteqTs q) keeps goes = answered_keeps c.resp _ goes
    other_keeps (WriteqTd q from n) keeps goes = answered_keeps c.resp _ goes
    other_keeps (ReadqTd q n nosuspend) keeps goes = answered_keeps c.resp _ goes
    other_keeps (DeleteqTd q) keeps goes = answered_keeps c.resp _ goes
    other_keeps (Enq value n nosuspend) keeps goes = enqueued_told (take n value) goes
    other_keeps verb keeps goes = absurd (false≢true keeps)

    by_op_keeps : (o : Option Op) → op_of m t c.verb ≡ o → is_keeping m.units.opening c.verb ≡ true → goes_on (by_op m t c o).outcome ≡ true → Keeps m.units (by_op m t c o).machine.units v
    by_op_keeps None is keeps goes = other_keeps c.verb keeps goes
    by_op_keeps (Some o) is keeps goes = executed_keeps o (keeping_op m t m.units.opening c.verb o keeps is) (execution m.units t.unit o) goes

    -- a command that releases nothing, after which its task goes on
    pub checked_keeps : is_keeping m.units.opening c.verb ≡ true → goes_on (checked m t c (fault_of m t c.verb)).outcome ≡ true → Keeps m.units (checked m t c (fault_of m t c.verb)).machine.units v
    checked_keeps keeps = by (fault_of m t c.verb)
      where
        by : (fault : Option Condition) → goes_on (checked m t c fault).outcome ≡ true → Keeps m.units (checked m t c fault).machine.units v
        by None goes = by_op_keeps (op_of m t c.verb) refl keeps goes
        by (Some fault) goes = answered_keeps c.resp (plain fault) goes
