-- Task control: a command of a task leaves the other tasks' waiting commands as they are, and their
-- open units with what they own.
use Rattle.std.specs.Prelude.{◌≡◌, ◌≢◌, ℕ, Bool, true, false, if◌then◌else◌, ◌&&◌, nat_le, nat_lt, Option, Some, None, [], ◌∷◌, ◌++◌, length, take, refl}
use Rattle.std.proofs.Common.{◌⊎◌, inl, inr, sym, ap, ◌∙◌, subst}
use Rattle.cics_names.specs.Keyed.{Bytes, value_at, without}
use Rattle.cics_names.specs.Conditions.{default_abend_of}
use Rattle.cics_names.specs.declared.conditions.AbendCode.{AbendCode}
use Rattle.cics_names.specs.declared.conditions.Condition.{Condition}
use Rattle.cics_names.specs.declared.conditions.Condition.TheVariants.{Normal, Notfnd}
use Rattle.cics_browse.specs.Positions.{Position, finds_start, start_at, read_next, after_next, read_prev, after_prev, after_reset}
use Rattle.cics_browse.specs.declared.browses.Browsed.{Browsed}
use Rattle.cics_history.specs.Resources.{most_count}
use Rattle.cics_history.specs.Store.{apply}
use Rattle.cics_history.specs.Headline.{outcome_of, is_open}
use Rattle.cics_history.specs.State.{UnitsState}
use Rattle.cics_history.specs.Holding.{store_of, awaited, value_holder}
use Rattle.cics_history.specs.Execution.{unit_or_next, count_at, done_of, state_of, execution, after_execution, enq_of, enqueue, after_enqueued, after_enqueue, after_dequeue, after_unlock, after_ts_reading, item_asked}
use Rattle.cics_history.specs.Events.{is_live, may_act}
use Rattle.cics_history.specs.declared.ops.Answer.{Answer}
use Rattle.cics_history.specs.declared.ops.Op.{Op}
use Rattle.cics_history.specs.declared.ops.Done.{Done}
use Rattle.cics_history.specs.declared.ops.Done.TheVariants.{Answered, MustWait}
use Rattle.cics_history.specs.declared.ops.Enqueued.{Enqueued}
use Rattle.cics_history.specs.declared.ops.Enqueued.TheVariants.{Taken, MustWait as EnqMustWait, CountFull}
use Rattle.cics_history.specs.declared.ops.UnitState.{UnitState}
use Rattle.cics_history.specs.declared.ops.UnitState.TheVariants.{Committed, BackedOut}
use Rattle.cics_dispatch.specs.Machine.Replies.{plain}
use Rattle.cics_dispatch.specs.Machine.Machine.{Machine, Task, task_at, not_waiting, with_task, with_units, with_unit, with_browses, units_after, unit_closed, abended, records_in}
use Rattle.cics_dispatch.specs.Machine.Checks.{fault_of}
use Rattle.cics_dispatch.specs.Machine.Steps.{unhandled, answered, made_to_wait, executed, enqueued, unlocked, dequeued, with_browse, started, reset, browsed, browse_ended, other_command, by_op, op_of, performed, checked}
use Rattle.cics_names.specs.declared.commands.Command.{Command}
use Rattle.cics_names.specs.declared.commands.Verb.{Verb}
use Rattle.cics_names.specs.declared.commands.Verb.TheVariants.{Read, Write, Rewrite, Delete, Unlock, StartBr, ResetBr, ReadNext, ReadPrev, EndBr, WriteqTs, ReadqTs, DeleteqTs, WriteqTd, ReadqTd, DeleteqTd, Enq, Deq, Syncpoint, Rollback, Return, Abend}
use Rattle.cics_dispatch.specs.declared.machine.outcomes.Reply.{Reply}
use Rattle.cics_dispatch.proofs.OfMachine.KeptTasks.{begins_now}
use Rattle.cics_dispatch.proofs.OfMachine.TaskPlaces.{task_at-replaced, replaced_long}
use Rattle.cics_dispatch.specs.Machine.Settled.{IsStarved}
use Rattle.cics_dispatch.proofs.OfMachine.OtherUnits.{LeavesOthers, leaves_all, acting_lives, acting_other, item_read_is, entered_leaves, counted_leaves, dequeued_leaves, unlocked_leaves, item_read_leaves, closed_leaves}
use Rattle.cics_dispatch.proofs.OfMachine.OthersHold.{LeavesHeld, held_all, entered_held, counted_held, dequeued_held, unlocked_held, item_read_held, closed_held}
use Rattle.cics_dispatch.proofs.OfMachine.Starved.{LeavesStarved, starved_all, entered_starved, counted_starved, dequeued_starved, unlocked_starved, item_read_starved, closed_starved}
use Rattle.cics_dispatch.proofs.OfMachine.RegionSteps.{acts_in}

-- a step of the task of a label, in a unit or without one, leaves the clock and the number of tasks.
-- It leaves the tasks of other labels, and the other open units with their update reads and what
-- they own. If its unit is open, it leaves the queues without a record that had none for a reader
pub record LeavesTasks (label : Bytes) (u : Option ℕ) (m n : Machine) : Type 0 where
  pub clock : n.clock ≡ m.clock
  pub count : length n.tasks ≡ length m.tasks
  pub tasks : (x : Bytes) → label ≢ x → task_at n.tasks x ≡ task_at m.tasks x
  pub units : LeavesOthers m.units n.units u
  pub held : LeavesHeld m.units n.units u
  pub starved : may_act m.units u ≡ true → LeavesStarved m.units n.units

-- a task acts in this unit from now on: it is no other task's
pub record ActsIn (m : Machine) (u v : Option ℕ) : Type 0 where
  pub other : (n : ℕ) → is_live m.units n ≡ true → (u ≡ Some n → ⊥) → v ≡ Some n → ⊥

-- the waits after a step of a task: as they were, or with one of the task that begins now, or
-- without the task's
abbrev pub Waits : Bytes → Machine → Machine → Type 0
Waits label m n =
    (n.waiting ≡ m.waiting)
    ⊎ (((c : Command) × (o : Option Op) × (n.waiting ≡ m.waiting ++ begins_now label m c o ∷ []))
    ⊎ (n.waiting ≡ not_waiting m.waiting label))

pub record ActsAlone (label : Bytes) (u : Option ℕ) (m n : Machine) : Type 0 where
  pub others : LeavesTasks label u m n
  pub waits : Waits label m n

-- ---- Steps one after the other

pub leaves_same : (label : Bytes) (u : Option ℕ) (m : Machine) → LeavesTasks label u m m
leaves_same label u m = record { clock = refl; count = refl; tasks = λ x other. refl; units = leaves_all m.units u; held = held_all m.units u; starved = λ active. starved_all m.units }

leaves_then : (label : Bytes) (u v : Option ℕ) (m n k : Machine) → LeavesTasks label u m n → ActsIn m u v → LeavesTasks label v n k →
    (may_act m.units u ≡ true → (own : Option ℕ) (h : ℕ) (q : Bytes) → IsStarved n.units own h q → IsStarved k.units own h q) → LeavesTasks label u m k
leaves_then label u v m n k first acts second after = record {
  clock = second.clock ∙ first.clock;
  count = second.count ∙ first.count;
  tasks = λ x other. second.tasks x other ∙ first.tasks x other;
  units = record {
    opening = second.units.opening ∙ first.units.opening;
    live = λ w other live. second.units.live w (acts.other w live other) (first.units.live w other live);
    reads = λ w f other live. second.units.reads w f (acts.other w live other) (first.units.live w other live) ∙ first.units.reads w f other live;
  };
  held = record {
    held = λ w other live. second.held.held w (acts.other w live other) (first.units.live w other live) ∙ first.held.held w other live;
  };
  starved = λ active. record { starved = λ own h q live is. after active own h q ((first.starved active).starved own h q live is) };
}

pub acts_own : (m : Machine) (u : Option ℕ) → ActsIn m u u
acts_own m u = record { other = λ n live other own. other own }

acts_next : (m : Machine) (u : Option ℕ) (unit : ℕ) → unit_or_next u m.units.outcomes ≡ unit → ActsIn m u (Some unit)
acts_next m u unit is = record {
  other = λ n live other own. let same : unit ≡ n = cc in acting_other m.units u n other live (is ∙ same);
}

-- the units change, and the task of the label is put in its place
leaves_with : (m : Machine) (units : UnitsState) (owner : Task) (u : Option ℕ) → LeavesOthers m.units units u → LeavesHeld m.units units u →
    (may_act m.units u ≡ true → LeavesStarved m.units units) → LeavesTasks owner.label u m (with_task (with_units m units) owner)
leaves_with m units owner u others held starved = record {
  clock = refl;
  count = replaced_long m.tasks owner;
  tasks = λ x other. task_at-replaced m.tasks owner x other;
  units = others;
  held = held;
  starved = starved;
}

-- a browse of the task changes
leaves_browsing : (m : Machine) (owner : Task) (u : Option ℕ) → LeavesTasks owner.label u m (with_task m owner)
leaves_browsing m owner u = leaves_with m m.units owner u (leaves_all m.units u) (held_all m.units u) (λ active. starved_all m.units)

-- only the units change
leaves_units : (label : Bytes) (m : Machine) (units : UnitsState) (u : Option ℕ) → LeavesOthers m.units units u → LeavesHeld m.units units u → LeavesStarved m.units units →
    LeavesTasks label u m (with_units m units)
leaves_units label m units u others held starved = record { clock = refl; count = refl; tasks = λ x other. refl; units = others; held = held; starved = λ active. starved }

-- units with the same outcomes are open as before
active_yet : (s n : UnitsState) (u : Option ℕ) → n.outcomes ≡ s.outcomes → may_act s u ≡ true → may_act n u ≡ true
active_yet s n None same active = refl
active_yet s n (Some u) same active = ap (λ outs. nat_lt u (length outs) && is_open (outcome_of outs u)) same ∙ active

-- ---- Answers

-- an abend
pub abended_leaves : (m : Machine) (t : Task) → LeavesTasks t.label t.unit m (abended m t)
abended_leaves m t = record {
  clock = refl;
  count = replaced_long m.tasks (record t { unit = None; browses = []; has_ended = true });
  tasks = λ x other. task_at-replaced m.tasks (record t { unit = None; browses = []; has_ended = true }) x other;
  units = closed_leaves m.units t.unit BackedOut;
  held = closed_held m.units t.unit BackedOut;
  starved = λ active. record { starved = λ own h q live is. closed_starved m.units t.unit BackedOut active own h q is };
}

-- a task is answered after a step that leaves the waits, or abended; if its unit was open before
-- the step it is so after it
module _ (label : Bytes) (u : Option ℕ) (m n : Machine) (t : Task) (is_label : t.label ≡ label) (first : LeavesTasks label u m n) (acts : ActsIn m u t.unit) (waits : n.waiting ≡ m.waiting)
    (active : may_act m.units u ≡ true → may_act n.units t.unit ≡ true) where
  told : ActsAlone label u m n
  told = record { others = first; waits = inl waits }

  then_abended : ActsAlone label u m (abended n t)
  then_abended = record {
    others = leaves_then label u t.unit m n (abended n t) first acts (subst (λ l. LeavesTasks l t.unit n (abended n t)) is_label (abended_leaves n t))
        (λ acting. closed_starved n.units t.unit BackedOut (active acting));
    waits = inr (inr (λ i. not_waiting (waits i) (is_label i)));
  }

  pub then_answered : (resp : Bool) (r : Reply) → ActsAlone label u m (answered n t resp r).machine
  then_answered true r = told
  then_answered false r = by (default_abend_of r.condition)
    where
      by : (code : Option AbendCode) → ActsAlone label u m (unhandled n t r code).machine
      by None = told
      by (Some code) = then_abended

-- ---- Commands

module _ (m : Machine) (t : Task) where
  -- a task is answered
  pub answered_alone : (resp : Bool) (r : Reply) → ActsAlone t.label t.unit m (answered m t resp r).machine
  answered_alone resp r = then_answered t.label t.unit m m t refl (leaves_same t.label t.unit m) (acts_own m t.unit) refl (λ active. active) resp r

  -- a browse of the task, and an answer
  browse_alone : (f : Bytes) (p : Position) (resp : Bool) (r : Reply) → ActsAlone t.label t.unit m (answered (with_task m (with_browse t f p)) (with_browse t f p) resp r).machine
  browse_alone f p resp r =
      then_answered t.label t.unit m (with_task m (with_browse t f p)) (with_browse t f p) refl (leaves_browsing m (with_browse t f p) t.unit) (acts_own m t.unit) refl (λ active. active) resp r

  started_alone : (resp : Bool) (f key : Bytes) (generic equal : Bool) → ActsAlone t.label t.unit m (started m t resp f key generic equal).machine
  started_alone resp f key generic equal = by (finds_start (records_in m f) key generic equal)
    where
      by : (finds : Bool) →
          ActsAlone t.label t.unit m (if finds then answered (with_task m (with_browse t f (start_at key generic))) (with_browse t f (start_at key generic)) resp (plain Normal) else answered m t resp (plain Notfnd)).machine
      by true = browse_alone f (start_at key generic) resp (plain Normal)
      by false = answered_alone resp (plain Notfnd)

  reset_alone : (resp : Bool) (f key : Bytes) (generic equal : Bool) (browse : Option Position) → ActsAlone t.label t.unit m (reset m t resp f key generic equal browse).machine
  reset_alone resp f key generic equal None = answered_alone resp _
  reset_alone resp f key generic equal (Some p) = browse_alone f (after_reset (records_in m f) p key generic equal) resp _

  browsed_alone : (resp : Bool) (f : Bytes) (n : Option ℕ) (browse : Option Position) (given : Position → Browsed) (after : Position → Position) →
      ActsAlone t.label t.unit m (browsed m t resp f n browse given after).machine
  browsed_alone resp f n None given after = answered_alone resp _
  browsed_alone resp f n (Some p) given after = browse_alone f (after p) resp _

  browse_ended_alone : (resp : Bool) (f : Bytes) → ActsAlone t.label t.unit m (browse_ended m t resp f).machine
  browse_ended_alone resp f =
      let owner = with_browses t (without f t.browses) in
      then_answered t.label t.unit m (with_task m owner) owner refl (leaves_browsing m owner t.unit) (acts_own m t.unit) refl (λ active. active) resp _

  -- the end of the task's unit
  closed_alone : (outcome : UnitState) (has_ended : Bool) → ActsAlone t.label t.unit m (unit_closed m t outcome has_ended)
  closed_alone outcome has_ended = record {
    others = leaves_with m (units_after m.units t.unit outcome) (record t { unit = None; browses = []; has_ended = has_ended }) t.unit (closed_leaves m.units t.unit outcome) (closed_held m.units t.unit outcome)
        (λ active. record { starved = λ own h q live is. closed_starved m.units t.unit outcome active own h q is });
    waits = inl refl;
  }

  abended_alone : ActsAlone t.label t.unit m (abended m t)
  abended_alone = record { others = abended_leaves m t; waits = inr (inr refl) }

  unlocked_alone : (f : Bytes) (resp : Bool) (r : Reply) (o : Option ℕ) → t.unit ≡ o → ActsAlone t.label t.unit m (answered (unlocked m o f) t resp r).machine
  unlocked_alone f resp r None own = answered_alone resp r
  unlocked_alone f resp r (Some u) own =
      then_answered t.label t.unit m (unlocked m (Some u) f) t refl
      (subst (λ o. LeavesTasks t.label o m (unlocked m (Some u) f)) (sym own)
      (leaves_units t.label m (after_unlock m.units u f) (Some u) (unlocked_leaves m.units u f) (unlocked_held m.units u f) (unlocked_starved m.units u f)))
      (acts_own m t.unit) refl (active_yet m.units (after_unlock m.units u f) t.unit refl) resp r

  dequeued_alone : (value : Bytes) (resp : Bool) (r : Reply) (o : Option ℕ) → t.unit ≡ o → ActsAlone t.label t.unit m (answered (dequeued m o value) t resp r).machine
  dequeued_alone value resp r None own = answered_alone resp r
  dequeued_alone value resp r (Some u) own =
      then_answered t.label t.unit m (dequeued m (Some u) value) t refl
      (subst (λ o. LeavesTasks t.label o m (dequeued m (Some u) value)) (sym own)
      (leaves_units t.label m (after_dequeue m.units u value) (Some u) (dequeued_leaves m.units u value) (dequeued_held m.units u value) (dequeued_starved m.units u value)))
      (acts_own m t.unit) refl (active_yet m.units (after_dequeue m.units u value) t.unit refl) resp r

  item_read_alone : (q : Bytes) (item : ℕ) (resp : Bool) (r : Reply) → ActsAlone t.label t.unit m (answered (with_units m (after_ts_reading m.units q item)) t resp r).machine
  item_read_alone q item resp r =
      then_answered t.label t.unit m (with_units m (after_ts_reading m.units q item)) t refl
      (leaves_units t.label m (after_ts_reading m.units q item) t.unit (item_read_leaves m.units t.unit q item) (item_read_held m.units t.unit q item) (item_read_starved m.units q item))
      (acts_own m t.unit) refl (active_yet m.units (after_ts_reading m.units q item) t.unit (item_read_is (λ n. n.outcomes ≡ m.units.outcomes) m.units q item refl refl)) resp r

  -- ENQ that acquires its value acquires it for the task's own unit, or for the one that begins
  pub taken_in : (value : Bytes) (unit : ℕ) (w : Option ℕ) → enq_of m.units t.unit value w ≡ Taken unit → unit_or_next t.unit m.units.outcomes ≡ unit
  taken_in value unit (Some holder) is = cc
  taken_in value unit None is = full (nat_le most_count (count_at m.units.counts (unit_or_next t.unit m.units.outcomes) value)) is
    where
      full : (b : Bool) → (if b then CountFull else Taken (unit_or_next t.unit m.units.outcomes)) ≡ Taken unit → unit_or_next t.unit m.units.outcomes ≡ unit
      full true is = cc
      full false is = cc

  module _ (c : Command) where
    waits_alone : (o : Option Op) (holder : ℕ) (busy : Option Condition) → ActsAlone t.label t.unit m (made_to_wait m t c o holder busy).machine
    waits_alone o holder None = record {
      others = record { clock = refl; count = refl; tasks = λ x other. refl; units = leaves_all m.units t.unit; held = held_all m.units t.unit; starved = λ active. starved_all m.units };
      waits = inr (inl (c, o, refl));
    }
    waits_alone o holder (Some condition) = answered_alone c.resp _

    -- the task's own unit, or the one that begins, has the units' change
    in_unit : (units : UnitsState) (unit : ℕ) → unit_or_next t.unit m.units.outcomes ≡ unit → LeavesOthers m.units units t.unit → LeavesHeld m.units units t.unit → LeavesStarved m.units units →
        (may_act m.units t.unit ≡ true → is_live units unit ≡ true) → (r : Reply) →
        ActsAlone t.label t.unit m (answered (with_task (with_units m units) (with_unit t unit)) (with_unit t unit) c.resp r).machine
    in_unit units unit is others held starved active r =
        then_answered t.label t.unit m (with_task (with_units m units) (with_unit t unit)) (with_unit t unit) refl
        (leaves_with m units (with_unit t unit) t.unit others held (λ acting. starved)) (acts_next m t.unit unit is) refl active c.resp r

    executed_others : (o : Op) (w : Option ℕ) → LeavesOthers m.units (state_of m.units t.unit o w) t.unit
    executed_others o (Some holder) = leaves_all m.units t.unit
    executed_others o None = entered_leaves m.units t.unit o (apply (store_of m.units) o).answer

    executed_held : (o : Op) (w : Option ℕ) → LeavesHeld m.units (state_of m.units t.unit o w) t.unit
    executed_held o (Some holder) = held_all m.units t.unit
    executed_held o None = entered_held m.units t.unit o (apply (store_of m.units) o).answer

    executed_starved : (o : Op) (w : Option ℕ) → awaited m.units t.unit o ≡ w → LeavesStarved m.units (state_of m.units t.unit o w)
    executed_starved o (Some holder) waits = starved_all m.units
    executed_starved o None free = entered_starved m.units t.unit o (apply (store_of m.units) o).answer free

    executed_active : (o : Op) (unit : ℕ) (a : Answer) (w : Option ℕ) → done_of m.units t.unit o w ≡ Answered unit a → may_act m.units t.unit ≡ true → is_live (state_of m.units t.unit o w) unit ≡ true
    executed_active o unit a (Some holder) is active = cc
    executed_active o unit a None is active =
        let same : unit_or_next t.unit m.units.outcomes ≡ unit = cc in
        subst (λ v. is_live (state_of m.units t.unit o None) v ≡ true) same (acting_lives m.units t.unit active)

    executed_alone : (o : Op) → ActsAlone t.label t.unit m (executed m t c o (execution m.units t.unit o)).machine
    executed_alone o = by (execution m.units t.unit o) refl
      where
        by : (d : Done) → execution m.units t.unit o ≡ d → ActsAlone t.label t.unit m (executed m t c o d).machine
        by (MustWait holder) is = waits_alone (Some o) holder _
        by (Answered unit a) is =
            in_unit (after_execution m.units t.unit o) unit (acts_in m.units t.unit o unit a is)
            (executed_others o (awaited m.units t.unit o)) (executed_held o (awaited m.units t.unit o)) (executed_starved o (awaited m.units t.unit o) refl)
            (executed_active o unit a (awaited m.units t.unit o) is) _

    enqueued_alone : (value : Bytes) → ActsAlone t.label t.unit m (enqueued m t c value (enqueue m.units t.unit value)).machine
    enqueued_alone value = by (enqueue m.units t.unit value) refl
      where
        by : (e : Enqueued) → enqueue m.units t.unit value ≡ e → ActsAlone t.label t.unit m (enqueued m t c value e).machine
        by (EnqMustWait holder) is = waits_alone None holder _
        by CountFull is = answered_alone c.resp _
        by (Taken unit) is =
            let same : unit_or_next t.unit m.units.outcomes ≡ unit = taken_in value unit (value_holder m.units t.unit value) is in
            in_unit (after_enqueue m.units t.unit value) unit same
            (subst (λ e. LeavesOthers m.units (after_enqueued m.units t.unit value e) t.unit) (sym is) (counted_leaves m.units t.unit _))
            (subst (λ e. LeavesHeld m.units (after_enqueued m.units t.unit value e) t.unit) (sym is)
            (subst (λ v. LeavesHeld m.units (after_enqueued m.units t.unit value (Taken v)) t.unit) same (counted_held m.units t.unit value)))
            (subst (λ e. LeavesStarved m.units (after_enqueued m.units t.unit value e)) (sym is) (counted_starved m.units t.unit _))
            (λ active. subst (λ e. is_live (after_enqueued m.units t.unit value e) unit ≡ true) (sym is)
            (subst (λ v. is_live (after_enqueued m.units t.unit value (Taken v)) v ≡ true) same (acting_lives m.units t.unit active))) _

    other_alone : (verb : Verb) → ActsAlone t.label t.unit m (other_command m t c verb).machine
    other_alone (Read f key given n generic gteq update) = answered_alone c.resp _
    other_alone (Write f key given from n) = answered_alone c.resp _
    other_alone (Rewrite f from n) = answered_alone c.resp _
    other_alone (Delete f key given generic) = answered_alone c.resp _
    other_alone (Unlock f) = unlocked_alone f c.resp _ t.unit refl
    other_alone (StartBr f key given generic equal) = started_alone c.resp f key generic equal
    other_alone (ResetBr f key given generic equal) = reset_alone c.resp f key generic equal (value_at f t.browses)
    other_alone (ReadNext f n) = browsed_alone c.resp f n (value_at f t.browses) (read_next (records_in m f)) (after_next (records_in m f))
    other_alone (ReadPrev f n) = browsed_alone c.resp f n (value_at f t.browses) (read_prev (records_in m f)) (after_prev (records_in m f))
    other_alone (EndBr f) = browse_ended_alone c.resp f
    other_alone (Enq value n nosuspend) = enqueued_alone (take n value)
    other_alone (Deq value n) = dequeued_alone (take n value) c.resp _ t.unit refl
    other_alone Syncpoint = closed_alone Committed false
    other_alone Rollback = closed_alone BackedOut false
    other_alone Return = closed_alone Committed true
    other_alone (Abend None) = abended_alone
    other_alone (Abend (Some code)) = abended_alone
    other_alone (WriteqTs q from n item) = answered_alone c.resp _
    other_alone (ReadqTs q n item) = item_read_alone q (item_asked m.units q item) c.resp _
    other_alone (DeleteqTs q) = answered_alone c.resp _
    other_alone (WriteqTd q from n) = answered_alone c.resp _
    other_alone (ReadqTd q n nosuspend) = answered_alone c.resp _
    other_alone (DeleteqTd q) = answered_alone c.resp _

    pub by_op_alone : (o : Option Op) → ActsAlone t.label t.unit m (by_op m t c o).machine
    by_op_alone None = other_alone c.verb
    by_op_alone (Some o) = executed_alone o

    -- from the look at what other units own on
    pub performed_alone : ActsAlone t.label t.unit m (performed m t c).machine
    performed_alone = by_op_alone (op_of m t c.verb)

    -- a command is answered by its first fault, or performed
    pub checked_alone : ActsAlone t.label t.unit m (checked m t c (fault_of m t c.verb)).machine
    checked_alone = by (fault_of m t c.verb)
      where
        by : (fault : Option Condition) → ActsAlone t.label t.unit m (checked m t c fault).machine
        by None = performed_alone
        by (Some fault) = answered_alone c.resp _
