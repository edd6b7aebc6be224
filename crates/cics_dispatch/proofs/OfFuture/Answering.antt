-- Each command of a task is answered the same in two regions that are alike, and leaves them alike.
use Rattle.std.proofs.Common.{◌≡◌, ℕ, Bool, true, false, Option, Some, None, [], ◌∷◌, ◌++◌, inl, inr, refl, ap, sym, ◌∙◌, subst}
use Rattle.std.specs.Prelude.{if◌then◌else◌, take, nat_le}
use Rattle.std.proofs.lemmas.Bool.{cases_Bool}
use Rattle.cics_names.specs.Commands.{file_named}
use Rattle.cics_names.specs.Keyed.{Bytes, Map, value_at, with_value, without}
use Rattle.cics_names.specs.Conditions.{default_abend_of}
use Rattle.cics_names.specs.declared.commands.Command.{Command}
use Rattle.cics_names.specs.declared.commands.Verb.{Verb}
use Rattle.cics_names.specs.declared.commands.Verb.TheVariants.{Read, Unlock, StartBr, ResetBr, ReadNext, ReadPrev, EndBr, ReadqTs, WriteqTd, ReadqTd, DeleteqTd, Enq, Deq, Syncpoint, Rollback, Return, Abend}
use Rattle.cics_names.specs.declared.conditions.AbendCode.{AbendCode}
use Rattle.cics_names.specs.declared.conditions.Condition.{Condition}
use Rattle.cics_names.specs.declared.conditions.Condition.TheVariants.{Normal, Notfnd, Invreq}
use Rattle.cics_browse.specs.Positions.{Position, finds_start, start_at, read_next, after_next, read_prev, after_prev, reset_condition, after_reset}
use Rattle.cics_browse.specs.declared.browses.Browsed.{Browsed}
use Rattle.cics_history.specs.Resources.{most_count}
use Rattle.cics_history.specs.Store.{apply}
use Rattle.cics_history.specs.Holding.{store_of, awaited, value_holder, own_value}
use Rattle.cics_history.specs.Execution.{unit_or_next, read_at, done_of, execution, count_at, enq_of, enqueue, item_asked, ts_reading}
use Rattle.cics_history.specs.declared.ops.Op.{Op}
use Rattle.cics_history.specs.declared.ops.Enqueued.TheVariants.{Taken, CountFull}
use Rattle.cics_history.specs.declared.ops.UnitState.TheVariants.{Committed, BackedOut}
use Rattle.cics_dispatch.specs.Machine.Machine.{Machine, Task, label_of, records_in, with_task, with_browses}
use Rattle.cics_dispatch.specs.Machine.Replies.{plain, cut, read_reply}
use Rattle.cics_dispatch.specs.Machine.Checks.{open_key, named_reason, reason_of, fault_of}
use Rattle.cics_dispatch.specs.Machine.Steps.{unhandled, answered, reply_of, busy_of, made_to_wait, key_read, asked_op, op_of, executed, enqueued, browse_reply, with_browse, started, reset, browsed, ts_read, other_command, by_op, checked}
use Rattle.cics_dispatch.specs.declared.machine.outcomes.Outcome.TheVariants.{Waiting}
use Rattle.cics_dispatch.specs.declared.machine.outcomes.Reply.{Reply}
use Rattle.cics_dispatch.specs.Future.Futures.{Own, HaveSameFuture, AreSameSteps}
use Rattle.cics_dispatch.proofs.OfFuture.Owning.{read_told, count_told}
use Rattle.cics_dispatch.proofs.OfFuture.Labels.{AreActing, both, same_label, own_acting}
use Rattle.cics_dispatch.proofs.OfFuture.Blocking.{same_blocker, same_awaited}
use Rattle.cics_dispatch.proofs.OfFuture.Acting.{same_store_now, same_waits, acting_executed, acting_enqueued, acting_browses, acting_unlocked, acting_dequeued, acting_item_read, same_closed, same_abended}

pub same_answered : (m n : Machine) (t u : Task) → AreActing m n t u → (resp : Bool) (r q : Reply) → r ≡ q → AreSameSteps (answered m t resp r) (answered n u resp q)
same_answered m n t u acting true r q is = record { outcome = rw is refl; machine = acting.same }
same_answered m n t u acting false r q is = rw is (by (default_abend_of q.condition))
  where
    by : (code : Option AbendCode) → AreSameSteps (unhandled m t q code) (unhandled n u q code)
    by None = record { outcome = refl; machine = acting.same }
    by (Some code) = record { outcome = refl; machine = same_abended m n t u acting }

module _ (m n : Machine) (t u : Task) (acting : AreActing m n t u) where
  same : HaveSameFuture m n
  same = acting.same

  stores : store_of m.units ≡ store_of n.units
  stores = same_store_now m n same

  browses : t.browses ≡ u.browses
  browses = ap (λ (x : Task). x.browses) acting.bare

  label : t.label ≡ u.label
  label = same_label t u acting.bare

  -- ---- The first check that fails, and what is asked for

  same_key : (f : Bytes) → open_key m t f ≡ open_key n u f
  same_key f =
      read_told m.units t.unit f ∙ (ap (λ (x : Own). read_at x.reads 0 f) (own_acting m n t u acting) ∙ sym (read_told n.units u.unit f))

  pub same_reason : (verb : Verb) → reason_of m t verb ≡ reason_of n u verb
  same_reason verb = by (file_named verb)
    where
      by : (o : Option Bytes) → named_reason m t verb o ≡ named_reason n u verb o
      by (Some f) = rw (same.alike.opening, same_key f, browses) refl
      by None = other verb
        where
          other : (verb : Verb) → named_reason m t verb None ≡ named_reason n u verb None
          other (WriteqTd q from k) = rw same.alike.opening refl
          other (ReadqTd q k nosuspend) = rw same.alike.opening refl
          other (DeleteqTd q) = rw same.alike.opening refl
          other _ = refl

  same_op : (verb : Verb) → op_of m t verb ≡ op_of n u verb
  same_op verb = ap (λ k. asked_op k verb) (by (file_named verb))
    where
      by : (o : Option Bytes) → key_read m t o ≡ key_read n u o
      by None = refl
      by (Some f) = same_key f

  module _ (c : Command) where
    told : (r : Reply) → AreSameSteps (answered m t c.resp r) (answered n u c.resp r)
    told r = same_answered m n t u acting c.resp r r refl

    -- ---- Commands that may have to wait

    same_wait : (o : Option Op) (h k : ℕ) → label_of m.tasks h ≡ label_of n.tasks k → (busy : Option Condition) →
        AreSameSteps (made_to_wait m t c o h busy) (made_to_wait n u c o k busy)
    same_wait o h k owner (Some condition) = told (plain condition)
    same_wait o h k owner None = record {
      outcome = ap Waiting owner;
      machine =
          same_waits m n same (m.waiting ++ record { label = t.label; command = c; op = o; since = m.clock } ∷ []) (n.waiting ++ record { label = u.label; command = c; op = o; since = n.clock } ∷ [])
          (rw (same.alike.waiting, label, same.alike.clock) refl);
    }

    executed_same : (o : Op) → AreSameSteps (executed m t c o (execution m.units t.unit o)) (executed n u c o (execution n.units u.unit o))
    executed_same o =
        both (label_of m.tasks) (label_of n.tasks)
        (λ w x. AreSameSteps (executed m t c o (done_of m.units t.unit o w)) (executed n u c o (done_of n.units u.unit o x)))
        (awaited m.units t.unit o) (awaited n.units u.unit o) (same_awaited m n t u acting o)
        (λ free too.
        same_answered _ _ _ _ (acting_executed m n t u acting o free too) c.resp
        (reply_of c.verb (apply (store_of m.units) o).answer) (reply_of c.verb (apply (store_of n.units) o).answer) (rw stores refl))
        (λ h k is too owner. same_wait (Some o) h k owner (busy_of c.verb))

    -- ENQ takes its value, or waits
    enqueued_same : (value : Bytes) → AreSameSteps (enqueued m t c value (enqueue m.units t.unit value)) (enqueued n u c value (enqueue n.units u.unit value))
    enqueued_same value =
        both (label_of m.tasks) (label_of n.tasks)
        (λ w x. AreSameSteps (enqueued m t c value (enq_of m.units t.unit value w)) (enqueued n u c value (enq_of n.units u.unit value x)))
        (value_holder m.units t.unit value) (value_holder n.units u.unit value) (same_blocker m n t u acting (own_value value))
        (λ free too. elim (cases_Bool often) [
          | inl is ↦ rw (same_often, is) (told (plain Invreq))
          | inr off ↦ rw (same_often, off) (same_answered _ _ _ _ (acting_enqueued m n t u acting value
              (ap (enq_of m.units t.unit value) free ∙ ap (λ b. if b then CountFull else Taken (unit_or_next t.unit m.units.outcomes)) (same_often ∙ off))
              (ap (enq_of n.units u.unit value) too ∙ ap (λ b. if b then CountFull else Taken (unit_or_next u.unit n.units.outcomes)) off)) c.resp (plain Normal) (plain Normal) refl)
        ])
        (λ h k is too owner. same_wait None h k owner (busy_of c.verb))
      where
        often : Bool
        often = nat_le most_count (count_at n.units.counts (unit_or_next u.unit n.units.outcomes) value)

        same_often : nat_le most_count (count_at m.units.counts (unit_or_next t.unit m.units.outcomes) value) ≡ often
        same_often =
            ap (nat_le most_count)
            (count_told m.units t.unit value same.first.units.sound
            ∙ (ap (λ (x : Own). count_at x.counts 0 value) (own_acting m n t u acting) ∙ sym (count_told n.units u.unit value same.second.units.sound)))

    -- ---- Browses

    browse_same : (b : Map Position) (r : Reply) →
        AreSameSteps (answered (with_task m (with_browses t b)) (with_browses t b) c.resp r) (answered (with_task n (with_browses u b)) (with_browses u b) c.resp r)
    browse_same b r = same_answered _ _ _ _ (acting_browses m n t u acting b) c.resp r r refl

    position_same : (f : Bytes) (p : Position) (r : Reply) →
        AreSameSteps (answered (with_task m (with_browse t f p)) (with_browse t f p) c.resp r) (answered (with_task n (with_browse u f p)) (with_browse u f p) c.resp r)
    position_same f p r = rw browses (browse_same (with_value f p u.browses) r)

    started_same : (f key : Bytes) (generic equal : Bool) → AreSameSteps (started m t c.resp f key generic equal) (started n u c.resp f key generic equal)
    started_same f key generic equal = elim (cases_Bool (finds_start (records_in n f) key generic equal)) [
      | inl is ↦ rw (stores, is) (position_same f (start_at key generic) (plain Normal))
      | inr off ↦ rw (stores, off) (told (plain Notfnd))
    ]

    reset_same : (f key : Bytes) (generic equal : Bool) (o : Option Position) → AreSameSteps (reset m t c.resp f key generic equal o) (reset n u c.resp f key generic equal o)
    reset_same f key generic equal None = told (plain Invreq)
    reset_same f key generic equal (Some p) =
        rw stores (position_same f (after_reset (records_in n f) p key generic equal) (plain (reset_condition (records_in n f) key generic equal)))

    browsed_same : (f : Bytes) (k : Option ℕ) (given : Map Bytes → Position → Browsed) (after : Map Bytes → Position → Position) →
        AreSameSteps (browsed m t c.resp f k (value_at f t.browses) (given (records_in m f)) (after (records_in m f)))
        (browsed n u c.resp f k (value_at f u.browses) (given (records_in n f)) (after (records_in n f)))
    browsed_same f k given after =
        subst (λ b. AreSameSteps (browsed m t c.resp f k (value_at f t.browses) (given (records_in m f)) (after (records_in m f)))
        (browsed n u c.resp f k (value_at f b) (given (records_in n f)) (after (records_in n f)))) browses (by (value_at f t.browses))
      where
        by : (o : Option Position) →
            AreSameSteps (browsed m t c.resp f k o (given (records_in m f)) (after (records_in m f))) (browsed n u c.resp f k o (given (records_in n f)) (after (records_in n f)))
        by None = told (plain Invreq)
        by (Some p) = rw stores (position_same f (after (records_in n f) p) (cut k (browse_reply (given (records_in n f) p))))

    -- ---- READQ TS

    item_same : (q : Bytes) (k : Option ℕ) (i : ℕ) → AreSameSteps (ts_read m t c.resp q k i) (ts_read n u c.resp q k i)
    item_same q k i =
        same_answered _ _ _ _ (acting_item_read m n t u acting q i) c.resp
        (reply_of (ReadqTs q k (Some i)) (ts_reading m.units q i)) (reply_of (ReadqTs q k (Some i)) (ts_reading n.units q i)) (rw stores refl)

    same_item : (q : Bytes) (item : Option ℕ) → item_asked m.units q item ≡ item_asked n.units q item
    same_item q None = rw same.alike.next refl
    same_item q (Some i) = refl

    -- ---- All commands

    other_same : (verb : Verb) → AreSameSteps (other_command m t c verb) (other_command n u c verb)
    other_same (Read f key given k generic gteq update) = rw stores (told (cut k (read_reply (records_in n f) key generic gteq)))
    other_same (Unlock f) = same_answered _ _ _ _ (acting_unlocked m n t u acting f) c.resp (plain Normal) (plain Normal) refl
    other_same (StartBr f key given generic equal) = started_same f key generic equal
    other_same (ResetBr f key given generic equal) =
        subst (λ b. AreSameSteps (other_command m t c (ResetBr f key given generic equal)) (reset n u c.resp f key generic equal (value_at f b))) browses
        (reset_same f key generic equal (value_at f t.browses))
    other_same (ReadNext f k) = browsed_same f k read_next after_next
    other_same (ReadPrev f k) = browsed_same f k read_prev after_prev
    other_same (EndBr f) = rw browses (browse_same (without f u.browses) (plain Normal))
    other_same (Enq value k nosuspend) = enqueued_same (take k value)
    other_same (Deq value k) = same_answered _ _ _ _ (acting_dequeued m n t u acting (take k value)) c.resp (plain Normal) (plain Normal) refl
    other_same Syncpoint = record { outcome = refl; machine = same_closed m n t u acting Committed false refl }
    other_same Rollback = record { outcome = refl; machine = same_closed m n t u acting BackedOut false refl }
    other_same Return = record { outcome = refl; machine = same_closed m n t u acting Committed true refl }
    other_same (Abend None) = record { outcome = refl; machine = same_abended m n t u acting }
    other_same (Abend (Some code)) = record { outcome = refl; machine = same_abended m n t u acting }
    other_same (ReadqTs q k item) = rw (same_item q item) (item_same q k (item_asked n.units q item))
    other_same _ = told (plain Invreq)

    pub same_by_op : (o : Option Op) → AreSameSteps (by_op m t c o) (by_op n u c o)
    same_by_op None = other_same c.verb
    same_by_op (Some o) = executed_same o

    -- a command is answered by its first fault, or performed
    pub same_checked : AreSameSteps (checked m t c (fault_of m t c.verb)) (checked n u c (fault_of n u c.verb))
    same_checked = rw (same_reason c.verb) (by (fault_of n u c.verb))
      where
        by : (fault : Option Condition) → AreSameSteps (checked m t c fault) (checked n u c fault)
        by (Some fault) = told (plain fault)
        by None = rw (same_op c.verb) (same_by_op (op_of n u c.verb))
