-- Every event answers the same in two regions that have the same future, and leaves regions that
-- have the same future.
use Rattle.std.proofs.Common.{◌≡◌, ℕ, zero, suc, ◌-◌, Bool, true, false, ◌&&◌, Option, Some, None, List, [], ◌∷◌, ◌++◌, Result, Ok, Err, inl, inr, refl, ap, sym, ◌∙◌, subst, arith}
use Rattle.std.specs.Prelude.{if◌then◌else◌, is_some, is_none, option_map, map, nat_lt, nat_le, slice_get}
use Rattle.std.proofs.lemmas.Bool.{true≢false, false≢true, cases_Bool}
use Rattle.std.proofs.lemmas.List.{map_push}
use Rattle.cics_names.specs.Keyed.{Bytes}
use Rattle.cics_names.specs.declared.commands.Command.{Command}
use Rattle.cics_names.specs.declared.commands.Verb.{Verb}
use Rattle.cics_history.specs.State.{OpeningState}
use Rattle.cics_history.specs.Openings.{IsOpeningInOrder}
use Rattle.cics_history.specs.Isolation.{store_by}
use Rattle.cics_history.specs.declared.ops.UnitState.TheVariants.{BackedOut}
use Rattle.cics_history.proofs.Outcomes.{same_function}
use Rattle.cics_history.proofs.States.{initial_units-IsSound}
use Rattle.cics_history.proofs.Stores.{initial-canonical}
use Rattle.cics_history.proofs.SerialRuns.{initial_units-IsInOrder}
use Rattle.cics_dispatch.specs.Machine.Machine.{Machine, Task, Suspended, initial_region, task_at, label_of, is_waiting, not_waiting, with_waiting, unit_closed, timed_out}
use Rattle.cics_dispatch.specs.Machine.Tasks.{own_label, own_unit, had_by, IsOwn}
use Rattle.cics_dispatch.specs.Machine.Steps.{Stepped, checked, issue_refusal, refused_or, issued_by, issued, new_task, with_new_task, attached}
use Rattle.cics_dispatch.specs.Machine.Checks.{fault_of, reason_by, reason_for}
use Rattle.cics_dispatch.specs.Machine.Waking.{clock_refusal, clock_set, awaited_by, may_go_on, first_free, went_on, woken_first, woken, is_late, first_late, expired_task, expired}
use Rattle.cics_dispatch.specs.Machine.Shutdown.{unless_down, units_of, all_ended, shut_down}
use Rattle.cics_dispatch.specs.Machine.Blockers.{waiting_command, awaited_of, blocker_of}
use Rattle.cics_dispatch.specs.Machine.Waits.{wait_of}
use Rattle.cics_dispatch.specs.declared.machine.outcomes.Refused.{Refused}
use Rattle.cics_dispatch.specs.declared.machine.outcomes.Refused.TheVariants.{TaskWaiting, TaskEnded, DuplicateLabel, RegionDown, ClockBack}
use Rattle.cics_dispatch.proofs.OfMachine.KeptTasks.{kept_begins, kept_attached}
use Rattle.cics_dispatch.proofs.OfMachine.OwnedUnits.{owned_begins, owned_attached}
use Rattle.cics_dispatch.proofs.OfMachine.TaskPlaces.{IsOwn-tail, first_other, task_at-place, task_at-replaced}
use Rattle.cics_dispatch.specs.Future.Futures.{unnumbered, ending, store_if, IsSteady, HaveSameFuture, AreSameSteps}
use Rattle.cics_dispatch.proofs.OfFuture.Labels.{AreActing, both, same_label, both_tasks}
use Rattle.cics_dispatch.proofs.OfFuture.Blocking.{told, same_awaited_by}
use Rattle.cics_dispatch.proofs.OfFuture.Acting.{same_beside, same_waits, same_closed, same_abended}
use Rattle.cics_dispatch.proofs.OfFuture.Answering.{same_reason, same_by_op, same_checked}

-- a region that is steady has its own future
pub same_itself : (m : Machine) → IsSteady m → HaveSameFuture m m
same_itself m steady = record {
  first = steady;
  second = steady;
  alike = record { opening = refl; tasks = refl; own = λ label. refl; stores = λ gone. refl; next = refl; waiting = refl; clock = refl; down = refl };
}

pub same_begins : (o : OpeningState) → IsOpeningInOrder o → HaveSameFuture (initial_region o) (initial_region o)
same_begins o order =
    same_itself (initial_region o)
    (record {
      units = record { canonical = initial-canonical o order; sound = initial_units-IsSound o order; order = initial_units-IsInOrder o order; reads = tt; counts = tt };
      tasks = kept_begins o;
      owned = owned_begins o;
    })

module _ (m n : Machine) (same : HaveSameFuture m n) where
  -- ---- Refusals

  -- a step that is refused in both, or taken in both
  refused_same : {X : Type 0} (r q : Option Refused) → r ≡ q → (s t : Stepped X) → AreSameSteps s t → AreSameSteps (refused_or m r s) (refused_or n q t)
  refused_same {X} r q is s t steps = rw is (by q)
    where
      by : (r : Option Refused) → AreSameSteps (refused_or m r s) (refused_or n r t)
      by (Some e) = record { outcome = refl; machine = same }
      by None = record { outcome = ap Ok steps.outcome; machine = steps.machine }

  -- a region that is down refuses
  pub down_same : {X : Type 0} (s t : Stepped (Result X Refused)) → AreSameSteps s t → AreSameSteps (unless_down m s) (unless_down n t)
  down_same {X} s t steps = by m.is_down n.is_down same.alike.down
    where
      by : (b c : Bool) → b ≡ c → AreSameSteps (if b then record { outcome = Err RegionDown; machine = m } else s) (if c then record { outcome = Err RegionDown; machine = n } else t)
      by true true e = record { outcome = refl; machine = same }
      by false false e = steps
      by true false e = absurd (true≢false e)
      by false true e = absurd (false≢true e)

  -- ---- A command

  pub issued_same : (label : Bytes) (c : Command) → AreSameSteps (issued m label c) (issued n label c)
  issued_same label c =
      both_tasks m n same label (λ o p. AreSameSteps (issued_by m c o) (issued_by n c p)) (λ none none_too. record { outcome = refl; machine = same })
      (λ t u acting is.
      refused_same (issue_refusal m (Some t)) (issue_refusal n (Some u))
      (ap (λ (x : Task). if x.has_ended then Some TaskEnded else if is_waiting m.waiting x.label then Some TaskWaiting else None) acting.bare
      ∙ ap (λ ws. if u.has_ended then Some TaskEnded else if is_waiting ws u.label then Some TaskWaiting else None) same.alike.waiting)
      (checked m t c (fault_of m t c.verb)) (checked n u c (fault_of n u c.verb)) (same_checked m n t u acting c))

  -- it fails the same check
  pub reason_same : (label : Bytes) (verb : Verb) → reason_for m label verb ≡ reason_for n label verb
  reason_same label verb =
      both_tasks m n same label (λ o p. reason_by m verb o ≡ reason_by n verb p) (λ none none_too. refl) (λ t u acting is. same_reason m n t u acting verb)

  -- ---- ATTACH

  -- a task more, which has no unit
  unit_pushed : (ts : List Task) (label l : Bytes) (dtimout : ℕ) → had_by own_unit (task_at (ts ++ new_task label dtimout ∷ []) l) ≡ had_by own_unit (task_at ts l)
  unit_pushed [] label l dtimout = grind arith
  unit_pushed (t ∷ ts) label l dtimout = grind (arith, unit_pushed ts label l dtimout)

  label_pushed : (ts : List Task) (label : Bytes) (dtimout u : ℕ) → label_of (ts ++ new_task label dtimout ∷ []) u ≡ label_of ts u
  label_pushed [] label dtimout u = refl
  label_pushed (t ∷ ts) label dtimout u = rw (label_pushed ts label dtimout u) refl

  same_attached : (label : Bytes) (dtimout : ℕ) → task_at m.tasks label ≡ None → task_at n.tasks label ≡ None → HaveSameFuture (with_new_task m label dtimout) (with_new_task n label dtimout)
  same_attached label dtimout none none_too = record {
    first = steady m same.first none;
    second = steady n same.second none_too;
    alike = record {
      opening = same.alike.opening;
      tasks = map_push unnumbered m.tasks (new_task label dtimout) ∙ (ap (λ ts. ts ++ unnumbered (new_task label dtimout) ∷ []) same.alike.tasks ∙ sym (map_push unnumbered n.tasks (new_task label dtimout)));
      own = λ l. rw (unit_pushed m.tasks label l dtimout, unit_pushed n.tasks label l dtimout) (same.alike.own l);
      stores = λ gone. kept m gone ∙ (same.alike.stores gone ∙ sym (kept n gone));
      next = same.alike.next;
      waiting = same.alike.waiting;
      clock = same.alike.clock;
      down = same.alike.down;
    };
  }
    where
      steady : (k : Machine) → IsSteady k → task_at k.tasks label ≡ None → IsSteady (with_new_task k label dtimout)
      steady k s free = record {
        units = s.units;
        tasks = kept_attached (with_waiting k []) label dtimout s.tasks free;
        owned = owned_attached k label dtimout s.owned;
      }

      kept : (k : Machine) (gone : Bytes → Bool) → store_if (with_new_task k label dtimout) gone ≡ store_if k gone
      kept k gone =
          ap (λ out. store_by k.units.opening out k.units.trace)
          (same_function (ending (with_new_task k label dtimout) gone) (ending k gone) (λ u. rw (label_pushed k.tasks label dtimout u) refl))

  pub attached_same : (label : Bytes) (dtimout : ℕ) → AreSameSteps (attached m label dtimout) (attached n label dtimout)
  attached_same label dtimout =
      both_tasks m n same label
      (λ o p. AreSameSteps (refused_or m (if is_some o then Some DuplicateLabel else None) (record { outcome = tt; machine = with_new_task m label dtimout }))
      (refused_or n (if is_some p then Some DuplicateLabel else None) (record { outcome = tt; machine = with_new_task n label dtimout })))
      (λ none none_too. record { outcome = refl; machine = same_attached label dtimout none none_too }) (λ t u acting is. record { outcome = refl; machine = same })

  -- ---- The clock

  pub clock_same : (now : ℕ) → AreSameSteps (clock_set m now) (clock_set n now)
  clock_same now =
      refused_same (clock_refusal m now) (clock_refusal n now) (ap (λ k. if nat_lt now k then Some ClockBack else None) same.alike.clock)
      (record { outcome = tt; machine = record m { clock = now } }) (record { outcome = tt; machine = record n { clock = now } })
      (record { outcome = refl; machine = same_beside m n same m.waiting n.waiting same.alike.waiting now now refl m.is_down n.is_down same.alike.down })

  -- ---- Waking

  goes_same : (w : Suspended) → may_go_on m w (task_at m.tasks w.label) ≡ may_go_on n w (task_at n.tasks w.label)
  goes_same w =
      both_tasks m n same w.label (λ o p. may_go_on m w o ≡ may_go_on n w p) (λ none none_too. refl)
      (λ t u acting is.
      both (label_of m.tasks) (label_of n.tasks) (λ o p. is_none o ≡ is_none p) (awaited_by m.units t.unit w.command.verb w.op) (awaited_by n.units u.unit w.command.verb w.op)
      (same_awaited_by m n t u acting w.command.verb w.op) (λ none none_too. refl) (λ x y a b e. refl))

  free_same : (ws : List Suspended) → first_free m ws ≡ first_free n ws
  free_same [] = refl
  free_same (w ∷ ws) = rw (goes_same w, free_same ws) refl

  pub woken_same : AreSameSteps (woken m) (woken n)
  woken_same = rw (free_same m.waiting ∙ ap (first_free n) same.alike.waiting) (by (first_free n n.waiting))
    where
      by : (o : Option Suspended) → AreSameSteps (woken_first m o) (woken_first n o)
      by None = record { outcome = refl; machine = same }
      by (Some w) =
          both_tasks m n same w.label (λ o p. AreSameSteps (went_on m w o) (went_on n w p)) (λ none none_too. record { outcome = refl; machine = same })
          (λ t u acting is.
          let steps = same_by_op (with_waiting m (not_waiting m.waiting w.label)) (with_waiting n (not_waiting n.waiting w.label)) t u
          (record {
            same = same_waits m n same (not_waiting m.waiting w.label) (not_waiting n.waiting w.label) (ap (λ ws. not_waiting ws w.label) same.alike.waiting);
            there = acting.there;
            too = acting.too;
            bare = acting.bare;
          }) w.command w.op in
          record { outcome = ap (λ o. Some (record { label = w.label; outcome = o })) steps.outcome; machine = steps.machine })

  -- ---- Time-out

  -- what holds of no task in both, and of tasks that act, holds of the first that has waited too long
  late_same : (P : Option Task → Option Task → Type 0) → P None None → ((t u : Task) → AreActing m n t u → P (Some t) (Some u)) → (ws : List Suspended) →
      P (first_late m ws) (first_late n ws)
  late_same P none some [] = none
  late_same P none some (w ∷ ws) =
      both_tasks m n same w.label (λ o p. P (if is_late m w o then o else first_late m ws) (if is_late n w p then p else first_late n ws))
      (λ a b. late_same P none some ws)
      (λ t u acting is.
      let late : is_late m w (Some t) ≡ is_late n w (Some u) =
      ap (λ (x : Task). nat_lt 0 x.dtimout && nat_le x.dtimout (m.clock - w.since)) acting.bare ∙ ap (λ k. nat_lt 0 u.dtimout && nat_le u.dtimout (k - w.since)) same.alike.clock in
      elim (cases_Bool (is_late n w (Some u))) [
        | inl on ↦ rw (late, on) (some t u acting)
        | inr off ↦ rw (late, off) (late_same P none some ws)
      ])

  pub expired_same : AreSameSteps (expired m) (expired n)
  expired_same =
      subst (λ ws. AreSameSteps (expired m) (expired_task n (first_late n ws))) same.alike.waiting
      (late_same (λ o p. AreSameSteps (expired_task m o) (expired_task n p)) (record { outcome = refl; machine = same })
      (λ t u acting. record {
        outcome = ap (λ l. Some (record { label = l; code = timed_out })) (same_label t u acting.bare);
        machine = same_abended m n t u acting;
      }) m.waiting)

  -- ---- What is told of waits

  pub command_same : (label : Bytes) → waiting_command m label ≡ waiting_command n label
  command_same label = ap (λ ws. option_map (λ w. w.command) (wait_of ws label)) same.alike.waiting

  pub blocker_same : (label : Bytes) → blocker_of m label ≡ blocker_of n label
  blocker_same label = rw same.alike.waiting (by (wait_of n.waiting label))
    where
      by : (w : Option Suspended) → told m (awaited_of m w (task_at m.tasks label)) ≡ told n (awaited_of n w (task_at n.tasks label))
      by None = refl
      by (Some w) =
          both_tasks m n same label (λ o p. told m (awaited_of m (Some w) o) ≡ told n (awaited_of n (Some w) p)) (λ none none_too. refl)
          (λ t u acting is. same_awaited_by m n t u acting w.command.verb w.op)

-- ---- SHUTDOWN

-- as many tasks have a unit
units_bare : (ts : List Task) → units_of ts ≡ units_of (map unnumbered ts)
units_bare [] = refl
units_bare (t ∷ ts) = grind (arith, units_bare ts)

-- these tasks are those of their labels
abbrev Stand : Machine → List Task → Type 0
Stand m ts = (j : ℕ) (t : Task) → slice_get ts j ≡ Some t → task_at m.tasks t.label ≡ Some t

all_same : (ts us : List Task) (m n : Machine) → HaveSameFuture m n → map unnumbered ts ≡ map unnumbered us → IsOwn own_label ts → IsOwn own_label us → Stand m ts → Stand n us →
    HaveSameFuture (all_ended m ts) (all_ended n us)
all_same [] [] m n same bare labels labels_too stand stand_too = same
all_same [] (u ∷ us) m n same bare labels labels_too stand stand_too = cc
all_same (t ∷ ts) [] m n same bare labels labels_too stand stand_too = cc
all_same (t ∷ ts) (u ∷ us) m n same bare labels labels_too stand stand_too =
    let first : unnumbered t ≡ unnumbered u = cc in
    let rest : map unnumbered ts ≡ map unnumbered us = cc in
    all_same ts us (unit_closed m t BackedOut true) (unit_closed n u BackedOut true)
    (same_closed m n t u (record { same = same; there = stand zero t refl; too = stand_too zero u refl; bare = first }) BackedOut true refl) rest
    (IsOwn-tail own_label t ts labels) (IsOwn-tail own_label u us labels_too) (behind m t ts labels stand) (behind n u us labels_too stand_too)
  where
    behind : (k : Machine) (x : Task) (xs : List Task) → IsOwn own_label (x ∷ xs) → Stand k (x ∷ xs) → Stand (unit_closed k x BackedOut true) xs
    behind k x xs labels stand j y there =
        task_at-replaced k.tasks (record x { unit = None; browses = []; has_ended = true }) y.label (first_other x y xs j labels there) ∙ stand (suc j) y there

pub shut_same : (m n : Machine) → HaveSameFuture m n → AreSameSteps (shut_down m) (shut_down n)
shut_same m n same = record {
  outcome = ap Ok (units_bare m.tasks ∙ (ap units_of same.alike.tasks ∙ sym (units_bare n.tasks)));
  machine =
      let labels = same.first.tasks.labels in
      let labels_too = same.second.tasks.labels in
      let left = all_same m.tasks n.tasks (with_waiting m []) (with_waiting n []) (same_waits m n same [] [] refl) same.alike.tasks labels labels_too
      (λ j t there. task_at-place m.tasks j t labels there) (λ j t there. task_at-place n.tasks j t labels_too there) in
      let now = all_ended (with_waiting m []) m.tasks in
      let later = all_ended (with_waiting n []) n.tasks in
      same_beside now later left now.waiting later.waiting left.alike.waiting now.clock later.clock left.alike.clock true true refl;
}
