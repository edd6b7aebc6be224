-- Task control: what a region remembers of its last looks at the waiting commands, after each of
-- its calls.
use Rattle.std.specs.Prelude.{◌≡◌, ℕ, ◌+◌, ◌≤◌, Bool, true, false, not, if◌then◌else◌, ◌&&◌, cond, Option, Some, None, Result, Ok, Err, List, [], ◌∷◌, All, map, length, slice_set, IfSome, refl}
use Rattle.std.proofs.Common.{inl, inr, sym, ap, ◌∙◌, subst, arith}
use Rattle.std.proofs.lemmas.Bool.{false≢true, and_parts}
use Rattle.std.proofs.lemmas.List.Elements.{All-nil}
use Rattle.std.proofs.lemmas.List.{length-append}
use Rattle.cics_names.specs.Keyed.{Bytes}
use Rattle.cics_history.specs.declared.resources.Resource.{Resource}
use Rattle.cics_history.specs.Events.{may_act}
use Rattle.cics_dispatch.specs.declared.notes.groups.WaitNote.{WaitNote}
use Rattle.cics_dispatch.specs.Machine.Machine.{Machine, Task, Suspended, RegionValue, task_at, is_waiting, not_waiting, with_waiting, abended}
use Rattle.cics_dispatch.specs.Machine.Checks.{fault_of}
use Rattle.cics_dispatch.specs.Machine.Steps.{Stepped, attach_refusal, attached, with_new_task, new_task, refused_or, checked, issue_refusal, issued_by, issued, by_op}
use Rattle.cics_dispatch.specs.Machine.Waits.{AreApart}
use Rattle.cics_dispatch.specs.Machine.Waking.{clock_refusal, clock_set, may_go_on, went_on, woken, woken_first, is_late, first_late, expired, expired_task}
use Rattle.cics_dispatch.specs.Machine.Answers.{IsStep}
use Rattle.cics_dispatch.specs.Machine.KeptTasks.{AreTasksKept}
use Rattle.cics_dispatch.specs.Machine.Settled.{is_keeping, goes_on, IsInTime}
use Rattle.cics_dispatch.specs.Machine.Deadlines.{AreDue}
use Rattle.cics_dispatch.specs.Notes.Notes.{never}
use Rattle.cics_dispatch.specs.Machine.Notes.{AreNoted, AreNotedNow, AreSettled, IsFirstFree, IsFreeAt, IsRemembered}
use Rattle.cics_dispatch.specs.Notes.Notes.{NotesValue, IsPlaceOf, IsNoteAt, given_up, forgotten, count, AreClosed}
use Rattle.cics_names.specs.declared.commands.Command.{Command}
use Rattle.cics_dispatch.specs.declared.machine.outcomes.Outcome.{Outcome}
use Rattle.cics_dispatch.specs.declared.machine.outcomes.Refused.{Refused}
use Rattle.cics_dispatch.proofs.OfMachine.TaskPlaces.{place_of_task, task_at-push}
use Rattle.cics_dispatch.proofs.OfMachine.KeptTasks.{begins_now, not_waiting_then}
use Rattle.cics_dispatch.proofs.OfMachine.KeptHeld.{checked_keeps}
use Rattle.cics_dispatch.proofs.OfMachine.ActsAlone.{Waits, abended_leaves, by_op_alone, checked_alone}
use Rattle.cics_dispatch.proofs.OfMachine.FewerWaits.{by_op_none}
use Rattle.cics_dispatch.proofs.OfMachine.RegionWaking.{first_free-goes, first_free_awaits, not_waiting_twice}
use Rattle.cics_dispatch.proofs.OfMachine.Blocked.{task_acts, none_late, all_in_time}
use Rattle.cics_dispatch.proofs.OfMachine.Remembered.{refused_leaves, not_refused, issued_in_time, woken_in_time, attached_in_time}
use Rattle.cics_dispatch.proofs.OfMachine.Deadlines.{due_kept, due_behind, due_given, due_within, due_without}
use Rattle.cics_dispatch.proofs.OfMachine.Noted.{noted_as, noted_empty, noted_behind, noted_without, none_free, noted_given, noted_keeping, noted_same, waits_then, given_none, forgotten_none}

-- what is true of the machine and of the one that the step leaves is true after the call
pub after_step : {X : Type 0} (P : Machine → Type 0) (wants : Bool) (old new : RegionValue) (s : Stepped (Result X Refused)) (r : Result X Refused) →
    IsStep wants old s r new → P old.machine → P s.machine → P new.machine
after_step P wants old new s (Ok x) step before after = subst P (sym step.1) after
after_step P wants old new s (Err e) step before after = subst (λ v. P v.machine) (sym (refused_leaves wants old new s e step)) before

-- a task is attached
pub remembered_attached : (m : Machine) (label : Bytes) (dtimout : ℕ) (v : NotesValue) (is_settled is_in_time : Bool) → AreTasksKept m → IsRemembered m v is_settled is_in_time →
    IsRemembered (attached m label dtimout).machine v is_settled is_in_time
remembered_attached m label dtimout v is_settled is_in_time kept is = record {
  noted = by (attach_refusal m label) is.noted;
  settled = λ set. record { closed = (is.settled set).closed; all = (is.settled set).all ∙ ap length (waiting (attach_refusal m label)) };
  in_time = λ set. attached_in_time m label dtimout kept (is.in_time set);
}
  where
    waiting : (refusal : Option Refused) → m.waiting ≡ (refused_or m refusal (record { outcome = tt {0}; machine = with_new_task m label dtimout })).machine.waiting
    waiting None = refl
    waiting (Some refusal) = refl

    by : (refusal : Option Refused) → AreNotedNow m v → AreNotedNow (refused_or m refusal (record { outcome = tt {0}; machine = with_new_task m label dtimout })).machine v
    by None noted = record {
      noted = noted_same m (with_new_task m label dtimout) refl (λ l t there. task_at-push m.tasks (new_task label dtimout) l t there) v.resources v.blockers v.rows m.waiting noted.noted;
      due = due_kept m.tasks (with_new_task m label dtimout).tasks (λ l t there. task_at-push m.tasks (new_task label dtimout) l t there) v.rows m.waiting v.deadlines noted.due;
    }
    by (Some refusal) noted = noted

-- the clock is set, and it isn't known any more that no task has waited too long
pub remembered_clock : (m : Machine) (now : ℕ) (v : NotesValue) (is_settled is_in_time : Bool) → IsRemembered m v is_settled is_in_time → IsRemembered (clock_set m now).machine v is_settled false
remembered_clock m now v is_settled is_in_time is = record {
  noted = by (clock_refusal m now) is.noted;
  settled = λ set. record { closed = (is.settled set).closed; all = (is.settled set).all ∙ ap length (waiting (clock_refusal m now)) };
  in_time = λ set. absurd (false≢true set);
}
  where
    waiting : (refusal : Option Refused) → m.waiting ≡ (refused_or m refusal (record { outcome = tt {0}; machine = record m { clock = now } })).machine.waiting
    waiting None = refl
    waiting (Some refusal) = refl

    by : (refusal : Option Refused) → AreNotedNow m v → AreNotedNow (refused_or m refusal (record { outcome = tt {0}; machine = record m { clock = now } })).machine v
    by None noted = record {
      noted = noted_same m (record m { clock = now }) refl (λ l t there. there) v.resources v.blockers v.rows m.waiting noted.noted;
      due = noted.due;
    }
    by (Some refusal) noted = noted

-- the same if the time isn't looked at
pub remembered_late : (m : Machine) (v : NotesValue) (is_settled is_in_time : Bool) → IsRemembered m v is_settled is_in_time → IsRemembered m v is_settled false
remembered_late m v is_settled is_in_time is = record { noted = is.noted; settled = is.settled; in_time = λ set. absurd (false≢true set) }

-- ---- Commands

-- what a command of a task may have given up of its unit
abbrev forgot_of : Machine → Command → Outcome → Option ℕ → Option ℕ
forgot_of m c outcome unit = if is_keeping m.units.opening c.verb && goes_on outcome then None else unit

-- the notes of these commands are right, and their deadlines
abbrev AreBoth : Machine → List Resource → List (Option ℕ) → List (Option WaitNote) → List ℕ → List Suspended → Type 0
AreBoth m rs bs ns ds ws = AreNoted m rs bs ns ws × AreDue m.tasks ns ws ds

-- after a command of a task the notes are right once that is forgotten, and if it doesn't wait the
-- same commands wait
abbrev noted_then : Machine → Machine → Bytes → List Resource → List (Option ℕ) → List (Option WaitNote) → List ℕ → Type 0
noted_then m n label rs bs ns ds = AreBoth n rs bs ns ds n.waiting × (is_waiting n.waiting label ≡ false → n.waiting ≡ m.waiting)

module _ (m : Machine) (c : Command) (rs : List Resource) (bs : List (Option ℕ)) (ns : List (Option WaitNote)) (ds : List ℕ) (noted : AreNoted m rs bs ns m.waiting)
    (due : AreDue m.tasks ns m.waiting ds) where
  checked_noted : (t : Task) (unit : Option ℕ) (outcome : Outcome) → may_act m.units t.unit ≡ true → unit ≡ t.unit → is_waiting m.waiting t.label ≡ false → (checked m t c (fault_of m t c.verb)).outcome ≡ outcome →
      noted_then m (checked m t c (fault_of m t c.verb)).machine t.label rs (map (given_up (forgot_of m c outcome unit)) bs) (map (forgotten (forgot_of m c outcome unit)) ns) ds
  checked_noted t unit outcome active own awake told =
      let n = (checked m t c (fault_of m t c.verb)).machine in
      let alone = checked_alone m t c in
      let later = waits_then m n t.label alone.waits awake in
      let forgot = forgot_of m c outcome unit in (
        subst (AreBoth n rs (map (given_up forgot) bs) (map (forgotten forgot) ns) ds) (sym later.1) (
          noted_behind n rs (map (given_up forgot) bs) (map (forgotten forgot) ns) m.waiting later.0 (by (is_keeping m.units.opening c.verb && goes_on outcome) refl),
          due_behind n.tasks (map (forgotten forgot) ns) m.waiting later.0 ds (due_given m n t forgot alone.others ns m.waiting ds awake due),
        ),
        later.2,
      )
    where
      by : (b : Bool) → (is_keeping m.units.opening c.verb && goes_on outcome) ≡ b →
          AreNoted (checked m t c (fault_of m t c.verb)).machine rs (map (given_up (if b then None else unit)) bs) (map (forgotten (if b then None else unit)) ns) m.waiting
      by true keeps =
          let n = (checked m t c (fault_of m t c.verb)).machine in
          let parts = and_parts (is_keeping m.units.opening c.verb) (goes_on outcome) keeps in
          subst (λ cs. AreNoted n rs cs (map (forgotten None) ns) m.waiting) (sym (given_none bs))
          (subst (λ ks. AreNoted n rs bs ks m.waiting) (sym (forgotten_none ns))
          (noted_keeping m n rs bs t (checked_alone m t c).others active ns m.waiting awake noted (λ v of_t. checked_keeps m t v c parts.0 (ap goes_on told ∙ parts.1))))
      by false gives =
          let n = (checked m t c (fault_of m t c.verb)).machine in
          subst (λ o. AreNoted n rs (map (given_up o) bs) (map (forgotten o) ns) m.waiting) (sym own)
          (noted_given m n rs bs t (checked_alone m t c).others active ns m.waiting awake noted)

  pub issued_noted : AreTasksKept m → (label : Bytes) (unit : Option ℕ) (outcome : Outcome) → ((t : Task) → task_at m.tasks label ≡ Some t → unit ≡ t.unit) → (issued m label c).outcome ≡ Ok outcome →
      noted_then m (issued m label c).machine label rs (map (given_up (forgot_of m c outcome unit)) bs) (map (forgotten (forgot_of m c outcome unit)) ns) ds
  issued_noted kept label unit outcome own told = by (task_at m.tasks label) refl told
    where
      cs : List (Option ℕ)
      cs = map (given_up (forgot_of m c outcome unit)) bs

      ks : List (Option WaitNote)
      ks = map (forgotten (forgot_of m c outcome unit)) ns

      by_refusal : (t : Task) → t.label ≡ label → task_at m.tasks label ≡ Some t → (refusal : Option Refused) → issue_refusal m (Some t) ≡ refusal →
          (refused_or m refusal (checked m t c (fault_of m t c.verb))).outcome ≡ Ok outcome →
          noted_then m (refused_or m refusal (checked m t c (fault_of m t c.verb))).machine label rs (map (given_up (forgot_of m c outcome unit)) bs) (map (forgotten (forgot_of m c outcome unit)) ns) ds
      by_refusal t same is (Some refusal) refused told = cc
      by_refusal t same is None refused told =
          let one : (checked m t c (fault_of m t c.verb)).outcome ≡ outcome = cc in
          subst (λ l. noted_then m (checked m t c (fault_of m t c.verb)).machine l rs (map (given_up (forgot_of m c outcome unit)) bs) (map (forgotten (forgot_of m c outcome unit)) ns) ds) same
          (checked_noted t unit outcome (task_acts m label t kept is) (own t is) (not_refused t.has_ended (is_waiting m.waiting t.label) refused) one)

      by : (o : Option Task) → task_at m.tasks label ≡ o → (issued_by m c o).outcome ≡ Ok outcome →
          noted_then m (issued_by m c o).machine label rs (map (given_up (forgot_of m c outcome unit)) bs) (map (forgotten (forgot_of m c outcome unit)) ns) ds
      by None is told = cc
      by (Some t) is told = by_refusal t (place_of_task m.tasks label t is).2 is (issue_refusal m (Some t)) refl told

-- ---- Commands that resume

-- waits that stand aside make no difference to the notes
noted_aside : (m : Machine) (rs : List Resource) (bs : List (Option ℕ)) (ns : List (Option WaitNote)) (ws vs : List Suspended) → AreNoted m rs bs ns vs → AreNoted (with_waiting m ws) rs bs ns vs
noted_aside m rs bs ns ws vs = noted_same m (with_waiting m ws) refl (λ l t there. there) rs bs ns vs

-- a command that needn't wait adds none to those that wait
none_added : (m n : Machine) (label : Bytes) → Waits label m n → length n.waiting ≤ length m.waiting → not_waiting m.waiting label ≡ m.waiting → n.waiting ≡ m.waiting
none_added m n label waits fewer awake = elim waits [
  | inl same ↦ same
  | inr changed ↦ elim changed [
    | inl more ↦
        let grown : length n.waiting ≡ length m.waiting + 1 = ap length more.2 ∙ length-append m.waiting (begins_now label m more.0 more.1 ∷ []) in
        absurd (never grown)
    | inr less ↦ less ∙ awake
  ]
]
  where
    never : length n.waiting ≡ length m.waiting + 1 → ⊥
    never grown = omega (arith, fewer, grown)

woken_noted : (m : Machine) (rs : List Resource) (bs : List (Option ℕ)) (ns : List (Option WaitNote)) (ds : List ℕ) (label : Bytes) (unit : Option ℕ) → AreTasksKept m → AreBoth m rs bs ns ds (not_waiting m.waiting label) →
    IsFirstFree m label → ((t : Task) → task_at m.tasks label ≡ Some t → unit ≡ t.unit) → AreBoth (woken m).machine rs (map (given_up unit) bs) (map (forgotten unit) ns) ds (woken m).machine.waiting
woken_noted m rs bs ns ds label unit kept noted free own =
    subst (λ o. AreBoth (woken_first m o).machine rs (map (given_up unit) bs) (map (forgotten unit) ns) ds (woken_first m o).machine.waiting) (sym free.first) (by (task_at m.tasks w.label) refl)
  where
    w : Suspended
    w = free.wait

    by : (o : Option Task) → task_at m.tasks w.label ≡ o → AreBoth (went_on m w o).machine rs (map (given_up unit) bs) (map (forgotten unit) ns) ds (went_on m w o).machine.waiting
    by None is = absurd (false≢true (sym (ap (may_go_on m w) is) ∙ first_free-goes m w m.waiting free.first))
    by (Some t) is =
        let same : t.label ≡ label = (place_of_task m.tasks w.label t is).2 ∙ free.own in
        let ws = not_waiting m.waiting w.label in
        let a = with_waiting m ws in
        let n = (by_op a t w.command w.op).machine in
        let alone = by_op_alone a t w.command w.op in
        let none = by_op_none a t w.command w.op (first_free_awaits m w m.waiting t free.first is) in
        let twice : not_waiting ws t.label ≡ ws = ap (not_waiting ws) (same ∙ sym free.own) ∙ not_waiting_twice m.waiting w.label in
        let left : n.waiting ≡ ws = none_added a n t.label alone.waits none twice in
        let awake : is_waiting ws t.label ≡ false = ap (is_waiting ws) (same ∙ sym free.own) ∙ not_waiting_then m.waiting w.label in
        let rest : AreBoth m rs bs ns ds ws = subst (λ l. AreBoth m rs bs ns ds (not_waiting m.waiting l)) (sym free.own) noted in
        subst (AreBoth n rs (map (given_up unit) bs) (map (forgotten unit) ns) ds) (sym left)
        (subst (λ o. AreBoth n rs (map (given_up o) bs) (map (forgotten o) ns) ds ws) (sym (own t (ap (task_at m.tasks) (sym free.own) ∙ is))) (
          noted_given a n rs bs t alone.others (task_acts m w.label t kept is) ns ws awake (noted_aside m rs bs ns ws ws rest.0),
          due_given a n t t.unit alone.others ns ws ds awake rest.1,
        ))

-- ---- Time-out

-- the unit of a task that has waited too long, if it has one, is open
late_acts : (m : Machine) (t : Task) → AreTasksKept m → first_late m m.waiting ≡ Some t → may_act m.units t.unit ≡ true
late_acts m t kept = by m.waiting
  where
    by : (ws : List Suspended) → first_late m ws ≡ Some t → may_act m.units t.unit ≡ true
    by [] is = cc
    by (w ∷ ws) is = elim (is_late m w (task_at m.tasks w.label)) as (λ b. cond b (task_at m.tasks w.label) (first_late m ws) ≡ Some t → may_act m.units t.unit ≡ true) [
      | true ↦ λ here. task_acts m w.label t kept here
      | false ↦ λ later. by ws later
    ] is

expired_noted : (m : Machine) (rs : List Resource) (bs : List (Option ℕ)) (ns : List (Option WaitNote)) (ds : List ℕ) (t : Task) (unit : Option ℕ) → AreTasksKept m → AreBoth m rs bs ns ds (not_waiting m.waiting t.label) →
    first_late m m.waiting ≡ Some t → unit ≡ t.unit → AreBoth (expired m).machine rs (map (given_up unit) bs) (map (forgotten unit) ns) ds (expired m).machine.waiting
expired_noted m rs bs ns ds t unit kept noted first own =
    subst (λ o. AreBoth (expired_task m o).machine rs (map (given_up unit) bs) (map (forgotten unit) ns) ds (expired_task m o).machine.waiting) (sym first)
    (subst (λ o. AreBoth (abended m t) rs (map (given_up o) bs) (map (forgotten o) ns) ds (abended m t).waiting) (sym own) (
      noted_given m (abended m t) rs bs t (abended_leaves m t) (late_acts m t kept first) ns (not_waiting m.waiting t.label) (not_waiting_then m.waiting t.label) noted.0,
      due_given m (abended m t) t t.unit (abended_leaves m t) ns (not_waiting m.waiting t.label) ds (not_waiting_then m.waiting t.label) noted.1,
    ))

-- ---- What is remembered

-- if no command waits all is settled, and nobody has waited too long
pub remembered_alone : (m : Machine) (v : NotesValue) → v.rows ≡ [] → v.deadlines ≡ [] → m.waiting ≡ [] → IsRemembered m v true true
remembered_alone m v nothing timeless none = record {
  noted = noted_empty m v nothing timeless;
  settled = λ set. record { closed = subst (AreClosed v.blockers) (sym nothing) tt; all = ap count nothing ∙ sym (ap length none) };
  in_time = λ set. subst (All (IsInTime m)) (sym none) (All-nil (IsInTime m));
}

-- if all is settled none resumes
pub settled_free : (m : Machine) (v : NotesValue) → AreTasksKept m → AreNotedNow m v → AreSettled m v → woken m ≡ record { outcome = None; machine = m }
settled_free m v kept noted settled = ap (woken_first m) (none_free m v.resources v.blockers v.rows m.waiting kept noted.noted settled.closed settled.all)

pub woken_settled : (m : Machine) (v : NotesValue) (is_settled is_in_time : Bool) → AreTasksKept m → IsRemembered m v is_settled is_in_time → is_settled ≡ true → woken m ≡ record { outcome = None; machine = m }
woken_settled m v is_settled is_in_time kept is set = settled_free m v kept is.noted (is.settled set)

-- if no task has waited too long none is abended
pub expired_in_time : (m : Machine) (v : NotesValue) (is_settled is_in_time : Bool) → IsRemembered m v is_settled is_in_time → is_in_time ≡ true → expired m ≡ record { outcome = None; machine = m }
expired_in_time m v is_settled is_in_time is set = ap (expired_task m) (none_late m m.waiting (is.in_time set))

-- after a command
pub remembered_issued : (m n : Machine) (label : Bytes) (c : Command) (outcome : Outcome) (v new : NotesValue) (is_settled is_in_time was waits settled : Bool) (unit forgot : Option ℕ) →
    AreTasksKept m → IsRemembered m v is_settled is_in_time → ((t : Task) → task_at m.tasks label ≡ Some t → unit ≡ t.unit) → (issued m label c).outcome ≡ Ok outcome → n ≡ (issued m label c).machine →
    forgot ≡ (if is_keeping m.units.opening c.verb && goes_on outcome then None else unit) →
    new.rows ≡ map (forgotten forgot) v.rows → new.blockers ≡ map (given_up forgot) v.blockers → (was ≡ false → (new.rows ≡ v.rows) × (new.blockers ≡ v.blockers)) → new.resources ≡ v.resources →
    new.deadlines ≡ v.deadlines → waits ≡ is_waiting n.waiting label → settled ≡ (is_settled && (not was && not waits)) → IsRemembered n new settled is_in_time
remembered_issued m n label c outcome v new is_settled is_in_time was waits settled unit forgot kept is own told step forgets rows blockers same resources deadlines waited stays = record {
  noted =
      subst (λ x. AreNotedNow x new) (sym step)
      (noted_as k new v.resources (map (given_up (forgot_of m c outcome unit)) v.blockers) (map (forgotten (forgot_of m c outcome unit)) v.rows) v.deadlines resources
      (blockers ∙ ap (λ o. map (given_up o) v.blockers) forgets) (rows ∙ ap (λ o. map (forgotten o) v.rows) forgets) deadlines pair.0.0 pair.0.1);
  settled = λ set.
      let parts = and_parts is_settled (not was && not waits) (sym stays ∙ set) in
      let both = and_parts (not was) (not waits) parts.1 in
      let before = is.settled parts.0 in
      let left = same (opposite was both.0) in
      let alike : n.waiting ≡ m.waiting = ap (λ x. x.waiting) step ∙ pair.1 (sym (waited ∙ ap (λ x. is_waiting x.waiting label) step) ∙ opposite waits both.1) in
      record {
        closed = subst (λ cs. AreClosed cs new.rows) (sym left.1) (subst (AreClosed v.blockers) (sym left.0) before.closed);
        all = ap count left.0 ∙ before.all ∙ ap length (sym alike);
      };
  in_time = λ set. subst (λ x. All (IsInTime x) x.waiting) (sym step) (issued_in_time m c (is.in_time set) label);
}
  where
    opposite : (b : Bool) → not b ≡ true → b ≡ false
    opposite true is = cc
    opposite false is = refl

    k : Machine
    k = (issued m label c).machine

    pair : noted_then m (issued m label c).machine label v.resources (map (given_up (if is_keeping m.units.opening c.verb && goes_on outcome then None else unit)) v.blockers)
        (map (forgotten (if is_keeping m.units.opening c.verb && goes_on outcome then None else unit)) v.rows) v.deadlines
    pair = issued_noted m c v.resources v.blockers v.rows v.deadlines is.noted.noted is.noted.due kept label unit outcome own told

-- ---- Waking and time-out

-- if all may have to be looked at
pub remembered_open : (m : Machine) (v new : NotesValue) (is_settled is_in_time : Bool) → is_settled ≡ false → AreNotedNow m new → IsRemembered m v is_settled is_in_time → IsRemembered m new is_settled is_in_time
remembered_open m v new is_settled is_in_time open_yet noted is = record {
  noted = noted;
  settled = λ set. absurd (false≢true (sym open_yet ∙ set));
  in_time = is.in_time;
}

-- if none may resume
pub remembered_settled : (m : Machine) (v new : NotesValue) (is_settled is_in_time : Bool) → AreNotedNow m new → AreSettled m new → IsRemembered m v is_settled is_in_time → IsRemembered m new true is_in_time
remembered_settled m v new is_settled is_in_time noted settled is = record { noted = noted; settled = λ set. settled; in_time = is.in_time }

-- if a command has resumed
pub remembered_woken : (m n : Machine) (v mid new : NotesValue) (at : ℕ) (label : Bytes) (unit : Option ℕ) (is_settled is_in_time : Bool) → AreTasksKept m → AreApart m.waiting → AreNotedNow m v → IsFreeAt m v at label →
    ((t : Task) → task_at m.tasks label ≡ Some t → unit ≡ t.unit) → n ≡ (woken m).machine → mid.rows ≡ slice_set v.rows at None → mid.blockers ≡ v.blockers → mid.resources ≡ v.resources →
    mid.deadlines ≡ slice_set v.deadlines at never → new.rows ≡ map (forgotten unit) mid.rows → new.blockers ≡ map (given_up unit) mid.blockers → new.resources ≡ mid.resources → new.deadlines ≡ mid.deadlines → is_settled ≡ false →
    (is_in_time ≡ true → All (IsInTime m) m.waiting) → IsRemembered n new is_settled is_in_time
remembered_woken m n v mid new at label unit is_settled is_in_time kept apart noted free own step rows blockers resources deadlines then_rows then_blockers then_resources then_deadlines open_yet in_time = record {
  noted =
      subst (λ x. AreNotedNow x new) (sym step)
      (noted_as (woken m).machine new v.resources (map (given_up unit) v.blockers) (map (forgotten unit) (slice_set v.rows at None)) ds (then_resources ∙ resources)
      (then_blockers ∙ ap (map (given_up unit)) blockers) (then_rows ∙ ap (map (forgotten unit)) rows) (then_deadlines ∙ deadlines) after.0 after.1);
  settled = λ set. absurd (false≢true (sym open_yet ∙ set));
  in_time = λ set. subst (λ x. All (IsInTime x) x.waiting) (sym step) (woken_in_time m label free.first (in_time set));
}
  where
    ds : List ℕ
    ds = slice_set v.deadlines at never

    after : AreBoth (woken m).machine v.resources (map (given_up unit) v.blockers) (map (forgotten unit) (slice_set v.rows at None)) ds (woken m).machine.waiting
    after =
        woken_noted m v.resources v.blockers (slice_set v.rows at None) ds label unit kept
        (subst (λ l. AreBoth m v.resources v.blockers (slice_set v.rows at None) ds (not_waiting m.waiting l)) free.own (
          noted_without m v.resources v.blockers v.rows m.waiting at free.note apart noted.noted free.there,
          due_without m.tasks v.rows m.waiting v.deadlines at free.note apart noted.due free.there,
        )) free.first own

-- if a task has been abended for its time
pub remembered_expired : (m n : Machine) (v new : NotesValue) (ns : List (Option WaitNote)) (ds : List ℕ) (is_in_time : Bool) (t : Task) (unit : Option ℕ) → AreTasksKept m →
    AreNoted m v.resources v.blockers ns (not_waiting m.waiting t.label) → AreDue m.tasks ns (not_waiting m.waiting t.label) ds → first_late m m.waiting ≡ Some t → unit ≡ t.unit → n ≡ (expired m).machine →
    new.rows ≡ map (forgotten unit) ns → new.blockers ≡ map (given_up unit) v.blockers → new.resources ≡ v.resources → new.deadlines ≡ ds → is_in_time ≡ false → IsRemembered n new false is_in_time
remembered_expired m n v new ns ds is_in_time t unit kept noted due first own step rows blockers resources deadlines late = record {
  noted =
      let after = expired_noted m v.resources v.blockers ns ds t unit kept (noted, due) first own in
      subst (λ x. AreNotedNow x new) (sym step)
      (noted_as (expired m).machine new v.resources (map (given_up unit) v.blockers) (map (forgotten unit) ns) ds resources blockers rows deadlines after.0 after.1);
  settled = λ set. absurd (false≢true set);
  in_time = λ set. absurd (false≢true (sym late ∙ set));
}

-- the note of a task, if it has one, stands at a place of a note, and of a deadline
pub note_at : (m : Machine) (v : NotesValue) (label : Bytes) (at : Option ℕ) → AreNotedNow m v → IsPlaceOf label v.rows at → IfSome at (IsNoteAt v)
note_at m v label None noted place = tt
note_at m v label (Some i) noted place = record { note = place.0; there = place.1; timed = due_within m.tasks v.rows m.waiting v.deadlines i place.0 noted.due place.1 }

-- if no task has waited too long
pub remembered_early : (m : Machine) (v : NotesValue) (is_settled is_in_time : Bool) → IsRemembered m v is_settled is_in_time → first_late m m.waiting ≡ None → IsRemembered m v is_settled true
remembered_early m v is_settled is_in_time is none = record { noted = is.noted; settled = is.settled; in_time = λ set. all_in_time m m.waiting none }
