-- The first of the waiting commands: the one that resumes, and the one whose task's time is over.
use Rattle.std.specs.Prelude.{◌≡◌, Bool, true, false, cond, ◌||◌, Option, Some, None, Result, Ok, Err, IfOk, IsErr, List, [], ◌∷◌, refl}
use Rattle.std.specs.List.{list_any}
use Rattle.std.proofs.Common.{sym, ap, subst, ◌∙◌}
use Rattle.std.proofs.lemmas.Bool.{false≢true}
use Rattle.cics_dispatch.specs.Machine.Machine.{Machine, Task, Suspended, task_at, with_waiting, not_waiting, timed_out}
use Rattle.cics_dispatch.specs.Machine.Steps.{with_outcome, by_op}
use Rattle.cics_dispatch.specs.Machine.Waking.{may_go_on, is_late, first_free, first_late, went_on, woken, woken_first, expired, expired_task}
use Rattle.cics_dispatch.specs.Machine.First.{IsFirstFor, IsFirstToGoOn, IsFirstTooLate}
use Rattle.cics_dispatch.specs.declared.machine.outcomes.Woken.{Woken}
use Rattle.cics_dispatch.specs.declared.machine.outcomes.Expired.{Expired}
use Rattle.cics_names.specs.Keyed.{Bytes}
use Rattle.cics_dispatch.proofs.OfMachine.TaskPlaces.{place_of_task}

-- one more before it for which it doesn't hold
one_more : (holds : Suspended → Bool) (w : Suspended) (ws : List Suspended) (label : Bytes) → holds w ≡ false → IsFirstFor holds ws label → IsFirstFor holds (w ∷ ws) label
one_more holds w ws label passed is = record {
  before = w ∷ is.before;
  wait = is.wait;
  behind = is.behind;
  order = ap (λ l. w ∷ l) is.order;
  own = is.own;
  this = is.this;
  none_before = ap (λ b. b || list_any holds is.before) passed ∙ is.none_before;
}

-- it is the very first
at_once : (holds : Suspended → Bool) (w : Suspended) (ws : List Suspended) (label : Bytes) → holds w ≡ true → w.label ≡ label → IsFirstFor holds (w ∷ ws) label
at_once holds w ws label this own = record { before = []; wait = w; behind = ws; order = refl; own = own; this = this; none_before = refl }

module _ (m : Machine) where
  abbrev goes : Suspended → Bool
  goes w = may_go_on m w (task_at m.tasks w.label)

  abbrev late : Suspended → Bool
  late w = is_late m w (task_at m.tasks w.label)

  first_goes : (x : Suspended) (ws : List Suspended) → first_free m ws ≡ Some x → IsFirstFor goes ws x.label
  first_goes x [] is = cc
  first_goes x (w ∷ ws) is =
      elim (goes w) as (λ b. goes w ≡ b → cond b (Some w) (first_free m ws) ≡ Some x → IsFirstFor goes (w ∷ ws) x.label) [
        | true ↦ λ this found. at_once goes w ws x.label this (let same : w ≡ x = cc in ap (λ v. v.label) same)
        | false ↦ λ passed found. one_more goes w ws x.label passed (first_goes x ws found)
      ] refl is

  first_ends : (t : Task) (ws : List Suspended) → first_late m ws ≡ Some t → IsFirstFor late ws t.label
  first_ends t [] is = cc
  first_ends t (w ∷ ws) is =
      elim (late w) as (λ b. late w ≡ b → cond b (task_at m.tasks w.label) (first_late m ws) ≡ Some t → IsFirstFor late (w ∷ ws) t.label) [
        | true ↦ λ this found. at_once late w ws t.label this (sym (place_of_task m.tasks w.label t found).2)
        | false ↦ λ passed found. one_more late w ws t.label passed (first_ends t ws found)
      ] refl is

-- the command that resumes is the first that may
pub first_woken : (m n : Machine) (e : Woken) → with_outcome (Some e) n ≡ woken m → IsFirstToGoOn m e.label
first_woken m n e step = by (first_free m m.waiting) refl (ap (λ s. s.outcome) step)
  where
    told : (x : Suspended) (o : Option Task) → Some e ≡ (went_on m x o).outcome → e.label ≡ x.label
    told x None is = cc
    told x (Some t) is =
        let one : e ≡ record { label = x.label; outcome = (by_op (with_waiting m (not_waiting m.waiting x.label)) t x.command x.op).outcome } = cc in
        ap (λ v. v.label) one

    by : (o : Option Suspended) → first_free m m.waiting ≡ o → Some e ≡ (woken_first m o).outcome → IsFirstToGoOn m e.label
    by None none is = cc
    by (Some x) first is = subst (IsFirstToGoOn m) (sym (told x (task_at m.tasks x.label) is)) (first_goes m x m.waiting first)

-- the task that is abended for its time is the first that has waited too long
pub first_expired : (m n : Machine) (e : Expired) → with_outcome (Some e) n ≡ expired m → IsFirstTooLate m e.label
first_expired m n e step = by (first_late m m.waiting) refl (ap (λ s. s.outcome) step)
  where
    by : (o : Option Task) → first_late m m.waiting ≡ o → Some e ≡ (expired_task m o).outcome → IsFirstTooLate m e.label
    by None none is = cc
    by (Some t) first is =
        let one : e ≡ record { label = t.label; code = timed_out } = cc in
        subst (IsFirstTooLate m) (sym (ap (λ v. v.label) one)) (first_ends m t m.waiting first)

-- what is refused says nothing of an answer
pub never_told : {A E : Type 0} (r : Result A E) (P : A → Type 0) → IsErr r → IfOk r P
never_told (Ok a) P is = absurd (false≢true is)
never_told (Err e) P is = tt
