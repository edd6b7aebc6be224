-- A region that is shut down: its tasks end one after the other, and no unit is open then; a step
-- of one that isn't.
use Rattle.std.specs.Prelude.{◌≡◌, ℕ, ◌+◌, ◌<◌, suc, zero, Bool, true, false, not, ◌&&◌, if◌then◌else◌, Option, Some, None, is_some, Result, Err, List, [], ◌∷◌, drop, slice_get, slice_set, length, refl}
use Rattle.std.proofs.Common.{◌∙◌, sym, ap, subst, arith, inl, inr}
use Rattle.std.proofs.lemmas.Bool.{true≢false, false_from_ne_true}
use Rattle.std.proofs.lemmas.List.{length-set}
use Rattle.cics_history.specs.Events.{is_live}
use Rattle.cics_history.specs.declared.ops.UnitState.TheVariants.{BackedOut}
use Rattle.cics_dispatch.specs.Machine.Machine.{Machine, Task, RegionValue, replaced, unit_closed}
use Rattle.cics_dispatch.specs.Machine.Tasks.{own_label, IsOwn}
use Rattle.cics_dispatch.specs.Machine.OwnedUnits.{AreUnitsOwned}
use Rattle.cics_dispatch.specs.Machine.Steps.{Stepped}
use Rattle.cics_dispatch.specs.Machine.Answers.{IsStep}
use Rattle.cics_dispatch.specs.Machine.Shutdown.{IsRegionStep, one_if, units_of, all_ended}
use Rattle.cics_dispatch.specs.declared.machine.outcomes.Refused.{Refused}
use Rattle.cics_dispatch.specs.declared.machine.outcomes.Refused.TheVariants.{RegionDown}
use Rattle.cics_dispatch.proofs.OfMachine.TaskPlaces.{replaced-set, place-set}

-- ---- A step, of a region that isn't shut down and of one that is

pub up_step : {X : Type 0} (wants : Bool) (old new : RegionValue) (s : Stepped (Result X Refused)) (r : Result X Refused) → old.machine.is_down ≡ false →
    IsStep wants old s r new → IsRegionStep wants old s r new
up_step wants old new s r up step =
    subst (λ b. IsStep (not b && wants) old (if b then record { outcome = Err RegionDown; machine = old.machine } else s) r new) (sym up) step

-- ---- The tasks end one after the other

-- a place has the first of what is left behind the places before it
pub left_there : (ts : List Task) (at : ℕ) (t : Task) → slice_get ts at ≡ Some t → drop at ts ≡ t ∷ drop (suc at) ts
left_there [] at t there = cc
left_there (s ∷ ts) zero t there = let same : s ≡ t = cc in ap (λ x. x ∷ ts) same
left_there (s ∷ ts) (suc at) t there = left_there ts at t there

-- what is left behind a place stays if another task is put there
left_set : (ts : List Task) (at : ℕ) (owner : Task) → drop (suc at) (slice_set ts at owner) ≡ drop (suc at) ts
left_set [] at owner = refl
left_set (s ∷ ts) zero owner = refl
left_set (s ∷ ts) (suc at) owner = left_set ts at owner

-- the task that has ended
abbrev pub ended : Task → Task
ended t = record t { unit = None; browses = []; has_ended = true }

module _ (m : Machine) (at : ℕ) (t : Task) (own : IsOwn own_label m.tasks) (there : slice_get m.tasks at ≡ Some t) where
  put : replaced m.tasks (ended t) ≡ slice_set m.tasks at (ended t)
  put = replaced-set m.tasks at t (ended t) own there refl

  -- what is left to end after the task at a place has ended
  pub left_then : drop at m.tasks ≡ t ∷ drop (suc at) (unit_closed m t BackedOut true).tasks
  left_then = left_there m.tasks at t there ∙ ap (λ l. t ∷ l) (sym (ap (drop (suc at)) put ∙ left_set m.tasks at (ended t)))

  pub ended_then : all_ended m (drop at m.tasks) ≡ all_ended (unit_closed m t BackedOut true) (drop (suc at) (unit_closed m t BackedOut true).tasks)
  ended_then = ap (all_ended m) left_then

  pub count_then : units_of (drop at m.tasks) ≡ one_if t.unit (units_of (drop (suc at) (unit_closed m t BackedOut true).tasks))
  count_then = ap units_of left_then

  -- no task up to that place has a unit
  pub none_then : ((i : ℕ) (v : Task) → i < at → slice_get m.tasks i ≡ Some v → v.unit ≡ None) → (i : ℕ) (v : Task) → i < suc at →
      slice_get (unit_closed m t BackedOut true).tasks i ≡ Some v → v.unit ≡ None
  none_then none i v before is = elim (place-set m.tasks at (ended t) i v (ap (λ l. slice_get l i) (sym put) ∙ is)) [
    | inl here ↦ ap (λ x. x.unit) here.1
    | inr other ↦ none i v (let differs = other.0 in omega (arith, before, differs)) other.1
  ]

  -- there are as many tasks as before
  pub ended_long : length (unit_closed m t BackedOut true).tasks ≡ length m.tasks
  ended_long = ap length put ∙ length-set m.tasks at (ended t)

-- a unit that is counted, and none
pub one_more : (k : ℕ) (o : Option ℕ) (n : ℕ) → is_some o ≡ true → k + one_if o n ≡ (k + 1) + n
one_more k None n some = absurd (true≢false (sym some))
one_more k (Some u) n some = omega arith

pub none_more : (k : ℕ) (o : Option ℕ) (n : ℕ) → is_some o ≡ false → k + one_if o n ≡ k + n
none_more k None n none = refl
none_more k (Some u) n none = absurd (true≢false none)

-- the ends of tasks leave the waiting commands
pub ended_waiting : (m : Machine) (ts : List Task) → (all_ended m ts).waiting ≡ m.waiting
ended_waiting m [] = refl
ended_waiting m (t ∷ ts) = ended_waiting (unit_closed m t BackedOut true) ts

-- ---- No unit is open

pub none_live : (m : Machine) → AreUnitsOwned m → ((i : ℕ) (t : Task) → slice_get m.tasks i ≡ Some t → t.unit ≡ None) → (u : ℕ) → is_live m.units u ≡ false
none_live m owned none u =
    false_from_ne_true (is_live m.units u) (λ live. owned.owned u live (record { other = λ i t there own. none_is (sym (none i t there) ∙ own) }))
  where
    none_is : None ≡ Some u → ⊥
    none_is e = cc
