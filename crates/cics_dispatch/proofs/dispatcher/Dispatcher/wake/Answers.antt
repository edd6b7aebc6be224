use Rattle.std.proofs.Common.{◌≡◌, ◌∙◌, sym, ap, subst, refl, Some}
use Rattle.cics_dispatch.specs.Machine.Regions.{region_of, IsRegionKept}
use Rattle.std.specs.Prelude.{[], All}
use Rattle.cics_dispatch.specs.Machine.Machine.{Machine, with_waiting}
use Rattle.cics_dispatch.specs.Machine.Steps.{with_outcome}
use Rattle.cics_dispatch.specs.Machine.Waking.{woken}
use Rattle.cics_dispatch.specs.Machine.Notes.{IsFirstFree}
use Rattle.cics_dispatch.specs.Machine.KeptTasks.{AreTasksKept, IsWaitKept}
use Rattle.cics_dispatch.proofs.OfMachine.KeptTasks.{kept_aside, waits_aside}
use Rattle.cics_dispatch.proofs.OfMachine.OwnedUnits.{owned_suspended}
use Rattle.cics_dispatch.proofs.OfMachine.RegionSteps.{kept_as}
use Rattle.cics_dispatch.proofs.OfMachine.RegionWaking.{woken_kept}
use Rattle.cics_dispatch.proofs.OfMachine.Looks.{went_back}
use Rattle.cics_dispatch.proofs.dispatcher.Dispatcher.wake.Goals as goal
use Rattle.cics_dispatch.proofs.dispatcher.Dispatcher.wake.Goals.{After-remove, After-drop-self-inside-in-Err}

-- what is known once the others wait again
module _ (c : After-remove) where
  abbrev before : Machine
  before =
      let u = c.self.inside in
      (region_of u.units u.tasks u.waits u.clock u.is_down).machine

  abbrev performed : Machine
  performed =
      let p = c.self-2.inside in
      (region_of p.units p.tasks p.waits p.clock p.is_down).machine

  back : with_outcome (Some c.in-Ok.woken) (with_waiting performed c.remove.new.self) ≡ woken before
  back =
      let u = c.self.inside in
      let none : c.replace-waits.new.dest ≡ [] = c.replace-waits.ensures.after ∙ c.new.ensures in
      let first = subst (λ v. IsFirstFree v.machine c.args.label) (sym c.self.view_is) c.requires.first in
      let step = ap (λ r. with_outcome (Some c.in-Ok.woken) r.machine) c.self-2.view_is ∙ c.in-Ok.ensures.step in
      went_back before (region_of u.units u.tasks c.replace-waits.new.dest u.clock u.is_down).machine performed c.in-Ok.woken c.args.label c.replace-waits.result c.remove.new.self c.self.invariant.tasks.waits
      (λ i. with_waiting before (none i)) c.replace-waits.ensures.value first step c.remove.ensures

  kept : IsRegionKept (region_of c.self-2.inside.units c.self-2.inside.tasks c.remove.new.self c.self-2.inside.clock c.self-2.inside.is_down)
  kept =
      let p = c.self-2.inside in
      kept_as (region_of p.units p.tasks c.remove.new.self p.clock p.is_down) (with_waiting performed c.remove.new.self) refl
      (subst AreTasksKept (sym (ap (λ s. s.machine) back)) (woken_kept before c.self.invariant.tasks))
      (owned_suspended performed c.remove.new.self c.self-2.invariant.owned) (record { headline = c.self-2.invariant.headline.headline }) (record { serializable = c.self-2.invariant.serializable.serializable })

-- what is known once the command waits again
module _ (c : After-drop-self-inside-in-Err) where
  as_was : region_of c.self-2.inside.units c.self-2.inside.tasks c.replace-waits.result c.self-2.inside.clock c.self-2.inside.is_down
      ≡ region_of c.self.inside.units c.self.inside.tasks c.self.inside.waits c.self.inside.clock c.self.inside.is_down
  as_was =
      let u = c.self.inside in
      let same : region_of c.self-2.inside.units c.self-2.inside.tasks c.self-2.inside.waits c.self-2.inside.clock c.self-2.inside.is_down ≡ region_of u.units u.tasks c.replace-waits.new.dest u.clock u.is_down =
      c.self-2.view_is ∙ c.in-Err.ensures.err in
      (λ i. record (same i) { machine = with_waiting (same i).machine c.replace-waits.result }) ∙ (λ i. region_of u.units u.tasks (c.replace-waits.ensures.value i) u.clock u.is_down)

pub invariant_of-self-in-Ok : goal.invariant_of-self-in-Ok
invariant_of-self-in-Ok c = kept (goal.at.invariant_of-self-in-Ok c).After-remove

pub returns-in-Ok-clause-step : goal.returns-in-Ok-clause-step
returns-in-Ok-clause-step c = back (goal.at.returns-in-Ok-clause-step c).After-remove ∙ ap (λ v. woken v.machine) c.self.view_is

pub returns-in-Ok-clause-kept : goal.returns-in-Ok-clause-kept
returns-in-Ok-clause-kept c = λ was. kept (goal.at.returns-in-Ok-clause-kept c).After-remove

pub invariant_of-self : goal.invariant_of-self
invariant_of-self c =
    let u = c.self.inside in
    let m = (region_of u.units u.tasks u.waits u.clock u.is_down).machine in
    let none : c.replace-waits.new.dest ≡ [] = c.replace-waits.ensures.after ∙ c.new.ensures in
    kept_as (region_of u.units u.tasks c.replace-waits.new.dest u.clock u.is_down) (with_waiting m []) (λ i. record m { waiting = none i })
    (kept_aside m c.self.invariant.tasks) (owned_suspended m [] c.self.invariant.owned) (record { headline = c.self.invariant.headline.headline }) (record { serializable = c.self.invariant.serializable.serializable })

pub go_on_first-requires-clause-alone : goal.go_on_first-requires-clause-alone
go_on_first-requires-clause-alone c = c.replace-waits.ensures.after ∙ c.new.ensures

pub go_on_first-requires-clause-kept : goal.go_on_first-requires-clause-kept
go_on_first-requires-clause-kept c =
    let u = c.self.inside in
    let m = (region_of u.units u.tasks u.waits u.clock u.is_down).machine in
    let none : c.replace-waits.new.dest ≡ [] = c.replace-waits.ensures.after ∙ c.new.ensures in
    subst (λ ws. All (IsWaitKept (with_waiting m c.replace-waits.new.dest)) ws) (sym c.replace-waits.ensures.value)
    (subst (λ aside. All (IsWaitKept (with_waiting m aside)) u.waits) (sym none) (waits_aside m u.waits c.self.invariant.tasks.waits))

pub invariant_of-self-in-Err : goal.invariant_of-self-in-Err
invariant_of-self-in-Err c = subst IsRegionKept (sym (as_was (goal.at.invariant_of-self-in-Err c).After-drop-self-inside-in-Err)) c.self.invariant

pub returns-in-Err-clause-kept : goal.returns-in-Err-clause-kept
returns-in-Err-clause-kept c = λ was. subst IsRegionKept (sym (as_was (goal.at.returns-in-Err-clause-kept c).After-drop-self-inside-in-Err)) c.self.invariant

pub returns-in-Err-clause-err : goal.returns-in-Err-clause-err
returns-in-Err-clause-err c = as_was (goal.at.returns-in-Err-clause-err c).After-drop-self-inside-in-Err ∙ c.self.view_is
