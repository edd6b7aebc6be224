use Rattle.std.proofs.Common.{◌≡◌, ◌<◌, ◌∙◌, ℕ, sym, ap, subst, refl, true, Option, Some, None, List, length, Ok}
use Rattle.std.specs.Prelude.{if◌then◌else◌, is_some, is_none, slice_get, IfSome}
use Rattle.std.proofs.lemmas.Bool.{false≢true}
use Rattle.cics_names.specs.Keyed.{Bytes}
use Rattle.cics_dispatch.specs.Machine.Machine.{Task, task_at}
use Rattle.cics_dispatch.specs.Machine.Regions.{region_of, IsRegionKept}
use Rattle.cics_dispatch.specs.Machine.Steps.{with_new_task, refused_or, attached}
use Rattle.cics_dispatch.specs.declared.machine.outcomes.Refused.TheVariants.{DuplicateLabel}
use Rattle.cics_dispatch.proofs.OfMachine.KeptTasks.{kept_attached}
use Rattle.cics_dispatch.proofs.OfMachine.OwnedUnits.{owned_attached}
use Rattle.cics_dispatch.proofs.OfMachine.RegionPerforming.{refused_memory}
use Rattle.cics_dispatch.proofs.OfMachine.RegionSteps.{kept_as, none_found, task_there}
use Rattle.cics_dispatch.proofs.dispatcher.Dispatcher.attach.Goals as goal

-- a label at which a place is found is a task's
found_some : (ts : List Task) (label : Bytes) (o : Option ℕ) → is_some o ≡ true → IfSome o (λ at. slice_get ts at ≡ task_at ts label) → IfSome o (λ at. at < length ts) → is_some (task_at ts label) ≡ true
found_some ts label None found task within = absurd (false≢true found)
found_some ts label (Some at) found task within = task_there ts at within (λ t there. ap is_some (sym task ∙ there))

pub returns-then-is_some-clause-step : goal.returns-then-is_some-clause-step
returns-then-is_some-clause-step c =
    let m = c.args.self.now.machine in
    let label = c.args.label in
    let found = subst (λ v. is_some (task_at v.machine.tasks label) ≡ true) c.self.view_is (found_some c.self.inside.tasks label c.find.result (sym c.if-is_some.ensures) c.find.ensures.task c.find.ensures.within) in
    (ap (λ b. (refused_or m (if b then Some DuplicateLabel else None) (record { outcome = tt; machine = with_new_task m label c.args.dtimout })).outcome) found, refl)

pub returns-then-is_some-clause-kept : goal.returns-then-is_some-clause-kept
returns-then-is_some-clause-kept c = λ was. was

pub attach-requires : goal.attach-requires
attach-requires c = none_found c.find.result (sym c.if-is_some.ensures) c.find.ensures.none

pub invariant_of-self : goal.invariant_of-self
invariant_of-self c =
    let u = c.self.inside in
    subst (λ ts. IsRegionKept (region_of u.units ts u.waits u.clock u.is_down)) (sym c.in_err-attach.ensures.err) c.self.invariant

pub returns-in_err-attach-clause-step : goal.returns-in_err-attach-clause-step
returns-in_err-attach-clause-step c =
    let u = c.self.inside in
    let label = c.args.label in
    let none = subst (λ v. task_at v.machine.tasks label ≡ None) c.self.view_is (none_found c.find.result (sym c.if-is_some.ensures) c.find.ensures.none) in
    refused_memory _ _ _ c.from_residual.result _ c.from_residual.ensures (ap (λ o. is_none (if is_some o then Some DuplicateLabel else None)) none)
    ((λ i. region_of u.units (c.in_err-attach.ensures.err i) u.waits u.clock u.is_down) ∙ c.self.view_is)

pub returns-in_err-attach-clause-kept : goal.returns-in_err-attach-clause-kept
returns-in_err-attach-clause-kept c = λ was.
    let u = c.self.inside in
    subst (λ ts. IsRegionKept (region_of u.units ts u.waits u.clock u.is_down)) (sym c.in_err-attach.ensures.err) c.self.invariant

pub invariant_of-self-2 : goal.invariant_of-self-2
invariant_of-self-2 c =
    let u = c.self.inside in
    let m = (region_of u.units u.tasks u.waits u.clock u.is_down).machine in
    kept_as (region_of u.units c.attach.new.self u.waits u.clock u.is_down) (with_new_task m c.args.label c.args.dtimout) (λ i. record m { tasks = c.in_ok-attach.ensures.ok i })
    (kept_attached m c.args.label c.args.dtimout c.self.invariant.tasks (none_found c.find.result (sym c.if-is_some.ensures) c.find.ensures.none))
    (owned_attached m c.args.label c.args.dtimout c.self.invariant.owned) (record { headline = c.self.invariant.headline.headline }) (record { serializable = c.self.invariant.serializable.serializable })

pub returns-clause-step : goal.returns-clause-step
returns-clause-step c =
    let m = c.args.self.now.machine in
    let u = c.self.inside in
    let label = c.args.label in
    let none = subst (λ v. task_at v.machine.tasks label ≡ None) c.self.view_is (none_found c.find.result (sym c.if-is_some.ensures) c.find.ensures.none) in
    let step : attached m label c.args.dtimout ≡ record { outcome = Ok tt; machine = with_new_task m label c.args.dtimout } =
    ap (λ o. refused_or m (if is_some o then Some DuplicateLabel else None) (record { outcome = tt; machine = with_new_task m label c.args.dtimout })) none in (
      ap (λ s. s.outcome) step,
      (λ i. record (region_of u.units u.tasks u.waits u.clock u.is_down).machine { tasks = c.in_ok-attach.ensures.ok i }) ∙ ap (λ v. with_new_task v.machine label c.args.dtimout) c.self.view_is ∙ sym (ap (λ s. s.machine) step),
    )

pub returns-clause-kept : goal.returns-clause-kept
returns-clause-kept c = λ was. invariant_of-self-2 c
