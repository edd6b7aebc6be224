use Rattle.std.proofs.Common.{◌≡◌, ◌∙◌, sym, ap, subst, refl, true, false, Some, None, Ok}
use Rattle.std.specs.Prelude.{if◌then◌else◌, nat_lt}
use Rattle.std.proofs.lemmas.Bool.{lt-ltb, le-ltb}
use Rattle.cics_dispatch.specs.Machine.Regions.{region_of}
use Rattle.cics_dispatch.specs.Machine.Steps.{refused_or}
use Rattle.cics_dispatch.specs.Machine.Waking.{clock_set}
use Rattle.cics_dispatch.specs.declared.machine.outcomes.Refused.TheVariants.{ClockBack}
use Rattle.cics_dispatch.proofs.OfMachine.KeptTasks.{kept_clock}
use Rattle.cics_dispatch.proofs.OfMachine.OwnedUnits.{owned_clock}
use Rattle.cics_dispatch.proofs.dispatcher.Dispatcher.set_clock.Goals as goal

pub returns-then-now-self-clause-step : goal.returns-then-now-self-clause-step
returns-then-now-self-clause-step c =
    let m = c.args.self.now.machine in
    let back = subst (λ v. nat_lt c.args.now v.machine.clock ≡ true) c.self.view_is (lt-ltb c.args.now c.self.inside.clock c.if-now-self.true) in
    (ap (λ b. (refused_or m (if b then Some ClockBack else None) (record { outcome = tt; machine = record m { clock = c.args.now } })).outcome) back, refl)

pub returns-then-now-self-clause-kept : goal.returns-then-now-self-clause-kept
returns-then-now-self-clause-kept c = λ was. was

pub invariant_of-self : goal.invariant_of-self
invariant_of-self c =
    let u = c.self.inside in
    let m = (region_of u.units u.tasks u.waits u.clock u.is_down).machine in
    record { tasks = kept_clock m c.args.now c.self.invariant.tasks; owned = owned_clock m c.args.now c.self.invariant.owned; headline = record { headline = c.self.invariant.headline.headline }; serializable = record { serializable = c.self.invariant.serializable.serializable } }

pub returns-clause-step : goal.returns-clause-step
returns-clause-step c =
    let m = c.args.self.now.machine in
    let on = subst (λ v. nat_lt c.args.now v.machine.clock ≡ false) c.self.view_is (le-ltb c.args.now c.self.inside.clock c.if-now-self.false) in
    let step : clock_set m c.args.now ≡ record { outcome = Ok tt; machine = record m { clock = c.args.now } } =
    ap (λ b. refused_or m (if b then Some ClockBack else None) (record { outcome = tt; machine = record m { clock = c.args.now } })) on in
    (ap (λ s. s.outcome) step, (λ i. record (c.self.view_is i).machine { clock = c.args.now }) ∙ sym (ap (λ s. s.machine) step))

pub returns-clause-kept : goal.returns-clause-kept
returns-clause-kept c = λ was. invariant_of-self c
