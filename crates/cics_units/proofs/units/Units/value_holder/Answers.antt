use Rattle.std.proofs.Common.{◌∙◌, sym, ap, subst}
use Rattle.cics_enqueue.specs.Table.{holder_over}
use Rattle.cics_history.specs.Execution.{IsOpenUnit}
use Rattle.cics_history.specs.Holding.{value_holder}
use Rattle.cics_units.specs.Cores.{core_value}
use Rattle.cics_units.specs.KeptUnits.{state_shown}
use Rattle.cics_units.specs.TableInPlace.{value_of}
use Rattle.cics_units.proofs.Enqueuing.{value_held}
use Rattle.cics_units.proofs.HeldOver.{holder_open}
use Rattle.cics_units.proofs.ShownUnits.{if_open}
use Rattle.cics_units.proofs.units.Units.value_holder.Goals as goal

pub returns-clause-holder : goal.returns-clause-holder
returns-clause-holder c =
    let u = c.self.inside in
    let s = state_shown u.opening u.trace.items u.outcomes.items u.commits.items (core_value u.core) in
    c.holder_over.ensures.value ∙ ap (λ r. holder_over r c.args.asking u.core.locks) c.value.ensures
    ∙ sym (value_held s (core_value u.core).stores u.core.locks c.self.invariant.0 c.args.asking c.args.value.now)
    ∙ ap (λ v. value_holder v.state c.args.asking c.args.value.now) c.self.view_is

pub returns-clause-is_open : goal.returns-clause-is_open
returns-clause-is_open c =
    let u = c.self.inside in
    let s = state_shown u.opening u.trace.items u.outcomes.items u.commits.items (core_value u.core) in
    if_open c.holder_over.result (λ h is. subst (λ v. IsOpenUnit v.state h) c.self.view_is
    (holder_open s u.core.locks c.self.invariant.0.sound c.self.invariant.0.table c.args.asking (value_of c.args.value.now) h
    (ap (λ r. holder_over r c.args.asking u.core.locks) (sym c.value.ensures) ∙ sym c.holder_over.ensures.value ∙ is)))
