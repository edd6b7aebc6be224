use Rattle.std.proofs.Common.{◌≡◌, ◌∙◌, ap}
use Rattle.cics_enqueue.specs.Table.{given_back}
use Rattle.cics_history.specs.Execution.{after_dequeue}
use Rattle.cics_units.specs.Cores.{core_value}
use Rattle.cics_units.specs.KeptUnits.{state_shown, AreValid}
use Rattle.cics_units.specs.Parts.{CoreValue}
use Rattle.cics_units.specs.TableInPlace.{value_of}
use Rattle.cics_units.proofs.KeptUnits.{kept_headline, kept_serializable}
use Rattle.cics_units.proofs.Enqueuing.{dequeued_shown, dequeued_kept}
use Rattle.cics_units.proofs.units.Units.deq.Goals as goal
use Rattle.cics_units.proofs.units.Units.deq.Goals.{After-let_go}

-- the core once the value is given back
abbrev after : After-let_go → CoreValue
after c = record (core_value c.self.inside.core) { table = c.let_go.new.self }

done : (c : After-let_go) → after c ≡ record (core_value c.self.inside.core) { table = given_back c.self.inside.core.locks (value_of c.args.value.now) c.args.unit }
done c = λ i. record (core_value c.self.inside.core) { table = (c.let_go.ensures ∙ ap (λ r. given_back c.self.inside.core.locks r c.args.unit) c.value.ensures) i }

kept : (c : After-let_go) → AreValid (state_shown c.self.inside.opening c.self.inside.trace.items c.self.inside.outcomes.items c.self.inside.commits.items (after c)) (after c).stores (after c).table
kept c =
    let u = c.self.inside in
    dequeued_kept u.opening u.trace.items u.outcomes.items u.commits.items (core_value u.core) (after c) c.self.invariant.0 c.args.unit c.args.value.now (done c)

pub invariant_of-self : goal.invariant_of-self
invariant_of-self c = (kept (goal.at.invariant_of-self c).After-let_go, c.self.invariant.1)

pub returns-clause-state : goal.returns-clause-state
returns-clause-state c =
    let u = c.self.inside in
    let at = (goal.at.returns-clause-state c).After-let_go in
    dequeued_shown u.opening u.trace.items u.outcomes.items u.commits.items (core_value u.core) (after at) c.self.invariant.0 c.args.unit c.args.value.now (done at)
    ∙ ap (λ v. after_dequeue v.state c.args.unit c.args.value.now) c.self.view_is

pub returns-clause-headline : goal.returns-clause-headline
returns-clause-headline c = kept_headline _ _ _ (kept (goal.at.returns-clause-headline c).After-let_go)

pub returns-clause-serializable : goal.returns-clause-serializable
returns-clause-serializable c = kept_serializable _ _ _ (kept (goal.at.returns-clause-serializable c).After-let_go)
