use Rattle.std.proofs.Common.{◌≡◌, ◌∙◌, sym, ap, subst, true}
use Rattle.cics_history.proofs.Ready.{ready_short}
use Rattle.cics_history.specs.Execution.{unit_or_next, IsOpenUnit, IsOpenOrNone, is_ready_op}
use Rattle.cics_history.specs.State.{UnitsState}
use Rattle.cics_history.specs.Holding.{awaited}
use Rattle.cics_history.specs.Isolation.{IsSound}
use Rattle.cics_history.specs.declared.ops.Op.{Op}
use Rattle.cics_units.specs.Cores.{core_value}
use Rattle.cics_units.specs.KeptUnits.{state_shown}
use Rattle.cics_units.specs.Parts.{CoreValue}
use Rattle.cics_units.proofs.KeptUnits.{ready_fits}
use Rattle.cics_units.proofs.ShownUnits.{acts_of, if_open, awaited_is, waits_open, IsAsked, asked}
use Rattle.cics_units.proofs.units.Units.awaited.Goals as goal
use Rattle.cics_units.proofs.units.Units.awaited.Goals.{After-blocker}

-- it is known whom the command has to wait for
module _ (c : After-blocker) where
  abbrev core : CoreValue
  core = core_value c.self.inside.core

  abbrev before : UnitsState
  before = state_shown c.self.inside.opening c.self.inside.trace.items c.self.inside.outcomes.items c.self.inside.commits.items core

  -- the command that is bound
  abbrev op : Op
  op = c.bind-bound.result.op.now

  known : IsAsked c.self.inside.opening c.self.inside.trace.items c.self.inside.outcomes.items c.self.inside.commits.items core c.args.asking c.bind-bound.result c.unit_or_next-acting.result c.blocker.result
  known =
      let u = c.self.inside in
      asked u.opening u.trace.items u.outcomes.items u.commits.items core core c.self.invariant.0 c.args.asking c.args.op.now c.bind-bound.result c.unit_or_next-acting.result c.blocker.result c.bind-bound.ensures.op
      c.bind-bound.ensures.bound (c.unit_or_next-acting.ensures ∙ ap (unit_or_next c.args.asking) c.as_slice.ensures.value)
      (acts_of before c.args.asking (subst (λ v. IsOpenOrNone v.state c.args.asking) (sym c.self.view_is) c.requires.is_open))
      (subst (λ v. is_ready_op v.state c.args.asking c.args.op.now ≡ true) (sym c.self.view_is) c.requires.ready)
      (λ temp. c.bind-bound.ensures.temp temp ∙ c.is_prefixed.ensures temp) c.blocker.ensures

pub bind-bound-requires : goal.bind-bound-requires
bind-bound-requires c =
    let u = c.self.inside in
    let op = c.args.op.now in
    let s = state_shown u.opening u.trace.items u.outcomes.items u.commits.items (core_value u.core) in
    let ready : is_ready_op s c.args.asking op ≡ true = subst (λ v. is_ready_op v.state c.args.asking op ≡ true) (sym c.self.view_is) c.requires.ready in
    record {
      fit = ready_fits s (core_value u.core).stores u.core.locks c.self.invariant.0 c.args.asking op ready;
      short = ready_short s c.args.asking op c.self.invariant.0.lawful_keys ready;
    }

pub returns-clause-awaited : goal.returns-clause-awaited
returns-clause-awaited c =
    let u = c.self.inside in
    let at = (goal.at.returns-clause-awaited c).After-blocker in
    (known at).way ∙ sym (awaited_is u.opening u.trace.items u.outcomes.items u.commits.items (core at) (core at) c.self.invariant.0 c.args.asking (op at) (known at).acts)
    ∙ ap (awaited (before at) c.args.asking) c.bind-bound.ensures.op ∙ ap (λ v. awaited v.state c.args.asking c.args.op.now) c.self.view_is

pub returns-clause-is_open : goal.returns-clause-is_open
returns-clause-is_open c =
    let u = c.self.inside in
    let at = (goal.at.returns-clause-is_open c).After-blocker in
    if_open c.blocker.result (λ h is. subst (λ v. IsOpenUnit v.state h) c.self.view_is
    (waits_open u.opening u.trace.items u.outcomes.items u.commits.items (core at) (core at) c.self.invariant.0 c.args.asking (op at) (known at).acts h (sym (known at).way ∙ is)))

pub returns-clause-sound : goal.returns-clause-sound
returns-clause-sound c = subst (λ v. IsSound v.state) c.self.view_is c.self.invariant.0.sound
