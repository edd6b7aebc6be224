use Rattle.std.proofs.Common.{subst}
use Rattle.cics_dispatch.specs.Machine.Steps.{attached}
use Rattle.cics_dispatch.specs.Machine.Answers.{IsHeadlineRegion, IsSerializableRegion, attach_may_want}
use Rattle.cics_dispatch.specs.Machine.Notes.{IsRemembered}
use Rattle.cics_dispatch.proofs.OfMachine.RegionRemembers.{after_step, remembered_attached}
use Rattle.cics_dispatch.proofs.RegionCalls.{refused_down, made_up}
use Rattle.cics_dispatch.proofs.regions.Region.attach.Goals as goal

pub invariant_of-self : goal.invariant_of-self
invariant_of-self c =
    let u = c.self.inside in
    let m = u.dispatcher.machine in (
      c.attach.ensures.kept c.self.invariant.0,
      after_step (λ m. IsRemembered m u.notes u.is_settled u.is_in_time) _ u.dispatcher c.attach.new.self (attached m c.args.label c.args.dtimout) c.attach.result c.attach.ensures.step c.self.invariant.1
          (remembered_attached m c.args.label c.args.dtimout u.notes u.is_settled u.is_in_time c.self.invariant.0.tasks c.self.invariant.1),
    )

pub returns-in_err-refuse_if_down-clause-step : goal.returns-in_err-refuse_if_down-clause-step
returns-in_err-refuse_if_down-clause-step c =
    refused_down (λ m. attach_may_want m c.args.label) (λ m. attached m c.args.label c.args.dtimout) c.from_residual.result c.args.self.now c.in_err-refuse_if_down.field-0.0 c.from_residual.ensures c.in_err-refuse_if_down.ensures.down

pub returns-in_err-refuse_if_down-clause-headline : goal.returns-in_err-refuse_if_down-clause-headline
returns-in_err-refuse_if_down-clause-headline c = subst IsHeadlineRegion c.self.view_is c.self.invariant.0.headline

pub returns-in_err-refuse_if_down-clause-serializable : goal.returns-in_err-refuse_if_down-clause-serializable
returns-in_err-refuse_if_down-clause-serializable c = subst IsSerializableRegion c.self.view_is c.self.invariant.0.serializable

pub returns-clause-step : goal.returns-clause-step
returns-clause-step c =
    made_up (λ m. attach_may_want m c.args.label) (λ m. attached m c.args.label c.args.dtimout) c.attach.result c.self.inside.dispatcher c.args.self.now c.attach.new.self c.self.view_is c.in_ok-refuse_if_down.ensures.up c.attach.ensures.step

pub returns-clause-headline : goal.returns-clause-headline
returns-clause-headline c = (c.attach.ensures.kept c.self.invariant.0).headline

pub returns-clause-serializable : goal.returns-clause-serializable
returns-clause-serializable c = (c.attach.ensures.kept c.self.invariant.0).serializable
