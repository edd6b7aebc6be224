use Rattle.std.specs.Prelude.{◌&&◌, not}
use Rattle.std.proofs.Common.{◌∙◌, sym, subst}
use Rattle.cics_dispatch.specs.Machine.Answers.{may_want}
use Rattle.cics_dispatch.specs.Machine.Events.{IsAsBeforeIfRefused}
use Rattle.cics_dispatch.proofs.RegionCalls.{issue_refused}
use Rattle.cics_dispatch.proofs.regions.Region.issue.Goals as goal

pub returns-in-Ok-Refused-clause-step : goal.returns-in-Ok-Refused-clause-step
returns-in-Ok-Refused-clause-step c =
    let m = c.args.self.now.machine in
    issue_refused (not m.is_down && may_want m c.args.label c.args.command) c.args.self.now c.play.new.self c.args.label c.args.command c.in-Ok-Refused.field-0-0 c.in-Ok-Refused.refusal
    (sym c.in-Ok-Refused.field-0-is ∙ c.in-Ok-Refused.ensures.played.0) (subst (IsAsBeforeIfRefused c.args.self.now c.play.new.self) c.in-Ok-Refused.field-0-is c.in-Ok-Refused.ensures.refused)
