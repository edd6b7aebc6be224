use Rattle.std.proofs.Common.{ap, ◌∙◌, ◌+◌}
use Rattle.cics_run.specs.Session.Standing.{next_step}
use Rattle.cics_run.specs.Stage.Seen.{after_step}
use Rattle.cics_picture.specs.Page.Recording.{page_sight}
use Rattle.cics_picture.proofs.page.pages.follow_line.Goals as goal

pub returns-clause-steps : goal.returns-clause-steps
returns-clause-steps c =
    c.in_ok-end_line.ensures ∙ c.in_ok-is_fault.ensures.seen
    ∙ ap (λ t. after_step page_sight (c.args.session.now.number + 1) t (next_step c.args.session.now c.args.line.now)) c.begin_line.ensures
