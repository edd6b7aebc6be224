use Rattle.std.proofs.Common.{◌≡◌, ◌++◌, ◌∙◌, ap, subst}
use Rattle.cics_run.specs.Session.{text_at_end}
use Rattle.cics_run.specs.Session.Printing.{AppendsFront}
use Rattle.cics_run.specs.Stage.Stages.{region_of}
use Rattle.cics_run.specs.declared.stage.stage.Stage.TheVariants.{Running}
use Rattle.cics_run.proofs.OfSession.Printing.{on-err}
use Rattle.cics_run.proofs.session.session.write_end.Goals as goal

pub returns-in_err-write_pending-clause-err : goal.returns-in_err-write_pending-clause-err
returns-in_err-write_pending-clause-err g c =
    let here : c.in-Running.region ≡ region_of c.args.stage.now = cc (c.in-Running.is, c.in_ok-open.ensures.ok) in
    let text = c.in_ok-are_amiss.ensures.text ∙ ap (λ r. c.args.pending.now.items ++ text_at_end c.args.at_end (Running r)) here in
    on-err _ _ (subst (AppendsFront (g.K.Sink.contents c.args.sink.now) (g.K.Sink.contents c.write_pending.new.sink)) text c.in_err-write_pending.ensures.err)
