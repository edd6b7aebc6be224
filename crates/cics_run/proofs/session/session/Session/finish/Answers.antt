use Rattle.std.proofs.Common.{refl, ap, ◌||◌}
use Rattle.cics_run.specs.Session.Wanted.{form_of}
use Rattle.cics_run.proofs.OfSession.AtEnd.{front-output, fault-written, end-written, end-front}
use Rattle.cics_run.proofs.session.session.Session.finish.Goals as goal

pub returns-in-Ok-true-clause-finishes : goal.returns-in-Ok-true-clause-finishes
returns-in-Ok-true-clause-finishes g c bytes before at =
    fault-written (form_of c.args.wanted) bytes before _ _ (rw c.in-Ok-true.field-0-test at (c.in-Ok-true.ensures.closes (form_of c.args.wanted) bytes before at)) (c.in-Ok-true.ensures.left c.in-Ok-true.field-0-test)

pub returns-in-Err-clause-finishes : goal.returns-in-Err-clause-finishes
returns-in-Err-clause-finishes g c bytes before at = front-output (form_of c.args.wanted) bytes before _ (c.in-Err.ensures.closes (form_of c.args.wanted) bytes before at)

pub returns-in-Ok-clause-finishes : goal.returns-in-Ok-clause-finishes
returns-in-Ok-clause-finishes g c bytes before at =
    end-written (form_of c.args.wanted) bytes before _ _ _ _ (rw c.in-Ok-false.field-0-test at (c.in-Ok-false.ensures.closes (form_of c.args.wanted) bytes before at)) c.in-Ok.ensures.ok c.in-Ok.ensures.stage (ap (λ b. c.end_input.new.self.journal.is_amiss || b) c.in-Ok.ensures.amiss) refl

pub returns-in-Err-write_end-clause-finishes : goal.returns-in-Err-write_end-clause-finishes
returns-in-Err-write_end-clause-finishes g c bytes before at =
    end-front (form_of c.args.wanted) bytes before _ _ _ (rw c.in-Ok-false.field-0-test at (c.in-Ok-false.ensures.closes (form_of c.args.wanted) bytes before at)) c.in-Err-write_end.ensures.err
