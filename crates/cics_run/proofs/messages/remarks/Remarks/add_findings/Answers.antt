use Rattle.cics_run.specs.Messages.Findings.{with_finding}
use Rattle.cics_run.proofs.OfMessages.Put.{fold-next}
use Rattle.cics_run.proofs.messages.remarks.Remarks.add_findings.Goals as goal

pub loop-one-preserved : goal.loop-one-preserved
loop-one-preserved c =
    fold-next with_finding c.args.self.now c.args.found.now c.loop-one.one-index c.one-item.result c.loop-one.self c.add_finding.new.self c.loop-one-test.true c.one-item.is c.loop-one.invariant
    c.in_ok-add_finding.ensures
