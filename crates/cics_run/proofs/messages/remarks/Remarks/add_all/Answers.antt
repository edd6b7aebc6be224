use Rattle.cics_run.specs.Messages.Remarks.{with_notice}
use Rattle.cics_run.proofs.OfMessages.Put.{fold-next}
use Rattle.cics_run.proofs.messages.remarks.Remarks.add_all.Goals as goal

pub loop-notice-preserved : goal.loop-notice-preserved
loop-notice-preserved c =
    fold-next (with_notice c.args.stage.now c.args.number c.args.line.now) c.args.self.now c.args.notices.now c.loop-notice.notice-index c.notice-item.result c.loop-notice.self c.add.new.self
    c.loop-notice-test.true c.notice-item.is c.loop-notice.invariant c.in_ok-add.ensures
