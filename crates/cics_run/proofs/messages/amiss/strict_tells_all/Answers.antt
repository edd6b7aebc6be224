use Rattle.cics_run.proofs.OfMessages.Strict.{strict_notices}
use Rattle.cics_run.proofs.messages.amiss.strict_tells_all.Goals as goal

pub returns : goal.returns
returns c = strict_notices
