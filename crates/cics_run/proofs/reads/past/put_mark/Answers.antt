use Rattle.std.proofs.Common.{rules}
use Rattle.cics_run.proofs.reads.past.put_mark.Goals as goal

pub returns : goal.returns
returns c = let e = c.in_ok-marks.ensures.update.1 c.push.new.self in search rules
