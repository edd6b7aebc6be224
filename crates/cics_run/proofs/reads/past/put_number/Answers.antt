use Rattle.std.proofs.Common.{rules}
use Rattle.cics_run.proofs.reads.past.put_number.Goals as goal

pub returns : goal.returns
returns c = let e = c.in_ok-spans.ensures.update.1 c.push.new.self in search rules
