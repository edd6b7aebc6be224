use Rattle.std.proofs.Common.{length}
use Rattle.cics_dispatch.proofs.notes.firsts.+set.Given as goal

abbrev pub decreases-set : goal.decreases-set
decreases-set l = length l.above.now
