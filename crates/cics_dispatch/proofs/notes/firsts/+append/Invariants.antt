use Rattle.std.proofs.Common.{length}
use Rattle.cics_dispatch.proofs.notes.firsts.+append.Given as goal

abbrev pub decreases-append : goal.decreases-append
decreases-append l = length l.above.now
