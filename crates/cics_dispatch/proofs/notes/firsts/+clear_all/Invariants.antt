use Rattle.std.proofs.Common.{length}
use Rattle.cics_dispatch.proofs.notes.firsts.+clear_all.Given as goal

abbrev pub decreases-clear_all : goal.decreases-clear_all
decreases-clear_all l = length l.levels.now
