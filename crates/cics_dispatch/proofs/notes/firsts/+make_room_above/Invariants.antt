use Rattle.std.proofs.Common.{length}
use Rattle.cics_dispatch.proofs.notes.firsts.+make_room_above.Given as goal

abbrev pub decreases-make_room_above : goal.decreases-make_room_above
decreases-make_room_above l = length l.levels.now
