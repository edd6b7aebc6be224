use Rattle.std.proofs.Common.{◌≡◌, drop}
use Rattle.cics_picture.specs.Drawings.{any_caught}
use Rattle.cics_picture.proofs.bars.any_caught.Given as goal

abbrev pub invariant-loop-lane : goal.invariant-loop-lane
invariant-loop-lane l = any_caught l.lanes 0 l.standings ≡ any_caught l.lanes l.lane (drop l.lane l.standings)
