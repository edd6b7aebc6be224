use Rattle.std.proofs.Common.{IfSome, Contains}
use Rattle.cics_script.proofs.advice.meant.nearest.Given as goal

abbrev pub invariant-loop-row : goal.invariant-loop-row
invariant-loop-row g l = IfSome l.found (Contains l.rows)
