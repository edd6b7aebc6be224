use Rattle.std.proofs.Common.{◌≡◌, ◌≤◌, length, take}
use Rattle.cics_history.specs.State.{unpadded}
use Rattle.cics_units.proofs.opening.prefixes.unpadded.Given as goal

-- what is cut off is blank
abbrev pub invariant-loop-end : goal.invariant-loop-end
invariant-loop-end l = (l.end ≤ length l.name) × (unpadded (take l.end l.name) ≡ unpadded l.name)

abbrev pub decreases-loop-end : goal.decreases-loop-end
decreases-loop-end l = l.end
