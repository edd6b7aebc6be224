use Rattle.std.proofs.Common.{◌≡◌, ◌≤◌, length, take}
use Rattle.cics_script.specs.Texts.{unfilled}
use Rattle.cics_script.proofs.spelling.texts.unfilled.Given as goal

abbrev pub invariant-loop-end : goal.invariant-loop-end
invariant-loop-end l = (l.end ≤ length l.name) × (unfilled (take l.end l.name) ≡ unfilled l.name)

abbrev pub decreases-loop-end : goal.decreases-loop-end
decreases-loop-end l = l.end
