use Rattle.std.proofs.Common.{◌≡◌, ◌≤◌}
use Rattle.cics_run.specs.Messages.Nearest.{differences_below}
use Rattle.cics_run.proofs.messages.nearest.differences.Given as goal

abbrev pub invariant-loop-at : goal.invariant-loop-at
invariant-loop-at l = (l.count ≡ differences_below l.one l.other l.at) × (l.count ≤ l.at)
