use Rattle.std.proofs.Common.{◌≡◌}
use Rattle.cics_run.specs.Messages.Nearest.{near_below}
use Rattle.cics_run.proofs.messages.nearest.first_near_label.Given as goal

abbrev pub invariant-loop-number : goal.invariant-loop-number
invariant-loop-number l = l.found ≡ near_below l.region.machine l.places l.label l.number
