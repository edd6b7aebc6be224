use Rattle.std.proofs.Common.{◌≡◌}
use Rattle.cics_run.specs.Messages.Waiting.{first_waiting_below}
use Rattle.cics_run.proofs.messages.waiting.first_waiting.Given as goal

abbrev pub invariant-loop-number : goal.invariant-loop-number
invariant-loop-number l = l.first ≡ first_waiting_below l.region.machine l.number
