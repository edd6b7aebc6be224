use Rattle.std.proofs.Common.{◌≡◌}
use Rattle.cics_dispatch.specs.Deadlocks.Deadlocks.{waits_below}
use Rattle.cics_dispatch.proofs.deadlocks.waiting.waits_of.Given as goal

-- for whom the tasks so far have to wait
abbrev pub invariant-loop-number : goal.invariant-loop-number
invariant-loop-number l = l.waits ≡ waits_below l.region.machine l.number
