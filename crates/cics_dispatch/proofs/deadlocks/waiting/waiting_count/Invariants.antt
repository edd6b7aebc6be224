use Rattle.std.proofs.Common.{◌≡◌, ◌≤◌}
use Rattle.cics_dispatch.specs.Deadlocks.Deadlocks.{blocked_below}
use Rattle.cics_dispatch.proofs.deadlocks.waiting.waiting_count.Given as goal

-- how many of the tasks so far wait
abbrev pub invariant-loop-number : goal.invariant-loop-number
invariant-loop-number l = (l.count ≡ blocked_below l.region.machine l.number) × (l.count ≤ l.number)
