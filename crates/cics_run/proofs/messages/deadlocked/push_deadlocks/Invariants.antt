use Rattle.std.proofs.Common.{◌≡◌, ◌++◌, take}
use Rattle.std.specs.List.{flat_map}
use Rattle.cics_run.specs.Messages.Deadlocked.{deadlock_line}
use Rattle.cics_run.proofs.messages.deadlocked.push_deadlocks.Given as goal

abbrev pub invariant-loop-labels : goal.invariant-loop-labels
invariant-loop-labels l = l.out.items ≡ l.fn.out.items ++ flat_map (deadlock_line l.region.machine) (take l.labels-index l.labels-items)
