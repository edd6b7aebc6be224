use Rattle.std.proofs.Common.{◌≡◌, map}
use Rattle.std.specs.Map.Iter.{deref_pair}
use Rattle.cics_run.specs.Messages.Nearest.{first_near}
use Rattle.cics_run.proofs.messages.nearest.first_near_queue.Given as goal

abbrev pub invariant-loop-other : goal.invariant-loop-other
invariant-loop-other l = l.found ≡ first_near l.places l.name (map deref_pair l.yielded)
