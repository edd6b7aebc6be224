use Rattle.std.proofs.Common.{◌≡◌, map}
use Rattle.std.specs.Map.Iter.{deref_pair}
use Rattle.cics_units.specs.Opening.RegionFiles.{refilled}
use Rattle.cics_units.proofs.opening.queues.Queues.copy.Given as goal

-- the queues that were passed are copied
abbrev pub invariant-loop-name : goal.invariant-loop-name
invariant-loop-name l = l.queues ≡ refilled (map deref_pair l.yielded)
