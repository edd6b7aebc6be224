use Rattle.std.proofs.Common.{◌≡◌, map}
use Rattle.std.specs.Map.Iter.{deref_pair}
use Rattle.cics_transdata.specs.Trans.{queue_of}
use Rattle.cics_units.proofs.opening.opening.Opening.defined_queues.Given as goal

-- the queues that were passed are listed
abbrev pub invariant-loop-name : goal.invariant-loop-name
invariant-loop-name l = l.listed ≡ map (λ e. (e.0, e.1.kind, queue_of e.1)) (map deref_pair l.yielded)
