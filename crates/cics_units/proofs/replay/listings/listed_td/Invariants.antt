use Rattle.std.proofs.Common.{◌≡◌, map}
use Rattle.std.specs.Map.Iter.{deref_pair}
use Rattle.cics_transdata.specs.Trans.{queue_of}
use Rattle.cics_units.specs.Replay.Listings.{listed_td}
use Rattle.cics_units.proofs.replay.listings.listed_td.Given as goal

-- the transient data queues that were passed are listed
abbrev pub invariant-loop-name : goal.invariant-loop-name
invariant-loop-name l = l.listed ≡ listed_td l.opening (map (λ e. (e.0, queue_of e.1)) (map deref_pair l.yielded))
