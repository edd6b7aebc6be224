use Rattle.std.proofs.Common.{◌≡◌}
use Rattle.cics_units.specs.Replay.Listings.{listed_td}
use Rattle.cics_units.proofs.replay.replay.store.td_listed.Given as goal

-- the transient data queues that were passed are listed
abbrev pub invariant-loop-name : goal.invariant-loop-name
invariant-loop-name l = l.listed ≡ listed_td l.opening l.yielded
