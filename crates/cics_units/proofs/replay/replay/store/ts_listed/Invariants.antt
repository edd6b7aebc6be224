use Rattle.std.proofs.Common.{◌≡◌}
use Rattle.cics_units.specs.Replay.Listings.{listed_ts}
use Rattle.cics_units.proofs.replay.replay.store.ts_listed.Given as goal

-- the temporary storage queues that were passed are listed
abbrev pub invariant-loop-name : goal.invariant-loop-name
invariant-loop-name l = l.listed ≡ listed_ts l.opening l.yielded
