use Rattle.std.proofs.Common.{◌≡◌}
use Rattle.cics_units.specs.Replay.Listings.{listed_files}
use Rattle.cics_units.proofs.replay.replay.store.files_listed.Given as goal

-- the files that were passed are listed
abbrev pub invariant-loop-name : goal.invariant-loop-name
invariant-loop-name l = l.listed ≡ listed_files l.opening l.yielded
