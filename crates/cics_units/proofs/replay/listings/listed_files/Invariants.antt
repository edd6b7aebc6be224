use Rattle.std.proofs.Common.{◌≡◌, map}
use Rattle.std.specs.Map.Iter.{deref_pair}
use Rattle.cics_units.specs.Replay.Listings.{listed_files}
use Rattle.cics_units.proofs.replay.listings.listed_files.Given as goal

-- the files that were passed are listed
abbrev pub invariant-loop-name : goal.invariant-loop-name
invariant-loop-name l = l.listed ≡ listed_files l.opening (map (λ e. (e.0, e.1.records)) (map deref_pair l.yielded))
