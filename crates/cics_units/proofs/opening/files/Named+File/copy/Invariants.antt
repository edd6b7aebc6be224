use Rattle.std.proofs.Common.{◌≡◌, map}
use Rattle.std.specs.Map.Iter.{deref_pair}
use Rattle.cics_units.specs.Opening.RegionFiles.{refilled}
use Rattle.cics_units.proofs.opening.files.Named+File.copy.Given as goal

-- the files that were passed are copied
abbrev pub invariant-loop-name : goal.invariant-loop-name
invariant-loop-name l = l.files ≡ refilled (map deref_pair l.yielded)
