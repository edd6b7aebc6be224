use Rattle.std.proofs.Common.{◌≡◌, map}
use Rattle.std.specs.Map.Iter.{deref_pair}
use Rattle.cics_ksds.specs.Files.{records_of}
use Rattle.cics_units.proofs.opening.opening.Opening.defined_files.Given as goal

-- the files that were passed are listed
abbrev pub invariant-loop-name : goal.invariant-loop-name
invariant-loop-name l = l.listed ≡ map (λ e. (e.0, e.1.definition, records_of e.1.records)) (map deref_pair l.yielded)
