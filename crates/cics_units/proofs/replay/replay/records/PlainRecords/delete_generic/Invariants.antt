use Rattle.std.proofs.Common.{◌≡◌, length}
use Rattle.cics_ksds.specs.Prefixes.{outside}
use Rattle.cics_units.proofs.replay.replay.records.PlainRecords.delete_generic.Given as goal

-- what is beside the prefix stays
abbrev pub invariant-loop-key : goal.invariant-loop-key
invariant-loop-key l = outside l.prefix l.self ≡ outside l.prefix l.initial.self

abbrev pub decreases-loop-key : goal.decreases-loop-key
decreases-loop-key l = length l.self
