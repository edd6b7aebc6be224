use Rattle.std.proofs.Common.{◌≡◌}
use Rattle.cics_ksds.specs.Files.{records_of}
use Rattle.cics_units.proofs.replay.replay.records.PlainRecords.into_contents.Given as goal

-- the records that were passed are in the list
abbrev pub invariant-loop-key : goal.invariant-loop-key
invariant-loop-key l = l.contents ≡ records_of l.yielded
