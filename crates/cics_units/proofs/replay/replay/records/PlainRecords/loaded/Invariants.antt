use Rattle.std.proofs.Common.{◌≡◌, take, fold, []}
use Rattle.cics_names.specs.Keyed.{with_value}
use Rattle.cics_ksds.specs.Files.{key_of}
use Rattle.cics_units.proofs.replay.replay.records.PlainRecords.loaded.Given as goal

-- the records that were passed stand under their keys
abbrev pub invariant-loop-content : goal.invariant-loop-content
invariant-loop-content l = l.records ≡ fold (λ m r. with_value (key_of l.definition r) r m) [] (take l.content-index l.content-items)
