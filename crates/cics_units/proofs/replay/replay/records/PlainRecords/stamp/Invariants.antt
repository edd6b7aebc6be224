use Rattle.std.proofs.Common.{◌≡◌, ◌++◌, map}
use Rattle.std.specs.List.{flat_map}
use Rattle.std.specs.Map.Iter.{deref_pair}
use Rattle.cics_names.specs.Stamps.{item_stamp}
use Rattle.cics_history.specs.Stamps.{record_stamp}
use Rattle.cics_units.proofs.replay.replay.records.PlainRecords.stamp.Given as goal

-- the records that were passed are stamped
abbrev pub invariant-loop-key : goal.invariant-loop-key
invariant-loop-key l = l.out.items ≡ l.initial.out.items ++ flat_map (item_stamp record_stamp) (map deref_pair l.yielded)
