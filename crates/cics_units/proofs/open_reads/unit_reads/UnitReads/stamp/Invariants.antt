use Rattle.std.proofs.Common.{◌≡◌, ◌++◌, take}
use Rattle.std.specs.List.{flat_map}
use Rattle.cics_names.specs.Stamps.{item_stamp}
use Rattle.cics_history.specs.Stamps.{record_stamp}
use Rattle.cics_units.proofs.open_reads.unit_reads.UnitReads.stamp.Given as goal

-- the entries that were passed are written
abbrev pub invariant-loop-file : goal.invariant-loop-file
invariant-loop-file l = l.out.items ≡ l.fn.out.items ++ flat_map (item_stamp record_stamp) (take l.file-index l.file-items)
