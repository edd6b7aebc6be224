use Rattle.std.proofs.Common.{◌≡◌, ◌++◌, map}
use Rattle.std.specs.List.{flat_map}
use Rattle.std.specs.Map.Iter.{deref}
use Rattle.cics_names.specs.Stamps.{item_stamp, text_stamp}
use Rattle.cics_units.proofs.replay.replay.queues.PlainQueue.stamp.Given as goal

-- the records that were passed are stamped
abbrev pub invariant-loop-record : goal.invariant-loop-record
invariant-loop-record l = l.out.items ≡ l.initial.out.items ++ flat_map (item_stamp text_stamp) (map deref l.yielded)
