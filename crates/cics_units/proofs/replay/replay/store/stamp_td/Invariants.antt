use Rattle.std.proofs.Common.{◌≡◌, ◌++◌, map}
use Rattle.std.specs.List.{flat_map}
use Rattle.std.specs.Map.Iter.{deref_pair}
use Rattle.cics_names.specs.Stamps.{item_stamp}
use Rattle.cics_history.specs.Stamps.{queue_stamp}
use Rattle.cics_units.proofs.replay.replay.store.stamp_td.Given as goal

-- the queues that were passed are stamped
abbrev pub invariant-loop-name : goal.invariant-loop-name
invariant-loop-name l = l.out.items ≡ l.initial.out.items ++ flat_map (item_stamp queue_stamp) (map deref_pair l.yielded)
