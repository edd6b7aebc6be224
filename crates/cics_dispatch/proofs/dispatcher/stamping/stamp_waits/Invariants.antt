use Rattle.std.proofs.Common.{◌≡◌, ◌++◌, map}
use Rattle.std.specs.List.{flat_map}
use Rattle.std.specs.Map.Iter.{deref}
use Rattle.cics_names.specs.Stamps.{item_stamp}
use Rattle.cics_dispatch.specs.Machine.Stamps.{wait_stamp}
use Rattle.cics_dispatch.proofs.dispatcher.stamping.stamp_waits.Given as goal

-- the waits that were passed are stamped
abbrev pub invariant-loop-wait : goal.invariant-loop-wait
invariant-loop-wait l = l.out.items ≡ l.initial.out.items ++ flat_map (item_stamp wait_stamp) (map deref l.yielded)
