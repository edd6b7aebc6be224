use Rattle.std.proofs.Common.{◌≡◌, ◌++◌, take}
use Rattle.std.specs.List.{flat_map}
use Rattle.cics_names.specs.Stamps.{item_stamp, text_stamp}
use Rattle.cics_units.proofs.replay.replay.store.stamp_items.Given as goal

-- the items that were passed are stamped
abbrev pub invariant-loop-item : goal.invariant-loop-item
invariant-loop-item l = l.out.items ≡ l.initial.out.items ++ flat_map (item_stamp text_stamp) (take l.item-index l.item-items)
