use Rattle.std.proofs.Common.{◌≡◌, take}
use Rattle.cics_tempstor.proofs.item_lists.copied.Given as goal

-- the items that were passed are copied
abbrev pub invariant-loop-item : goal.invariant-loop-item
invariant-loop-item l = l.copies.items ≡ take l.item-index l.item-items
