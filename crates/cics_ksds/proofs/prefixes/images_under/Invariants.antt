use Rattle.std.proofs.Common.{◌≡◌, ◌++◌, length, map, IfSome}
use Rattle.cics_ksds.specs.Slots.{IsRecordUnder, slots_in, value_of, left_at}
use Rattle.cics_ksds.specs.Prefixes.{under, added_entry}
use Rattle.cics_ksds.proofs.prefixes.images_under.Given as goal

-- those that were made and those that are left are all of them
abbrev pub invariant-loop-next : goal.invariant-loop-next
invariant-loop-next l = record {
  found : IfSome l.next (IsRecordUnder l.definition l.slots l.prefix);
  whole : l.images.items ++ map (added_entry l.definition) (left_at l.definition l.slots l.prefix l.next) ≡ map (added_entry l.definition) (under l.prefix (value_of l.definition (slots_in l.slots)).records);
}

abbrev pub decreases-loop-next : goal.decreases-loop-next
decreases-loop-next l = length (left_at l.definition l.slots l.prefix l.next)
