use Rattle.std.proofs.Common.{◌≡◌, ◌<◌, ◌+◌, false, length, map, IfSome}
use Rattle.cics_ksds.specs.Slots.{AreSlots, IsRecordUnder, slots_in, value_of, left_at}
use Rattle.cics_ksds.specs.Prefixes.{under, all_deleted, without_prefix}
use Rattle.cics_ksds.proofs.prefixes.drop_under.Given as goal

-- once those that are left are deleted, all of them are
abbrev pub invariant-loop-next : goal.invariant-loop-next
invariant-loop-next l = record {
  are : AreSlots l.definition (slots_in l.slots);
  found : IfSome l.next (IsRecordUnder l.definition l.slots l.prefix);
  counted : l.number + length (left_at l.definition l.slots l.prefix l.next) ≡ length (under l.prefix (value_of l.definition (slots_in l.fn.slots)).records);
  few : length (slots_in l.fn.slots) < 18446744073709551616;
  whole : all_deleted false (value_of l.definition (slots_in l.slots)) (map (λ e. e.0) (left_at l.definition l.slots l.prefix l.next))
      ≡ without_prefix false (value_of l.definition (slots_in l.fn.slots)) l.prefix;
}

abbrev pub decreases-loop-next : goal.decreases-loop-next
decreases-loop-next l = length (left_at l.definition l.slots l.prefix l.next)
