use Rattle.std.proofs.Common.{◌≡◌, ◌<◌, ◌+◌, length, IfSome}
use Rattle.cics_ksds.specs.Slots.{IsRecordUnder, slots_in, value_of, left_at}
use Rattle.cics_ksds.specs.Prefixes.{under}
use Rattle.cics_ksds.proofs.prefixes.count_under.Given as goal

-- those that were counted and those that are left are all of them
abbrev pub invariant-loop-next : goal.invariant-loop-next
invariant-loop-next l = record {
  found : IfSome l.next (IsRecordUnder l.definition l.slots l.prefix);
  counted : l.number + length (left_at l.definition l.slots l.prefix l.next) ≡ length (under l.prefix (value_of l.definition (slots_in l.slots)).records);
  few : length (slots_in l.slots) < 18446744073709551616;
}

abbrev pub decreases-loop-next : goal.decreases-loop-next
decreases-loop-next l = length (left_at l.definition l.slots l.prefix l.next)
