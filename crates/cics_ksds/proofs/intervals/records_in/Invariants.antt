use Rattle.std.proofs.Common.{◌≡◌, ◌≤◌, ◌+◌, length, drop}
use Rattle.cics_ksds.specs.Slots.{listed}
use Rattle.cics_ksds.proofs.intervals.records_in.Given as goal

-- the records that were counted and those that are left are all of them
abbrev pub invariant-loop-slot : goal.invariant-loop-slot
invariant-loop-slot l = record {
  whole : l.records + length (listed (drop l.slot-index l.slots)) ≡ length (listed l.slots);
  within : l.records ≤ l.slot-index;
}
