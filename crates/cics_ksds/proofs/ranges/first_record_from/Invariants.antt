use Rattle.std.proofs.Common.{◌≡◌, ◌<◌, ◌≤◌, ◌-◌, length, drop}
use Rattle.std.specs.Option.{option_map}
use Rattle.cics_ksds.specs.Files.{first_from, entry_of}
use Rattle.cics_ksds.specs.Slots.{IsThere, slots_in, interval_at, index_of, file_of, first_record}
use Rattle.cics_ksds.proofs.ranges.first_record_from.Given as goal

-- no record from the bound on is before the position
abbrev pub invariant-loop-here : goal.invariant-loop-here
invariant-loop-here l = record {
  there : 0 < length l.slots → IsThere l.slots l.at;
  slot : l.at.slot ≤ length (interval_at l.slots l.at);
  left : first_from (file_of l.fn.definition l.slots).records l.bound l.strict ≡ option_map (entry_of l.fn.definition) (first_record (drop (index_of l.slots l.at) (slots_in l.slots)));
}

abbrev pub decreases-loop-here : goal.decreases-loop-here
decreases-loop-here l = length (slots_in l.slots) - index_of l.slots l.at
