use Rattle.std.proofs.Common.{◌≡◌, ◌<◌, ◌≤◌, length, take}
use Rattle.std.specs.Option.{option_map}
use Rattle.cics_ksds.specs.Files.{last_to, entry_of}
use Rattle.cics_ksds.specs.Slots.{IsThere, slots_in, interval_at, index_of, file_of, last_record}
use Rattle.cics_ksds.proofs.ranges.last_record_to.Given as goal

-- no record up to the bound is behind the position
abbrev pub invariant-loop-here : goal.invariant-loop-here
invariant-loop-here l = record {
  there : 0 < length l.slots → IsThere l.slots l.at;
  slot : l.at.slot ≤ length (interval_at l.slots l.at);
  left : last_to (file_of l.fn.definition l.slots).records l.bound l.strict ≡ option_map (entry_of l.fn.definition) (last_record (take (index_of l.slots l.at) (slots_in l.slots)));
}

abbrev pub decreases-loop-here : goal.decreases-loop-here
decreases-loop-here l = index_of l.slots l.at
