use Rattle.std.proofs.Common.{◌≡◌, ◌<◌, ◌≤◌, ◌-◌, Some, length}
use Rattle.cics_ksds.specs.Slots.{IsThere, slots_in, interval_at, index_of, left_at}
use Rattle.cics_ksds.proofs.prefixes.first_under.Given as goal

-- no record under the prefix lies between the first position and this one
abbrev pub invariant-loop-here : goal.invariant-loop-here
invariant-loop-here l = record {
  there : 0 < length l.slots → IsThere l.slots l.at;
  slot : l.at.slot ≤ length (interval_at l.slots l.at);
  further : index_of l.slots l.fn.at ≤ index_of l.slots l.at;
  left : left_at l.definition l.slots l.prefix (Some l.at) ≡ left_at l.definition l.slots l.prefix (Some l.fn.at);
}

abbrev pub decreases-loop-here : goal.decreases-loop-here
decreases-loop-here l = length (slots_in l.slots) - index_of l.slots l.at
