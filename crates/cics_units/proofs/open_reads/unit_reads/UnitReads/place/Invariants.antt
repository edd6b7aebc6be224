use Rattle.std.proofs.Common.{◌≡◌, ◌≤◌, ◌+◌, ◌-◌, length, drop}
use Rattle.cics_units.specs.OpenReads.{place_of}
use Rattle.cics_units.proofs.open_reads.unit_reads.UnitReads.place.Given as goal

-- what is passed is counted, and what is left is still to be
abbrev pub invariant-loop-at : goal.invariant-loop-at
invariant-loop-at l = (l.at ≤ length l.self-inside.entries.items) × (l.at + place_of l.file (drop l.at l.self-inside.entries.items) ≡ place_of l.file l.self-inside.entries.items)

abbrev pub decreases-loop-at : goal.decreases-loop-at
decreases-loop-at l = length l.self-inside.entries.items - l.at
