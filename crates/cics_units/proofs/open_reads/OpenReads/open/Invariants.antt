use Rattle.std.proofs.Common.{◌≡◌, ◌+◌, ◌-◌, length}
use Rattle.cics_units.specs.OpenReads.{reads_from}
use Rattle.cics_units.proofs.open_reads.OpenReads.open.Given as goal

-- the rows that are added show no reads
abbrev pub invariant-loop-self : goal.invariant-loop-self
invariant-loop-self l = reads_from 0 l.self-inside.rows.items ≡ l.fn.self

abbrev pub decreases-loop-self : goal.decreases-loop-self
decreases-loop-self l = l.at + 1 - length l.self-inside.rows.items
