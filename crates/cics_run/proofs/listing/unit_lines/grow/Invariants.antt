use Rattle.std.proofs.Common.{◌≡◌, ◌+◌, ◌-◌, ℕ, length}
use Rattle.cics_run.specs.Listing.UnitLines.{lines_at}
use Rattle.cics_run.proofs.listing.unit_lines.grow.Given as goal

abbrev pub invariant-loop-alloc : goal.invariant-loop-alloc
invariant-loop-alloc l = (unit : ℕ) → lines_at l.rows.items unit ≡ lines_at l.fn.rows.items unit

abbrev pub decreases-loop-alloc : goal.decreases-loop-alloc
decreases-loop-alloc l = l.last + 1 - length l.rows.items
