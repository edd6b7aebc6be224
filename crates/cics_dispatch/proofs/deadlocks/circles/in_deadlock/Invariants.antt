use Rattle.std.proofs.Common.{◌≡◌, ◌≤◌, length, All}
use Rattle.cics_dispatch.specs.Deadlocks.Searches.{led_back_below}
use Rattle.cics_dispatch.proofs.deadlocks.circles.in_deadlock.Given as goal

-- the flags so far, and marks that are below those of the next search
abbrev pub invariant-loop-first : goal.invariant-loop-first
invariant-loop-first l = record {
  flags : l.flags ≡ led_back_below l.graph l.first;
  len : length l.marks.items ≡ length l.graph;
  most : All (λ mark. mark ≤ l.first) l.marks.items;
}
