use Rattle.std.proofs.Common.{◌≡◌, ◌≤◌, length, All}
use Rattle.cics_dispatch.specs.Deadlocks.Searches.{circles_below}
use Rattle.cics_dispatch.specs.Deadlocks.Marks.{sizes_below}
use Rattle.cics_dispatch.proofs.deadlocks.circles.circles_by.Given as goal

-- the circles so far, the sizes of the searches, and marks that are below those of the next one
abbrev pub invariant-loop-first : goal.invariant-loop-first
invariant-loop-first l = record {
  circles : l.all ≡ circles_below l.graph l.first;
  sizes : l.sizes.items ≡ sizes_below l.graph l.first;
  len : length l.marks ≡ length l.graph;
  most : All (λ mark. mark ≤ l.first) l.marks;
}
