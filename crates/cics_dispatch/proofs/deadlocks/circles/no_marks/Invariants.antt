use Rattle.std.proofs.Common.{◌≡◌, ◌≤◌, length, All}
use Rattle.cics_dispatch.proofs.deadlocks.circles.no_marks.Given as goal

abbrev pub invariant-loop-task : goal.invariant-loop-task
invariant-loop-task l = (length l.marks.items ≡ l._task) × All (λ mark. mark ≤ 0) l.marks.items
