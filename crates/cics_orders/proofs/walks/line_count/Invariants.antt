use Rattle.std.proofs.Common.{◌≡◌, ◌+◌, drop, length}
use Rattle.std.specs.List.{fold}
use Rattle.cics_orders.proofs.walks.line_count.Given as goal

-- the lines of the tasks that are left are added to those so far
abbrev pub invariant-loop-task : goal.invariant-loop-task
invariant-loop-task l =
    fold (λ n t. n + length t.lines) l.count (drop l.task-index l.task-items) ≡ fold (λ n t. n + length t.lines) (length l.plan.clock) l.task-items
