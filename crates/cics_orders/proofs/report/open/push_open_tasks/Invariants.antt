use Rattle.std.proofs.Common.{◌≡◌, ◌++◌, drop}
use Rattle.std.specs.List.{flat_map}
use Rattle.cics_orders.specs.Report.Open.{open_text}
use Rattle.cics_orders.proofs.report.open.push_open_tasks.Given as goal

-- the lines so far, and those on the tasks that are left, are all
abbrev pub invariant-loop-task : goal.invariant-loop-task
invariant-loop-task l = l.out.items ++ flat_map open_text (drop l.task-index l.tasks) ≡ l.fn.out.items ++ flat_map open_text l.tasks
