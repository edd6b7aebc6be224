use Rattle.std.proofs.Common.{◌≡◌, ◌++◌, drop}
use Rattle.std.specs.List.{flat_map}
use Rattle.cics_orders.specs.Report.Reporting.{script_line, attach_line}
use Rattle.cics_orders.proofs.report.scripts.push_run.Given as goal

-- the lines so far, and those of the tasks that are left, are all
abbrev pub invariant-loop-task : goal.invariant-loop-task
invariant-loop-task l =
    l.out.items ++ flat_map attach_line (drop l.task-index l.plan.tasks) ≡ l.fn.out.items ++ (flat_map script_line l.plan.definitions ++ flat_map attach_line l.plan.tasks)
