use Rattle.std.proofs.Common.{◌≡◌, drop}
use Rattle.std.specs.List.{fold}
use Rattle.cics_orders.specs.Report.Findings.{with_line, with_attach, watch_of}
use Rattle.cics_orders.proofs.report.findings.Watch.push_amiss.Given as goal

-- the tasks that are left are attached after those so far
abbrev pub invariant-loop-task : goal.invariant-loop-task
invariant-loop-task l =
    fold with_attach (watch_of l.self) (drop l.task-index l.plan.tasks) ≡ fold with_attach (fold with_line (watch_of l.fn.self) l.plan.definitions) l.plan.tasks
