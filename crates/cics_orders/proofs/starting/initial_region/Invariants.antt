use Rattle.std.proofs.Common.{◌≡◌, drop}
use Rattle.std.specs.List.{fold}
use Rattle.cics_dispatch.specs.Machine.Machine.{initial_region}
use Rattle.cics_orders.specs.Giving.{with_task}
use Rattle.cics_orders.proofs.starting.initial_region.Given as goal

-- the tasks that are left are attached after those so far
abbrev pub invariant-loop-task : goal.invariant-loop-task
invariant-loop-task l = fold with_task l.region.machine (drop l.task-index l.tasks) ≡ fold with_task (initial_region l.fn.opening) l.tasks
