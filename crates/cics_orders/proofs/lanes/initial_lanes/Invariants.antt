use Rattle.std.proofs.Common.{◌≡◌, ◌++◌, map, drop}
use Rattle.cics_orders.specs.Giving.{task_lane}
use Rattle.cics_orders.proofs.lanes.initial_lanes.Given as goal

-- the lanes so far, and those of the tasks that are left, are all
abbrev pub invariant-loop-task : goal.invariant-loop-task
invariant-loop-task l = l.lanes.items ++ map task_lane (drop l.task-index l.tasks) ≡ map task_lane l.tasks
