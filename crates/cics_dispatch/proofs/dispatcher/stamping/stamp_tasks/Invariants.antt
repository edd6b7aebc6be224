use Rattle.std.proofs.Common.{◌≡◌, ◌++◌, take}
use Rattle.std.specs.List.{flat_map}
use Rattle.cics_names.specs.Stamps.{item_stamp}
use Rattle.cics_dispatch.specs.Machine.Stamps.{task_stamp}
use Rattle.cics_dispatch.proofs.dispatcher.stamping.stamp_tasks.Given as goal

-- the tasks that were passed are stamped
abbrev pub invariant-loop-at : goal.invariant-loop-at
invariant-loop-at l = l.out.items ≡ l.initial.out.items ++ flat_map (item_stamp (task_stamp l.units.state)) (take l.at l.tasks)
