use Rattle.std.proofs.Common.{◌≡◌, take}
use Rattle.std.specs.List.{filter_map}
use Rattle.cics_dispatch.specs.Machine.Blockers.{blocking_label}
use Rattle.cics_dispatch.proofs.dispatcher.Dispatcher.blocking_labels.Given as goal

-- the labels of those of the tasks so far whose units block the command
abbrev pub invariant-loop-at : goal.invariant-loop-at
invariant-loop-at l =
    l.labels ≡ filter_map (blocking_label l.self.machine.units l.asking l.op) (take l.at l.self.machine.tasks)
