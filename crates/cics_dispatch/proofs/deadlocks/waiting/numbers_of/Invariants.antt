use Rattle.std.proofs.Common.{◌≡◌, ◌++◌, drop}
use Rattle.std.specs.List.{filter_map}
use Rattle.cics_dispatch.specs.Machine.Blockers.{number_of}
use Rattle.cics_dispatch.proofs.deadlocks.waiting.numbers_of.Given as goal

-- the numbers so far, and those of the labels that are left, are all
abbrev pub invariant-loop-label : goal.invariant-loop-label
invariant-loop-label l =
    l.numbers ++ filter_map (number_of l.region.machine.tasks) (drop l.label-index l.labels) ≡ filter_map (number_of l.region.machine.tasks) l.labels
