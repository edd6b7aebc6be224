use Rattle.std.proofs.Common.{◌≡◌, ◌++◌, drop}
use Rattle.std.specs.Prelude.{map}
use Rattle.cics_dispatch.specs.Deadlocks.Deadlocks.{labels_of}
use Rattle.cics_dispatch.proofs.deadlocks.waiting.deadlocks.Given as goal

-- the labels so far, and those of the circles that are left, are all
abbrev pub invariant-loop-circle : goal.invariant-loop-circle
invariant-loop-circle l =
    l.all ++ map (labels_of l.region.machine) (drop l.circle-index l.circle-items) ≡ map (labels_of l.region.machine) l.circle-items
