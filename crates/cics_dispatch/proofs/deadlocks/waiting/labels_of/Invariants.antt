use Rattle.std.proofs.Common.{◌≡◌, ◌++◌, drop}
use Rattle.cics_dispatch.specs.Deadlocks.Deadlocks.{labels_of}
use Rattle.cics_dispatch.proofs.deadlocks.waiting.labels_of.Given as goal

-- the labels so far, and those of what is left, are all
abbrev pub invariant-loop-number : goal.invariant-loop-number
invariant-loop-number l = l.labels ++ labels_of l.region.machine (drop l.number-index l.numbers) ≡ labels_of l.region.machine l.numbers
