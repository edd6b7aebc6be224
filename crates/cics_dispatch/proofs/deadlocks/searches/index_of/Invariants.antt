use Rattle.std.proofs.Common.{◌≡◌, drop}
use Rattle.cics_dispatch.specs.Deadlocks.Searches.{index_from, index_of}
use Rattle.cics_dispatch.proofs.deadlocks.searches.index_of.Given as goal

-- the task wasn't found below the index
abbrev pub invariant-loop-at : goal.invariant-loop-at
invariant-loop-at l = index_from l.at (drop l.at l.found) l.task ≡ index_of l.found l.task
