use Rattle.std.proofs.Common.{◌≡◌, drop}
use Rattle.cics_run.specs.Reads.Watched.{doomed_next}
use Rattle.cics_run.proofs.reads.watching.doomed_next.Given as goal

-- none before is free
abbrev pub invariant-loop-label : goal.invariant-loop-label
invariant-loop-label l = doomed_next l.region.machine (drop l.label-index l.labels) ≡ doomed_next l.region.machine l.labels
