use Rattle.std.proofs.Common.{◌≡◌}
use Rattle.cics_run.specs.Reads.Watched.{with_backouts}
use Rattle.cics_run.proofs.reads.watching.note_shutdown.Given as goal

-- the turns of the tasks so far are backed out
abbrev pub invariant-loop-at : goal.invariant-loop-at
invariant-loop-at l = l.reads ≡ with_backouts l.initial.reads l.line l.region.machine.tasks l.at
