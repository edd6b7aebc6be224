use Rattle.std.proofs.Common.{◌≡◌}
use Rattle.cics_run.specs.Reads.Changes.{items_to}
use Rattle.cics_run.proofs.reads.changes.items_to.Given as goal

abbrev pub invariant-loop-before : goal.invariant-loop-before
invariant-loop-before l = l.cells ≡ items_to l.queue l.before
