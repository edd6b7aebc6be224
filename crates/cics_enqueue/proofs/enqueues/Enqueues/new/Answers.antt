use Rattle.cics_enqueue.proofs.Tables.{IsKept-emptied}
use Rattle.cics_enqueue.proofs.enqueues.Enqueues.new.Goals as goal

-- nothing is owned, and there are no lists
pub invariant_of-result : goal.invariant_of-result
invariant_of-result c = IsKept-emptied c.new.result.entries c.new-2.result.entries c.new.ensures.empty
