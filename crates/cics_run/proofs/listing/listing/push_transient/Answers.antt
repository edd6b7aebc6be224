use Rattle.cics_run.specs.Listing.Listings.{transient_text}
use Rattle.cics_script.proofs.OfSpelling.Each.{each-step}
use Rattle.cics_run.proofs.listing.listing.push_transient.Goals as goal

pub loop-queue-preserved : goal.loop-queue-preserved
loop-queue-preserved c = each-step transient_text c.args.queues.now c.loop-queue.queue-index c.queue-item.result c.args.out.now.items _ _ c.loop-queue-test.true c.queue-item.is c.loop-queue.invariant c.in_ok-push_transient_block.ensures
