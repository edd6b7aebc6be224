use Rattle.std.proofs.Common.{◌≡◌, ◌++◌, map, take}
use Rattle.cics_run.specs.Listing.Listings.{transient_text}
use Rattle.cics_orders.proofs.endings.blocks.add_transient.Given as goal

abbrev pub invariant-loop-queue : goal.invariant-loop-queue
invariant-loop-queue l = l.parts ≡ l.fn.parts ++ map transient_text (take l.queue-index l.queues)
