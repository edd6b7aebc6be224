use Rattle.std.proofs.Common.{◌≡◌, ◌++◌, take}
use Rattle.std.specs.List.{flat_map}
use Rattle.cics_run.specs.Listing.Listings.{transient_text}
use Rattle.cics_run.proofs.listing.listing.push_transient.Given as goal

abbrev pub invariant-loop-queue : goal.invariant-loop-queue
invariant-loop-queue l = l.out.items ≡ l.fn.out.items ++ flat_map transient_text (take l.queue-index l.queues)
