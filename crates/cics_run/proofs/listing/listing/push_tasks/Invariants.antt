use Rattle.std.proofs.Common.{◌≡◌, ◌++◌, take}
use Rattle.std.specs.List.{flat_map}
use Rattle.cics_run.specs.Listing.Listings.{task_text}
use Rattle.cics_run.proofs.listing.listing.push_tasks.Given as goal

abbrev pub invariant-loop-label : goal.invariant-loop-label
invariant-loop-label l = l.out.items ≡ l.fn.out.items ++ flat_map task_text (take l.label-index l.tasks)
