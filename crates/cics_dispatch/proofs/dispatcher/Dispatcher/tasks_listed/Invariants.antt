use Rattle.std.proofs.Common.{◌≡◌, take}
use Rattle.cics_dispatch.proofs.OfMachine.RegionListing.{rows_of}
use Rattle.cics_dispatch.proofs.dispatcher.Dispatcher.tasks_listed.Given as goal

-- the tasks that were passed stand in the listing
abbrev pub invariant-loop-at : goal.invariant-loop-at
invariant-loop-at l = l.tasks ≡ rows_of l.self.machine (take l.at l.self.machine.tasks)
