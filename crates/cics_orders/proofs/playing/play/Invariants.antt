use Rattle.std.proofs.Common.{◌≡◌, length}
use Rattle.cics_dispatch.specs.Machine.Events.{drained}
use Rattle.cics_orders.specs.Giving.{told_all, happening}
use Rattle.cics_orders.proofs.playing.play.Given as goal

-- the turns that are left lead to where all lead, and tell what all tell
abbrev pub invariant-loop : goal.invariant-loop
invariant-loop l = record {
  machine : (drained l.region.machine).machine ≡ (happening l.fn.region.machine l.fn.request).machine;
  told : told_all l.lanes.items (drained l.region.machine).turns ≡ told_all l.fn.lanes.items (happening l.fn.region.machine l.fn.request).turns;
}

abbrev pub decreases-loop : goal.decreases-loop
decreases-loop l = length l.region.machine.waiting
