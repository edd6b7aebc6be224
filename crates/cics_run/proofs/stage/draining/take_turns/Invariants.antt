use Rattle.std.proofs.Common.{◌≡◌, length}
use Rattle.cics_dispatch.specs.Machine.Events.{drained}
use Rattle.cics_run.specs.Stage.Seen.{after_events}
use Rattle.cics_run.proofs.stage.draining.take_turns.Given as goal

-- the turns that are left lead to where all lead, and are seen as all are
abbrev pub invariant-loop-event : goal.invariant-loop-event
invariant-loop-event g l = record {
  machine : (drained l.region.machine).machine ≡ (drained l.fn.region.machine).machine;
  seen : after_events g.O.Observer.sight l.number (g.O.Observer.seen l.observer) (drained l.region.machine).turns
      ≡ after_events g.O.Observer.sight l.number (g.O.Observer.seen l.fn.observer) (drained l.fn.region.machine).turns;
}

abbrev pub decreases-loop-event : goal.decreases-loop-event
decreases-loop-event g l = length l.region.machine.waiting
