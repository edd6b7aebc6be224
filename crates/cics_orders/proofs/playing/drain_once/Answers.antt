use Rattle.std.proofs.Common.{refl, subst}
use Rattle.cics_dispatch.specs.Machine.Events.{IsTurn}
use Rattle.cics_orders.proofs.playing.drain_once.Goals as goal

-- a turn was taken, and told
pub returns-in_ok-hear-in-Some : goal.returns-in_ok-hear-in-Some
returns-in_ok-hear-in-Some c =
    let taken = subst (λ told. IsTurn c.args.region.now.machine told c.drain_step.new.self.machine) c.in-Some.is c.in_ok-event.ensures.turn in
    (record { event = c.in-Some.event; machine = c.drain_step.new.self.machine }, taken, refl, c.in_ok-hear-in-Some.ensures)

-- there was none
pub returns-in-None : goal.returns-in-None
returns-in-None c =
    let none = subst (λ told. IsTurn c.args.region.now.machine told c.drain_step.new.self.machine) c.in-None.is c.in_ok-event.ensures.turn in
    (none.0, none.1, refl)
