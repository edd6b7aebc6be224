use Rattle.cics_dispatch.proofs.OfMachine.Draining.{took_woken, took_expired, took_none}
use Rattle.cics_dispatch.proofs.regions.Region.drain_step.Goals as goal

pub returns-in-Ok-Some-clause-turn : goal.returns-in-Ok-Some-clause-turn
returns-in-Ok-Some-clause-turn c =
    let arm = c.in-Ok-Some in
    took_woken c.args.self.now.machine c.wake.new.self.machine arm.field-0 arm.woken arm.ensures.step.0 arm.field-0-is arm.ensures.step.1

pub returns-in-Some-clause-turn : goal.returns-in-Some-clause-turn
returns-in-Some-clause-turn c =
    let arm = c.in-Ok-None in
    took_expired c.args.self.now.machine c.wake.new.self.machine arm.field-0 arm.ensures.step.0 arm.field-0-is arm.ensures.step.1
    c.expire.new.self.machine c.in-Some.expired c.in-Some.ensures.outcome c.in-Some.ensures.machine

pub returns-in-None-clause-turn : goal.returns-in-None-clause-turn
returns-in-None-clause-turn c =
    let arm = c.in-Ok-None in
    took_none c.args.self.now.machine c.wake.new.self.machine arm.field-0 arm.ensures.step.0 arm.field-0-is arm.ensures.step.1
    c.expire.new.self.machine c.in-None.ensures.outcome c.in-None.ensures.machine
