use Rattle.std.proofs.Common.{None}
use Rattle.cics_dispatch.proofs.OfMachine.RegionEnqueuing.{enq_waits}
use Rattle.cics_dispatch.proofs.OfMachine.RegionSteps.{tried_told, wait_within, wait_awake, wait_ready, wait_open, wait_told}
use Rattle.cics_dispatch.proofs.dispatcher.Dispatcher.enqueue.Goals as goal

pub make_wait-requires-clause-within : goal.make_wait-requires-clause-within
make_wait-requires-clause-within c =
    wait_within c.args.self.now c.take_value.new.self c.args.at c.args.command None
    c.in_ok-outcome.field-0 c.in-MustWait.holder c.in-MustWait.op c.in-MustWait.is c.in_ok-outcome.ensures.attempt
    c.requires.within

pub make_wait-requires-clause-awake : goal.make_wait-requires-clause-awake
make_wait-requires-clause-awake c =
    wait_awake c.args.self.now c.take_value.new.self c.args.at c.args.command None
    c.in_ok-outcome.field-0 c.in-MustWait.holder c.in-MustWait.op c.in-MustWait.is c.in_ok-outcome.ensures.attempt
    c.requires.awake

pub make_wait-requires-clause-ready : goal.make_wait-requires-clause-ready
make_wait-requires-clause-ready c =
    wait_ready c.args.self.now c.take_value.new.self c.args.at c.args.command None
    c.in_ok-outcome.field-0 c.in-MustWait.holder c.in-MustWait.op c.in-MustWait.is c.in_ok-outcome.ensures.attempt
    c.requires.ready

pub make_wait-requires-clause-is_open : goal.make_wait-requires-clause-is_open
make_wait-requires-clause-is_open c =
    wait_open c.args.self.now c.take_value.new.self c.args.at c.args.command None
    c.in_ok-outcome.field-0 c.in-MustWait.holder c.in-MustWait.op c.in-MustWait.is c.in_ok-outcome.ensures.attempt

pub returns-in-MustWait : goal.returns-in-MustWait
returns-in-MustWait c = record {
  step = wait_told c.args.self.now c.take_value.new.self c.args.at c.args.command None
      c.in_ok-outcome.field-0 c.in-MustWait.holder c.in-MustWait.op c.in-MustWait.is c.in_ok-outcome.ensures.attempt
      c.make_wait.new.self c.make_wait.result (λ t there. enq_waits c.args.self.now.machine t c.args.command c.in-MustWait.holder (c.requires.ready t there)) c.make_wait.ensures.step;
}

pub returns-in-Told : goal.returns-in-Told
returns-in-Told c = record {
  step = tried_told c.args.self.now c.take_value.new.self c.args.at c.args.command None c.in_ok-outcome.field-0 c.in-Told.outcome c.in-Told.is c.in_ok-outcome.ensures.attempt;
}
