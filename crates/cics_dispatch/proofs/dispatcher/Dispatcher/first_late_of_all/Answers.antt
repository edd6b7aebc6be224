use Rattle.cics_dispatch.proofs.OfMachine.RegionWaking.{first_late-here}
use Rattle.cics_dispatch.proofs.dispatcher.Dispatcher.first_late_of_all.Goals as goal

pub returns-in-Some-late-clause-task : goal.returns-in-Some-late-clause-task
returns-in-Some-late-clause-task c =
    let m = c.args.self.now.machine in
    first_late-here m _ _ c.in-Some.wait.now _ c.loop-wait.invariant c.in-Some.ensures.steps c.in-Some-late.ensures.late c.in-Some-late.ensures.task
