use Rattle.std.proofs.Common.{◌≡◌, ◌∙◌, sym, ap, subst, Some}
use Rattle.cics_dispatch.specs.Machine.Regions.{IsRegionKept}
use Rattle.cics_dispatch.specs.Machine.Waits.{wait_of}
use Rattle.cics_dispatch.proofs.OfMachine.SharedOps.{waiting_ready}
use Rattle.cics_dispatch.proofs.dispatcher.Dispatcher.shared_op.Goals as goal

pub returns-in-DeleteGeneric-clause-ready : goal.returns-in-DeleteGeneric-clause-ready
returns-in-DeleteGeneric-clause-ready c =
    let v = c.args.self.now in
    let w = c.in_ok-wait.wait.now in
    let found : Some w ≡ wait_of v.machine.waiting c.args.label.now = c.in_ok-wait.ensures.wait ∙ ap (λ r. wait_of r.machine.waiting c.args.label.now) c.self.view_is in
    waiting_ready v.machine c.args.label.now w c.in-Some.op.now (subst IsRegionKept c.self.view_is c.self.invariant).tasks (sym found) (sym c.in-Some.ensures)
