use Rattle.std.proofs.Common.{◌≡◌, ◌∙◌, sym, ap, subst}
use Rattle.std.specs.Prelude.{IfSome}
use Rattle.cics_history.specs.Execution.{IsOpenOrNone, IsOpenUnit}
use Rattle.cics_history.specs.Holding.{awaited}
use Rattle.cics_history.specs.Isolation.{IsSound}
use Rattle.cics_dispatch.specs.Machine.Calls.{OfTask, HasReady}
use Rattle.cics_dispatch.specs.Machine.KeptTasks.{IsReady}
use Rattle.cics_dispatch.specs.Machine.Regions.{region_of}
use Rattle.cics_dispatch.specs.Machine.Waking.{awaited_by}
use Rattle.cics_dispatch.proofs.OfMachine.KeptTasks.{acting_or_none}
use Rattle.cics_dispatch.proofs.OfMachine.Ready.{value_ready}
use Rattle.cics_dispatch.proofs.OfMachine.RegionEnqueuing.{first_fit}
use Rattle.cics_dispatch.proofs.OfMachine.RegionSteps.{one_task}
use Rattle.cics_dispatch.proofs.dispatcher.Dispatcher.awaited.Goals as goal

pub awaited-requires-clause-is_open : goal.awaited-requires-clause-is_open
awaited-requires-clause-is_open c =
    let u = c.self.inside in
    subst (IsOpenOrNone u.units.state) (sym c.unit-asking.ensures) (acting_or_none (region_of u.units u.tasks u.waits u.clock u.is_down).machine c.args.at c.get.result.now c.self.invariant.tasks c.get.ensures)

pub awaited-requires-clause-ready : goal.awaited-requires-clause-ready
awaited-requires-clause-ready c =
    let w = c.args.wait.now in
    let ready = subst (λ v. HasReady v.machine c.args.at w.command.verb w.op) (sym c.self.view_is) c.requires.ready c.get.result.now c.get.ensures in
    rw c.unit-asking.ensures (subst (λ o. IsReady c.self.inside.units.state c.get.result.now.unit w.command.verb o) (sym c.in-Some.ensures) ready)

pub returns-in-Some-clause-holder : goal.returns-in-Some-clause-holder
returns-in-Some-clause-holder c =
    let s = c.self.inside.units.state in
    let w = c.args.wait.now in
    subst (λ v. OfTask v.machine.tasks c.args.at (λ t. c.awaited.result ≡ awaited_by v.machine.units t.unit w.command.verb w.op)) c.self.view_is (λ t there.
    c.awaited.ensures.awaited ∙ ap (λ asking. awaited s asking c.in-Some.op.now) (c.unit-asking.ensures ∙ ap (λ x. x.unit) (one_task c.self.inside.tasks c.args.at c.get.ensures there))
    ∙ ap (awaited_by s t.unit w.command.verb) c.in-Some.ensures)

pub returns-in-Some-clause-is_open : goal.returns-in-Some-clause-is_open
returns-in-Some-clause-is_open c = subst (λ v. IfSome c.awaited.result (IsOpenUnit v.machine.units)) c.self.view_is c.awaited.ensures.is_open

pub returns-clause-is_open : goal.returns-clause-is_open
returns-clause-is_open c = subst (λ v. IfSome c.value_holder.result (IsOpenUnit v.machine.units)) c.self.view_is c.value_holder.ensures.is_open

pub returns-in-Some-clause-sound : goal.returns-in-Some-clause-sound
returns-in-Some-clause-sound c = λ reads. subst (λ v. IsSound v.machine.units) c.self.view_is c.awaited.ensures.sound

pub slice_bounds-value_holder-end : goal.slice_bounds-value_holder-end
slice_bounds-value_holder-end c =
    let m = c.args.self.now.machine in
    let w = c.args.wait.now in
    let ready = subst (HasReady m c.args.at w.command.verb) (sym c.in_default.ensures) c.requires.ready in
    let is = ap (λ x. x.verb) (sym c.command.ensures) ∙ c.in-Enq.is in
    let fits = value_ready m c.args.at w.command.verb c.in-Enq.resource c.in-Enq.length c.in-Enq.nosuspend c.requires.within is ready in
    (first_fit c.in-Enq.length c.in-Enq.resource c.bytes.result.now c.bytes.ensures fits).0
