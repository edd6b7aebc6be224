use Rattle.std.proofs.Common.{◌≡◌, ◌∙◌, ap, subst, true}
use Rattle.cics_history.specs.declared.ops.UnitState.TheVariants.{BackedOut}
use Rattle.cics_dispatch.specs.Machine.Machine.{abended, is_waiting, not_waiting, unit_closed, with_waiting}
use Rattle.cics_dispatch.specs.Machine.Regions.{region_of}
use Rattle.cics_dispatch.specs.Machine.Calls.{OfTask}
use Rattle.cics_dispatch.proofs.OfMachine.KeptTasks.{not_waiting_then}
use Rattle.cics_dispatch.proofs.OfMachine.RegionSteps.{unwaiting_kept, placed_within, one_task}
use Rattle.cics_dispatch.proofs.dispatcher.Dispatcher.abend.Goals as goal

pub invariant_of-self : goal.invariant_of-self
invariant_of-self c =
    unwaiting_kept c.self.invariant c.remove.new.self c.get.result.now.label (c.remove.ensures ∙ ap (not_waiting c.self.inside.waits) c.label-label.ensures)

pub close-requires-clause-within : goal.close-requires-clause-within
close-requires-clause-within c = placed_within c.self.inside.tasks c.args.at c.get.result.now c.get.ensures

pub close-requires-clause-awake : goal.close-requires-clause-awake
close-requires-clause-awake c = λ t there.
    let u = c.self.inside in
    let label = c.get.result.now.label in
    ap (λ x. is_waiting c.remove.new.self x.label) (one_task u.tasks c.args.at there c.get.ensures)
    ∙ ap (λ ws. is_waiting ws label) (c.remove.ensures ∙ ap (not_waiting u.waits) c.label-label.ensures) ∙ not_waiting_then u.waits label

pub returns-clause-kept : goal.returns-clause-kept
returns-clause-kept c = λ was.
    c.close.ensures.kept (unwaiting_kept c.self.invariant c.remove.new.self c.get.result.now.label (c.remove.ensures ∙ ap (not_waiting c.self.inside.waits) c.label-label.ensures))

pub returns-clause-machine : goal.returns-clause-machine
returns-clause-machine c =
    let u = c.self.inside in
    let m = (region_of u.units u.tasks u.waits u.clock u.is_down).machine in
    let new = c.close.new.self.machine in
    subst (λ v. OfTask v.machine.tasks c.args.at (λ t. new ≡ abended v.machine t)) c.self.view_is (λ t there.
    c.close.ensures.machine t there
    ∙ ap (λ ws. unit_closed (with_waiting m ws) t BackedOut true)
    (c.remove.ensures ∙ ap (not_waiting u.waits) (c.label-label.ensures ∙ ap (λ x. x.label) (one_task u.tasks c.args.at c.get.ensures there))))
