use Rattle.std.proofs.Common.{◌∙◌, sym, ap, subst}
use Rattle.cics_dispatch.specs.Machine.Machine.{label_of, is_waiting}
use Rattle.cics_dispatch.specs.Machine.Regions.{IsRegionKept}
use Rattle.cics_dispatch.proofs.OfMachine.Looks.{owner_awake, owner_not_in_group}
use Rattle.cics_dispatch.proofs.dispatcher.Dispatcher.owner_waits_in.Goals as goal

pub returns-then-not-is_waiting : goal.returns-then-not-is_waiting
returns-then-not-is_waiting c = λ awake.
    let v = c.args.self.now in
    let label = c.in-Some.label in
    owner_awake v.machine c.args.notes.now.resources c.args.group c.args.unit label (subst IsRegionKept c.self.view_is c.self.invariant).tasks.owners
    (c.in-Some.ensures.label ∙ ap (λ v. label_of v.machine.tasks c.args.unit) c.self.view_is)
    (ap (λ v. is_waiting v.machine.waiting label) (sym c.self.view_is) ∙ sym c.if-not-is_waiting.ensures.waiting)

pub returns : goal.returns
returns c = λ out.
    let v = c.args.self.now in
    owner_not_in_group v.machine c.args.notes.now.resources c.args.group c.args.unit c.in-Some.label (subst IsRegionKept c.self.view_is c.self.invariant).tasks.owners
    (c.in-Some.ensures.label ∙ ap (λ v. label_of v.machine.tasks c.args.unit) c.self.view_is) (c.may_be_in_group.ensures out)
