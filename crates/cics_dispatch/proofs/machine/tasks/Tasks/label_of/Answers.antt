use Rattle.std.proofs.Common.{◌∙◌, sym, ap, subst, Some}
use Rattle.std.specs.Option.{option_copied}
use Rattle.cics_dispatch.specs.Machine.Tasks.{IsOwn, AreOwnersKept, own_unit}
use Rattle.cics_dispatch.proofs.OfMachine.TaskTable.{label_of-none}
use Rattle.cics_dispatch.proofs.OfMachine.TaskOwners.{no_owner, placeless_owner, found_within, found_label}
use Rattle.cics_dispatch.proofs.machine.tasks.Tasks.label_of.Goals as goal

pub returns-in_err-get-clause-label : goal.returns-in_err-get-clause-label
returns-in_err-get-clause-label c =
    let kept = subst (λ ts. AreOwnersKept ts c.self.inside.owners) c.self.view_is c.self.invariant.1 in
    let none = no_owner c.args.self.now c.self.inside.owners kept c.args.unit (sym c.get.ensures.value ∙ ap option_copied c.in_err-get.was) in
    rw c.from_residual.ensures (sym (label_of-none c.args.self.now c.args.unit none))

pub returns-in_err-get-clause-none : goal.returns-in_err-get-clause-none
returns-in_err-get-clause-none c =
    let kept = subst (λ ts. AreOwnersKept ts c.self.inside.owners) c.self.view_is c.self.invariant.1 in
    rw c.from_residual.ensures (no_owner c.args.self.now c.self.inside.owners kept c.args.unit (sym c.get.ensures.value ∙ ap option_copied c.in_err-get.was))

pub returns-in_err-at-clause-label : goal.returns-in_err-at-clause-label
returns-in_err-at-clause-label c =
    let kept = subst (λ ts. AreOwnersKept ts c.self.inside.owners) c.self.view_is c.self.invariant.1 in
    let none = placeless_owner c.args.self.now c.self.inside.owners kept c.args.unit (sym c.get.ensures.value ∙ ap option_copied c.in_ok-get.was ∙ ap Some c.in_err-at.was) in
    rw c.from_residual-in_err-at.ensures (sym (label_of-none c.args.self.now c.args.unit none))

pub returns-in_err-at-clause-none : goal.returns-in_err-at-clause-none
returns-in_err-at-clause-none c =
    let kept = subst (λ ts. AreOwnersKept ts c.self.inside.owners) c.self.view_is c.self.invariant.1 in
    rw c.from_residual-in_err-at.ensures
    (placeless_owner c.args.self.now c.self.inside.owners kept c.args.unit (sym c.get.ensures.value ∙ ap option_copied c.in_ok-get.was ∙ ap Some c.in_err-at.was))

pub get-requires-2 : goal.get-requires-2
get-requires-2 c =
    let kept = subst (λ ts. AreOwnersKept ts c.self.inside.owners) c.self.view_is c.self.invariant.1 in
    found_within c.args.self.now c.self.inside.owners kept c.args.unit c.in_ok-at.at (sym c.get.ensures.value ∙ ap option_copied c.in_ok-get.was ∙ ap Some c.in_ok-at.was)

pub returns-clause-label : goal.returns-clause-label
returns-clause-label c =
    let kept = subst (λ ts. AreOwnersKept ts c.self.inside.owners) c.self.view_is c.self.invariant.1 in
    let found = sym c.get.ensures.value ∙ ap option_copied c.in_ok-get.was ∙ ap Some c.in_ok-at.was in
    let apart = subst (IsOwn own_unit) c.self.view_is c.self.invariant.0.units in
    c.label.ensures ∙ sym (found_label c.args.self.now c.self.inside.owners kept c.args.unit c.in_ok-at.at found c.get-2.result.now c.get-2.ensures apart)
