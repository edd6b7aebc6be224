use Rattle.std.proofs.Common.{◌≡◌, ◌<◌, ◌∙◌, sym, ap, subst, Some, length, IfNone}
use Rattle.std.specs.Prelude.{slice_get, option_map}
use Rattle.cics_dispatch.specs.Machine.Machine.{label_of, task_at}
use Rattle.cics_dispatch.specs.Machine.Regions.{IsRegionKept}
use Rattle.cics_dispatch.specs.Machine.Tasks.{HasNoOwner}
use Rattle.cics_dispatch.specs.Machine.Waits.{wait_of, AreApart}
use Rattle.cics_dispatch.proofs.OfMachine.Blockers.{task_waits, owner_found}
use Rattle.cics_dispatch.proofs.OfMachine.RegionSteps.{task_there}
use Rattle.cics_dispatch.proofs.OfMachine.Looks.{look_ready}
use Rattle.cics_dispatch.proofs.dispatcher.Dispatcher.blocker.Goals as goal

pub awaited-requires-clause-ready : goal.awaited-requires-clause-ready
awaited-requires-clause-ready c =
    let v = c.args.self.now in
    let found : Some c.in_ok-wait.wait.now ≡ wait_of v.machine.waiting c.args.label.now = c.in_ok-wait.ensures.wait ∙ ap (λ r. wait_of r.machine.waiting c.args.label.now) c.self.view_is in
    let apart : AreApart v.machine.waiting = subst (λ r. AreApart r.machine.waiting) c.self.view_is c.get.ensures.once in
    let task = subst (λ r. slice_get r.machine.tasks c.in_ok-at.at ≡ task_at r.machine.tasks c.args.label.now) c.self.view_is c.in_ok-at.ensures.task in
    look_ready v.machine c.in_ok-wait.wait.now c.args.label.now c.in_ok-at.at apart found (subst IsRegionKept c.self.view_is c.self.invariant).tasks task

pub returns-in_err-unit : goal.returns-in_err-unit
returns-in_err-unit c =
    let v = c.args.self.now in
    let found : Some c.in_ok-wait.wait.now ≡ wait_of v.machine.waiting c.args.label.now = c.in_ok-wait.ensures.wait ∙ ap (λ r. wait_of r.machine.waiting c.args.label.now) c.self.view_is in
    let task = subst (λ r. slice_get r.machine.tasks c.in_ok-at.at ≡ task_at r.machine.tasks c.args.label.now) c.self.view_is c.in_ok-at.ensures.task in
    let within = subst (λ r. c.in_ok-at.at < length r.machine.tasks) c.self.view_is c.in_ok-at.ensures.within in
    task_there v.machine.tasks c.in_ok-at.at within (λ t there.
    c.from_residual-in_err-unit.ensures ∙ ap (option_map (label_of v.machine.tasks)) (c.in_err-unit.ensures.holder t there ∙ sym (task_waits v.machine c.args.label.now c.in_ok-wait.wait.now (sym found) t (sym task ∙ there))))

pub returns : goal.returns
returns c =
    let v = c.args.self.now in
    let unit = c.in_ok-unit.unit in
    let found : Some c.in_ok-wait.wait.now ≡ wait_of v.machine.waiting c.args.label.now = c.in_ok-wait.ensures.wait ∙ ap (λ r. wait_of r.machine.waiting c.args.label.now) c.self.view_is in
    let task = subst (λ r. slice_get r.machine.tasks c.in_ok-at.at ≡ task_at r.machine.tasks c.args.label.now) c.self.view_is c.in_ok-at.ensures.task in
    let within = subst (λ r. c.in_ok-at.at < length r.machine.tasks) c.self.view_is c.in_ok-at.ensures.within in
    task_there v.machine.tasks c.in_ok-at.at within (λ t there.
    owner_found v.machine c.args.label.now unit c.label_of.result (subst IsRegionKept c.self.view_is c.self.invariant).owned
    (task_waits v.machine c.args.label.now c.in_ok-wait.wait.now (sym found) t (sym task ∙ there) ∙ sym (c.in_ok-unit.ensures.holder t there)) c.in_ok-unit.ensures.is_open
    (c.label_of.ensures.label ∙ ap (λ r. label_of r.machine.tasks unit) c.self.view_is)
    (subst (λ r. IfNone c.label_of.result (HasNoOwner r.machine.tasks unit)) c.self.view_is c.label_of.ensures.none))
