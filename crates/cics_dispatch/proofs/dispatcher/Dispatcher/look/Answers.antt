use Rattle.std.proofs.Common.{◌≡◌, ◌∙◌, ap, subst, Some, None, ◌<◌, length}
use Rattle.std.specs.Prelude.{slice_get}
use Rattle.cics_dispatch.specs.Machine.Machine.{task_at}
use Rattle.cics_dispatch.specs.Machine.KeptTasks.{AreTasksKept}
use Rattle.cics_dispatch.specs.Machine.Regions.{IsRegionKept}
use Rattle.cics_dispatch.specs.Machine.Waits.{wait_of, AreApart}
use Rattle.cics_dispatch.proofs.OfMachine.Looks.{wait_there, wait_has_task, look_ready, look_goes, look_blocked}
use Rattle.cics_dispatch.proofs.dispatcher.Dispatcher.look.Goals as goal
use Rattle.cics_dispatch.proofs.dispatcher.Dispatcher.look.Goals.{In-Some, In-Some-find}

-- what is known of a command that waits
module _ (c : In-Some) where
  found : Some c.in-Some.wait.now ≡ wait_of c.args.self.now.machine.waiting c.args.label.now
  found = c.in-Some.ensures.wait ∙ ap (λ v. wait_of v.machine.waiting c.args.label.now) c.self.view_is

  kept : AreTasksKept c.args.self.now.machine
  kept = (subst IsRegionKept c.self.view_is c.self.invariant).tasks

-- and of the task that it is of
module _ (c : In-Some-find) where
  apart : AreApart c.args.self.now.machine.waiting
  apart = subst (λ v. AreApart v.machine.waiting) c.self.view_is c.get.ensures.once

  task : slice_get c.args.self.now.machine.tasks c.in-Some-find.at ≡ task_at c.args.self.now.machine.tasks c.args.label.now
  task = subst (λ v. slice_get v.machine.tasks c.in-Some-find.at ≡ task_at v.machine.tasks c.args.label.now) c.self.view_is c.in-Some-find.ensures.task

  within : c.in-Some-find.at < length c.args.self.now.machine.tasks
  within = subst (λ v. c.in-Some-find.at < length v.machine.tasks) c.self.view_is c.in-Some-find.ensures.within

pub unreachable-requires : goal.unreachable-requires
unreachable-requires c =
    let m = c.args.self.now.machine in
    wait_there m.waiting c.args.label.now c.requires (c.in_default.ensures.wait ∙ ap (λ v. wait_of v.machine.waiting c.args.label.now) c.self.view_is)

pub unreachable-requires-in_default-find : goal.unreachable-requires-in_default-find
unreachable-requires-in_default-find c =
    let m = c.args.self.now.machine in
    let known = (goal.at.unreachable-requires-in_default-find c).In-Some in
    wait_has_task m c.in-Some.wait.now c.args.label.now (kept known).waits (found known)
    (subst (λ v. task_at v.machine.tasks c.args.label.now ≡ None) c.self.view_is c.in_default-find.ensures.none)

pub awaited-requires-clause-ready : goal.awaited-requires-clause-ready
awaited-requires-clause-ready c =
    let known = (goal.at.awaited-requires-clause-ready c).In-Some in
    let its = (goal.at.awaited-requires-clause-ready c).In-Some-find in
    look_ready c.args.self.now.machine c.in-Some.wait.now c.args.label.now c.in-Some-find.at (apart its) (found known) (kept known) (task its)

pub returns-in-None : goal.returns-in-None
returns-in-None c =
    let known = (goal.at.returns-in-None c).In-Some in
    let its = (goal.at.returns-in-None c).In-Some-find in
    look_goes c.args.self.now.machine c.in-Some.wait.now c.args.label.now c.in-Some-find.at (apart its) (found known) (kept known) (task its) (within its)
    c.awaited.result c.awaited.ensures.holder c.in-None.is

pub returns-in-Some-awaited : goal.returns-in-Some-awaited
returns-in-Some-awaited c =
    let known = (goal.at.returns-in-Some-awaited c).In-Some in
    let its = (goal.at.returns-in-Some-awaited c).In-Some-find in
    look_blocked c.args.self.now.machine c.in-Some.wait.now c.args.label.now c.in-Some-find.at (apart its) (found known) (kept known) (task its) (within its)
    c.awaited.result c.awaited.ensures.holder c.in-Some-awaited.unit c.in-Some-awaited.is c.awaited.ensures.sound c.in-Some-awaited.ensures.is_open
