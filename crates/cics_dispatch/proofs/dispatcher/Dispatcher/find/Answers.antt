use Rattle.std.proofs.Common.{◌≡◌, ◌<◌, subst, length, None}
use Rattle.std.specs.Prelude.{IfNone, IfSome, slice_get}
use Rattle.cics_dispatch.specs.Machine.Machine.{task_at}
use Rattle.cics_dispatch.proofs.dispatcher.Dispatcher.find.Goals as goal

pub returns-clause-task : goal.returns-clause-task
returns-clause-task c = subst (λ v. IfSome c.find.result (λ at. slice_get v.machine.tasks at ≡ task_at v.machine.tasks c.args.label.now)) c.self.view_is c.find.ensures.task

pub returns-clause-within : goal.returns-clause-within
returns-clause-within c = subst (λ v. IfSome c.find.result (λ at. at < length v.machine.tasks)) c.self.view_is c.find.ensures.within

pub returns-clause-none : goal.returns-clause-none
returns-clause-none c = subst (λ v. IfNone c.find.result (task_at v.machine.tasks c.args.label.now ≡ None)) c.self.view_is c.find.ensures.none
