use Rattle.std.proofs.Common.{◌∙◌, ap}
use Rattle.cics_dispatch.specs.Machine.Blockers.{number_of}
use Rattle.cics_dispatch.proofs.OfMachine.Blockers.{number_found}
use Rattle.cics_dispatch.proofs.dispatcher.Dispatcher.number.Goals as goal

pub returns : goal.returns
returns c =
    number_found c.self.inside.tasks c.args.label.now c.find.result c.self.invariant.tasks.labels c.find.ensures.task c.find.ensures.within c.find.ensures.none
    ∙ ap (λ v. number_of v.machine.tasks c.args.label.now) c.self.view_is
