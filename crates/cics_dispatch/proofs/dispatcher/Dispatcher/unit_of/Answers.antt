use Rattle.std.proofs.Common.{◌∙◌, sym, ap}
use Rattle.cics_dispatch.specs.Machine.Tasks.{had_by, own_unit}
use Rattle.cics_dispatch.proofs.OfMachine.RegionSteps.{task_there}
use Rattle.cics_dispatch.proofs.dispatcher.Dispatcher.unit_of.Goals as goal

pub returns-in_err-at : goal.returns-in_err-at
returns-in_err-at c = c.from_residual.ensures ∙ sym (ap (had_by own_unit) c.in_err-at.ensures.none)

pub unit_at-requires : goal.unit_at-requires
unit_at-requires c = record { within = c.in_ok-at.ensures.within }

pub returns : goal.returns
returns c = task_there c.args.self.now.machine.tasks c.in_ok-at.at c.in_ok-at.ensures.within (λ t there.
    c.unit_at.ensures.unit t there ∙ ap (had_by own_unit) (sym there ∙ c.in_ok-at.ensures.task))
