use Rattle.std.proofs.Common.{◌∙◌, ap, sym}
use Rattle.cics_units.specs.Opening.RegionQueues.{opened_queues}
use Rattle.cics_units.proofs.OfOpening.Opened.{opened_queues-queue_openings}
use Rattle.cics_units.proofs.opening.opening.Opening.queues.Goals as goal

pub returns : goal.returns
returns c = sym (opened_queues-queue_openings c.self.inside.queues c.self.invariant.1.loaded) ∙ ap (λ o. opened_queues o.queues) c.self.view_is
