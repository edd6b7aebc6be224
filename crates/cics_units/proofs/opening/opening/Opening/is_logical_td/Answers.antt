use Rattle.std.proofs.Common.{◌∙◌, ap}
use Rattle.cics_transdata.specs.Trans.{is_logical}
use Rattle.cics_units.proofs.OfOpening.Opened.{logical_there, logical_nowhere}
use Rattle.cics_units.proofs.opening.opening.Opening.is_logical_td.Goals as goal

pub returns-in-Some : goal.returns-in-Some
returns-in-Some c = c.is_logical.ensures ∙ ap is_logical c.recovery.ensures.recovery
    ∙ logical_there c.self.inside.files c.self.inside.prefixes c.self.inside.queues c.args.self.now c.self.view_is c.args.name.now c.in-Some.queue.now c.in-Some.ensures.value

pub returns-in-None : goal.returns-in-None
returns-in-None c = logical_nowhere c.self.inside.files c.self.inside.prefixes c.self.inside.queues c.args.self.now c.self.view_is c.args.name.now c.in-None.ensures.value
