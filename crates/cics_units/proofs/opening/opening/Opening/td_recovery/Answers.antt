use Rattle.std.proofs.Common.{Some, None, ◌∙◌, ap, sym}
use Rattle.cics_units.specs.Opening.Definitions.{recovery_in}
use Rattle.cics_units.proofs.OfOpening.Opened.{queue_seen}
use Rattle.cics_units.proofs.opening.opening.Opening.td_recovery.Goals as goal

pub returns-in-Some : goal.returns-in-Some
returns-in-Some c = c.recovery.ensures.recovery
    ∙ ap recovery_in (sym (queue_seen c.self.inside.files c.self.inside.prefixes c.self.inside.queues c.args.self.now c.self.view_is c.args.name.now (Some c.in-Some.queue.now) c.in-Some.ensures.value))

pub returns-in-None : goal.returns-in-None
returns-in-None c = ap recovery_in (sym (queue_seen c.self.inside.files c.self.inside.prefixes c.self.inside.queues c.args.self.now c.self.view_is c.args.name.now None c.in-None.ensures.value))
