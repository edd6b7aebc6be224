use Rattle.std.proofs.Common.{◌∙◌, ap}
use Rattle.cics_units.proofs.OfOpening.Opened.{recoverable_there, recoverable_nowhere}
use Rattle.cics_units.proofs.opening.opening.Opening.is_recoverable_file.Goals as goal

pub returns-in-Some : goal.returns-in-Some
returns-in-Some c = ap (λ d. d.recoverable) c.definition.ensures.definition
    ∙ recoverable_there c.self.inside.files c.self.inside.prefixes c.self.inside.queues c.args.self.now c.self.view_is c.args.name.now c.in-Some.file.now c.in-Some.ensures.value

pub returns-in-None : goal.returns-in-None
returns-in-None c = recoverable_nowhere c.self.inside.files c.self.inside.prefixes c.self.inside.queues c.args.self.now c.self.view_is c.args.name.now c.in-None.ensures.value
