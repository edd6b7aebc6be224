use Rattle.std.proofs.Common.{◌∙◌, ap, sym, refl, is_some}
use Rattle.cics_history.proofs.Entries.{value_at-looked_up}
use Rattle.cics_units.proofs.opening.queues.Queues.contains.Goals as goal

pub returns : goal.returns
returns c = c.contains_key.ensures ∙ ap is_some (sym (value_at-looked_up c.args.name.now c.self.inside.rows.entries c.args.self.now _ refl c.self.view_is))
