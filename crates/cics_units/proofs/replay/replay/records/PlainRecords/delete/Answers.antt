use Rattle.std.proofs.Common.{◌∙◌, ap}
use Rattle.cics_names.specs.Keyed.{without}
use Rattle.cics_units.proofs.OfReplay.Plain.{remove_entry-without, removed-rising}
use Rattle.cics_units.proofs.replay.replay.records.PlainRecords.delete.Goals as goal

pub invariant_of-self : goal.invariant_of-self
invariant_of-self c = removed-rising c.args.key.now c.self.inside.rows.entries c.remove.new.self.entries c.self.invariant c.remove.ensures.entries

pub returns : goal.returns
returns c = c.remove.ensures.entries ∙ remove_entry-without c.args.key.now c.self.inside.rows.entries c.self.invariant ∙ ap (without c.args.key.now) c.self.view_is
