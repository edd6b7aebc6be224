use Rattle.std.proofs.Common.{◌∙◌, ap, subst, sym}
use Rattle.std.specs.Prelude.{T}
use Rattle.cics_names.specs.Keyed.{with_value, is_rising}
use Rattle.cics_names.specs.RisingLaws.{rising-with_value}
use Rattle.cics_history.proofs.Entries.{insert_entry-with_value}
use Rattle.cics_units.proofs.replay.replay.records.PlainRecords.put.Goals as goal

pub invariant_of-self-2 : goal.invariant_of-self-2
invariant_of-self-2 c =
    subst (λ es. T (is_rising es)) (sym (c.in_ok-insert.ensures.entries ∙ insert_entry-with_value c.args.key c.args.content c.self.inside.rows.entries))
    (rising-with_value c.args.key c.args.content c.self.inside.rows.entries c.self.invariant)

pub returns : goal.returns
returns c =
    c.in_ok-insert.ensures.entries ∙ insert_entry-with_value c.args.key c.args.content c.self.inside.rows.entries
    ∙ ap (with_value c.args.key c.args.content) c.self.view_is
