use Rattle.std.proofs.Common.{◌∙◌, ap, subst, sym}
use Rattle.std.specs.Prelude.{T}
use Rattle.cics_names.specs.Keyed.{with_value, is_rising}
use Rattle.cics_names.specs.RisingLaws.{rising-with_value}
use Rattle.cics_history.proofs.Entries.{insert_entry-with_value}
use Rattle.cics_units.proofs.replay.replay.store.PlainStore.define.Goals as goal

pub invariant_of-self-2 : goal.invariant_of-self-2
invariant_of-self-2 c = (
  subst (λ es. T (is_rising es)) (sym (c.in_ok-insert.ensures.entries ∙ insert_entry-with_value c.args.name c.args.records c.self.inside.files.entries))
      (rising-with_value c.args.name c.args.records c.self.inside.files.entries c.self.invariant.0),
  c.self.invariant.1,
  c.self.invariant.2,
)

pub returns : goal.returns
returns c =
    ap (λ es. record { files = es; ts = c.self.inside.temp_storage.entries; td = c.self.inside.trans_data.entries })
    (c.in_ok-insert.ensures.entries ∙ insert_entry-with_value c.args.name c.args.records c.self.inside.files.entries)
    ∙ ap (λ s. record { files = with_value c.args.name c.args.records s.files; ts = s.ts; td = s.td }) c.self.view_is
