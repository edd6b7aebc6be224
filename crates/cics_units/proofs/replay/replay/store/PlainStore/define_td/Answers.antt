use Rattle.std.proofs.Common.{◌∙◌, ap, subst, sym}
use Rattle.std.specs.Prelude.{T}
use Rattle.cics_names.specs.Keyed.{with_value, is_rising}
use Rattle.cics_names.specs.RisingLaws.{rising-with_value}
use Rattle.cics_history.proofs.Entries.{insert_entry-with_value}
use Rattle.cics_units.proofs.replay.replay.store.PlainStore.define_td.Goals as goal

pub invariant_of-self-2 : goal.invariant_of-self-2
invariant_of-self-2 c = (
  c.self.invariant.0,
  c.self.invariant.1,
  subst (λ es. T (is_rising es)) (sym (c.in_ok-insert.ensures.entries ∙ insert_entry-with_value c.args.name c.args.queue c.self.inside.trans_data.entries))
      (rising-with_value c.args.name c.args.queue c.self.inside.trans_data.entries c.self.invariant.2),
)

pub returns : goal.returns
returns c =
    ap (λ es. record { files = c.self.inside.files.entries; ts = c.self.inside.temp_storage.entries; td = es })
    (c.in_ok-insert.ensures.entries ∙ insert_entry-with_value c.args.name c.args.queue c.self.inside.trans_data.entries)
    ∙ ap (λ s. record { files = s.files; ts = s.ts; td = with_value c.args.name c.args.queue s.td }) c.self.view_is
