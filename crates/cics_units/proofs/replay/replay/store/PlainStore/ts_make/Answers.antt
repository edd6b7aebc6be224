use Rattle.std.proofs.Common.{[], ◌∷◌, ◌++◌, ◌∙◌, ap, subst, sym}
use Rattle.std.specs.Prelude.{T}
use Rattle.cics_names.specs.Keyed.{with_value, is_rising}
use Rattle.cics_names.specs.RisingLaws.{rising-with_value}
use Rattle.cics_history.specs.Store.{with_ts}
use Rattle.cics_history.proofs.Entries.{insert_entry-with_value}
use Rattle.cics_units.proofs.replay.replay.store.PlainStore.ts_make.Goals as goal

pub invariant_of-self-2 : goal.invariant_of-self-2
invariant_of-self-2 c = (
  c.self.invariant.0,
  subst (λ es. T (is_rising es)) (sym (c.in_ok-insert.ensures.entries ∙ insert_entry-with_value c.args.queue.now c.push.new.self c.self.inside.temp_storage.entries))
      (rising-with_value c.args.queue.now c.push.new.self c.self.inside.temp_storage.entries c.self.invariant.1),
  c.self.invariant.2,
)

pub returns : goal.returns
returns c =
    ap (λ es. record { files = c.self.inside.files.entries; ts = es; td = c.self.inside.trans_data.entries })
    (c.in_ok-insert.ensures.entries ∙ insert_entry-with_value c.args.queue.now c.push.new.self c.self.inside.temp_storage.entries
    ∙ ap (λ i. with_value c.args.queue.now i c.self.inside.temp_storage.entries) (c.in_ok-push.ensures.ok ∙ ap (λ i. i ++ c.args.item ∷ []) c.new-items.ensures))
    ∙ ap (λ s. with_ts s c.args.queue.now (c.args.item ∷ [])) c.self.view_is
