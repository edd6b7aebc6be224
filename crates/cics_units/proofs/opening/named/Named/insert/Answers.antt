use Rattle.std.proofs.Common.{None, ◌∙◌, ap, subst, sym}
use Rattle.std.specs.Prelude.{T}
use Rattle.cics_names.specs.Keyed.{with_value, is_rising}
use Rattle.cics_names.specs.RisingLaws.{rising-with_value}
use Rattle.std.proofs.lemmas.Result.{err_from_is_err_and}
use Rattle.cics_history.proofs.Entries.{value_at-looked_up, insert_entry-with_value}
use Rattle.cics_units.proofs.opening.named.Named.insert.Goals as goal

pub invariant_of-self-2 : goal.invariant_of-self-2
invariant_of-self-2 g c =
    subst (λ es. T (is_rising es)) (sym (c.in_ok-insert.ensures.entries ∙ insert_entry-with_value c.args.name c.args.value c.self.inside.rows.entries))
    (rising-with_value c.args.name c.args.value c.self.inside.rows.entries c.self.invariant)

pub returns-clause-old : goal.returns-clause-old
returns-clause-old g c = sym (value_at-looked_up c.args.name c.self.inside.rows.entries c.args.self.now _ c.in_ok-insert.ensures.old c.self.view_is)

pub returns-clause-values : goal.returns-clause-values
returns-clause-values g c =
    c.in_ok-insert.ensures.entries ∙ insert_entry-with_value c.args.name c.args.value c.self.inside.rows.entries
    ∙ ap (with_value c.args.name c.args.value) c.self.view_is

pub returns-in_err-insert-clause-new_name : goal.returns-in_err-insert-clause-new_name
returns-in_err-insert-clause-new_name g c =
    let p = err_from_is_err_and c.from_residual.result c.from_residual.ensures.1 in
    rw p.1 (value_at-looked_up c.args.name c.self.inside.rows.entries c.args.self.now None (sym c.in_err-insert.ensures.absent) c.self.view_is)
