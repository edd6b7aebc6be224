use Rattle.std.proofs.Common.{◌∙◌, sym, ap, subst, length}
use Rattle.std.specs.Option.{option_copied}
use Rattle.std.specs.Prelude.{T}
use Rattle.cics_names.specs.Keyed.{is_rising}
use Rattle.cics_tempstor.specs.Queues.{row_at}
use Rattle.cics_tempstor.proofs.TableLaws.{row_here, row_absent, rows_of-rising}
use Rattle.cics_tempstor.proofs.stores.TempStore.item_count.Goals as goal

pub returns-in-Some-clause-count : goal.returns-in-Some-clause-count
returns-in-Some-clause-count c =
    let q = c.args.name.now in
    let here = row_here c.self.inside.queues.entries q c.in-Some.row.now (sym c.get.ensures.value ∙ ap option_copied c.in-Some.is) in
    c.len.ensures ∙ ap (λ row. length row.items) (sym here ∙ ap (row_at q) c.self.view_is)

pub returns-in-None-clause-count : goal.returns-in-None-clause-count
returns-in-None-clause-count c =
    let q = c.args.name.now in
    let gone = row_absent c.self.inside.queues.entries q (sym c.get.ensures.value ∙ ap option_copied c.in-None.is) in
    ap (λ row. length row.items) (sym gone ∙ ap (row_at q) c.self.view_is)

pub returns-in-Some-clause-rising : goal.returns-in-Some-clause-rising
returns-in-Some-clause-rising c = subst (λ rows. T (is_rising rows)) c.self.view_is (rows_of-rising c.self.inside.queues.entries)

pub returns-in-None-clause-rising : goal.returns-in-None-clause-rising
returns-in-None-clause-rising c = subst (λ rows. T (is_rising rows)) c.self.view_is (rows_of-rising c.self.inside.queues.entries)
