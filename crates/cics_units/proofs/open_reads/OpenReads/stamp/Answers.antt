use Rattle.std.proofs.Common.{◌∙◌, ◌++◌, ap, sym, None, Some, length, refl}
use Rattle.std.specs.List.{slice_get}
use Rattle.std.proofs.lemmas.Option.{slice_get_read, slice_get_past}
use Rattle.std.proofs.lemmas.Result.{on_ok_weaker}
use Rattle.cics_units.proofs.OpenReads.{row_stamp}
use Rattle.cics_units.proofs.open_reads.OpenReads.stamp.Goals as goal

pub returns-in-Some : goal.returns-in-Some
returns-in-Some c =
    let read = c.in-Some.ensures.lookup in
    on_ok_weaker c.stamp.result (λ written. written ∙ ap (λ s. c.args.out.now.items ++ s)
    (row_stamp c.number-at.result c.args.unit c.self.inside.rows.items c.args.self.now c.number-at.ensures c.self.view_is (Some c.in-Some.reads.now)
    (ap (λ l. slice_get l c.number-at.result) (sym c.deref.ensures.value) ∙ slice_get_read c.deref.result.now (length c.deref.result.now) c.number-at.result c.in-Some.reads.now refl read.3.0 read.1))) c.stamp.ensures

pub returns-in-None : goal.returns-in-None
returns-in-None c =
    on_ok_weaker c.stamp_number.result (λ written. written ∙ ap (λ s. c.args.out.now.items ++ s)
    (row_stamp c.number-at.result c.args.unit c.self.inside.rows.items c.args.self.now c.number-at.ensures c.self.view_is None
    (ap (λ l. slice_get l c.number-at.result) (sym c.deref.ensures.value) ∙ slice_get_past c.deref.result.now c.number-at.result c.in-None.ensures.lookup.3))) c.stamp_number.ensures
