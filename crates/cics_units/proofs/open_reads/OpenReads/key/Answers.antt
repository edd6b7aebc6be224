use Rattle.std.proofs.Common.{◌∙◌, ap, sym, None, Some, length, refl}
use Rattle.std.specs.List.{slice_get}
use Rattle.std.specs.Option.{option_copied}
use Rattle.std.proofs.lemmas.Option.{slice_get_read, slice_get_past}
use Rattle.cics_units.proofs.OpenReads.{read_now}
use Rattle.cics_units.proofs.open_reads.OpenReads.key.Goals as goal

pub returns-in_err-get : goal.returns-in_err-get
returns-in_err-get c =
    ap option_copied c.from_residual.ensures
    ∙ read_now c.number-at.result c.args.unit c.args.file.now c.self.inside.rows.items c.args.self.now c.number-at.ensures c.self.view_is None
    (ap (λ l. slice_get l c.number-at.result) (sym c.deref.ensures.value) ∙ slice_get_past c.deref.result.now c.number-at.result c.in_err-get.ensures.lookup.3)

pub returns : goal.returns
returns c =
    let read = c.in_ok-get.ensures.lookup in
    c.key.ensures
    ∙ read_now c.number-at.result c.args.unit c.args.file.now c.self.inside.rows.items c.args.self.now c.number-at.ensures c.self.view_is (Some c.in_ok-get.field-0.now)
    (ap (λ l. slice_get l c.number-at.result) (sym c.deref.ensures.value) ∙ slice_get_read c.deref.result.now (length c.deref.result.now) c.number-at.result c.in_ok-get.field-0.now refl read.3.0 read.1)
