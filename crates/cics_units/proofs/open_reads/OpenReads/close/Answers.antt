use Rattle.std.proofs.Common.{◌∙◌, None, Some, length, refl}
use Rattle.std.proofs.lemmas.Option.{slice_get_read, slice_get_past}
use Rattle.cics_units.proofs.OpenReads.{read_now, closed_now, closed_without}
use Rattle.cics_units.proofs.open_reads.OpenReads.close.Goals as goal

pub returns-in_err-get_mut-clause-reads : goal.returns-in_err-get_mut-clause-reads
returns-in_err-get_mut-clause-reads c =
    let rows = c.self.inside.rows.items in
    closed_without c.number-at.result c.args.unit c.args.file.now rows c.args.self.now c.number-at.ensures c.self.view_is
    (slice_get_past rows c.number-at.result c.in_err-get_mut.ensures.item.3)

pub returns-in_err-get_mut-clause-key : goal.returns-in_err-get_mut-clause-key
returns-in_err-get_mut-clause-key c =
    let rows = c.self.inside.rows.items in
    c.from_residual.ensures
    ∙ read_now c.number-at.result c.args.unit c.args.file.now rows c.args.self.now c.number-at.ensures c.self.view_is None
    (slice_get_past rows c.number-at.result c.in_err-get_mut.ensures.item.3)

pub returns-clause-reads : goal.returns-clause-reads
returns-clause-reads c =
    let rows = c.self.inside.rows.items in
    let item = c.in_ok-get_mut.ensures.item in
    closed_now c.number-at.result c.args.unit c.args.file.now rows c.args.self.now c.number-at.ensures c.self.view_is c.in_ok-get_mut.field-0.now c.close.new.self
    (slice_get_read rows (length rows) c.number-at.result c.in_ok-get_mut.field-0.now refl item.3.0 item.1) c.close.ensures.reads

pub returns-clause-key : goal.returns-clause-key
returns-clause-key c =
    let rows = c.self.inside.rows.items in
    let item = c.in_ok-get_mut.ensures.item in
    c.close.ensures.key
    ∙ read_now c.number-at.result c.args.unit c.args.file.now rows c.args.self.now c.number-at.ensures c.self.view_is (Some c.in_ok-get_mut.field-0.now)
    (slice_get_read rows (length rows) c.number-at.result c.in_ok-get_mut.field-0.now refl item.3.0 item.1)
