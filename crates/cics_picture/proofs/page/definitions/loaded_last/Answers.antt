use Rattle.std.proofs.Common.{ap, not, ◌∙◌}
use Rattle.std.specs.Prelude.{Some}
use Rattle.cics_transdata.specs.Trans.{is_logical}
use Rattle.cics_picture.specs.declared.page.notes.Cell.TheVariants as cell
use Rattle.cics_picture.specs.declared.page.notes.Change.TheVariants.{Added}
use Rattle.cics_picture.specs.declared.page.notes.Note.TheVariants as note
use Rattle.cics_picture.proofs.OfPage.Openings.{queue-there, queue-nowhere}
use Rattle.cics_picture.proofs.page.definitions.loaded_last.Goals as goal

pub returns-in-Some : goal.returns-in-Some
returns-in-Some c =
    let name = c.args.name.now in
    let content = c.args.content in
    let logical = c.is_logical.ensures ∙ ap is_logical c.recovery.ensures.recovery in
    (λ i. Some (note.Set (cell.TdRecord name (c.len.ensures i)) (Added content) (not (logical i))))
    ∙ queue-there c.args.opening.now name content _ c.in-Some.queue.now c.in-Some.ensures.value c.queues.ensures

pub returns-in-None : goal.returns-in-None
returns-in-None c = queue-nowhere c.args.opening.now c.args.name.now c.args.content _ c.in-None.ensures.value c.queues.ensures
