use Rattle.std.proofs.Common.{ap, ◌∙◌, ◌++◌}
use Rattle.cics_picture.specs.Page.Views.{change_of, told_if, texts_told}
use Rattle.cics_picture.proofs.page.differences.push_text.Goals as goal

pub returns : goal.returns
returns c = c.in_ok-push_text_note.ensures ∙ ap (λ change. texts_told c.args.notes.now.items ++ told_if c.args.cell change) (c.in_ok-change.ensures ∙ ap (change_of c.args.before) c.get.ensures)
