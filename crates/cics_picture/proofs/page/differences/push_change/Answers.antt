use Rattle.std.proofs.Common.{ap, [], ◌∷◌, ◌∙◌}
use Rattle.std.proofs.lemmas.List.Elements.{filter_map-append}
use Rattle.cics_picture.specs.declared.page.notes.Note.TheVariants.{Set}
use Rattle.cics_picture.specs.Page.Views.{text_told, texts_told}
use Rattle.cics_picture.proofs.page.differences.push_change.Goals as goal

pub returns : goal.returns
returns c = ap texts_told c.in_ok-push.ensures.items ∙ filter_map-append text_told c.args.notes.now.items (Set c.args.cell c.args.change c.args.stays ∷ [])
