use Rattle.std.proofs.Common.{ap, ◌∙◌}
use Rattle.cics_picture.specs.Page.Views.{texts_told}
use Rattle.cics_picture.proofs.OfViews.Silent.{untold-insert}
use Rattle.cics_picture.proofs.page.differences.insert_other.Goals as goal

pub returns : goal.returns
returns c = ap texts_told c.in_ok-insert.ensures.items ∙ untold-insert c.args.notes.now.items c.args.place c.args.note c.requires.silent
