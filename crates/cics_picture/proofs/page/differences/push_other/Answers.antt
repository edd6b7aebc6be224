use Rattle.std.proofs.Common.{ap, ◌∙◌}
use Rattle.cics_picture.specs.Page.Views.{texts_told}
use Rattle.cics_picture.proofs.OfViews.Silent.{untold}
use Rattle.cics_picture.proofs.page.differences.push_other.Goals as goal

pub returns : goal.returns
returns c = ap texts_told c.in_ok-push.ensures.items ∙ untold c.args.notes.now.items c.args.note c.requires
