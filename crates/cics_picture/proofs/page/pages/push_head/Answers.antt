use Rattle.cics_picture.specs.Page.Lines.{head}
use Rattle.cics_picture.proofs.page.pages.push_head.Goals as goal

pub returns : goal.returns
unfolding head
returns c = c.push_str.ensures
