use Rattle.cics_picture.specs.contracts.page.notes.CellOrd.TheImpl as order
use Rattle.cics_picture.proofs.OfViews.Acted.{told-from}
use Rattle.cics_picture.proofs.page.following.Following.notes_of.Goals as goal

pub returns : goal.returns
returns c = told-from order.ghosts.cmp c.args.self.now.cells.texts.entries c.settle.new.self.entries c.see.new.self.cells.texts.entries c.in_ok-notes.notes c.settle.ensures.entries c.in_ok-notes.ensures
