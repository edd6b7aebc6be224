use Rattle.std.proofs.Common.{refl, []}
use Rattle.cics_picture.specs.contracts.page.notes.CellOrd.TheImpl as order
use Rattle.cics_picture.proofs.OfViews.Acted.{told-none}
use Rattle.cics_picture.proofs.page.following.Following.nothing.Goals as goal

pub returns : goal.returns
returns c = rw c.new.ensures (told-none order.ghosts.cmp c.args.self.now.cells.texts.entries c.args.self.now.cells.texts.entries [] refl refl)
