use Rattle.std.proofs.Common.{refl, ◌∙◌}
use Rattle.cics_picture.specs.contracts.page.notes.CellOrd.TheImpl as order
use Rattle.cics_picture.proofs.OfViews.Acted.{told-none}
use Rattle.cics_picture.proofs.page.following.Following.wait.Goals as goal

pub returns : goal.returns
returns c = rw c.from_vec.ensures (told-none order.ghosts.cmp c.args.self.now.cells.texts.entries c.args.self.now.cells.texts.entries c.push_wanted.new.notes.items (c.in_ok-push_wanted.ensures ∙ c.no_notes-notes.ensures) refl)
