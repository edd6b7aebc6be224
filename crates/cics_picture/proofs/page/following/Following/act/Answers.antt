use Rattle.std.proofs.Common.{◌∙◌}
use Rattle.cics_picture.specs.contracts.page.notes.CellOrd.TheImpl as order
use Rattle.cics_picture.specs.contracts.page.notes.CellOrd.TheImpl.Laws as laws
use Rattle.cics_picture.proofs.OfViews.Acted.{same-then, told-all}
use Rattle.cics_picture.proofs.page.following.Following.act.Goals as goal

pub returns : goal.returns
returns c =
    rw c.from_vec.ensures
    (told-all laws.total-law c.args.self.now.cells.texts c.turn.new.self.cells.texts c.set.new.self.cells.texts c.turn.new.notes.items c.set.new.notes.items c.requires
    (same-then order.ghosts.cmp c.args.self.now.cells.texts c.follow.new.cells.texts c.turn.new.self.cells.texts c.in_ok-follow.ensures c.in_ok-turn.ensures.texts)
    (c.in_ok-turn.ensures.silent ∙ c.no_notes-notes.ensures) c.in_ok-set.ensures.ordered c.in_ok-set.ensures.told c.in_ok-set.ensures.entries)
