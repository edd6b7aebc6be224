use Rattle.std.proofs.Common.{◌∙◌}
use Rattle.cics_picture.specs.contracts.page.notes.CellOrd.TheImpl.Laws as laws
use Rattle.cics_picture.proofs.OfViews.Acted.{told-all}
use Rattle.cics_picture.proofs.page.following.Following.shut_down.Goals as goal

pub returns : goal.returns
returns c =
    rw c.from_vec.ensures
    (told-all laws.total-law c.args.self.now.cells.texts c.loop-number.self.cells.texts c.set.new.self.cells.texts c.loop-number.notes.items c.set.new.notes.items c.requires
    c.loop-number.invariant.texts (c.loop-number.invariant.silent ∙ c.no_notes-notes.ensures) c.in_ok-set.ensures.ordered c.in_ok-set.ensures.told c.in_ok-set.ensures.entries)
