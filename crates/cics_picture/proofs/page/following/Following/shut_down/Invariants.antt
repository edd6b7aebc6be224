use Rattle.std.proofs.Common.{◌≡◌}
use Rattle.cics_picture.specs.contracts.page.notes.CellOrd.TheImpl as order
use Rattle.cics_picture.specs.Page.Tracked.{IsSameBefore}
use Rattle.cics_picture.specs.Page.Views.{texts_told}
use Rattle.cics_picture.proofs.page.following.Following.shut_down.Given as goal

-- what was shown before is the same, and no text is told
abbrev pub invariant-loop-number : goal.invariant-loop-number
invariant-loop-number l = record {
  texts : IsSameBefore order.ghosts.cmp l.initial.self.cells.texts l.self.cells.texts;
  silent : texts_told l.notes.items ≡ texts_told l.initial.notes.items;
}
