use Rattle.std.proofs.Common.{ap}
use Rattle.cics_picture.specs.contracts.page.notes.CellOrd.TheImpl as order
use Rattle.cics_picture.specs.Page.Tracked.{shown_before}
use Rattle.cics_picture.proofs.page.following.settle.Goals as goal

pub returns-else-is_backed_out : goal.returns-else-is_backed_out
returns-else-is_backed_out c = λ cell. ap (λ texts. shown_before order.ghosts.cmp texts cell) c.commit.ensures
