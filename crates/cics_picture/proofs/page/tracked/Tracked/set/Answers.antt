use Rattle.cics_picture.proofs.OfViews.Tracking.{set-keeps}
use Rattle.cics_picture.proofs.page.tracked.Tracked.set.Goals as goal

pub returns-clause-keeps : goal.returns-clause-keeps
returns-clause-keeps g c = λ q. set-keeps g.met.K.Ord.total c.args.self.now c.swap.new.self c.note.new.self c.args.key c.args.again q c.in_ok-old.old c.args.value c.requires c.in_ok-old.ensures.old c.swap.ensures.olds (c.in_ok-old.ensures.shown q) c.in_ok-note.ensures.entries (c.in_ok-note.ensures.noted q)
