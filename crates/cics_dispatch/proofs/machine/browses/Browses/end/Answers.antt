use Rattle.cics_dispatch.proofs.OfMachine.Browsing.{ended, ended-rising}
use Rattle.cics_dispatch.proofs.machine.browses.Browses.end.Goals as goal

pub invariant_of-self : goal.invariant_of-self
invariant_of-self c = ended-rising c.args.file.now c.self.inside.rows.entries c.args.self.now c.self.invariant c.self.view_is _ c.remove.ensures.entries

pub returns : goal.returns
returns c = ended c.args.file.now c.self.inside.rows.entries c.args.self.now c.self.invariant c.self.view_is _ c.remove.ensures.entries
