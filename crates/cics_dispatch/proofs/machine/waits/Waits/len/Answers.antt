use Rattle.std.proofs.Common.{subst}
use Rattle.cics_dispatch.specs.Machine.Waits.{AreApart}
use Rattle.cics_dispatch.proofs.OfMachine.Looks.{apart_rows}
use Rattle.cics_dispatch.proofs.machine.waits.Waits.len.Goals as goal

pub returns-clause-once : goal.returns-clause-once
returns-clause-once c = subst AreApart c.self.view_is (apart_rows c.self.inside.rows.entries c.self.invariant.once)
