use Rattle.std.proofs.Common.{◌∙◌}
use Rattle.cics_dispatch.proofs.OfMachine.WaitTable.{insert_entry-push}
use Rattle.cics_dispatch.proofs.machine.waits.add.Goals as goal

pub returns-clause-ok : goal.returns-clause-ok
returns-clause-ok c = c.in_ok-insert.ensures.entries ∙ insert_entry-push c.args.number c.args.suspended c.args.rows.now.entries c.requires
