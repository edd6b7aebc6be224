use Rattle.cics_dispatch.proofs.OfMachine.WaitTable.{below_next}
use Rattle.cics_dispatch.proofs.machine.waits.next_number.Goals as goal

pub returns-in-Some : goal.returns-in-Some
returns-in-Some c = below_next c.in-Some.last.now c.args.rows.now.entries c.in-Some.ensures.all_up_to
