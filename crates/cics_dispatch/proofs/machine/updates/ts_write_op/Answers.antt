use Rattle.std.proofs.Common.{sym, ap}
use Rattle.cics_dispatch.specs.Machine.Steps.{ts_write_op}
use Rattle.cics_dispatch.proofs.machine.updates.ts_write_op.Goals as goal

pub returns-in-None : goal.returns-in-None
returns-in-None c = sym (ap (ts_write_op c.args.queue c.args.from) c.in-None.is)

pub returns-in-Some : goal.returns-in-Some
returns-in-Some c = sym (ap (ts_write_op c.args.queue c.args.from) c.in-Some.is)
