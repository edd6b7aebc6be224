use Rattle.std.proofs.Common.{sym, ap}
use Rattle.cics_dispatch.specs.Machine.Lengths.{is_length_given}
use Rattle.cics_dispatch.proofs.machine.checks.is_length_given.Goals as goal

pub returns-in-Some : goal.returns-in-Some
returns-in-Some c = sym (ap (λ given. is_length_given given c.args.length) c.in-Some.is)

pub returns-in-None : goal.returns-in-None
returns-in-None c = sym (ap (λ given. is_length_given given c.args.length) c.in-None.is)
