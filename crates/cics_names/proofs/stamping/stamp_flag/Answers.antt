use Rattle.std.proofs.Common.{rules}
use Rattle.cics_names.specs.Stamps.{flag_stamp}
use Rattle.cics_names.proofs.stamping.stamp_flag.Goals as goal

pub returns : goal.returns
unfolding flag_stamp
returns c = search rules
