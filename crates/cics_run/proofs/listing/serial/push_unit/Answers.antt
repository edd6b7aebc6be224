use Rattle.std.proofs.Common.{append-nil, append_assoc}
use Rattle.cics_run.proofs.listing.serial.push_unit.Goals as goal

pub returns : goal.returns
returns c = simp (append_assoc) (simp (append-nil) at (rw (c.number.ensures, c.lines_of.ensures) at c.push_parts.ensures))
