use Rattle.std.proofs.Common.{append-nil, append_assoc}
use Rattle.cics_run.proofs.messages.causes.push_cause.Goals as goal

pub returns-in_ok-push_about-in-Duprec : goal.returns-in_ok-push_about-in-Duprec
returns-in_ok-push_about-in-Duprec c = rw c.in-Duprec.is (simp (append_assoc) (simp (append_assoc, append-nil) at (rw (c.in_ok-push_about-in-Duprec.ensures, c.key_in.ensures) at c.push_parts.ensures)))

pub returns-in-Endfile : goal.returns-in-Endfile
returns-in-Endfile c = rw c.in-Endfile.is c.push_about-in-Endfile.ensures

pub returns-in-Qzero : goal.returns-in-Qzero
returns-in-Qzero c = rw c.in-Qzero.is c.push_about-in-Qzero.ensures

pub returns-in-Enqbusy : goal.returns-in-Enqbusy
returns-in-Enqbusy c = rw c.in-Enqbusy.is (rw c.used_in.ensures at c.push_parts-in-Enqbusy.ensures)
