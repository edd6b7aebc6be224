use Rattle.std.proofs.Common.{append_assoc}
use Rattle.cics_run.proofs.messages.deadlocked.push_deadlock.Goals as goal

pub returns : goal.returns
returns c = rw c.in-Some.ensures.cases.0 (simp (append_assoc) (simp (append_assoc) at (rw (c.in_ok-push_waits.ensures, c.in_ok-push_str.ensures) at c.push_str-2.ensures)))
