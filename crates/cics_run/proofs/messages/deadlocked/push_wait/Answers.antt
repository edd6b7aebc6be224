use Rattle.std.proofs.Common.{append_assoc}
use Rattle.cics_run.proofs.messages.deadlocked.push_wait.Goals as goal

pub returns-in-Some : goal.returns-in-Some
returns-in-Some c = rw (← c.in-Some.ensures.command) (simp (append_assoc) at (rw (c.in_ok-push_parts.ensures, c.bytes.ensures, c.bytes-2.ensures) at c.push_awaited.ensures))
