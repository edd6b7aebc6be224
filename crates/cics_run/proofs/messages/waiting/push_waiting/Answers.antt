use Rattle.std.proofs.Common.{append-nil, append_assoc}
use Rattle.cics_run.proofs.messages.waiting.push_waiting.Goals as goal

pub returns : goal.returns
returns c = rw (← c.in-Some.ensures) (simp (append_assoc) (simp (append_assoc, append-nil) at (rw (c.in_ok-push_waiter.ensures, c.in_ok-push_parts.ensures, c.waiting_count.ensures) at c.push_str.ensures)))
