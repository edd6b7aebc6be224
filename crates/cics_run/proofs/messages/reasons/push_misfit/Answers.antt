use Rattle.std.proofs.Common.{append_assoc}
use Rattle.cics_run.proofs.messages.reasons.push_misfit.Goals as goal

pub returns-then-is_short : goal.returns-then-is_short
returns-then-is_short c = rw c.if-is_short.true (simp (append_assoc) (rw (c.bytes_word.ensures, c.used_in-count.ensures) at c.push_parts.ensures))

pub returns-else-is_short : goal.returns-else-is_short
returns-else-is_short c = rw c.if-is_short.false (simp (append_assoc) (rw (c.bytes_word.ensures, c.used_in-count.ensures) at c.push_parts-else-is_short.ensures))
