use Rattle.std.proofs.Common.{append_assoc}
use Rattle.cics_run.proofs.messages.reasons.push_record_reason.Goals as goal

pub returns-in-KeyIsNotRidfld : goal.returns-in-KeyIsNotRidfld
returns-in-KeyIsNotRidfld c = rw c.in-KeyIsNotRidfld.is (simp (append_assoc) (rw (c.key_in.ensures, c.key_in_from-key.ensures, c.used_in.ensures) at c.push_parts.ensures))

pub returns-in-KeyIsNotRead : goal.returns-in-KeyIsNotRead
returns-in-KeyIsNotRead c = rw c.in-KeyIsNotRead.is (rw (c.key_in_from-key.ensures, c.used_in.ensures) at c.push_parts-in-KeyIsNotRead.ensures)
