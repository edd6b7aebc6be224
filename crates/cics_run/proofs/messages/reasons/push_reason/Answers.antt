use Rattle.std.proofs.Common.{append-nil, append_assoc}
use Rattle.cics_run.proofs.messages.reasons.push_reason.Goals as goal

pub returns-in-KeyLengthDiffers : goal.returns-in-KeyLengthDiffers
returns-in-KeyLengthDiffers c =
    rw c.in-KeyLengthDiffers.is (simp (append_assoc) (simp (append-nil) at (rw (c.key_length_in.ensures, c.bytes_word.ensures, c.key_in-count.ensures) at c.push_parts.ensures)))
