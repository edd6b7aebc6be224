use Rattle.std.proofs.Common.{append_assoc, refl}
use Rattle.cics_run.specs.Listing.Serial.{option_with_value, bare_option, queue_line}
use Rattle.cics_run.proofs.OfMessages.Put.{put-as}
use Rattle.cics_run.proofs.listing.serial.push_queue_line.Goals as goal

pub returns : goal.returns
unfolding option_with_value bare_option
returns c =
    put-as c.args.out.now.items c.push_parts.new.out.items _ (queue_line c.args.name.now c.args.recovery) c.push_parts.result
    (simp (append_assoc) refl) (rw c.recovery_title.ensures at c.push_parts.ensures)
