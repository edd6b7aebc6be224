use Rattle.std.proofs.Common.{length}
use Rattle.cics_names.specs.Stamps.{number_stamp, text_stamp}
use Rattle.cics_names.proofs.Stamps.{appended_two}
use Rattle.cics_names.proofs.stamping.stamp_text.Goals as goal

pub returns : goal.returns
unfolding text_stamp
returns c = appended_two c.args.out.now.items (number_stamp (length c.args.text.now)) c.args.text.now c.in_ok-stamp_number.ensures c.in_ok-extend_from_slice.ensures.items
