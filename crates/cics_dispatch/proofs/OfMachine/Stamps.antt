-- The stamps of browses and of waiting commands tell them, whatever bytes follow.
use Rattle.std.proofs.Common.{◌≡◌, ℕ, Option, List, ◌++◌}
use Rattle.cics_names.specs.Stamps.{Splits, number_stamp, text_stamp, option_stamp}
use Rattle.cics_names.proofs.Stamps.{split_two, splits_number, splits_text, splits_option, splits_both}
use Rattle.cics_browse.specs.Stamps.{position_stamp}
use Rattle.cics_browse.proofs.Stamps.{splits_position}
use Rattle.cics_history.specs.Stamps.{op_stamp}
use Rattle.cics_history.proofs.Stamps.{splits_op}
use Rattle.cics_history.specs.declared.ops.Op.{Op}
use Rattle.cics_dispatch.specs.Machine.Machine.{Suspended}
use Rattle.cics_dispatch.specs.Machine.Stamps.{browse_stamp, wait_stamp}

pub splits_browse : Splits browse_stamp
splits_browse = splits_both text_stamp position_stamp splits_text splits_position

-- the label, the clock and the updating command of two waiting commands
pub splits_wait : (x y : Suspended) (r s : List ℕ) → wait_stamp x ++ r ≡ wait_stamp y ++ s → (x.label ≡ y.label) × (x.since ≡ y.since) × (x.op ≡ y.op) × (r ≡ s)
unfolding wait_stamp
splits_wait x y r s e =
    let h = split_two text_stamp (λ (p : ℕ × Option Op). number_stamp p.0 ++ option_stamp op_stamp p.1) splits_text
    (splits_both number_stamp (option_stamp op_stamp) splits_number (splits_option op_stamp splits_op))
    x.label y.label (x.since, x.op) (y.since, y.op) r s e in
    (h.0, λ i. (h.1 i).0, λ i. (h.1 i).1, h.2)
