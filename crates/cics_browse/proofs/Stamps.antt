-- The stamp of a position tells it, whatever bytes follow.
use Rattle.std.proofs.Common.{◌≡◌, Bool, ◌++◌, refl, arith}
use Rattle.cics_names.specs.Stamps.{Splits, number_stamp, flag_stamp, text_stamp}
use Rattle.cics_names.proofs.Stamps.{split_two, splits_number, splits_flag, splits_text, splits_both}
use Rattle.cics_browse.specs.Stamps.{move_number, position_stamp}
use Rattle.cics_browse.specs.declared.browses.Move.{Move}
use Rattle.cics_browse.specs.declared.browses.Move.TheVariants.{Start, Forward, Back}

same_move : (x y : Move) → move_number x ≡ move_number y → x ≡ y
same_move Start Start e = refl
same_move Forward Forward e = refl
same_move Back Back e = refl
same_move x y e = absurd (omega arith)

splits_move : Splits (λ p. number_stamp (move_number p))
splits_move x y r s e =
    let h = splits_number (move_number x) (move_number y) r s e in
    (same_move x y h.0, h.1)

pub splits_position : Splits position_stamp
splits_position a b r s e =
    let h = split_two text_stamp (λ (p : Move × Bool). number_stamp (move_number p.0) ++ flag_stamp p.1) splits_text
    (splits_both (λ p. number_stamp (move_number p)) flag_stamp splits_move splits_flag)
    a.key b.key (a.last_move, a.generic) (b.last_move, b.generic) r s e in
    (λ i. record { key = h.0 i; last_move = (h.1 i).0; generic = (h.1 i).1 }, h.2)
