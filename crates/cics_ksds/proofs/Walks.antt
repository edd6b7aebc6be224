-- Slots one interval after another, and one area after another.
use Rattle.std.proofs.Common.{◌≡◌, ℕ, suc, ◌+◌, ◌<◌, ◌≤◌, List, [], ◌++◌, length, get_or, take, drop, ◌∙◌, ap, arith}
use Rattle.std.proofs.lemmas.List.{drop_more}
use Rattle.cics_ksds.specs.declared.slots.Slot.{Slot}
use Rattle.cics_ksds.specs.declared.slots.Position.{Position}
use Rattle.cics_ksds.specs.Files.{later}
use Rattle.cics_ksds.specs.Slots.{last_record, listed, joined, slots_in, interval_in, interval_at, number_of, index_of, IsThere}
use Rattle.cics_ksds.proofs.Joins.{joined-append, joined_drop, joined_take}
use Rattle.cics_ksds.proofs.AreaEdits.{nth, within}
use Rattle.cics_ksds.proofs.Bounds.{last_record-append, listed-append}

-- ---- by intervals
module _ (rows : List (List Slot)) (i : ℕ) (lt : i < length rows) where
  rest : joined (drop i rows) ≡ get_or rows i [] ++ joined (drop (i + 1) rows)
  rest = ap joined (drop_more rows i [] lt)

  pub listed_row : listed (joined (drop i rows)) ≡ listed (get_or rows i []) ++ listed (joined (drop (i + 1) rows))
  listed_row = ap listed rest ∙ listed-append (get_or rows i []) (joined (drop (i + 1) rows))

-- ---- by areas
module _ (areas : List (List (List Slot))) (i : ℕ) (lt : i < length areas) where
  left : slots_in (drop i areas) ≡ joined (get_or areas i []) ++ slots_in (drop (i + 1) areas)
  left = ap slots_in (drop_more areas i [] lt) ∙ joined-append (get_or areas i []) (joined (drop (i + 1) areas))

  pub listed_area : listed (slots_in (drop i areas)) ≡ listed (joined (get_or areas i [])) ++ listed (slots_in (drop (i + 1) areas))
  listed_area = ap listed left ∙ listed-append (joined (get_or areas i [])) (slots_in (drop (i + 1) areas))

-- ---- from a position on, and before it
module _ (areas : List (List (List Slot))) (at : Position) (there : IsThere areas at) (fits : at.slot ≤ length (interval_at areas at)) where
  fits_there : at.slot ≤ length (interval_in (joined areas) (number_of areas at))
  fits_there = omega (arith, ap length (nth areas at there), fits)

  pub last_parts : last_record (take (index_of areas at) (slots_in areas)) ≡ later (last_record (take at.slot (interval_at areas at))) (last_record (joined (take (number_of areas at) (joined areas))))
  last_parts =
      ap last_record (joined_take (joined areas) (number_of areas at) (within areas at there) at.slot fits_there)
      ∙ last_record-append (joined (take (number_of areas at) (joined areas))) (take at.slot (interval_in (joined areas) (number_of areas at)))
      ∙ ap (λ x. later (last_record (take at.slot x)) (last_record (joined (take (number_of areas at) (joined areas))))) (nth areas at there)

  pub listed_parts : listed (drop (index_of areas at) (slots_in areas)) ≡ listed (drop at.slot (interval_at areas at)) ++ listed (joined (drop (suc (number_of areas at)) (joined areas)))
  listed_parts =
      ap listed (joined_drop (joined areas) (number_of areas at) (within areas at there) at.slot fits_there)
      ∙ listed-append (drop at.slot (interval_in (joined areas) (number_of areas at))) (joined (drop (suc (number_of areas at)) (joined areas)))
      ∙ ap (λ x. listed (drop at.slot x) ++ listed (joined (drop (suc (number_of areas at)) (joined areas)))) (nth areas at there)
