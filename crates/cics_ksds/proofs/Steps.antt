-- From one slot to the next.
use Rattle.std.proofs.Common.{◌≡◌, ℕ, suc, ◌+◌, ◌<◌, ◌≤◌, Some, List, [], ◌∷◌, length, get_or, take, drop, refl, ◌∙◌, ap, arith, length-append}
use Rattle.std.proofs.lemmas.List.{take-append-drop}
use Rattle.std.specs.List.{All}
use Rattle.std.proofs.lemmas.List.Elements.{All-get_or}
use Rattle.cics_ksds.specs.declared.slots.Slot.{Slot}
use Rattle.cics_ksds.specs.declared.slots.Position.{Position}
use Rattle.cics_ksds.specs.Slots.{joined, slots_in, IsArea, interval_at, number_of, index_of, IsThere, IsPosition, IsPrevious}
use Rattle.cics_ksds.proofs.Joins.{joined-append, joined_ends, none_behind}
use Rattle.cics_ksds.proofs.AreaEdits.{nth, within, interval_of}

-- where there are slots there are areas
pub some_area : (areas : List (List (List Slot))) → 0 < length (slots_in areas) → 0 < length areas
some_area [] some = absurd (omega (arith, some))
some_area (x ∷ xs) some = omega arith

module _ (areas : List (List (List Slot))) (each : All IsArea areas) where
  -- the first slot of an interval that begins where the position is
  begins : (at : Position) (index : ℕ) → IsThere areas at → at.slot ≡ 0 → length (joined (take (number_of areas at) (joined areas))) ≡ index → IsPosition areas index at
  begins at index there first same =
      let is = interval_of areas at there each in
      record { there = there; slot = omega (arith, is.filled, first); at_most = is.at_most; same = omega (arith, same, first) }

  module _ (at : Position) (there : IsThere areas at) where
    pub here : at.slot < length (interval_at areas at) → IsPosition areas (index_of areas at) at
    here below = record { there = there; slot = below; at_most = (interval_of areas at there each).at_most; same = refl }

    module _ (ends : at.slot ≡ length (interval_at areas at)) where
      behind : (n : ℕ) → n ≡ suc (number_of areas at) → length (joined (take n (joined areas))) ≡ index_of areas at
      behind n is = ap (λ m. length (joined (take m (joined areas)))) is
          ∙ omega (arith, joined_ends (joined areas) (number_of areas at) (within areas at there), ap length (nth areas at there), ends)

      pub next_interval : (m : ℕ) → m ≡ suc at.interval → m < length (get_or areas at.area []) → IsPosition areas (index_of areas at) (record { area = at.area; interval = m; slot = 0 })
      next_interval m is more = begins (record { area = at.area; interval = m; slot = 0 }) (index_of areas at) (record { area = there.area; interval = more }) refl
          (behind (length (joined (take at.area areas)) + m) (omega (arith, is)))

      pub next_area : length (get_or areas at.area []) ≤ suc at.interval → (m : ℕ) → m ≡ suc at.area → m < length areas → IsPosition areas (index_of areas at) (record { area = m; interval = 0; slot = 0 })
      next_area last m is more = begins (record { area = m; interval = 0; slot = 0 }) (index_of areas at) (record { area = more; interval = (All-get_or IsArea areas m [] more each).filled }) refl
          (behind (length (joined (take m areas)) + 0) (omega (arith, ap (λ n. length (joined (take n areas))) is, joined_ends areas at.area there.area, there.interval, last)))

      pub none_next : length (get_or areas at.area []) ≤ suc at.interval → length areas ≤ suc at.area → length (slots_in areas) ≤ index_of areas at
      none_next last end =
          let all : length (joined areas) ≡ length (joined (take at.area areas)) + length (get_or areas at.area []) = none_behind areas at.area there.area end in
          omega (arith, none_behind (joined areas) (number_of areas at) (within areas at there) (omega (arith, all, last)), ap length (nth areas at there), ends)

-- where there are no slots, none is before the position
pub nothing_before : (areas : List (List (List Slot))) (at : Position) → length (slots_in areas) ≡ 0 → at.slot ≡ 0 → index_of areas at ≡ 0
nothing_before areas at none first =
    let n = number_of areas at in
    omega (
      arith,
      none,
      first,
      ap length (joined-append (take n (joined areas)) (drop n (joined areas))),
      length-append (joined (take n (joined areas))) (joined (drop n (joined areas))),
      ap (λ l. length (joined l)) (take-append-drop n (joined areas)),
    )

-- the slot with which the interval before the position's ends
module _ (areas : List (List (List Slot))) (at last : Position) (first : at.slot ≡ 0) (there : IsThere areas last) (ends : suc last.slot ≡ length (interval_at areas last)) where
  pub ended : suc (number_of areas last) ≡ number_of areas at → IsPrevious areas at (Some last)
  ended number = record {
    there = there;
    slot = omega (arith, ends);
    same = omega (arith, joined_ends (joined areas) (number_of areas last) (within areas last there), ap length (nth areas last there), ends, first, ap (λ n. length (joined (take n (joined areas)))) number);
  }

  pub ended_area : suc last.area ≡ at.area → suc last.interval ≡ length (get_or areas last.area []) → at.interval ≡ 0 → IsPrevious areas at (Some last)
  ended_area area interval none = ended (omega (arith, joined_ends areas last.area there.area, interval, none, ap (λ n. length (joined (take n areas))) area))
