-- The first element of a list that is one is changed.
use Rattle.std.proofs.Common.{◌≡◌, ◌<◌, ℕ, zero, suc, Bool, true, false, List, [], ◌∷◌, length, get_or, Option, None, Some, option_map, refl, ap, sym, ◌∙◌, arith}
use Rattle.std.specs.Prelude.{slice_set, if◌then◌else◌}
use Rattle.cics_orders.specs.Plans.Firsts.{first_index, with_first}

-- where none is one, nothing is changed
pub first_none : {X : Type 0} (is : X → Bool) (change : X → X) (xs : List X) → first_index is xs ≡ None → with_first is change xs ≡ xs
first_none is change [] none = refl
first_none {X} is change (x ∷ xs) none = by (first_none is change xs) (is x) (first_index is xs) refl none
  where
    by : (first_index is xs ≡ None → with_first is change xs ≡ xs) → (b : Bool) (p : Option ℕ) → first_index is xs ≡ p →
        (if b then Some 0 else option_map suc p) ≡ None → (if b then change x ∷ xs else x ∷ with_first is change xs) ≡ x ∷ xs
    by rest true p at none = absurd (grind (arith, none))
    by rest false None at none = ap (λ ys. x ∷ ys) (rest at)
    by rest false (Some n) at none = absurd (grind (arith, none))

-- else the one at that place is
pub first_at : {X : Type 0} (is : X → Bool) (change : X → X) (xs : List X) (n : ℕ) (d : X) → first_index is xs ≡ Some n →
    (n < length xs) × (with_first is change xs ≡ slice_set xs n (change (get_or xs n d)))
first_at is change [] n d place = absurd (grind (arith, place))
first_at {X} is change (x ∷ xs) n d place = by (first_at is change xs) (is x) (first_index is xs) n refl place
  where
    by : ((n : ℕ) (d : X) → first_index is xs ≡ Some n → (n < length xs) × (with_first is change xs ≡ slice_set xs n (change (get_or xs n d)))) →
        (b : Bool) (p : Option ℕ) (n : ℕ) → first_index is xs ≡ p → (if b then Some 0 else option_map suc p) ≡ Some n →
        (n < length (x ∷ xs)) × ((if b then change x ∷ xs else x ∷ with_first is change xs) ≡ slice_set (x ∷ xs) n (change (get_or (x ∷ xs) n d)))
    by rest true p zero at place = (omega arith, refl)
    by rest true p (suc n) at place = absurd (grind (arith, place))
    by rest false None n at place = absurd (grind (arith, place))
    by rest false (Some k) zero at place = absurd (grind (arith, place))
    by rest false (Some k) (suc n) at place =
        let same : k ≡ n = grind (arith, place) in
        let tail = rest n d (at ∙ ap Some same) in
        (omega (arith, tail.0), ap (λ ys. x ∷ ys) tail.1)

-- the same of a place that is found in a view of the list
module _ {X : Type 0} (is : X → Bool) (xs seen : List X) (same : seen ≡ xs) where
  pub within : (n : ℕ) → first_index is seen ≡ Some n → n < length xs
  within n place = by xs (ap (first_index is) (sym same) ∙ place)
    where
      by : (xs : List X) → first_index is xs ≡ Some n → n < length xs
      by [] place = absurd (grind (arith, place))
      by (x ∷ xs) place = (first_at is (λ x. x) (x ∷ xs) n x place).0

  pub changed : (change : X → X) (n : ℕ) (x y : X) → first_index is seen ≡ Some n → x ≡ get_or xs n x → y ≡ change x → slice_set xs n y ≡ with_first is change xs
  changed change n x y place at new = ap (slice_set xs n) (new ∙ ap change at) ∙ sym (first_at is change xs n x (ap (first_index is) (sym same) ∙ place)).1

  pub unchanged : (change : X → X) → first_index is seen ≡ None → xs ≡ with_first is change xs
  unchanged change none = sym (first_none is change xs (ap (first_index is) (sym same) ∙ none))
