-- Numbers that differ, and lists that have one of them.
use Rattle.std.proofs.Common.{◌≡◌, ℕ, Bool, true, false, ◌||◌, List, [], ◌∷◌, ◌++◌, refl, ap, sym, ◌∙◌, eqb, inl, inr}
use Rattle.std.proofs.lemmas.Bool.{true≢false, cases_Bool, eqb-true, eq-eqb}

-- two numbers that differ, the other way round
pub eqb-turned : (u n : ℕ) → eqb n u ≡ false → eqb u n ≡ false
eqb-turned u n h = elim (cases_Bool (eqb u n)) [
  | inl y ↦ absurd (true≢false (sym (eq-eqb n u (sym (eqb-true u n y))) ∙ h))
  | inr other ↦ other
]

-- what is neither is not one of the two
pub or_neither : (a b : Bool) → (a || b) ≡ false → (a ≡ false) × (b ≡ false)
or_neither true b h = absurd (true≢false h)
or_neither false b h = (refl, h)

-- a list with one more in the middle
pub append_one : (xs : List ℕ) (u : ℕ) (ys : List ℕ) → xs ++ u ∷ ys ≡ (xs ++ u ∷ []) ++ ys
append_one [] u ys = refl
append_one (x ∷ xs) u ys = ap (λ r. x ∷ r) (append_one xs u ys)
