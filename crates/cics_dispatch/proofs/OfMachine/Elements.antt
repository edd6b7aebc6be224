-- What stands at each index of a list after a change.
use Rattle.std.proofs.Common.{◌≡◌, ℕ, zero, suc, ◌&&◌, true, false, cond, Some, None, is_some, List, [], ◌∷◌, ◌++◌, length, slice_get, slice_set, nat_eq, refl, sym, ap, ◌∙◌}
use Rattle.std.proofs.Math.Dec.{eqb-suc-zero, eqb-zero-suc, eqb-suc-suc}

module _ {X : Type 0} where
  -- one is written over
  pub get-set : (xs : List X) (i p : ℕ) (y : X) → slice_get (slice_set xs i y) p ≡ cond (nat_eq p i && is_some (slice_get xs p)) (Some y) (slice_get xs p)
  get-set [] i p y = elim (nat_eq p i) as (λ b. slice_get {X = X} [] p ≡ cond (b && false) (Some y) None) [ true ↦ refl | false ↦ refl ]
  get-set (x ∷ xs) zero zero y = refl
  get-set (x ∷ xs) zero (suc p) y = ap (λ b. cond (b && is_some (slice_get xs p)) (Some y) (slice_get xs p)) (sym (eqb-suc-zero p))
  get-set (x ∷ xs) (suc i) zero y = ap (λ b. cond (b && true) (Some y) (Some x)) (sym (eqb-zero-suc i))
  get-set (x ∷ xs) (suc i) (suc p) y = get-set xs i p y ∙ ap (λ b. cond (b && is_some (slice_get xs p)) (Some y) (slice_get xs p)) (sym (eqb-suc-suc p i))

  -- one more at the end
  pub get-pushed : (xs : List X) (y : X) (p : ℕ) → slice_get (xs ++ y ∷ []) p ≡ cond (nat_eq p (length xs)) (Some y) (slice_get xs p)
  get-pushed [] y zero = refl
  get-pushed [] y (suc p) = ap (λ b. cond b (Some y) None) (sym (eqb-suc-zero p))
  get-pushed (x ∷ xs) y zero = ap (λ b. cond b (Some y) (Some x)) (sym (eqb-zero-suc (length xs)))
  get-pushed (x ∷ xs) y (suc p) = get-pushed xs y p ∙ ap (λ b. cond b (Some y) (slice_get xs p)) (sym (eqb-suc-suc p (length xs)))
