-- A value is added to the entries of a map.
use Rattle.std.proofs.Common.{◌≡◌, Bool, true, false, List, [], ◌∷◌, Some, None, refl, ap, sym}
use Rattle.std.specs.Map.{lookup, set_value}
use Rattle.indexmap.specs.IndexMap.{insert_entry}
use Rattle.cics_orders.specs.Space.Groups.{added}

module _ {K X : Type 0} (eq : K → K → Bool) (join : X → X → X) (k : K) (x : X) where
  pub added_there : (es : List (K × X)) (v : X) → lookup (eq k) es ≡ Some v → set_value (eq k) es (join v x) ≡ added eq join es k x
  added_there [] v is = absurd cc
  added_there (e ∷ es) v is = by (added_there es v) (eq k e.0) refl
    where
      by : (lookup (eq k) es ≡ Some v → set_value (eq k) es (join v x) ≡ added eq join es k x) → (b : Bool) → eq k e.0 ≡ b →
          set_value (eq k) (e ∷ es) (join v x) ≡ added eq join (e ∷ es) k x
      by rest true at =
          let value : Some e.1 ≡ Some v = rw at at is in
          let same : e.1 ≡ v = cc in
          rw at (ap (λ w. (e.0, join w x) ∷ es) (sym same))
      by rest false at = rw at (ap (λ fs. e ∷ fs) (rest (rw at at is)))

  pub added_new : (es : List (K × X)) → lookup (eq k) es ≡ None → insert_entry eq es k x ≡ added eq join es k x
  added_new [] is = refl
  added_new (e ∷ es) is = by (added_new es) (eq k e.0) refl
    where
      by : (lookup (eq k) es ≡ None → insert_entry eq es k x ≡ added eq join es k x) → (b : Bool) → eq k e.0 ≡ b → insert_entry eq (e ∷ es) k x ≡ added eq join (e ∷ es) k x
      by rest true at =
          let value : Some e.1 ≡ None = rw at at is in
          absurd cc
      by rest false at = rw at (ap (λ fs. e ∷ fs) (rest (rw at at is)))
