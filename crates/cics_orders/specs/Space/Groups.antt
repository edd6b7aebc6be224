-- Values by keys, each key once: values of one key are joined.
use Rattle.std.specs.Prelude.{Bool, if◌then◌else◌, List, [], ◌∷◌}

module _ {K X : Type 0} (eq : K → K → Bool) (join : X → X → X) where
  -- the entries with one more value
  abbrev pub added : List (K × X) → K → X → List (K × X)
  added [] k x = (k, x) ∷ []
  added (e ∷ es) k x = if eq k e.0 then (e.0, join e.1 x) ∷ es else e ∷ added es k x

  -- the same, after each of these in turn
  abbrev pub added_all : List (K × X) → List (K × X) → List (K × X)
  added_all es [] = es
  added_all es (g ∷ gs) = added_all (added es g.0 g.1) gs
