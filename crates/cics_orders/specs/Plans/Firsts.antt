-- The first element of a list that is one.
use Rattle.std.specs.Prelude.{ℕ, suc, Bool, if◌then◌else◌, List, [], ◌∷◌, Option, Some, None, option_map}

-- the index of the first that is one
abbrev pub first_index : {X : Type 0} → (X → Bool) → List X → Option ℕ
first_index is [] = None
first_index is (x ∷ xs) = if is x then Some 0 else option_map suc (first_index is xs)

-- the first that is one is changed
abbrev pub with_first : {X : Type 0} → (X → Bool) → (X → X) → List X → List X
with_first is change [] = []
with_first is change (x ∷ xs) = if is x then change x ∷ xs else x ∷ with_first is change xs
