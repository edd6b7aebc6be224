-- Finite maps from byte strings (keys, names) as lists of entries in the rising order of their
-- keys, the bytes unsigned.
use Rattle.std.specs.Prelude.{ℕ, Bool, false, not, ◌||◌, if◌then◌else◌, Option, List, [], ◌∷◌, is_some}
use Rattle.std.specs.declared.cmp.Ordering.{Ordering}
use Rattle.std.specs.Ordering.{nat_cmp, is_lt, is_eq}
use Rattle.std.specs.Cmp.Lexicographic.{slice_cmp}
use Rattle.std.specs.FinMap as map_by
use Rattle.std.specs.FinMap.Entries.{where_key}

-- a key or a name
abbrev pub Bytes : Type 0
Bytes = List ℕ

-- entries of a key and what it has
abbrev pub Map : Type 0 → Type 0
Map X = List (Bytes × X)

-- how byte strings compare: by the first byte that differs, else by length
abbrev pub bytes_cmp : Bytes → Bytes → Ordering
bytes_cmp a b = slice_cmp nat_cmp a b

-- whether the first comes before the second
abbrev pub is_below : Bytes → Bytes → Bool
is_below a b = is_lt (bytes_cmp a b)

-- whether they are the same bytes
abbrev pub is_same : Bytes → Bytes → Bool
is_same a b = is_eq (bytes_cmp a b)

module _ {X : Type 0} where
  -- what the map has at a key
  abbrev pub value_at : Bytes → Map X → Option X
  value_at k m = map_by.find bytes_cmp k m

  -- whether the map has the key
  abbrev pub has_key : Bytes → Map X → Bool
  has_key k m = is_some (value_at k m)

  -- the map with this value at the key
  abbrev pub with_value : Bytes → X → Map X → Map X
  with_value k x m = map_by.put bytes_cmp k x m

  -- the map without the key
  abbrev pub without : Bytes → Map X → Map X
  without k m = where_key bytes_cmp (λ x. not (is_same k x)) m

  -- whether the keys rise strictly
  abbrev pub is_rising : Map X → Bool
  is_rising m = map_by.is_sorted bytes_cmp m

-- a set of keys, in rising order, with one more
abbrev pub with_key : Bytes → List Bytes → List Bytes
with_key k [] = k ∷ []
with_key k (x ∷ xs) = if is_below k x then k ∷ x ∷ xs else if is_same k x then x ∷ xs else x ∷ with_key k xs

-- the set without the key
abbrev pub without_key : Bytes → List Bytes → List Bytes
without_key k [] = []
without_key k (x ∷ xs) = if is_same k x then without_key k xs else x ∷ without_key k xs

-- whether the set has the key
abbrev pub is_key_in : Bytes → List Bytes → Bool
is_key_in k [] = false
is_key_in k (x ∷ xs) = is_same k x || is_key_in k xs
