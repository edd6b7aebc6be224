-- A row of keys: the levels above it, and the first key below a limit.
use Rattle.std.specs.Prelude.{◌≡◌, ◌<◌, ◌≤◌, ℕ, zero, suc, min, Some, List, [], ◌∷◌, Vec, vec_len, vec_capacity, slice_get}
use Rattle.std.specs.declared.alloc.Global.{Global}

-- the lesser key of each pair; the last key if it is alone
abbrev pub lesser_of_pairs : List ℕ → List ℕ
lesser_of_pairs [] = []
lesser_of_pairs (a ∷ []) = a ∷ []
lesser_of_pairs (a ∷ b ∷ keys) = min a b ∷ lesser_of_pairs keys

-- each level has the lesser keys of the pairs below it, the first those of the keys
abbrev pub AreAbove : List ℕ → List (Vec ℕ Global) → Type 0
AreAbove keys [] = Unit {0}
AreAbove keys (l ∷ ls) = (l.items ≡ lesser_of_pairs keys) × AreAbove l.items ls

-- the last of the levels, or the keys if there is none
abbrev pub last_of : List ℕ → List (Vec ℕ Global) → List ℕ
last_of keys [] = keys
last_of keys (l ∷ ls) = last_of l.items ls

-- the level that stands so many levels above the keys, for 0 the keys themselves
abbrev pub level_at : List ℕ → List (Vec ℕ Global) → ℕ → List ℕ
level_at keys ls zero = keys
level_at keys [] (suc n) = []
level_at keys (l ∷ ls) (suc n) = level_at l.items ls n

-- each level has room for one more key
abbrev pub HaveRoom : List (Vec ℕ Global) → Type 0
HaveRoom [] = Unit {0}
HaveRoom (l ∷ ls) = (vec_len l < vec_capacity l) × HaveRoom ls

-- the first key below a limit stands at this index
pub record IsFirstBelow (keys : List ℕ) (limit at : ℕ) : Type 0 where
  pub key : ℕ
  pub there : slice_get keys at ≡ Some key
  pub below : key < limit
  pub before : (i k : ℕ) → i < at → slice_get keys i ≡ Some k → limit ≤ k
