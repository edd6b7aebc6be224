-- Stamps: bytes that tell a value. Values of one type with the same stamp are equal, whatever bytes
-- follow.
use Rattle.std.specs.Prelude.{◌≡◌, ℕ, ◌^◌, nat_lt, Bool, true, false, if◌then◌else◌, Option, Some, None, List, [], ◌∷◌, ◌++◌, length, replicate, flat_map}
use Rattle.std.specs.Int.{w64, to_be_bytes}
use Rattle.cics_names.specs.Keyed.{Bytes}

-- whether the stamps of a type tell its values: where two stamps begin the same bytes, the values
-- are equal, and so are the bytes that follow
abbrev pub Splits : {X : Type 0} → (X → List ℕ) → Type 0
Splits {X} f = (x y : X) (r s : List ℕ) → f x ++ r ≡ f y ++ s → (x ≡ y) × (r ≡ s)

-- the stamp of a number is one byte below 254. Else it is 254 and eight bytes, the most significant
-- first. A number that doesn't fit in 64 bits, which no program has, is written in ones
unfoldable pub number_stamp : ℕ → List ℕ
number_stamp n =
    if nat_lt n 254
    then n ∷ []
    else if nat_lt n (2 ^ 64) then 254 ∷ to_be_bytes w64 n else 255 ∷ (replicate n 1 ++ 0 ∷ [])

-- the stamp of a flag is that of 1 if it is true, else that of 0
unfoldable pub flag_stamp : Bool → List ℕ
flag_stamp true = number_stamp 1
flag_stamp false = number_stamp 0

-- the stamp of a text is the number of its bytes, and the bytes
unfoldable pub text_stamp : Bytes → List ℕ
text_stamp t = number_stamp (length t) ++ t

module _ {X : Type 0} where
  -- the stamp of an optional value is 0 if there is none, else 1 and the stamp of the value
  abbrev pub option_stamp : (X → List ℕ) → Option X → List ℕ
  option_stamp f None = number_stamp 0
  option_stamp f (Some x) = number_stamp 1 ++ f x

  -- in the stamp of a list, a value is 1 and its own stamp
  abbrev pub item_stamp : (X → List ℕ) → X → List ℕ
  item_stamp f x = number_stamp 1 ++ f x

  -- the stamp of a list is that of each value, first to last, and then 0
  abbrev pub list_stamp : (X → List ℕ) → List X → List ℕ
  list_stamp f xs = flat_map (item_stamp f) xs ++ number_stamp 0
