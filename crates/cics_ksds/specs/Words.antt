-- Bytes as one number.
use Rattle.std.specs.Prelude.{◌≡◌, ℕ, ◌+◌, ◌-◌, ◌*◌, ◌<◌, ◌≤◌, List, [], ◌∷◌, length, take, drop}
use Rattle.std.specs.List.{slice_index}
use Rattle.cics_ksds.specs.declared.comparing.Numbers.{Numbers}
use Rattle.cics_ksds.specs.declared.numbered.KeyHead.{KeyHead}

-- the number that bytes are as digits of base 256, the highest first, behind those of a number
abbrev pub number : ℕ → List ℕ → ℕ
number high [] = high
number high (byte ∷ bytes) = number (high * 256 + byte) bytes

-- the first of these numbers, this many, are bytes
abbrev pub AreBytes : ℕ → List ℕ → Type 0
AreBytes count bytes = (i : ℕ) → i < count → slice_index bytes i < 256

-- where the second eight bytes of a key begin: behind the first, or if it has fewer than 16, so
-- that they end with it
abbrev pub second_at : List ℕ → ℕ
second_at key = 8 - (16 - length key)

-- the numbers are those of the key
pub record AreNumbers (key : List ℕ) (n : Numbers) : Type 0 where
  pub long : 8 ≤ length key
  pub first : n.first ≡ number 0 (take 8 key)
  pub second : n.second ≡ number 0 (take 8 (drop (second_at key) key))
  pub first_bytes : AreBytes 8 key
  pub second_bytes : AreBytes 8 (drop (second_at key) key)

-- if the key head has numbers, they are those of the key that lies in the bytes
abbrev pub IsHeadOf : List ℕ → KeyHead → Type 0
IsHeadOf bytes head = 0 < head.length → AreNumbers (take head.length (drop head.offset bytes)) head.numbers
