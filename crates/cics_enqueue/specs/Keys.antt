-- The head of a table key.
use Rattle.std.specs.Prelude.{◌≡◌, ℕ, suc, zero, nat_le, min, if◌then◌else◌, length, take, get_or, [], ◌∷◌, ◌++◌}
use Rattle.cics_names.specs.Keyed.{Bytes}

-- the first byte, or 0 if there is none
abbrev pub first_or_zero : Bytes → ℕ
first_or_zero [] = 0
first_or_zero (byte ∷ bytes) = byte

-- the bytes behind the first
abbrev pub behind : Bytes → Bytes
behind [] = []
behind (byte ∷ bytes) = bytes

-- so many of the first bytes; zeros stand for bytes that aren't there
abbrev pub padded : ℕ → Bytes → Bytes
padded zero bytes = []
padded (suc n) bytes = first_or_zero bytes ∷ padded n (behind bytes)

-- the key head: the first 23 bytes of a key, and how many it has, 24 for more than 23
abbrev pub head_of : Bytes → Bytes
head_of key = padded 23 key ++ min (length key) 24 ∷ []

-- what a key has outside its head: all its bytes if there are more than 23
abbrev pub long_of : Bytes → Bytes
long_of key = if nat_le (length key) 23 then [] else key

-- the bytes of a key: those of its head, or those outside it if there are any
abbrev pub bytes_of : Bytes → Bytes → Bytes
bytes_of head [] = take (get_or head 23 0) head
bytes_of head (byte ∷ long) = byte ∷ long

-- a head and what is outside it are of one key
pub record AreParts (head long : Bytes) : Type 0 where
  pub head_is : head ≡ head_of (bytes_of head long)
  pub long_is : long ≡ long_of (bytes_of head long)
