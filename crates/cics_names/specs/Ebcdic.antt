-- The characters of EBCDIC code page 037 that this project reads and prints, in runs whose codes
-- follow one another. A run has its first character (as in ASCII), its code, and how many there
-- are.
use Rattle.std.specs.Prelude.{ℕ, Bool, ◌+◌, ◌-◌, ◌==◌, ◌&&◌, slice_get, nat_le, nat_lt, if◌then◌else◌, Option, Some, None, List, [], ◌∷◌, option_map, option_and_then}

-- characters that follow one another in ASCII, and whose codes follow one another
pub record Run : Type 0 where
  pub character : ℕ
  pub code : ℕ
  pub count : ℕ

-- a run, from its first character, its first code and its count
abbrev pub run : ℕ → ℕ → ℕ → Run
run character code count = record { character = character; code = code; count = count }

-- the blank, the small letters, the capitals, the digits, and the signs
abbrev pub runs : List Run
runs =
    run 32 0x40 1
    ∷ run 97 0x81 9 ∷ run 106 0x91 9 ∷ run 115 0xA2 8
    ∷ run 65 0xC1 9 ∷ run 74 0xD1 9 ∷ run 83 0xE2 8
    ∷ run 48 0xF0 10
    ∷ run 46 0x4B 1 ∷ run 60 0x4C 1 ∷ run 40 0x4D 1 ∷ run 43 0x4E 1 ∷ run 38 0x50 1
    ∷ run 36 0x5B 1 ∷ run 42 0x5C 1 ∷ run 41 0x5D 1 ∷ run 59 0x5E 1 ∷ run 45 0x60 1 ∷ run 47 0x61 1
    ∷ run 44 0x6B 1 ∷ run 37 0x6C 1 ∷ run 95 0x6D 1 ∷ run 62 0x6E 1 ∷ run 63 0x6F 1
    ∷ run 58 0x7A 1 ∷ run 35 0x7B 1 ∷ run 64 0x7C 1 ∷ run 39 0x7D 1 ∷ run 61 0x7E 1 ∷ run 34 0x7F 1
    ∷ []

-- whether a number is one of these, which follow one another from the first on
abbrev pub is_within : ℕ → ℕ → ℕ → Bool
is_within first count n = nat_le first n && nat_lt n (first + count)

-- the code of a character in the first of the runs that has it
abbrev pub code_in : List Run → ℕ → Option ℕ
code_in [] c = None
code_in (r ∷ rs) c = if is_within r.character r.count c then Some (r.code + (c - r.character)) else code_in rs c

-- the character of a code in the first of the runs that has it
abbrev pub character_in : List Run → ℕ → Option ℕ
character_in [] b = None
character_in (r ∷ rs) b = if is_within r.code r.count b then Some (r.character + (b - r.code)) else character_in rs b

-- the code of an ASCII character
unfoldable pub code_of : ℕ → Option ℕ
code_of c = code_in runs c

-- the character of a code
unfoldable pub character_of : ℕ → Option ℕ
character_of b = character_in runs b

-- an entry of a table in which 0 stands for none
abbrev pub unless_zero : Option ℕ → Option ℕ
unless_zero None = None
unless_zero (Some x) = if x == 0 then None else Some x

-- what a table has at an index
abbrev pub entry_at : List ℕ → ℕ → Option ℕ
entry_at table i = unless_zero (slice_get table i)

-- the codes of a text, if each of its characters has one
abbrev pub codes_of : List ℕ → Option (List ℕ)
codes_of [] = Some []
codes_of (c ∷ cs) = option_and_then (λ code. option_map (λ rest. code ∷ rest) (codes_of cs)) (code_of c)
