-- How the characters of a text or of an attribute's value are written.
use Rattle.std.specs.Prelude.{ℕ, zero, suc, Bool, true, false, not, ◌&&◌, ◌||◌, ◌==◌, nat_lt, nat_le, ◌+◌, ◌-◌, ◌*◌, ◌/◌, ◌%◌, if◌then◌else◌, List, [], ◌∷◌, ◌++◌, map}
use Rattle.std.specs.List.{flat_map, fold}
use lib.Chars.{codes}

-- one of & < > " '
abbrev pub is_special : ℕ → Bool
is_special c = c == 38 || (c == 60 || (c == 62 || (c == 34 || c == 39)))

-- a character that is written as it is: the end of a line, and what ASCII can print but & < > " '
abbrev pub is_plain : ℕ → Bool
is_plain c = c == 10 || (nat_le 32 c && (nat_le c 126 && not (is_special c)))

-- the decimal digits of a number that has no more than these places
unfoldable pub digits : ℕ → ℕ → List ℕ
digits zero n = []
digits (suc places) n = elim (nat_lt n 10) as (λ _. List ℕ) [
  | true ↦ (48 + n) ∷ []
  | false ↦ digits places (n / 10) ++ ((48 + n % 10) ∷ [])
]

-- a character, by itself or by its number
abbrev pub character_text : ℕ → List ℕ
character_text c = if is_plain c then c ∷ [] else codes "&#" ++ (digits (suc c) c ++ codes ";")

-- the text of characters
abbrev pub text_of : List ℕ → List ℕ
text_of characters = flat_map character_text characters

-- The character that is shown for a byte: a tab is a blank, and what ASCII can't print is the sign
-- for no character.
abbrev pub shown : ℕ → ℕ
shown b = if b == 10 || (nat_le 32 b && nat_le b 126) then b else if b == 9 then 32 else 65533

-- the text of the characters that are shown for bytes
abbrev pub shown_text : List ℕ → List ℕ
shown_text bytes = text_of (map shown bytes)

-- the number that digits stand for
abbrev pub number : List ℕ → ℕ
number ds = fold (λ n d. n * 10 + (d - 48)) 0 ds
