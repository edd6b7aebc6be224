-- How byte strings and names are printed: in the characters of EBCDIC code page 037 if each byte
-- has one, else in hexadecimal.
use Rattle.std.specs.Prelude.{ℕ, Bool, not, Option, None, Some, ◌+◌, ◌/◌, ◌%◌, ◌==◌, nat_lt, if◌then◌else◌, List, [], ◌∷◌, ◌++◌, codes, is_some}
use Rattle.std.specs.List.{flat_map, list_all}
use Rattle.std.specs.Option.{option_to_list}
use Rattle.cics_names.specs.Ebcdic.{character_of}
use Rattle.cics_names.specs.Names.{blank}

-- whether a byte has a character
abbrev pub has_character : ℕ → Bool
has_character code = is_some (character_of code)

-- the character of a byte, if it has one
abbrev pub shown : ℕ → List ℕ
shown code = option_to_list (character_of code)

-- a character as it stands between quotes: a quote is doubled
abbrev pub doubled : ℕ → List ℕ
doubled c = if c == 39 then 39 ∷ 39 ∷ [] else c ∷ []

-- the character of a byte as it stands between quotes, if it has one
abbrev pub quoted : ℕ → List ℕ
quoted code = flat_map doubled (shown code)

-- a character, but 0 for a quote or none
abbrev pub unless_quote : Option ℕ → ℕ
unless_quote None = 0
unless_quote (Some c) = if c == 39 then 0 else c

-- the character of a byte, but 0 for a quote or none
abbrev pub plain : ℕ → ℕ
plain code = unless_quote (character_of code)

-- whether a byte has a character other than the quote
abbrev pub is_plain : ℕ → Bool
is_plain code = not (plain code == 0)

-- a hexadecimal digit, the letters as capitals
abbrev pub digit : ℕ → ℕ
digit n = if nat_lt n 10 then n + 48 else n + 55

-- the two hexadecimal digits of a byte
abbrev pub hexadecimal : ℕ → List ℕ
hexadecimal code = digit (code / 16) ∷ digit (code % 16) ∷ []

-- a byte string as a literal: in characters if each byte has one, else in hexadecimal
abbrev pub text_of : List ℕ → List ℕ
text_of bytes =
    if list_all has_character bytes
    then codes "'" ++ (flat_map quoted bytes ++ codes "'")
    else codes "X'" ++ (flat_map hexadecimal bytes ++ codes "'")

-- the bytes of a name without the blanks that fill it up
abbrev pub unfilled : List ℕ → List ℕ
unfilled [] = []
unfilled (c ∷ bytes) = if list_all (λ b. b == blank) (c ∷ bytes) then [] else c ∷ unfilled bytes

-- a name as a literal, without the blanks that fill it up
abbrev pub name_text : List ℕ → List ℕ
name_text name = text_of (unfilled name)

-- a label or an abend code: its characters alone, without the blanks that fill it up
abbrev pub bare : List ℕ → List ℕ
bare name = flat_map shown (unfilled name)
