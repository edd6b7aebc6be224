-- The tokens of a line, from left to right. The last one may be broken: what can't be read as a
-- token.
use Rattle.std.specs.Prelude.{ℕ, zero, suc, Bool, true, false, ◌+◌, ◌*◌, ◌-◌, ◌^◌, ◌==◌, ◌&&◌, ◌||◌, nat_le, nat_lt, if◌then◌else◌, List, [], ◌∷◌, map, length, take, drop, Option, Some, None, is_some}
use Rattle.std.specs.List.{fold, prefix_len}
use Rattle.cics_names.specs.Ebcdic.{code_of}
use Rattle.cics_script.specs.declared.faults.LineFault.{LineFault}
use Rattle.cics_script.specs.declared.faults.LineFault.TheVariants.{UnknownWord, BadLiteral, BadNumber}
use Rattle.cics_script.specs.declared.literals.Notation.{Notation}
use Rattle.cics_script.specs.declared.literals.Notation.TheVariants.{Quoted, Hexadecimal}

-- a word in capitals, a number, a literal (its characters if it is quoted, its bytes if it is
-- hexadecimal), a parenthesis, or a fault
pub data Token : Type 0 where
  word : List ℕ → Token
  number : ℕ → Token
  literal : Notation → List ℕ → Token
  opening : Token
  closing : Token
  broken : LineFault → Token

-- a space or a tab
abbrev pub is_blank : ℕ → Bool
is_blank c = (c == 32) || (c == 9)

-- the apostrophe, which stands around literals
abbrev pub is_quote : ℕ → Bool
is_quote c = c == 39

-- 0 to 9
abbrev pub is_digit : ℕ → Bool
is_digit c = nat_le 48 c && nat_le c 57

-- A to Z
abbrev pub is_capital : ℕ → Bool
is_capital c = nat_le 65 c && nat_le c 90

-- a to z
abbrev pub is_small : ℕ → Bool
is_small c = nat_le 97 c && nat_le c 122

-- a letter, capital or small
abbrev pub is_letter : ℕ → Bool
is_letter c = is_capital c || is_small c

-- what a word may have after its first letter: letters, digits and hyphens
abbrev pub is_word_byte : ℕ → Bool
is_word_byte c = is_letter c || is_digit c || (c == 45)

-- the capital of a small letter, and any other byte as it is
abbrev pub capital : ℕ → ℕ
capital c = if is_small c then c - 32 else c

-- the bytes after the blanks at the start
abbrev pub after_blanks : List ℕ → List ℕ
after_blanks bytes = drop (prefix_len is_blank bytes) bytes

-- the value of digits
abbrev pub value_of : List ℕ → ℕ
value_of digits = fold (λ n d. n * 10 + (d - 48)) 0 digits

-- what a literal says, and the bytes after its last quote; None if the bytes are no literal
abbrev pub Text : Type 0
Text = Option (List ℕ × List ℕ)

-- a text with one byte more at its start
abbrev pub with_byte : ℕ → Text → Text
with_byte c None = None
with_byte c (Some t) = Some (c ∷ t.0, t.1)

-- characters up to a quote, where two quotes stand for one. Each has an EBCDIC code. The test says
-- whether the byte before was a quote
abbrev pub characters_from : Bool → List ℕ → Text
characters_from false [] = None
characters_from true [] = Some ([], [])
characters_from false (c ∷ bytes) =
    if is_quote c then characters_from true bytes
    else if is_some (code_of c) then with_byte c (characters_from false bytes)
    else None
characters_from true (c ∷ bytes) = if is_quote c then with_byte c (characters_from false bytes) else Some ([], c ∷ bytes)

-- the value of a hexadecimal digit, capital or small
abbrev pub hex_value : ℕ → Option ℕ
hex_value c =
    if is_digit c then Some (c - 48)
    else if nat_le 65 c && nat_le c 70 then Some (c - 55)
    else if nat_le 97 c && nat_le c 102 then Some (c - 87)
    else None

-- a text with the byte that two digits make at its start
abbrev pub with_pair : Option ℕ → Option ℕ → Text → Text
with_pair None low t = None
with_pair (Some high) None t = None
with_pair (Some high) (Some low) t = with_byte (high * 16 + low) t

-- pairs of hexadecimal digits up to a quote
abbrev pub digit_pairs : List ℕ → Text
digit_pairs [] = None
digit_pairs (c ∷ []) = if is_quote c then Some ([], []) else None
digit_pairs (c ∷ d ∷ bytes) = if is_quote c then Some ([], d ∷ bytes) else with_pair (hex_value c) (hex_value d) (digit_pairs bytes)

-- a literal, from after its first quote
abbrev pub text_in : Notation → List ℕ → Text
text_in Quoted bytes = characters_from false bytes
text_in Hexadecimal bytes = digit_pairs bytes

-- a literal as a token, and the bytes after it
abbrev pub as_literal : Notation → Text → Token × List ℕ
as_literal notation None = (broken BadLiteral, [])
as_literal notation (Some t) = (literal notation t.0, t.1)

-- the bytes after X and a quote, if they begin so
abbrev pub behind_x : List ℕ → Option (List ℕ)
behind_x [] = None
behind_x (c ∷ []) = None
behind_x (c ∷ d ∷ bytes) = if (capital c == 88) && is_quote d then Some bytes else None

-- a word, as long as it can be, and the bytes after it
abbrev pub word_at : List ℕ → Token × List ℕ
word_at bytes = (word (map capital (take (prefix_len is_word_byte bytes) bytes)), drop (prefix_len is_word_byte bytes) bytes)

-- a number as a token, broken if 64 bits don't hold it
abbrev pub as_number : ℕ → List ℕ → Token × List ℕ
as_number n rest = if nat_lt n (2 ^ 64) then (number n, rest) else (broken BadNumber, [])

-- a number, as long as it can be, and the bytes after it
abbrev pub number_at : List ℕ → Token × List ℕ
number_at bytes = as_number (value_of (take (prefix_len is_digit bytes) bytes)) (drop (prefix_len is_digit bytes) bytes)

-- a token that is no hexadecimal literal, and the bytes after it
abbrev pub plain_at : ℕ → List ℕ → Token × List ℕ
plain_at c bytes =
    if is_letter c then word_at (c ∷ bytes)
    else if is_digit c then number_at (c ∷ bytes)
    else if is_quote c then as_literal Quoted (text_in Quoted bytes)
    else if c == 40 then (opening, bytes)
    else if c == 41 then (closing, bytes)
    else (broken UnknownWord, [])

-- the hexadecimal literal with these digits, or else another token
abbrev pub hexadecimal_or : Option (List ℕ) → Token × List ℕ → Token × List ℕ
hexadecimal_or None other = other
hexadecimal_or (Some digits) other = as_literal Hexadecimal (text_in Hexadecimal digits)

-- the first token, and the bytes after it
abbrev pub token_at : List ℕ → Token × List ℕ
token_at [] = (broken UnknownWord, [])
token_at (c ∷ bytes) = hexadecimal_or (behind_x (c ∷ bytes)) (plain_at c bytes)

-- at most so many tokens of bytes that begin with no blank
abbrev pub tokens_in : ℕ → List ℕ → List Token
tokens_in zero bytes = []
tokens_in (suc n) [] = []
tokens_in (suc n) (c ∷ bytes) = (token_at (c ∷ bytes)).0 ∷ tokens_in n (after_blanks (token_at (c ∷ bytes)).1)

-- the tokens of a line: no more than it has bytes, as each takes one at least
abbrev pub tokens : List ℕ → List Token
tokens bytes = tokens_in (length bytes) (after_blanks bytes)
