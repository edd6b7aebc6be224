-- How the tokens of a line can be written: one after another, with a space after each.
use Rattle.std.specs.Prelude.{◌<◌, ◌^◌, ◌==◌, ◌&&◌, ◌||◌, ℕ, Bool, true, false, IsTrue, nat_lt, List, [], ◌∷◌, ◌++◌, is_some}
use Rattle.std.specs.List.{flat_map, list_all}
use Rattle.std.specs.Fmt.{decimal}
use Rattle.cics_names.specs.Ebcdic.{code_of}
use Rattle.cics_script.specs.declared.literals.Notation.TheVariants.{Quoted, Hexadecimal}
use Rattle.cics_script.specs.Tokens.{Token, word, number, literal, opening, closing, broken, is_capital, is_digit}
use Rattle.cics_script.specs.Texts.{doubled, hexadecimal}
use lib.Chars.{codes}

-- a token as it is written, with each quote in a literal twice; a broken one isn't
abbrev pub token_bytes : Token → List ℕ
token_bytes (word w) = w
token_bytes (number n) = decimal n
token_bytes (literal Quoted text) = codes "'" ++ (flat_map doubled text ++ codes "'")
token_bytes (literal Hexadecimal bytes) = codes "X'" ++ (flat_map hexadecimal bytes ++ codes "'")
token_bytes opening = 40 ∷ []
token_bytes closing = 41 ∷ []
token_bytes (broken fault) = []

-- what a word in capitals may have after its first letter
abbrev pub is_in_capitals : ℕ → Bool
is_in_capitals c = is_capital c || is_digit c || (c == 45)

-- whether a byte ends a word, a number or a closed literal before it: a space or a parenthesis
abbrev pub is_gap : ℕ → Bool
is_gap c = (c == 32) || (c == 40) || (c == 41)

-- whether a word, a number or a closed literal right before these bytes ends there: there are none,
-- or a space or a parenthesis is the first
abbrev pub ends : List ℕ → Bool
ends [] = true
ends (c ∷ rest) = is_gap c

-- whether letters are a word in capitals
abbrev pub is_word : List ℕ → Bool
is_word [] = false
is_word (c ∷ letters) = is_capital c && list_all is_in_capitals letters

-- a token can be written: a word in capitals, a number of 64 bits, a literal of bytes or of
-- characters that have EBCDIC codes, or a parenthesis
abbrev pub IsWritable : Token → Type 0
IsWritable (word w) = IsTrue (is_word w)
IsWritable (number n) = n < 2 ^ 64
IsWritable (literal Quoted text) = IsTrue (list_all (λ c. is_some (code_of c)) text)
IsWritable (literal Hexadecimal bytes) = IsTrue (list_all (λ byte. nat_lt byte 256) bytes)
IsWritable opening = Unit {0}
IsWritable closing = Unit {0}
IsWritable (broken fault) = ⊥

-- all tokens can be written
abbrev pub AreWritable : List Token → Type 0
AreWritable [] = Unit {0}
AreWritable (token ∷ tokens) = IsWritable token × AreWritable tokens

-- tokens as they are written, with a space after each
abbrev pub laid_out : List Token → List ℕ
laid_out [] = []
laid_out (token ∷ tokens) = token_bytes token ++ 32 ∷ laid_out tokens
