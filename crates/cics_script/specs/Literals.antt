-- What a literal says, and the record of it.
use Rattle.std.specs.Prelude.{◌≡◌, ◌<◌, ◌≤◌, ◌+◌, ◌&&◌, ℕ, suc, Bool, not, List, [], map, length, option_map, Some, None, unwrap_or, is_some}
use Rattle.cics_names.specs.Ebcdic.{code_of}
use Rattle.cics_names.specs.Names.{blank}
use Rattle.cics_script.specs.Tokens.{Text, with_byte, is_quote, text_in}
use Rattle.cics_script.specs.declared.literals.Notation.{Notation}
use Rattle.cics_script.specs.declared.literals.Notation.TheVariants.{Quoted, Hexadecimal}
use Rattle.cics_script.specs.declared.literals.Encoding.{Encoding}
use Rattle.cics_script.specs.declared.literals.Encoding.TheVariants.{AsWritten, Ebcdic}
use Rattle.cics_script.specs.declared.literals.Piece.{Piece}
use Rattle.cics_script.specs.declared.literals.Piece.TheVariants.{End, Byte, Bad}

-- what a literal says; no bytes if there is none
abbrev pub said : Text → List ℕ
said None = []
said (Some t) = t.0

-- a character in EBCDIC; each character of a literal has a code
abbrev pub ebcdic : ℕ → ℕ
ebcdic c = unwrap_or (code_of c) blank

-- a byte in an encoding
abbrev pub encoded : Encoding → ℕ → ℕ
encoded AsWritten c = c
encoded Ebcdic c = ebcdic c

-- a text in an encoding
abbrev pub encoded_text : Encoding → List ℕ → List ℕ
encoded_text AsWritten text = text
encoded_text Ebcdic text = map ebcdic text

-- the record that a literal says: the codes of its characters, or its bytes
abbrev pub recorded : Notation → List ℕ → List ℕ
recorded Quoted text = encoded_text Ebcdic text
recorded Hexadecimal bytes = bytes

-- what stands first in the rest of a literal: its last quote, a byte, or what no literal has. What
-- follows the first two is shorter, by one behind a last quote
abbrev pub Begins : (List ℕ → Text) → List ℕ → Piece → Type 0
Begins read bytes (End rest) = (read bytes ≡ Some ([], rest.now)) × (suc (length rest.now) ≡ length bytes)
Begins read bytes (Byte byte rest) = (read bytes ≡ with_byte byte (read rest.now)) × (length rest.now < length bytes)
Begins read bytes Bad = read bytes ≡ None

-- a literal takes n bytes, its last quote included: what follows it is as long as all the others
pub record Takes (notation : Notation) (bytes : List ℕ) (n : ℕ) : Type 0 where
  pub some : 0 < n
  pub within : n ≤ length bytes
  pub ends : option_map (λ t. n + length t.1) (text_in notation bytes) ≡ Some (length bytes)

-- whether a character stands for itself in a quoted literal: it has a code, and is no quote
abbrev pub is_plain : ℕ → Bool
is_plain c = not (is_quote c) && is_some (code_of c)

-- what a literal says is this text
abbrev pub IsWrittenAs : Notation → List ℕ → List ℕ → Type 0
IsWrittenAs notation bytes text = said (text_in notation bytes) ≡ text
