-- The column at which a line can't be read on.
use Rattle.std.specs.Prelude.{◌≡◌, ◌+◌, ◌-◌, ℕ, zero, suc, List, [], ◌∷◌, ◌++◌, length, Option, Some, None, Ok, Err}
use Rattle.std.specs.List.{prefix_len}
use Rattle.cics_script.specs.declared.lines.Line.{Line}
use Rattle.cics_script.specs.declared.faults.LineFault.{LineFault}
use Rattle.cics_script.specs.declared.faults.LineFault.TheVariants.{TooLong, NotAscii, BadLiteral, BadNumber}
use Rattle.cics_script.specs.declared.columns.Placed.{Placed}
use Rattle.cics_script.specs.Tokens.{Token, after_blanks, token_at, tokens}
use Rattle.cics_script.specs.Lines.{statement, is_script_byte, line}
use lib.Chars.{codes}

-- after these tokens a line can't be read on: whatever follows them, it has this fault
abbrev pub IsStuck : LineFault → List Token → Type 0
IsStuck fault front = (rest : List Token) → statement (front ++ rest) ≡ Err fault

-- after the first tokens the line can still be read on, but not after the next one too; if there is
-- no next one, the line ends too early
abbrev pub StandsAt : LineFault → List Token → List Token → Type 0
StandsAt fault front [] = IsStuck fault front → ⊥
StandsAt fault front (token ∷ rest) = (IsStuck fault front → ⊥) × IsStuck fault (front ++ token ∷ [])

-- the bytes after so many tokens
abbrev pub behind_tokens : ℕ → List ℕ → List ℕ
behind_tokens zero bytes = bytes
behind_tokens (suc n) bytes = (token_at (after_blanks (behind_tokens n bytes))).1

-- the second list, or the first if the second is empty
abbrev pub from_token : List ℕ → List ℕ → List ℕ
from_token bytes [] = bytes
from_token bytes (c ∷ rest) = c ∷ rest

-- the column of the token after so many others: its first byte, counted from 1. After all tokens it
-- is one past the last one
abbrev pub column_behind : ℕ → List ℕ → ℕ
column_behind n bytes = let rest = behind_tokens n bytes in 1 + (length bytes - length (from_token rest (after_blanks rest)))

-- the column of the first token at which a line can't be read on
abbrev pub IsTokenColumn : LineFault → List ℕ → ℕ → Type 0
IsTokenColumn fault bytes column =
    (front : List Token) × (rest : List Token) × (tokens bytes ≡ front ++ rest) × StandsAt fault front rest × (column ≡ column_behind (length front) bytes)

-- the column of a fault: none for TooLong, the byte for NotAscii, else that of the first token at
-- which the line can't be read on
abbrev pub IsColumn : LineFault → List ℕ → Option ℕ → Type 0
IsColumn TooLong bytes column = column ≡ None
IsColumn NotAscii bytes column = column ≡ Some (1 + prefix_len is_script_byte bytes)
IsColumn fault bytes None = ⊥
IsColumn fault bytes (Some column) = IsTokenColumn fault bytes column

-- a line is read, or has this fault
abbrev pub IsRead : List ℕ → Option LineFault → Type 0
IsRead bytes None = (said : Line) × (line bytes ≡ Ok said)
IsRead bytes (Some fault) = line bytes ≡ Err fault

-- a line is read, or has this fault in this column
abbrev pub IsFoundIn : List ℕ → Option Placed → Type 0
IsFoundIn bytes None = IsRead bytes None
IsFoundIn bytes (Some placed) = IsRead bytes (Some placed.fault) × IsColumn placed.fault bytes placed.column

-- the fault of some broken token, other than this fault
abbrev pub other_fault : LineFault → LineFault
other_fault BadLiteral = BadNumber
other_fault fault = BadLiteral

-- a broken token that has that other fault: a number that is too large, or a literal that doesn't
-- end
abbrev pub broken_bytes : LineFault → List ℕ
broken_bytes BadLiteral = codes "18446744073709551616"
broken_bytes fault = codes "'"
