-- What a person is told of a faulty line: a message, the line round a column, and a caret under the
-- column.
use Rattle.std.specs.Prelude.{◌≡◌, ℕ, ◌+◌, ◌-◌, ◌==◌, ◌&&◌, nat_le, min, max, Bool, not, true, if◌then◌else◌, Option, Some, None, is_some, option_map, List, [], ◌∷◌, ◌++◌, map, length, take, drop, replicate, codes}
use Rattle.std.specs.List.{prefix_len, list_any}
use Rattle.cics_names.specs.Ebcdic.{code_of}
use Rattle.cics_script.specs.Tokens.{is_quote, text_in}
use Rattle.cics_script.specs.declared.literals.Notation.TheVariants.{Quoted}
use Rattle.cics_script.specs.Advice.Places.{place_text}
use Rattle.cics_script.specs.declared.advice.origin.Origin.{Origin}
use Rattle.cics_script.specs.declared.columns.Placed.{Placed}
use Rattle.cics_script.specs.declared.advice.showing.TheConstants.{WIDTH, BEFORE}
use Rattle.cics_script.specs.declared.advice.messages.Cause.{Cause}
use Rattle.cics_script.specs.declared.advice.messages.Cause.TheVariants as causes

-- a byte as it is shown: a tab as a blank, and what can't be printed as a question mark
abbrev pub shown : ℕ → ℕ
shown c = if c == 9 then 32 else (if nat_le 32 c && nat_le c 126 then c else 63)

-- a line ends with LF
abbrev pub ended : List ℕ → List ℕ
ended text = text ++ codes "\n"

-- how many bytes in front of a column are left out
abbrev pub left_out : List ℕ → ℕ → ℕ
left_out bytes column = min (column - BEFORE) (max (length bytes) column - WIDTH)

-- the part of a line round a column
abbrev pub part_of : List ℕ → ℕ → List ℕ
part_of bytes column = take WIDTH (drop (left_out bytes column) bytes)

-- a caret under a column of that part
abbrev pub caret : List ℕ → ℕ → List ℕ
caret bytes column = replicate (column - left_out bytes column - 1) 32 ++ codes "^"

-- the message, with the line and the column that it is about
abbrev pub message_line : Origin → Option ℕ → List ℕ → List ℕ
message_line origin column message = place_text origin column ++ ended (map shown message)

-- the line round a column, and a caret under it
abbrev pub marked : List ℕ → ℕ → List ℕ
marked bytes column = ended (map shown (part_of bytes column)) ++ ended (caret bytes column)

-- the three lines
abbrev pub advice : Origin → ℕ → List ℕ → List ℕ → List ℕ
advice origin column message bytes = message_line origin (Some column) message ++ marked bytes column

-- a line that is too long has no column
abbrev pub too_long : Origin → List ℕ
too_long origin = message_line origin None (codes "a line has at most 70,000 bytes")

-- a text is put behind what was there: the three lines on a column, with some message, or without a
-- column the one
abbrev pub Tells : Origin → List ℕ → List ℕ → List ℕ → Option ℕ → Type 0
Tells origin bytes before now None = now ≡ before ++ too_long origin
Tells origin bytes before now (Some column) = (message : List ℕ) × (now ≡ before ++ advice origin column message bytes)

-- whether a character may stand in a quoted literal
abbrev pub has_code : ℕ → Bool
has_code c = is_some (code_of c)

-- the same as fault_within, from after a first quote
abbrev pub fault_in_quotes : List ℕ → ℕ
fault_in_quotes text =
    let coded = prefix_len has_code text in
    if not (is_some (text_in Quoted text)) && list_any is_quote (drop coded text) then 1 + coded else 0

-- how many bytes of a token stand before what is at fault in it: of a quoted literal that is
-- closed, but is none, those before its first byte that no quoted literal has
abbrev pub fault_within : List ℕ → ℕ
fault_within [] = 0
fault_within (c ∷ text) = if is_quote c then fault_in_quotes text else 0

-- the column that is told of a fault: its own, or that of such a byte in the literal there
abbrev pub told_column : List ℕ → Placed → Option ℕ
told_column bytes placed = option_map (λ column. column + fault_within (drop (column - 1) bytes)) placed.column

-- the column of a cause: of a fault that was found the one that is told, of a definition some
-- column
abbrev pub IsColumnOf : List ℕ → Cause → Option ℕ → Type 0
IsColumnOf bytes (causes.Line placed) column = column ≡ told_column bytes placed
IsColumnOf bytes (causes.Definition fault) column = is_some column ≡ true

-- what is told of the line with this origin and cause
abbrev pub Advises : Origin → List ℕ → Cause → List ℕ → List ℕ → Type 0
Advises origin bytes cause before now = (column : Option ℕ) × IsColumnOf bytes cause column × Tells origin bytes before now column
