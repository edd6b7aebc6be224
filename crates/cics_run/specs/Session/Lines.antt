-- The lines of a script's bytes.
use Rattle.std.specs.Prelude.{ℕ, Bool, not, ◌==◌, if◌then◌else◌, List, [], ◌∷◌, ◌++◌, map}
use Rattle.std.specs.Io.BufRead.{strip_last}

-- the bytes before each LF, and the bytes behind the last one
abbrev pub Pieces : Type 0
Pieces = List (List ℕ) × List ℕ

-- the pieces with a byte more in front
abbrev pub with_first : ℕ → Pieces → Pieces
with_first c ([], behind) = ([], c ∷ behind)
with_first c (piece ∷ others, behind) = ((c ∷ piece) ∷ others, behind)

-- each LF ends a piece
abbrev pub pieces : List ℕ → Pieces
pieces [] = ([], [])
pieces (c ∷ bytes) = if c == 10 then ([] ∷ (pieces bytes).0, (pieces bytes).1) else with_first c (pieces bytes)

-- the lines that have their LF: one CR right before the LF is no part of the line
abbrev pub completed : List ℕ → List (List ℕ)
completed bytes = map (strip_last 13) (pieces bytes).0

-- the bytes of a line whose LF has not come
abbrev pub unfinished : List ℕ → List ℕ
unfinished bytes = (pieces bytes).1

-- the last line may lack its LF, and nothing behind the last LF is no line
abbrev pub last_line : List ℕ → List (List ℕ)
last_line [] = []
last_line (c ∷ bytes) = (c ∷ bytes) ∷ []

-- the lines of a whole script
abbrev pub all_lines : List ℕ → List (List ℕ)
all_lines bytes = completed bytes ++ last_line (unfinished bytes)

-- whether a byte ends no line
abbrev pub is_in_line : ℕ → Bool
is_in_line c = not (c == 10)
