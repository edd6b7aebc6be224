-- How a line of a script is named to a person, so that an editor finds it.
use Rattle.std.specs.Prelude.{ℕ, ◌==◌, ◌||◌, nat_lt, if◌then◌else◌, Option, Some, None, List, [], ◌++◌, map, codes}
use Rattle.std.specs.Borrow.{Bor}
use Rattle.std.specs.Fmt.{decimal}
use Rattle.cics_script.specs.declared.advice.origin.Origin.{Origin}

-- a byte of a file's name as it is printed: a control character as a question mark
abbrev pub named : ℕ → ℕ
named c = if nat_lt c 32 || c == 127 then 63 else c

-- what stands before the number of a line: the file's name, if it has one
abbrev pub line_head : Option (Bor (List ℕ)) → List ℕ
line_head None = codes "cicsrun: line "
line_head (Some name) = map named name.now ++ codes ":"

-- a column, if there is one
abbrev pub column_text : Option (Bor (List ℕ)) → Option ℕ → List ℕ
column_text file None = []
column_text None (Some column) = codes ", column " ++ decimal column
column_text (Some name) (Some column) = codes ":" ++ decimal column

-- a line, and a column of it
abbrev pub place_text : Origin → Option ℕ → List ℕ
place_text origin column = line_head origin.file ++ (decimal origin.line ++ (column_text origin.file column ++ codes ": "))
