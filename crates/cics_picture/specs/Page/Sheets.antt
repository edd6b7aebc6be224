-- The lines of a page so far.
use Rattle.std.specs.Prelude.{◌≡◌, ℕ, ◌+◌, List, ◌++◌}
use Rattle.cics_picture.specs.Draw.Standings.{outcomes_at}
use Rattle.cics_picture.specs.declared.page.lines.Sheet.{Sheet}
use Rattle.cics_picture.specs.Page.Lines.{PageLine, line_text}

-- how many steps a page has at most, and how many bytes its lines
abbrev pub most_steps : ℕ
most_steps = 100000

-- how many bytes the lines of a page may have
abbrev pub most_bytes : ℕ
most_bytes = 67108864

-- a text is that of a sheet, and a line
abbrev pub HasLine : Sheet → List ℕ → PageLine → Type 0
HasLine s text l = text ≡ s.text.items ++ line_text (outcomes_at s.last) (s.steps + 1) l
