-- Each row is counted, and nothing else.
use Rattle.std.proofs.Common.{◌≡◌, ℕ, ◌+◌, ◌≤◌, ◌-◌, List, [], ◌∷◌, length, refl, ◌∙◌, arith}
use Rattle.std.specs.List.{fold}
use Rattle.cics_picture.specs.declared.bars.Standing.{Standing}
use Rattle.cics_picture.specs.Lanes.{row_y}
use Rattle.cics_picture.specs.Drawings.{Drawn, Row, with_row, turned, turned_from, Printed, rows_of, with_line, with_text, word_if, any_caught}

pub rows-counted : (rows : List Row) (d : Drawn) → (fold with_row d rows).rows ≡ d.rows + length rows
rows-counted [] d = omega arith
rows-counted (r ∷ rows) d = omega (arith, rows-counted rows (with_row d r))

turned-rows : (standings : List Standing) (first lane : ℕ) (d : Drawn) → (turned_from first lane standings d).rows ≡ d.rows
turned-rows [] first lane d = refl
turned-rows (s ∷ standings) first lane d = turned-rows standings first (lane + 1) (turned first lane s d)

pub line-counted : (d : Drawn) (p : Printed) → (with_line d p).rows ≡ d.rows + length (rows_of p)
line-counted d p =
    let drawn = fold with_row d (rows_of p) in
    turned-rows p.standings (row_y d.rows) 0 (with_text drawn (word_if (any_caught drawn.lanes 0 p.standings) (row_y (drawn.rows - 1) + 4))) ∙ rows-counted (rows_of p) d

-- lines take no row away
pub lines-counted : (lines : List Printed) (d : Drawn) → d.rows ≤ (fold with_line d lines).rows
lines-counted [] d = omega arith
lines-counted (p ∷ lines) d = omega (arith, lines-counted lines (with_line d p), line-counted d p)
