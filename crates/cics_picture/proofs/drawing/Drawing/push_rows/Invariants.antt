use Rattle.std.proofs.Common.{◌≡◌, ◌+◌, drop, length}
use Rattle.std.specs.List.{fold}
use Rattle.cics_picture.specs.Drawings.{drawn_of, with_row, rows_from}
use Rattle.cics_picture.proofs.drawing.Drawing.push_rows.Given as goal

-- the rows so far, and those of what is left, are all
abbrev pub invariant-loop-told : goal.invariant-loop-told
invariant-loop-told l = record {
  count : l.self.rows + length (rows_from l.number l.line (drop l.told-index l.rows)) ≡ l.fn.self.rows + length (rows_from l.fn.number l.fn.line l.rows);
  drawn : fold with_row (drawn_of l.self) (rows_from l.number l.line (drop l.told-index l.rows)) ≡ fold with_row (drawn_of l.fn.self) (rows_from l.fn.number l.fn.line l.rows);
}
