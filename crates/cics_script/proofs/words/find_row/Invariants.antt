use Rattle.std.proofs.Common.{◌≡◌, drop, map}
use Rattle.cics_script.specs.Tokens.{capital}
use Rattle.cics_script.specs.Words.{lookup}
use Rattle.cics_script.proofs.words.find_row.Given as goal

abbrev pub invariant-loop-row : goal.invariant-loop-row
invariant-loop-row g l = lookup (map capital l.word) (map (λ row. (row.0.now, row.1)) (drop l.row-index l.rows)) ≡ lookup (map capital l.word) (map (λ row. (row.0.now, row.1)) l.rows)
