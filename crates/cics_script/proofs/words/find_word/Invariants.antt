use Rattle.std.proofs.Common.{◌≡◌, drop, map}
use Rattle.cics_script.specs.Words.{word_among}
use Rattle.cics_script.proofs.words.find_word.Given as goal

abbrev pub invariant-loop-row : goal.invariant-loop-row
invariant-loop-row l = word_among l.option (map (λ row. (row.0.now, row.1)) (drop l.row-index l.rows)) ≡ word_among l.option (map (λ row. (row.0.now, row.1)) l.rows)
