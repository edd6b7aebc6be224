use Rattle.std.proofs.Common.{◌≡◌, true, is_some, All}
use Rattle.cics_script.specs.Words.{kind_in}
use Rattle.cics_script.proofs.advice.meant.options_of.Given as goal

abbrev pub invariant-loop-row : goal.invariant-loop-row
invariant-loop-row l = All (λ row. is_some (kind_in l.form row.1) ≡ true) l.rows.items
