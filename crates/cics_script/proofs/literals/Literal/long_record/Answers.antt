use Rattle.std.proofs.Common.{◌∙◌}
use Rattle.cics_script.proofs.Copies.{recorded-hexadecimal}
use Rattle.cics_script.proofs.literals.Literal.long_record.Goals as goal

pub returns-in_ok-copy-in-Hexadecimal : goal.returns-in_ok-copy-in-Hexadecimal
returns-in_ok-copy-in-Hexadecimal c = c.new-in-Hexadecimal.ensures ∙ c.in_ok-copy-in-Hexadecimal.ensures ∙ recorded-hexadecimal _ _ c.in-Hexadecimal.is
