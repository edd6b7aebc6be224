use Rattle.cics_script.proofs.Digits.{hex_value-some, hex_value-none}
use Rattle.cics_script.proofs.literals.hex_digit.Goals as goal

pub returns-then-value-lt16 : goal.returns-then-value-lt16
returns-then-value-lt16 c = hex_value-some _ _ c.digit_or_16-value.ensures c.if-value-lt16.true

pub returns-else-value-lt16 : goal.returns-else-value-lt16
returns-else-value-lt16 c = hex_value-none _ _ c.digit_or_16-value.ensures c.if-value-lt16.false
