use Rattle.cics_script.proofs.TokenSteps.{token_at-hexadecimal}
use Rattle.cics_script.proofs.tokens.read_token.Goals as goal

pub returns-in-Some : goal.returns-in-Some
returns-in-Some c = rw (token_at-hexadecimal c.args.bytes.now c.in-Some.digits.now c.in-Some.ensures) c.read_literal.ensures
