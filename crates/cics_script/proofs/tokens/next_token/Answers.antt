use Rattle.std.proofs.Common.{arith, ◌<◌, length}
use Rattle.cics_script.specs.Tokens.{after_blanks}
use Rattle.cics_script.proofs.TokenSteps.{fault-same, taken, not_taken}
use Rattle.cics_script.proofs.tokens.next_token.Goals as goal

pub returns : goal.returns
returns c =
    let some : 0 < length (after_blanks c.args.bytes.now) = rw (← c.skip_blanks-front.ensures) (grind arith) in
    taken c.args.bytes.now _ _ some (rw c.skip_blanks-front.ensures at c.in_ok-read_token.ensures)

pub returns-in_err-read_token : goal.returns-in_err-read_token
returns-in_err-read_token c =
    let some : 0 < length (after_blanks c.args.bytes.now) = rw (← c.skip_blanks-front.ensures) (grind arith) in
    rw (fault-same _ _ c.from_residual.ensures.1) (not_taken c.args.bytes.now _ some (rw c.skip_blanks-front.ensures at c.in_err-read_token.ensures))
