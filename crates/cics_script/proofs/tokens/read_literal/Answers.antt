use Rattle.cics_script.proofs.TokenSteps.{as_literal-ends, as_literal-broken}
use Rattle.cics_script.proofs.tokens.read_literal.Goals as goal

pub returns-in-Some : goal.returns-in-Some
returns-in-Some c =
    let same = c.in-Some.ensures.literal in
    rw (same.0, same.1) (as_literal-ends c.args.notation _ c.in-Some.rest.now c.in-Some.ensures.rest)

pub returns-in-None : goal.returns-in-None
returns-in-None c = as_literal-broken c.args.notation _ c.in-None.ensures.rest
