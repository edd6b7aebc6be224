use Rattle.std.proofs.Common.{arith, ◌≡◌, take, ap, ◌∙◌, Some, ◌+◌}
use Rattle.std.proofs.lemmas.List.{take_all}
use Rattle.cics_script.specs.Tokens.{value_of}
use Rattle.cics_script.proofs.Numbers.{value_of-more, value_of-above, number-fits, number-over, over-from_none}
use Rattle.cics_script.proofs.tokens.number_of.Goals as goal

pub returns-in_err-value : goal.returns-in_err-value
returns-in_err-value c =
    let digits = c.args.digits.now in
    let i = c.loop-digit.digit-index in
    c.from_residual.ensures ∙ number-over (value_of digits) (omega (arith, over-from_none _ c.in_err-value.ensures, c.loop-digit.invariant.0, value_of-more digits i c.loop-digit-test.true, value_of-above digits (i + 1)))

pub returns : goal.returns
returns c =
    let digits = c.args.digits.now in
    let all : take c.loop-digit.digit-index digits ≡ digits = take_all _ _ (omega arith) in
    let e : c.loop-digit.value ≡ value_of digits = c.loop-digit.invariant.0 ∙ ap value_of all in
    ap Some e ∙ number-fits (value_of digits) (omega (arith, e, c.loop-digit.invariant.1))
