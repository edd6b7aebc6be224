use Rattle.std.proofs.Common.{◌≡◌, ◌∙◌, ap, arith}
use Rattle.cics_run.specs.Messages.Nearest.{differences, differences_below}
use Rattle.cics_run.proofs.messages.nearest.differences.Goals as goal

pub returns : goal.returns
unfolding differences
returns c =
    let at : c.loop-at.at ≡ 8 = omega (arith, c.loop-at-test.false, c.loop-at.auto.at-end) in
    c.loop-at.invariant.0 ∙ ap (differences_below c.args.one.now c.args.other.now) at
