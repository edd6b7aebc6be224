use Rattle.std.proofs.Common.{arith}
use Rattle.cics_units.proofs.OfOpening.Unpadded.{take_blank, take_other, take_none}
use Rattle.cics_units.proofs.opening.prefixes.unpadded.Goals as goal
use Rattle.cics_units.proofs.opening.prefixes.unpadded.Goals.{then-loop-end-test+else-name-end-eq-BLANK, else-loop-end-test}

pub loop-end-preserved : goal.loop-end-preserved
loop-end-preserved c = (omega (arith, c.loop-end.invariant.0), take_blank c.args.name.now c.loop-end.end c.loop-end-test.true c.loop-end.invariant.0 c.loop-end.invariant.1 c.if-name-end-eq-BLANK.true)

pub returns : goal.returns
returns c =
    elim c.loop-end-test.branch [
      | then-loop-end-test+else-name-end-eq-BLANK w ↦ take_other c.args.name.now c.loop-end.end w.loop-end-test.true c.loop-end.invariant.0 c.loop-end.invariant.1 w.if-name-end-eq-BLANK.false
      | else-loop-end-test w ↦ take_none c.args.name.now c.loop-end.end (omega (arith, w.loop-end-test.false)) c.loop-end.invariant.1
    ]
