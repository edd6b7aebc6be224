use Rattle.std.proofs.Common.{arith, take, drop, sym, take-append-drop}
use Rattle.cics_run.proofs.OfSession.Known.{appends-keeps, appends-none, appends-rest}
use Rattle.cics_run.proofs.OfSession.Counting.{rises-took}
use Rattle.cics_run.proofs.session.writing.write_all.Goals as goal

pub returns-in-Ok-eq0-clause-err : goal.returns-in-Ok-eq0-clause-err
returns-in-Ok-eq0-clause-err g c = (take c.loop-at.at c.args.bytes.now, (drop c.loop-at.at c.args.bytes.now, sym (take-append-drop c.loop-at.at c.args.bytes.now)), appends-none _ _ _ _ _ _ (omega arith) c.loop-at.invariant.1 c.in-Ok-eq0.ensures.bytes)

pub loop-at-preserved : goal.loop-at-preserved
loop-at-preserved g c = (omega (arith, c.in-Ok.ensures.bound), appends-rest _ _ _ _ _ _ c.loop-at.invariant.1 c.in-Ok.ensures.bytes, rises-took _ _ _ c.in-Ok.n _ c.loop-at.invariant.2 c.in-Ok.n-test.1 c.in-Ok.ensures.failed)

pub returns-in-Err-clause-err : goal.returns-in-Err-clause-err
returns-in-Err-clause-err g c = (take c.loop-at.at c.args.bytes.now, (drop c.loop-at.at c.args.bytes.now, sym (take-append-drop c.loop-at.at c.args.bytes.now)), appends-keeps _ _ _ _ c.loop-at.invariant.1 c.in-Err.ensures.bytes)
