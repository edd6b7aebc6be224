use Rattle.cics_run.specs.Messages.Messages.{IsLonger}
use Rattle.cics_run.proofs.messages.hints.push_hints.Given as goal

abbrev pub invariant-loop-queue : goal.invariant-loop-queue
invariant-loop-queue l = IsLonger l.fn.out.items l.out.items

abbrev pub invariant-loop-line : goal.invariant-loop-line
invariant-loop-line l = IsLonger l.fn.out.items l.out.items
