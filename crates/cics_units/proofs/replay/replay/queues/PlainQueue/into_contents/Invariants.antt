use Rattle.std.proofs.Common.{◌≡◌}
use Rattle.cics_units.proofs.replay.replay.queues.PlainQueue.into_contents.Given as goal

-- the records that were passed are the contents
abbrev pub invariant-loop-content : goal.invariant-loop-content
invariant-loop-content l = l.contents ≡ l.yielded
