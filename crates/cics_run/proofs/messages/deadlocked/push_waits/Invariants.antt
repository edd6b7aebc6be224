use Rattle.std.proofs.Common.{◌≡◌, ◌++◌, drop}
use Rattle.cics_run.specs.Messages.Deadlocked.{waits_text}
use Rattle.cics_run.proofs.messages.deadlocked.push_waits.Given as goal

-- what is written, with the waits from here on, is all
abbrev pub invariant-loop-next : goal.invariant-loop-next
invariant-loop-next l =
    l.out.items ++ waits_text l.region.machine l.at (drop l.next-index l.others) l.first ≡ l.fn.out.items ++ waits_text l.region.machine l.first l.others l.first
