use Rattle.std.proofs.Common.{◌≡◌, ◌++◌, drop}
use Rattle.std.specs.List.{flat_map}
use Rattle.cics_orders.specs.Endings.Telling.{blocker_text}
use Rattle.cics_orders.proofs.endings.tasks.push_blockers.Given as goal

-- the blockers so far, and those that are left, are all
abbrev pub invariant-loop-blocker : goal.invariant-loop-blocker
invariant-loop-blocker l = l.out.items ++ flat_map blocker_text (drop l.blocker-index l.blockers) ≡ l.fn.out.items ++ flat_map blocker_text l.blockers
