use Rattle.std.proofs.Common.{◌≡◌, ◌++◌}
use Rattle.std.specs.Map.{values_of}
use Rattle.cics_run.proofs.reads.ordering.push_all.Given as goal

-- what is there, and what is left, is all
abbrev pub invariant-loop-one : goal.invariant-loop-one
invariant-loop-one l = l.out ++ l.one-iterator ≡ l.fn.out ++ values_of l.ranked.entries
