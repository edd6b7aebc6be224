use Rattle.std.proofs.Common.{◌≡◌, ◌+◌, [], ◌++◌, drop}
use Rattle.std.specs.List.{flat_map, fold}
use Rattle.cics_run.specs.Reads.Skews.{of_turns, turns, write_skew}
use Rattle.cics_run.specs.Reads.Written.{with_finding}
use Rattle.cics_run.proofs.reads.skews.push_write_skews.Given as goal

-- what is put so far, and what is left, is all
abbrev pub invariant-loop-at : goal.invariant-loop-at
invariant-loop-at l =
    fold with_finding l.ranked.entries (of_turns (write_skew l.past) (drop l.at (turns l.past))) ≡ fold with_finding [] (of_turns (write_skew l.past) (turns l.past))

abbrev pub invariant-loop-other : goal.invariant-loop-other
invariant-loop-other l =
    fold with_finding l.ranked.entries (flat_map (write_skew l.past l.one) (drop l.other-index l.other-items) ++ of_turns (write_skew l.past) (drop (l.at + 1) (turns l.past)))
    ≡ fold with_finding [] (of_turns (write_skew l.past) (turns l.past))
