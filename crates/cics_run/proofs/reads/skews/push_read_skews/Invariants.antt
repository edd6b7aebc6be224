use Rattle.std.proofs.Common.{◌≡◌, [], take}
use Rattle.std.specs.List.{flat_map, fold}
use Rattle.cics_run.specs.Reads.Skews.{first_seen, read_skew, with_first}
use Rattle.cics_run.specs.Reads.Written.{with_finding}
use Rattle.cics_run.proofs.reads.skews.push_read_skews.Given as goal

abbrev pub invariant-loop-one : goal.invariant-loop-one
invariant-loop-one l = l.firsts.entries ≡ fold (with_first l.past) [] (take l.one-index l.seen)

-- what is put so far, and what is left, is all
abbrev pub invariant-loop-first : goal.invariant-loop-first
invariant-loop-first l =
    fold with_finding l.ranked.entries (flat_map (read_skew l.past) l.first-iterator) ≡ fold with_finding [] (flat_map (read_skew l.past) (first_seen l.past l.seen))
