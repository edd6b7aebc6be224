use Rattle.std.proofs.Common.{◌≡◌, [], take}
use Rattle.std.specs.Prelude.{map}
use Rattle.std.specs.List.{filter, fold}
use Rattle.cics_run.specs.Reads.Findings.{is_kept}
use Rattle.cics_run.specs.Reads.Written.{lost, with_finding}
use Rattle.cics_run.proofs.reads.ordering.push_lost.Given as goal

abbrev pub invariant-loop-one : goal.invariant-loop-one
invariant-loop-one l = l.ranked.entries ≡ fold with_finding [] (map lost (filter (is_kept l.past) (take l.one-index l.all)))
