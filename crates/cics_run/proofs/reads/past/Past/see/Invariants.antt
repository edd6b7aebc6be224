use Rattle.std.proofs.Common.{◌≡◌, [], map}
use Rattle.std.specs.List.{fold, flat_map}
use Rattle.std.specs.Map.Iter.{deref_pair}
use Rattle.cics_run.specs.Reads.Findings.{with_seen}
use Rattle.cics_run.specs.Reads.Seeing.{shown}
use Rattle.cics_run.proofs.reads.past.Past.see.Given as goal

-- what is seen at the cells so far
abbrev pub invariant-loop-cell : goal.invariant-loop-cell
invariant-loop-cell l = l.found.entries ≡ fold with_seen [] (flat_map (shown l.self l.look) (map deref_pair l.yielded))
