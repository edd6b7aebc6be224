use Rattle.std.proofs.Common.{◌≡◌, ◌+◌, ◌-◌, length}
use Rattle.cics_dispatch.specs.Deadlocks.Searches.{searched, search}
use Rattle.cics_dispatch.specs.Deadlocks.Marks.{AreMarks}
use Rattle.cics_dispatch.proofs.deadlocks.searches.search.Given as goal

-- what was found so far leads to what the search finds
abbrev pub invariant-loop-at : goal.invariant-loop-at
invariant-loop-at l = record {
  rest : searched l.graph ((length l.graph + 1) - l.at) l.at l.found.items ≡ search l.graph l.first;
  marks : AreMarks l.marks l.own l.found.items;
}
