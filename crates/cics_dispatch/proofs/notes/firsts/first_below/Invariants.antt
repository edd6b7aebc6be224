use Rattle.std.proofs.Common.{◌≤◌, length}
use Rattle.cics_dispatch.specs.Notes.Firsts.{level_at, IsFirstBelow}
use Rattle.cics_dispatch.proofs.notes.firsts.first_below.Given as goal

abbrev pub invariant-loop-left : goal.invariant-loop-left
invariant-loop-left l = record {
  within : l.left ≤ length l.above;
  first : IsFirstBelow (level_at l.keys l.above l.left) l.limit l.at;
}

abbrev pub decreases-loop-left : goal.decreases-loop-left
decreases-loop-left l = l.left
