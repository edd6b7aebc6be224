use Rattle.std.proofs.Common.{◌≡◌, length}
use Rattle.cics_picture.specs.Draw.Standings.{shown_deadlocks, standings_below}
use Rattle.cics_picture.proofs.draw.standings.standings_of.Given as goal

-- the tasks so far stand so
abbrev pub invariant-loop-number : goal.invariant-loop-number
invariant-loop-number l = record {
  so_far : l.standings ≡ standings_below l.before l.region.machine (shown_deadlocks l.region.machine) l.number;
  count : length l.standings ≡ l.number;
}
