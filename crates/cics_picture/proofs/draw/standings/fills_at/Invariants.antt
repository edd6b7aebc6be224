use Rattle.std.proofs.Common.{◌≡◌, ◌++◌, map, drop}
use Rattle.cics_picture.specs.Draw.Standings.{fill_of}
use Rattle.cics_picture.proofs.draw.standings.fills_at.Given as goal

-- the fills so far, and those of the units that are left, are all
abbrev pub invariant-loop-outcome : goal.invariant-loop-outcome
invariant-loop-outcome l = l.fills ++ map fill_of (drop l.outcome-index l.outcomes) ≡ map fill_of l.outcomes
