use Rattle.std.proofs.Common.{◌≡◌, drop}
use Rattle.std.specs.List.{list_any}
use Rattle.cics_picture.specs.Draw.Standings.{stays}
use Rattle.cics_picture.proofs.draw.standings.is_in_any.Given as goal

abbrev pub invariant-loop-entry : goal.invariant-loop-entry
invariant-loop-entry l = list_any (stays l.opening l.unit) l.entries ≡ list_any (stays l.opening l.unit) (drop l.entry-index l.entries)
