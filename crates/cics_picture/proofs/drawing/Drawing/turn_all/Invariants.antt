use Rattle.std.proofs.Common.{◌≡◌, drop}
use Rattle.cics_picture.specs.Drawings.{drawn_of, turned_from}
use Rattle.cics_picture.proofs.drawing.Drawing.turn_all.Given as goal

abbrev pub invariant-loop-lane : goal.invariant-loop-lane
invariant-loop-lane l = turned_from l.first l.lane (drop l.lane l.standings) (drawn_of l.self) ≡ turned_from l.first 0 l.standings (drawn_of l.fn.self)
