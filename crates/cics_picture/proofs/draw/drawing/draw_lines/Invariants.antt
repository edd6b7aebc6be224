use Rattle.std.proofs.Common.{◌+◌, ◌≤◌, length}
use Rattle.cics_picture.specs.Drawings.{drawn_of}
use Rattle.cics_picture.proofs.OfDraw.Playing.{Stands}
use Rattle.cics_picture.proofs.draw.drawing.draw_lines.Given as goal

abbrev pub invariant-lines : goal.invariant-lines
invariant-lines l = Stands (drawn_of l.drawing) l.session l.rest l.script × (l.session.number + length l.rest ≤ length l.script)

abbrev pub decreases-lines : goal.decreases-lines
decreases-lines l = length l.rest
