use Rattle.std.proofs.Common.{◌+◌, ◌≤◌, length}
use Rattle.cics_picture.proofs.OfPage.Playing.{Stands}
use Rattle.cics_picture.proofs.page.pages.page_lines.Given as goal

abbrev pub invariant-lines : goal.invariant-lines
invariant-lines l = Stands l.sheet l.session l.rest l.script × (l.session.number + length l.rest ≤ length l.script)

abbrev pub decreases-lines : goal.decreases-lines
decreases-lines l = length l.rest
