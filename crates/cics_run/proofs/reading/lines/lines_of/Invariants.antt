use Rattle.std.proofs.Common.{◌≡◌, ◌++◌, length}
use Rattle.cics_run.specs.Session.Lines.{all_lines}
use Rattle.cics_run.proofs.reading.lines.lines_of.Given as goal

-- the lines so far, and those that are left
abbrev pub invariant-lines : goal.invariant-lines
invariant-lines l = l.lines ++ all_lines l.rest ≡ all_lines l.script

abbrev pub decreases-lines : goal.decreases-lines
decreases-lines l = length l.rest
