use Rattle.std.proofs.Common.{◌≡◌, ◌+◌, ◌≤◌, ◌++◌, ℕ, List, [], length}
use Rattle.std.specs.List.{fold}
use Rattle.cics_run.specs.Session.Lines.{all_lines}
use Rattle.cics_run.specs.Session.Printing.{Prints}
use Rattle.cics_run.specs.Session.Streams.{Rises}
use Rattle.cics_run.specs.Reading.Checks.{Checked, IsBehind, TellsLines, unchecked, checked, check}
use Rattle.cics_run.proofs.reading.checking.check_lines.Given as goal

-- what was told of the lines so far is written or pending, and what the others need comes behind it
abbrev pub invariant-lines : goal.invariant-lines
invariant-lines g l = (c : Checked) × (told : List ℕ) × IsBehind l.checker c
    × (l.checker.number + length l.rest ≤ length l.script) × (l.checker.faulty ≤ l.checker.number)
    × (fold checked c (all_lines l.rest) ≡ check (all_lines l.script))
    × Rises (g.K.Sink.failed l.fn.sink) (g.K.Sink.failed l.sink) 0
    × Prints (g.K.Sink.contents l.fn.sink) (g.K.Sink.contents l.sink) [] l.checker.text.items told
    × ((more : List ℕ) → TellsLines l.file c (all_lines l.rest) more → TellsLines l.file unchecked (all_lines l.script) (told ++ more))

abbrev pub decreases-lines : goal.decreases-lines
decreases-lines g l = length l.rest
