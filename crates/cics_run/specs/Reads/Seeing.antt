-- What a look sees, by what is kept of each cell.
use Rattle.std.specs.Prelude.{if◌then◌else◌, List, [], reverse}
use Rattle.std.specs.List.{find}
use Rattle.cics_run.specs.declared.reads.found.Seen.{Seen}
use Rattle.cics_run.specs.declared.reads.past.Mark.{Mark}
use Rattle.cics_run.specs.declared.reads.steps.Cell.{Cell}
use Rattle.cics_run.specs.declared.reads.steps.Step.{Step}
use Rattle.cics_run.specs.Reads.Steps.{looks_at}
use Rattle.cics_run.specs.Reads.Runs.{Run}
use Rattle.cics_run.specs.Reads.Past.{is_standing}
use Rattle.cics_run.specs.Reads.Findings.{of_another}

-- what a look sees at a cell by the changes of that
abbrev pub shown : Run → Step → Cell × List Mark → List Seen
shown run r e = if looks_at r e.0 then of_another r (find (is_standing run) (reverse e.1)) else []
