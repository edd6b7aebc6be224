-- What a change without a lost update says of the changes before it.
use Rattle.std.specs.Prelude.{◌≡◌, ◌≤◌, true, false, Some, [], Contains}
use Rattle.cics_run.specs.declared.reads.steps.Cell.{Cell}
use Rattle.cics_run.specs.declared.reads.steps.Step.{Step}
use Rattle.cics_run.specs.Reads.Steps.{cells_of, is_view, is_adding}
use Rattle.cics_run.specs.Reads.Runs.{Run, near, last}
use Rattle.cics_run.specs.Reads.Findings.{lost_at}

-- a change that adds nothing and replaces nothing unknown: if its task's last step at one of its
-- cells is a look, then no change of the cell that stands came behind that look
abbrev pub IsUpToDate : Run → Step → Type 0
IsUpToDate run d =
    (x : Cell) (r c : Step) → Contains (cells_of d) x → near d.moment.task x run ≡ Some r → is_view r.act ≡ true →
    last x run ≡ Some c → c.moment.at ≤ r.moment.at

-- a change without a lost update is up to date
abbrev pub KnowsWhatItReplaces : Type 0
KnowsWhatItReplaces = (run : Run) (d : Step) → is_adding d.act ≡ false → lost_at run d ≡ [] → IsUpToDate run d
