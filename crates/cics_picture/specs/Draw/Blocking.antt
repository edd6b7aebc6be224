-- A command that has to wait is drawn with an arrow to the lane of the task that blocks it.
use Rattle.std.specs.Prelude.{◌≡◌, ◌≤◌, ℕ, true, List, ◌∷◌, length, Some, Result, Ok, is_some}
use Rattle.cics_names.specs.Keyed.{Bytes}
use Rattle.cics_names.specs.declared.commands.Command.{Command}
use Rattle.cics_dispatch.specs.Machine.Machine.{Machine}
use Rattle.cics_dispatch.specs.Machine.Steps.{Stepped, issued}
use Rattle.cics_dispatch.specs.Machine.Shutdown.{unless_down}
use Rattle.cics_dispatch.specs.Machine.Blockers.{blocker_of}
use Rattle.cics_dispatch.specs.declared.machine.outcomes.Outcome.{Outcome}
use Rattle.cics_dispatch.specs.declared.machine.outcomes.Outcome.TheVariants.{Waiting}
use Rattle.cics_dispatch.specs.declared.machine.outcomes.Refused.{Refused}
use Rattle.cics_script.specs.Lines as reading
use Rattle.cics_script.specs.declared.lines.Line.TheVariants.{Issue}
use Rattle.cics_run.specs.Stage.Stages.{region_of}
use Rattle.cics_run.specs.declared.stage.stage.Stage.{Stage}
use Rattle.cics_picture.specs.Lanes.{most_lanes, lane_of}
use Rattle.cics_picture.specs.Drawings.{Row, rows_of}
use Rattle.cics_picture.specs.Arrows.{attached, DrawsArrow}
use Rattle.cics_picture.specs.Draw.Pictures.{printed}

-- the step of a region that a command of the task of a label asks for
abbrev pub commanded : Stage → Bytes → Command → Stepped (Result Outcome Refused)
commanded stage label c =
    let m = (region_of stage).machine in unless_down m (issued m label c)

-- A line of the script has a command that has to wait. Rows attach its task and its blocker, and no
-- more tasks than have lanes.
pub record HasToWait (rows : List Row) (stage : Stage) (line : List ℕ) : Type 0 where
  pub label : Bytes
  pub command : Command
  pub holder : Bytes
  pub read : reading.line line ≡ Ok (Issue label command)
  pub waits : (commanded stage label command).outcome ≡ Ok (Waiting holder)
  pub few : length (attached rows) ≤ most_lanes
  pub waiter_attached : is_some (lane_of (attached rows) (Some label)) ≡ true
  pub holder_attached : is_some (lane_of (attached rows) (Some holder)) ≡ true

-- The first row of a line, after other rows, draws exactly one arrow. It leads from the lane of a
-- label's task to that of the task that blocks it in this machine.
pub record ShowsBlocker (before rows : List Row) (m : Machine) (label : Bytes) : Type 0 where
  pub first : Row
  pub rest : List Row
  pub blocker : Bytes
  pub begins : rows ≡ first ∷ rest
  pub blocks : blocker_of m label ≡ Some blocker
  pub from_waiter : first.told.task ≡ Some label
  pub to_blocker : first.told.blocker ≡ Some blocker
  pub arrow : DrawsArrow before first

-- if a line's command has to wait, its rows show the blocker that the region has after the command
abbrev pub NamesBlocker : List Row → ℕ → Stage → List ℕ → Type 0
NamesBlocker before number stage line =
    (w : HasToWait before stage line)
    → ShowsBlocker before (rows_of (printed number stage line)) (commanded stage w.label w.command).machine w.label
