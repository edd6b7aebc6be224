-- What came before a step. A run is the list of its steps, the newest first: so what came before a
-- step stands behind it.
use Rattle.std.specs.Prelude.{ℕ, Bool, false, not, ◌&&◌, ◌||◌, ◌==◌, if◌then◌else◌, Option, Some, None, List, ◌∷◌, length}
use Rattle.std.specs.List.{find}
use Rattle.cics_names.specs.Keyed.{Bytes, is_same}
use Rattle.cics_run.specs.declared.reads.steps.Cell.{Cell}
use Rattle.cics_run.specs.declared.reads.steps.Cell.TheVariants.{Record}
use Rattle.cics_run.specs.declared.reads.steps.Act.{Act}
use Rattle.cics_run.specs.declared.reads.steps.Act.TheVariants.{LookForUpdate, End}
use Rattle.cics_run.specs.declared.reads.found.Fate.{Fate}
use Rattle.cics_run.specs.declared.reads.found.Fate.TheVariants.{Committed, BackedOut, Open}
use Rattle.cics_run.specs.declared.reads.steps.Moment.{Moment}
use Rattle.cics_run.specs.declared.reads.steps.Step.{Step}
use Rattle.cics_run.specs.Reads.Steps.{changes, touches, is_plain, is_lasting, is_ending, is_undoing}

-- the steps so far, the newest first
abbrev pub Run : Type 0
Run = List Step

-- how what a task did ends its turn
abbrev pub fate_by : Act → Fate
fate_by (End committed) = if committed then Committed else BackedOut
fate_by act = Open

-- whether a task did a step
abbrev pub is_by : Bytes → Step → Bool
is_by task s = is_same task s.moment.task

-- whether a step is of a turn
abbrev pub is_in : ℕ → Step → Bool
is_in turn s = s.moment.turn == turn

-- the last step of a turn
abbrev pub last_in : ℕ → Run → Option Step
last_in turn run = find (is_in turn) run

-- whether a step is an end
abbrev pub is_end : Option Step → Bool
is_end None = false
is_end (Some s) = is_ending s.act

-- whether a step is a backout
abbrev pub is_backout : Option Step → Bool
is_backout None = false
is_backout (Some s) = is_undoing s.act

-- whether a turn has not ended
abbrev pub is_open : ℕ → Run → Bool
is_open turn run = not (is_end (last_in turn run))

-- whether what a turn did is backed out, if it doesn't last
abbrev pub is_undone : ℕ → Run → Bool
is_undone turn run = is_backout (last_in turn run)

-- how a turn ended
abbrev pub fate_of : ℕ → Run → Fate
fate_of turn run = if is_open turn run then Open else if is_undone turn run then BackedOut else Committed

-- whether a change stands: it lasts, or no backout of its turn came
abbrev pub stands : Run → Step → Bool
stands run c = is_lasting c.act || not (is_undone c.moment.turn run)

-- the last change of a cell that stands
abbrev pub last : Cell → Run → Option Step
last x run = find (λ c. changes c x && stands run c) run

-- the last step by which a task looks at a cell or changes it
abbrev pub near : Bytes → Cell → Run → Option Step
near task x run = find (λ s. is_by task s && touches s x) run

-- the turn behind a task's last step: the same one, or a new one behind an end
abbrev pub turn_after : Option Step → ℕ → ℕ
turn_after None count = count
turn_after (Some s) count = if is_ending s.act then count else s.moment.turn

-- the turn of a task's next step: by the number of steps before its first one
abbrev pub next_turn : Bytes → Run → ℕ
next_turn task run = turn_after (find (is_by task) run) (length run)

-- whether a step is a look by another command than READ UPDATE
abbrev pub is_plain_look : Option Step → Bool
is_plain_look None = false
is_plain_look (Some s) = is_plain s.act

-- whether it is no step: a READ UPDATE behind such a look
abbrev pub is_no_step : Bytes → Act → Run → Bool
is_no_step task (LookForUpdate f k) run = is_plain_look (near task (Record f k) run)
is_no_step task act run = false

-- the moment of a task's next step
abbrev pub next_moment : ℕ → Bytes → Run → Moment
next_moment line task run = record { at = length run; line = line; task = task; turn = next_turn task run }

-- the run with what a task did by a line
abbrev pub with_step : Run → ℕ → Bytes → Act → Run
with_step run line task act =
    if is_no_step task act run then run else record { moment = next_moment line task run; act = act } ∷ run
