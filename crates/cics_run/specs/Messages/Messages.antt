-- What a person is told of a run when it has ended.
use Rattle.std.specs.Prelude.{◌≡◌, ◌⊎◌, ℕ, ◌+◌, ◌-◌, ◌==◌, ◌&&◌, ◌||◌, nat_lt, if◌then◌else◌, Option, Some, None, List, [], ◌++◌, length, option_map}
use Rattle.std.specs.Borrow.{Bor}
use Rattle.cics_script.specs.Tokens.{after_blanks}
use Rattle.cics_script.specs.Columns.{IsFoundIn}
use Rattle.cics_script.specs.declared.columns.Placed.{Placed}
use Rattle.cics_script.specs.declared.faults.LineFault.{LineFault}
use Rattle.cics_units.specs.Opening.Faults.{fault_number}
use Rattle.cics_dispatch.specs.Machine.Machine.{Machine}
use Rattle.cics_dispatch.specs.Deadlocks.Deadlocks.{waiting_count}
use Rattle.cics_script.specs.Advice.Advice.{Advises}
use Rattle.cics_script.specs.declared.advice.origin.Origin.{Origin}
use Rattle.cics_script.specs.declared.advice.messages.Cause.{Cause}
use Rattle.cics_script.specs.declared.advice.messages.Cause.TheVariants as causes
use Rattle.cics_run.specs.declared.stage.stage.Fault.{Fault}
use Rattle.cics_run.specs.declared.stage.stage.Fault.TheVariants as faults
use Rattle.cics_run.specs.declared.stage.stage.Stage.{Stage}
use Rattle.cics_run.specs.declared.stage.stage.Stage.TheVariants.{Opening, Running}
use Rattle.cics_run.specs.declared.session.session.Session.{Session}
use Rattle.cics_run.specs.Messages.Deadlocked.{deadlock_lines}
use Rattle.cics_run.specs.Reads.Watched.{Watched}
use Rattle.cics_run.specs.Reads.Watching.{watched_in}
use Rattle.cics_run.specs.Reads.Written.{findings}
use Rattle.cics_run.specs.Messages.Findings.{found_remarks}
use Rattle.cics_run.specs.Messages.Remarks.{remark_lines}
use Rattle.cics_run.specs.Messages.Waiting.{waiting_line}
use Rattle.cics_run.specs.declared.stage.notices.Scope.{Scope}
use Rattle.cics_run.specs.declared.messages.messages.TheConstants.{MOST_WAITING}

-- the column of the first byte that is no blank
abbrev pub first_column : List ℕ → ℕ
first_column bytes = (length bytes - length (after_blanks bytes)) + 1

-- where a fault of a line is: in the column that is found; a line that can be read is at fault from
-- its first byte on
abbrev pub IsPlaced : List ℕ → LineFault → Placed → Type 0
IsPlaced bytes fault placed =
    IsFoundIn bytes (Some placed) ⊎ (IsFoundIn bytes None × (placed ≡ record { fault = fault; column = Some (first_column bytes) }))

-- the cause that is told of a line's fault
abbrev pub IsCauseOf : List ℕ → Fault → Cause → Type 0
IsCauseOf bytes (faults.Line fault) (causes.Line placed) = IsPlaced bytes fault placed
IsCauseOf bytes (faults.Definition fault) (causes.Definition number) = number ≡ fault_number fault
IsCauseOf bytes fault cause = ⊥

-- what is told of a line with a fault, put behind a text
abbrev pub TellsFault : Origin → List ℕ → Fault → List ℕ → List ℕ → Type 0
TellsFault origin bytes fault before now = (cause : Cause) × IsCauseOf bytes fault cause × Advises origin bytes cause before now

-- what is told of a run that ended with a fault, if it did: the remarks, and the line that the
-- session keeps
abbrev pub IsToldOf : Option (Bor (List ℕ)) → Session → Option Fault → List ℕ → Type 0
IsToldOf file s None text = text ≡ remark_lines file s.journal.told
IsToldOf file s (Some fault) text = TellsFault (record { file = file; line = s.number }) s.line.items fault (remark_lines file s.journal.told) text

-- a line for each deadlock, unless nobody waits or too many tasks do
abbrev pub few_deadlock_lines : Machine → List ℕ
few_deadlock_lines m = let waiting = waiting_count m in if waiting == 0 || nat_lt MOST_WAITING waiting then [] else deadlock_lines m

-- what a strict run tells of the tasks that still wait
abbrev pub strict_lines : Scope → Machine → List ℕ
strict_lines scope m = if scope.strict then waiting_line m else []

-- some text stands behind another
abbrev pub IsLonger : List ℕ → List ℕ → Type 0
IsLonger before now = (more : List ℕ) × (now ≡ before ++ more)

-- what is told of the region in which a run ended, and behind it some hints; of definitions alone
-- nothing
abbrev pub IsToldOfStage : Scope → Stage → List ℕ → List ℕ → Type 0
IsToldOfStage scope (Opening o) before now = now ≡ before
IsToldOfStage scope (Running r) before now = IsLonger (before ++ (strict_lines scope r.machine ++ few_deadlock_lines r.machine)) now

-- what is told of what reads saw and missed
abbrev pub watched_lines : Option (Bor (List ℕ)) → Watched → List ℕ
watched_lines file w = remark_lines file (found_remarks (findings w.run))

-- the same, if they were watched
abbrev pub lines_if : Option (Bor (List ℕ)) → Option Watched → List ℕ
lines_if file None = []
lines_if file (Some w) = watched_lines file w

-- a strict run tells it, if something is amiss
abbrev pub found_lines : Option (Bor (List ℕ)) → Session → List ℕ
found_lines file s = if s.journal.told.scope.strict && s.journal.is_amiss then lines_if file (option_map watched_in s.journal.watcher) else []

-- what is told at the end of a run: the remarks, what reads saw and missed, and then the region
abbrev pub IsToldAtEnd : Option (Bor (List ℕ)) → Session → List ℕ → Type 0
IsToldAtEnd file s text = IsToldOfStage s.journal.told.scope s.stage (remark_lines file s.journal.told ++ found_lines file s) text
