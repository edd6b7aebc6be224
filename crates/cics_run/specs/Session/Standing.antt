-- Where a session stands after some bytes of a script.
use Rattle.std.specs.Prelude.{◌≡◌, ℕ, Bool, true, false, ◌||◌, ◌+◌, if◌then◌else◌, List, [], ◌++◌, Option, None, Result, MatchResult, Ok, Err, ⊤}
use Rattle.std.specs.Io.BufRead.{strip_last}
use Rattle.std.specs.Io.KnownBytes.{Appends, Consumes}
use Rattle.cics_run.specs.Session.Lines.{completed, unfinished, all_lines}
use Rattle.cics_run.specs.Stage.Amiss.{any_amiss}
use Rattle.cics_run.specs.Stage.Journal.{script_line, text_of}
use Rattle.cics_run.specs.Stage.Stages.{step, Step, initial_stage, region_of}
use Rattle.cics_run.specs.Stage.Printed.{watched_by, watched_on}
use Rattle.cics_run.specs.Session.Running.{Form, Played, are_reads_amiss, play, has_fault, journal_of, journal, output, is_faulty}
use Rattle.cics_run.specs.Session.Printing.{AppendsFront, Prints}
use Rattle.cics_run.specs.Messages.Remarks.{no_remarks, remarked}
use Rattle.cics_run.specs.declared.session.running.RunFault.{RunFault}
use Rattle.cics_run.specs.declared.session.running.RunFault.TheVariants as faults
use Rattle.cics_run.specs.declared.session.writing.Stop.{Stop}
use Rattle.cics_run.specs.declared.session.writing.Stop.TheVariants as stops
use Rattle.cics_run.specs.declared.session.running.Status.{Status}
use Rattle.cics_run.specs.declared.session.running.Status.TheVariants as status
use Rattle.cics_run.specs.declared.session.session.Session.{Session}
use Rattle.cics_run.specs.declared.stage.notices.Scope.{Scope}
use Rattle.cics_run.specs.declared.stage.stage.Stage.{Stage}
use Rattle.cics_run.specs.declared.stage.stage.Stage.TheVariants.{Running}

-- A session before its first byte.
pub record IsNew (s : Session) : Type 0 where
  pub stage : s.stage ≡ initial_stage
  pub number : s.number ≡ 0
  pub line : s.line.items ≡ []
  pub pending : s.journal.text.items ≡ []
  pub calm : s.journal.is_amiss ≡ false
  pub unwatched : watched_by s.journal ≡ None
  pub silent : s.journal.told ≡ no_remarks (record { strict = false; why = false })
  pub fault : s.fault ≡ None

-- the step of a line that a session runs next
abbrev pub next_step : Session → List ℕ → Step
next_step s line = step s.stage line

-- what is printed of that line: its bytes, if the script is printed, and behind them its journal
-- lines
abbrev pub next_text : Session → List ℕ → List ℕ
next_text s line = (if s.with_script then script_line line else []) ++ text_of (s.number + 1) (next_step s line)

-- A session ran a line more.
pub record Ran (s : Session) (line : List ℕ) (t : Session) : Type 0 where
  pub stage : t.stage ≡ (next_step s line).stage
  pub number : t.number ≡ s.number + 1
  pub fault : t.fault ≡ (next_step s line).fault
  pub amiss : t.journal.is_amiss ≡ (s.journal.is_amiss || any_amiss (next_step s line).events)
  pub told : t.journal.told ≡ remarked s.journal.told (s.number + 1) line (next_step s line)
  pub watched : watched_by t.journal ≡ watched_on (s.number + 1) (watched_by s.journal) (next_step s line)
  pub shows : t.with_script ≡ s.with_script

-- the line whose LF comes next
abbrev pub ended_line : Session → List ℕ
ended_line s = strip_last 13 s.line.items

-- a session has what was noted of the reads of these lines, if that is wanted
abbrev pub HasWatched : Bool → Session → Played → Type 0
HasWatched reads session p = watched_by session.journal ≡ p.watched reads

-- After these bytes, none of whose lines was a fault, their journal is printed.
pub record Stands (form : Form) (bytes : List ℕ) (before now : Option (List ℕ)) (session : Session) : Type 0 where
  pub stage : session.stage ≡ (play (completed bytes)).stage
  pub number : session.number ≡ (play (completed bytes)).number
  pub line : session.line.items ≡ unfinished bytes
  pub going : has_fault (play (completed bytes)) ≡ false
  pub amiss : session.journal.is_amiss ≡ (play (completed bytes)).is_amiss
  pub told : session.journal.told ≡ (play (completed bytes)).told form.scope
  pub watched : HasWatched form.reads session (play (completed bytes))
  pub shows : session.with_script ≡ form.with_script
  pub printed : Prints before now [] session.journal.text.items (journal form bytes)

-- a call leads to this from each state of its session, after whatever bytes
abbrev pub WhereverStands : Form → Option (List ℕ) → Session → (List ℕ → Option (List ℕ) → Type 0) → Type 0
WhereverStands form now session LeadsTo = (bytes : List ℕ) (before : Option (List ℕ)) → Stands form bytes before now session → LeadsTo bytes before

-- A session keeps the line at which these lines end: its bytes, its number and its fault.
pub record Keeps (session : Session) (p : Played) : Type 0 where
  pub line : session.line.items ≡ p.line
  pub number : session.number ≡ p.number
  pub fault : session.fault ≡ p.fault

-- a session has the remarks on these lines
abbrev pub HasTold : Scope → Session → Played → Type 0
HasTold scope session p = session.journal.told ≡ p.told scope

-- A line of these bytes was a fault: their journal is written, and the line is kept.
pub record Stopped (form : Form) (bytes : List ℕ) (before now : Option (List ℕ)) (session : Session) : Type 0 where
  pub fault : has_fault (play (completed bytes)) ≡ true
  pub written : Appends before now (journal form bytes)
  pub kept : Keeps session (play (completed bytes))
  pub told : HasTold form.scope session (play (completed bytes))

-- whether a line was a fault, the session goes on or has stopped
abbrev pub Comes : Form → List ℕ → Option (List ℕ) → Option (List ℕ) → Session → Bool → Type 0
Comes form bytes before now session false = Stands form bytes before now session
Comes form bytes before now session true = Stopped form bytes before now session

-- more bytes came
abbrev pub Feeds : {E : Type 0} → Form → List ℕ → Option (List ℕ) → Option (List ℕ) → Session → Result Bool E → Type 0
Feeds form bytes before now session result =
    MatchResult result (Comes form bytes before now session) (λ _. AppendsFront before now (journal form bytes))

-- all that was printed is written
abbrev pub Writes : {A E : Type 0} → Form → List ℕ → Option (List ℕ) → Option (List ℕ) → Session → Result A E → Type 0
Writes form bytes before now session result =
    MatchResult result (λ _. Stands form bytes before now session × Appends before now (journal form bytes))
    (λ _. AppendsFront before now (journal form bytes))

-- All lines were run, and whether one of them, the last, was a fault: then it is kept.
pub record IsClosed (form : Form) (bytes : List ℕ) (before now : Option (List ℕ)) (session : Session) (is_fault : Bool) : Type 0 where
  pub fault : has_fault (play (all_lines bytes)) ≡ is_fault
  pub stage : (play (all_lines bytes)).stage ≡ session.stage
  pub amiss : session.journal.is_amiss ≡ (play (all_lines bytes)).is_amiss
  pub told : HasTold form.scope session (play (all_lines bytes))
  pub watched : HasWatched form.reads session (play (all_lines bytes))
  pub printed : Prints before now [] session.journal.text.items (journal_of form (play (all_lines bytes)))
  pub kept : is_fault ≡ true → Keeps session (play (all_lines bytes))

-- the last line was run, if it lacks its LF
abbrev pub Closes : {E : Type 0} → Form → List ℕ → Option (List ℕ) → Option (List ℕ) → Session → Result Bool E → Type 0
Closes form bytes before now session result =
    MatchResult result (IsClosed form bytes before now session) (λ _. AppendsFront before now (journal_of form (play (all_lines bytes))))

-- the region in which these lines end, made of the definitions if there is none yet
abbrev pub final_stage : Played → Stage
final_stage p = Running (region_of p.stage)

-- A session has the region in which these lines end. It knows whether one of their events was
-- amiss, or something that reads saw or missed, if that is wanted.
pub record HasEnd (reads : Bool) (session : Session) (p : Played) : Type 0 where
  pub stage : session.stage ≡ final_stage p
  pub amiss : session.journal.is_amiss ≡ (p.is_amiss || are_reads_amiss (p.watched reads))

-- the input's end came
abbrev pub Finishes : {E : Type 0} → Form → List ℕ → Option (List ℕ) → Option (List ℕ) → Session → Result Status E → Type 0
Finishes form bytes before now session (Ok status.Done) =
    Appends before now (output form bytes) × (is_faulty bytes ≡ false) × HasEnd form.reads session (play (all_lines bytes)) × HasTold form.scope session (play (all_lines bytes))
Finishes form bytes before now session (Ok status.LineFault) =
    Appends before now (output form bytes) × (is_faulty bytes ≡ true) × Keeps session (play (all_lines bytes)) × HasTold form.scope session (play (all_lines bytes))
Finishes form bytes before now session (Err e) = AppendsFront before now (output form bytes)

-- What a run over some bytes leaves in its session: the end of their lines, or the line that has a
-- fault; and the remarks on the lines.
abbrev pub KeepsEnd : Form → Option (List ℕ) → Option (List ℕ) → Session → Result Status RunFault → Type 0
KeepsEnd form input rest session (Ok status.Done) =
    (bytes : List ℕ) × Consumes input rest bytes × (is_faulty bytes ≡ false) × HasEnd form.reads session (play (all_lines bytes)) × HasTold form.scope session (play (all_lines bytes))
KeepsEnd form input rest session (Ok status.LineFault) =
    (bytes : List ℕ) × Consumes input rest bytes × (is_faulty bytes ≡ true) × Keeps session (play (all_lines bytes)) × HasTold form.scope session (play (all_lines bytes))
KeepsEnd form input rest session _ = ⊤

-- the fault of a run that stopped
abbrev pub fault_of : Stop → RunFault
fault_of stops.NoMemory = faults.NoMemory
fault_of stops.WriteFault = faults.WriteFault

-- the answer of a run that came to the input's end
abbrev pub ended : Result Status Stop → Result Status RunFault
ended (Ok s) = Ok s
ended (Err stop) = Err (fault_of stop)
