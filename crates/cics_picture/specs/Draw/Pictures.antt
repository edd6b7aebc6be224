-- What a run prints of each line of a script, and the picture of that.
use Rattle.std.specs.Prelude.{◌≡◌, ℕ, Bool, true, false, ◌+◌, ◌<◌, ◌≤◌, if◌then◌else◌, List, [], ◌∷◌, length, Option, Result, Ok, Err, IfOk, is_some, ⊤}
use Rattle.std.specs.Io.KnownBytes.{Appends, Consumes, IsAtEnd}
use Rattle.cics_run.specs.Session.Lines.{all_lines}
use Rattle.cics_run.specs.Stage.Stages.{step}
use Rattle.cics_run.specs.Session.Running.{Played, play, has_fault, next, start, is_faulty, most_bytes}
use Rattle.cics_run.specs.Session.Standing.{Keeps, next_step}
use Rattle.cics_run.specs.declared.session.session.Session.{Session}
use Rattle.cics_run.specs.declared.stage.stage.Stage.{Stage}
use Rattle.cics_run.specs.Session.Printing.{AppendsFront}
use Rattle.cics_run.specs.declared.session.running.Status.{Status}
use Rattle.cics_run.specs.declared.session.running.Status.TheVariants as status
use Rattle.cics_run.specs.declared.session.running.RunFault.{RunFault}
use Rattle.cics_run.specs.declared.session.running.RunFault.TheVariants as faults
use Rattle.cics_picture.specs.Lanes.{most_rows}
use Rattle.cics_picture.specs.Drawings.{Printed, Drawn, drawn}
use Rattle.cics_picture.specs.Sheets.{sheet}
use Rattle.cics_picture.specs.declared.bars.Standing.{Standing}
use Rattle.cics_picture.specs.declared.drawing.Undrawn.{Undrawn}
use Rattle.cics_picture.specs.declared.drawing.Undrawn.TheVariants as undrawns
use Rattle.cics_history.specs.declared.ops.UnitState.{UnitState}
use Rattle.cics_picture.specs.Draw.Titles.{title_of}
use Rattle.cics_picture.specs.declared.bars.Fill.{Fill}
use Rattle.cics_picture.specs.Draw.Standings.{standings_at, entries_at, outcomes_at, fills_at}
use Rattle.cics_picture.specs.Draw.Recording.{recorded}
use Rattle.cics_picture.specs.Draw.Reads.{shown_at, with_shown}
use Rattle.cics_picture.specs.declared.draw.recording.Given.{Given}
use Rattle.cics_picture.specs.declared.draw.picture.NoPicture.{NoPicture}
use Rattle.cics_picture.specs.declared.draw.picture.NoPicture.TheVariants.{Stopped, TooManyEvents}

-- how the tasks stand after a line that ran, and what its read shows
abbrev pub standings_behind : ℕ → Stage → List ℕ → Option Given → List Standing
standings_behind before stage line given = with_shown (standings_at before stage) (shown_at stage line given)

-- a line, what it led to, and how the tasks stand after it
abbrev pub printed : ℕ → Stage → List ℕ → Printed
printed number stage line =
    let s = step stage line in
    let r = recorded number s in
    record { number = number; line = line; told = r.told; standings = standings_behind (length (entries_at stage)) s.stage line r.given }

-- the line that a session runs next, and what it prints
abbrev pub next_printed : Session → List ℕ → Printed
next_printed s line = printed (s.number + 1) s.stage line

-- What a run prints of each of these lines, from where it stands. After a fault no line counts.
abbrev pub printed_from : Played → List (List ℕ) → List Printed
printed_from p [] = []
printed_from p (line ∷ lines) =
    if has_fault p then [] else printed (p.number + 1) p.stage line ∷ printed_from (next p line) lines

-- what a run prints of each line of a script
abbrev pub printed_lines : List ℕ → List Printed
printed_lines script = printed_from start (all_lines script)

-- what is drawn of a script
abbrev pub drawing_of : List ℕ → Drawn
drawing_of script = drawn (printed_lines script)

-- how the bars of the units are filled after a script
abbrev pub fills_of : List ℕ → List Fill
fills_of script = fills_at (play (all_lines script)).stage

-- the outcomes of the units after a script
abbrev pub outcomes_of : List ℕ → List UnitState
outcomes_of script = outcomes_at (play (all_lines script)).stage

-- the picture of a script
abbrev pub picture_of : List ℕ → List ℕ
picture_of script = sheet (drawing_of script) (fills_of script) (title_of script)

-- A session ran a line more.
pub record Ran (s : Session) (line : List ℕ) (t : Session) : Type 0 where
  pub stage : t.stage ≡ (next_step s line).stage
  pub number : t.number ≡ s.number + 1
  pub fault : t.fault ≡ (next_step s line).fault

-- A session ran a line, which it keeps if that is a fault.
abbrev pub RunsLine : {E : Type 0} → Session → List ℕ → Session → Result Bool E → Type 0
RunsLine s line t result = IfOk result (λ fault. Ran s line t × (fault ≡ is_some t.fault) × (t.line.items ≡ (if fault then line else [])))

-- a session keeps the last line that a script runs, if that is a fault
abbrev pub KeepsLast : List ℕ → Session → Bool → Type 0
KeepsLast script session true = Keeps session (play (all_lines script))
KeepsLast script session false = ⊤

-- a script has more events than a picture may have rows
abbrev pub HasTooMany : List ℕ → Type 0
HasTooMany script = most_rows < (drawing_of script).rows

-- What stands in the sink at each answer, where bytes are the bytes that were read:
-- - Done and LineFault: the whole picture of the script, without a fault or up to its first one;
-- - WriteFault: a front of the picture;
-- - every other one: nothing more than before.
abbrev pub Answers : List ℕ → Option (List ℕ) → Option (List ℕ) → Option (List ℕ) → Result Status NoPicture → Type 0
Answers bytes rest old new (Ok status.Done) = IsAtEnd rest × (is_faulty bytes ≡ false) × Appends old new (picture_of bytes)
Answers bytes rest old new (Ok status.LineFault) = IsAtEnd rest × (is_faulty bytes ≡ true) × Appends old new (picture_of bytes)
Answers bytes rest old new (Err TooManyEvents) = IsAtEnd rest × HasTooMany bytes × Appends old new []
Answers bytes rest old new (Err (Stopped faults.InputTooLong)) = (length bytes ≡ most_bytes + 1) × Appends old new []
Answers bytes rest old new (Err (Stopped faults.ReadFault)) = Appends old new []
Answers bytes rest old new (Err (Stopped faults.NoMemory)) = Appends old new []
Answers bytes rest old new (Err (Stopped faults.WriteFault)) = IsAtEnd rest × AppendsFront old new (picture_of bytes)

-- some bytes were read, not too many, and what was written is what they call for
abbrev pub Pictures : Option (List ℕ) → Option (List ℕ) → Option (List ℕ) → Option (List ℕ) → Result Status NoPicture → Type 0
Pictures input rest old new result = (bytes : List ℕ) × Consumes input rest bytes × (length bytes ≤ most_bytes + 1) × Answers bytes rest old new result

-- If a picture ends in a fault, the session keeps the line that has it.
abbrev pub KeepsFault : Option (List ℕ) → Option (List ℕ) → Session → Result Status NoPicture → Type 0
KeepsFault input rest session (Ok status.LineFault) =
    (bytes : List ℕ) × Consumes input rest bytes × (is_faulty bytes ≡ true) × Keeps session (play (all_lines bytes))
KeepsFault input rest session _ = ⊤

-- how many calls failed: as many as the fault of the run counts, and none if there are too many
-- events
abbrev pub failures_of : (RunFault → ℕ) → NoPicture → ℕ
failures_of count (Stopped fault) = count fault
failures_of count TooManyEvents = 0

-- why there is no picture, if drawing was refused
abbrev pub undrawn : Undrawn → NoPicture
undrawn undrawns.NoMemory = Stopped faults.NoMemory
undrawn undrawns.TooManyRows = TooManyEvents

-- how a run ended
abbrev pub run_status : Bool → Status
run_status true = status.LineFault
run_status false = status.Done
