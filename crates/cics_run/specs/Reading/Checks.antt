-- What a check tells of a script: the fault of each line, and what is amiss in requests. It plays no
-- request but ATTACH.
use Rattle.std.specs.Prelude.{⊤, ◌≡◌, ℕ, zero, suc, ◌+◌, Bool, true, false, ◌&&◌, if◌then◌else◌, Option, Some, None, Result, Ok, Err, List, [], ◌∷◌, ◌++◌, codes}
use Rattle.std.specs.Borrow.{Bor}
use Rattle.std.specs.Fmt.{decimal}
use Rattle.std.specs.List.{fold}
use Rattle.std.specs.Io.KnownBytes.{Appends}
use Rattle.cics_units.specs.declared.opening.opening.DefineFault.TheVariants.{NotThere}
use Rattle.cics_dispatch.specs.Machine.Machine.{RegionValue}
use Rattle.cics_script.specs.Lines.{line, adds_nothing}
use Rattle.cics_script.specs.declared.advice.origin.Origin.{Origin}
use Rattle.cics_script.specs.declared.faults.LineFault.{LineFault}
use Rattle.cics_script.specs.declared.lines.Line.{Line}
use Rattle.cics_run.specs.Session.Lines.{all_lines}
use Rattle.cics_run.specs.Session.Running.{is_faulty}
use Rattle.cics_run.specs.Stage.Seen.{Sight}
use Rattle.cics_run.specs.Stage.Stages.{Step, step, initial_stage, region_of, silent, followed}
use Rattle.cics_run.specs.Messages.Remarks.{no_remarks, with_notice, remark_lines}
use Rattle.cics_run.specs.Messages.Messages.{TellsFault}
use Rattle.cics_run.specs.Reading.Requests.{is_played, notice_on}
use Rattle.cics_run.specs.declared.stage.notices.Notice.{Notice}
use Rattle.cics_run.specs.declared.messages.remarks.Remarks.{Remarks}
use Rattle.cics_run.specs.declared.session.running.Status.{Status}
use Rattle.cics_run.specs.declared.session.running.Status.TheVariants as status
use Rattle.cics_run.specs.declared.stage.stage.Fault.{Fault}
use Rattle.cics_run.specs.declared.stage.stage.Fault.TheVariants as faults
use Rattle.cics_run.specs.declared.stage.stage.Stage.{Stage}
use Rattle.cics_run.specs.declared.stage.stage.Stage.TheVariants.{Opening, Running}
use Rattle.cics_run.specs.declared.reading.checking.Checker.{Checker}
use Rattle.cics_run.specs.declared.reading.checking.Found.{Found}

-- After some lines: the stage in which those without a fault end, and the one to which definitions
-- and ATTACH alone lead; how many lines there were, how many are told of their faults, whether none
-- of these may be a definition or an ATTACH, and what is amiss in requests.
pub record Checked : Type 0 where
  pub stage : Stage
  pub known : Stage
  pub number : ℕ
  pub faulty : ℕ
  pub sure : Bool
  pub remarks : Remarks

-- before the first line
abbrev pub unchecked : Checked
unchecked = record { stage = initial_stage; known = initial_stage; number = 0; faulty = 0; sure = true; remarks = no_remarks (record { strict = false; why = false }) }

-- what a check makes of a line: a definition and ATTACH as a run does, and of another request no
-- more than the region of what is defined
abbrev pub tried : Stage → Result Line LineFault → Step
tried stage (Ok said) = if is_played said then followed stage (Ok said) else silent (Running (region_of stage))
tried stage (Err fault) = followed stage (Err fault)

-- what is amiss in a line, if it can be read
abbrev pub amiss_in : Stage → Result Line LineFault → Option Notice
amiss_in stage (Ok said) = notice_on stage said
amiss_in stage (Err fault) = None

-- the fault that is told of a line: what a load lacks may be defined by a faulty line before it
abbrev pub told_fault : Bool → Option Fault → Option Fault
told_fault sure (Some (faults.Definition NotThere)) = if sure then Some (faults.Definition NotThere) else None
told_fault sure fault = fault

-- what is told to be amiss in a line: nothing if a faulty line before it may define or attach
abbrev pub told_notice : Bool → Option Notice → Option Notice
told_notice sure notice = if sure then notice else None

-- the fault that is told of the next line
abbrev pub next_fault : Checked → List ℕ → Option Fault
next_fault c bytes = told_fault c.sure (step c.stage bytes).fault

-- what is told to be amiss in a line of which no fault is told
abbrev pub notice_beside : Bool → Option Fault → Option Notice → Option Notice
notice_beside sure (Some fault) found = None
notice_beside sure None found = told_notice sure found

-- what is told to be amiss in the next line
abbrev pub next_notice : Checked → List ℕ → Option Notice
next_notice c bytes = notice_beside c.sure (next_fault c bytes) (amiss_in c.known (line bytes))

-- the remarks with that on a line, if there is one
abbrev pub with_found : Stage → ℕ → List ℕ → Remarks → Option Notice → Remarks
with_found stage number bytes r None = r
with_found stage number bytes r (Some notice) = with_notice stage number bytes r notice

-- one faulty line more, if the line has a fault
abbrev pub counted : ℕ → Option Fault → ℕ
counted faulty None = faulty
counted faulty (Some fault) = faulty + 1

-- whether still no faulty line may be a definition or an ATTACH, if the line has this fault
abbrev pub stays_sure : Bool → List ℕ → Option Fault → Bool
stays_sure sure bytes None = sure
stays_sure sure bytes (Some fault) = sure && adds_nothing bytes

-- one line more
abbrev pub checked : Checked → List ℕ → Checked
checked c bytes =
    let known = (tried c.known (line bytes)).stage in
    record {
      stage = (step c.stage bytes).stage;
      known = known;
      number = c.number + 1;
      faulty = counted c.faulty (next_fault c bytes);
      sure = stays_sure c.sure bytes (next_fault c bytes);
      remarks = with_found known (c.number + 1) bytes c.remarks (next_notice c bytes);
    }

-- some lines, in their order
abbrev pub check : List (List ℕ) → Checked
check lines = fold checked unchecked lines

-- what is told of a line, if it has a fault
abbrev pub TellsIf : Origin → List ℕ → Option Fault → List ℕ → Type 0
TellsIf origin bytes None text = text ≡ []
TellsIf origin bytes (Some fault) text = TellsFault origin bytes fault [] text

-- what is told of the next line
abbrev pub TellsNext : Option (Bor (List ℕ)) → Checked → List ℕ → List ℕ → Type 0
TellsNext file c bytes text = TellsIf (record { file = file; line = c.number + 1 }) bytes (next_fault c bytes) text

-- that is put behind a text
abbrev pub TellsBehind : Option (Bor (List ℕ)) → Checked → List ℕ → List ℕ → List ℕ → Type 0
TellsBehind file c bytes before now = (text : List ℕ) × TellsNext file c bytes text × (now ≡ before ++ text)

-- what is told of some lines, in their order
abbrev pub TellsLines : Option (Bor (List ℕ)) → Checked → List (List ℕ) → List ℕ → Type 0
TellsLines file c [] text = text ≡ []
TellsLines file c (bytes ∷ lines) text =
    (first : List ℕ) × (rest : List ℕ) × TellsNext file c bytes first × TellsLines file (checked c bytes) lines rest × (text ≡ first ++ rest)

-- how many lines are at fault, if any is
abbrev pub count_line : ℕ → List ℕ
count_line zero = []
count_line (suc zero) = codes "cicsrun: 1 line is at fault\n"
count_line (suc (suc n)) = codes "cicsrun: " ++ (decimal (suc (suc n)) ++ codes " lines are at fault\n")

-- whether a line is at fault
abbrev pub status_of : ℕ → Status
status_of zero = status.Done
status_of (suc n) = status.LineFault

-- All faults of a script were told, and then what is amiss in requests and how many lines have a
-- fault. The status is that of a run.
pub record Checks (file : Option (Bor (List ℕ))) (script : List ℕ) (old new : Option (List ℕ)) (s : Status) : Type 0 where
  pub text : List ℕ
  pub tells : TellsLines file unchecked (all_lines script) text
  pub written : Appends old new (text ++ (remark_lines file (check (all_lines script)).remarks ++ count_line (check (all_lines script)).faulty))
  pub status : s ≡ (if is_faulty script then status.LineFault else status.Done)

-- Nothing is seen of the lines.
abbrev pub no_sight : Sight ⊤
no_sight = record { with_request = λ seen number request r. tt; with_event = λ seen number h. tt; with_fault = λ seen number fault. tt }

-- The same definitions, or some region in place of another one.
abbrev pub IsLike : Stage → Stage → Type 0
IsLike (Opening o) stage = stage ≡ Opening o
IsLike (Running r) stage = (other : RegionValue) × (stage ≡ Running other)

-- A line led to this stage, and this was found in it.
pub record IsTried (before : Stage) (said : Result Line LineFault) (after : Stage) (found : Found) : Type 0 where
  pub stage : after ≡ (tried before said).stage
  pub fault : found.fault ≡ (tried before said).fault
  pub notice : found.notice ≡ amiss_in before said

-- A checker stands behind some lines.
pub record IsBehind (checker : Checker) (c : Checked) : Type 0 where
  pub stage : checker.stage ≡ c.known
  pub like : IsLike c.stage c.known
  pub number : checker.number ≡ c.number
  pub faulty : checker.faulty ≡ c.faulty
  pub sure : checker.sure ≡ c.sure
  pub remarks : checker.remarks ≡ c.remarks
