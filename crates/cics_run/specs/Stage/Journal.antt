-- The lines of the journal: what each event prints.
use Rattle.std.specs.Prelude.{ℕ, List, [], ◌∷◌, ◌++◌, Option, Some, None, codes}
use Rattle.std.specs.Fmt.{decimal}
use Rattle.std.specs.List.{flat_map}
use Rattle.cics_names.specs.Conditions.{number_of, title_of}
use Rattle.cics_names.specs.declared.conditions.Condition.{Condition}
use Rattle.cics_names.specs.declared.conditions.AbendCode.{AbendCode}
use Rattle.cics_dispatch.specs.Machine.Refusals.{refusal_number}
use Rattle.cics_dispatch.specs.declared.machine.outcomes.Number.{Number}
use Rattle.cics_dispatch.specs.declared.machine.outcomes.Number.TheVariants.{Item, Numrec}
use Rattle.cics_dispatch.specs.declared.machine.outcomes.Reply.{Reply}
use Rattle.cics_dispatch.specs.declared.machine.outcomes.Outcome.{Outcome}
use Rattle.cics_dispatch.specs.declared.machine.outcomes.Outcome.TheVariants.{Replied, Waiting, Abended, Ended}
use Rattle.cics_dispatch.specs.declared.machine.events.Subject.{Subject}
use Rattle.cics_dispatch.specs.declared.machine.events.Subject.TheVariants as subject
use Rattle.cics_dispatch.specs.declared.machine.events.Event.{Event}
use Rattle.cics_dispatch.specs.declared.machine.events.Event.TheVariants as event
use Rattle.cics_dispatch.specs.declared.machine.outcomes.Refused.{Refused}
use Rattle.cics_dispatch.specs.declared.machine.outcomes.Refused.TheVariants as refused
use Rattle.cics_units.specs.Opening.Faults.{fault_number}
use Rattle.cics_units.specs.declared.opening.opening.DefineFault.{DefineFault}
use Rattle.cics_units.specs.declared.opening.opening.DefineFault.TheVariants as define
use Rattle.cics_script.specs.Faults as script
use Rattle.cics_script.specs.Texts as texts
use Rattle.cics_script.specs.Texts.{name_text, bare}
use Rattle.cics_run.specs.Stage.Stages.{Step}
use Rattle.cics_run.specs.declared.stage.stage.Fault.{Fault}
use Rattle.cics_run.specs.declared.stage.stage.Fault.TheVariants as faults

-- a line of the journal ends with LF
abbrev pub line : List ℕ → List ℕ
line text = text ++ 10 ∷ []

-- a line of the script in front of its events, without its CR and LF
abbrev pub script_line : List ℕ → List ℕ
script_line bytes = line (codes "> " ++ bytes)

-- a number and its name, with a space between
abbrev pub numbered : ℕ → List ℕ → List ℕ
numbered number title = decimal number ++ (codes " " ++ title)

-- a condition's name and its number in EIBRESP
abbrev pub condition_text : Condition → List ℕ
condition_text condition = title_of condition ++ (codes " " ++ decimal (number_of condition))

-- a key or a content, if a reply has it
abbrev pub part : List ℕ → Option (List ℕ) → List ℕ
part title None = []
part title (Some bytes) = title ++ texts.text_of bytes

-- a number, if a reply has it
abbrev pub number_part : Option Number → List ℕ
number_part None = []
number_part (Some (Item n)) = codes " ITEM " ++ decimal n
number_part (Some (Numrec n)) = codes " NUMREC " ++ decimal n

-- A reply is the condition, then what it carries: key, number, content.
abbrev pub reply_text : Reply → List ℕ
reply_text reply =
    condition_text reply.condition
    ++ (part (codes " KEY ") reply.key ++ (number_part reply.number ++ part (codes " DATA ") reply.content))

-- the code of an abend, and the condition that brought it, if one did
abbrev pub abend_text : AbendCode → Option Reply → List ℕ
abend_text code None = codes "ABEND " ++ bare code.0
abend_text code (Some reply) = codes "ABEND " ++ (bare code.0 ++ (codes " " ++ condition_text reply.condition))

-- the outcome of a command
abbrev pub outcome_text : Outcome → List ℕ
outcome_text (Replied reply) = reply_text reply
outcome_text (Waiting holder) = codes "WAITING " ++ bare holder
outcome_text (Abended code reply) = abend_text code reply
outcome_text Ended = codes "ENDED"

-- the names of the refusals
abbrev pub refusal_title : Refused → List ℕ
refusal_title refused.NoMemory = codes "NoMemory"
refusal_title refused.NoTask = codes "NoTask"
refusal_title refused.TaskWaiting = codes "TaskWaiting"
refusal_title refused.TaskEnded = codes "TaskEnded"
refusal_title refused.DuplicateLabel = codes "DuplicateLabel"
refusal_title refused.ClockBack = codes "ClockBack"
refusal_title refused.RegionDown = codes "RegionDown"

-- a refusal, with its number
abbrev pub refusal_text : Refused → List ℕ
refusal_text refusal = codes "REFUSED " ++ numbered (refusal_number refusal) (refusal_title refusal)

-- whom a refused request was for
abbrev pub subject_text : Subject → List ℕ
subject_text (subject.Task label) = bare label
subject_text subject.Clock = codes "CLOCK"
subject_text subject.Shutdown = codes "SHUTDOWN"

-- a command that was issued, with its outcome
abbrev pub issued_text : List ℕ → Outcome → List ℕ
issued_text label outcome = bare label ++ (codes " " ++ outcome_text outcome)

-- an event
abbrev pub event_text : Event → List ℕ
event_text (event.Attached label transaction) = bare label ++ (codes " ATTACHED " ++ name_text transaction)
event_text (event.Issued label outcome reason) = issued_text label outcome
event_text (event.Woken w) = bare w.label ++ (codes " WOKEN " ++ outcome_text w.outcome)
event_text (event.Expired e) = bare e.label ++ (codes " " ++ abend_text e.code None)
event_text (event.ClockSet now) = codes "CLOCK " ++ decimal now
event_text (event.ShutDown units) = codes "SHUTDOWN " ++ decimal units
event_text (event.Refused who refusal) = subject_text who ++ (codes " " ++ refusal_text refusal)

-- the line of an event
abbrev pub event_line : Event → List ℕ
event_line e = line (event_text e)

-- the line of a command that was issued
abbrev pub outcome_line : List ℕ → Outcome → List ℕ
outcome_line label outcome = line (issued_text label outcome)

-- the names of the faults of definitions
abbrev pub define_title : DefineFault → List ℕ
define_title define.Duplicate = codes "Duplicate"
define_title define.BadKey = codes "BadKey"
define_title define.BadLength = codes "BadLength"
define_title define.NotThere = codes "NotThere"
define_title define.NoMemory = codes "NoMemory"

-- why a line of the script ends a run: it can't be read, or stands where it may not; or what it
-- defines or loads is refused
abbrev pub fault_text : Fault → List ℕ
fault_text (faults.Line fault) = codes " FAULT " ++ numbered (script.number_of fault) (script.title_of fault)
fault_text (faults.Definition fault) = codes " DEFINE " ++ numbered (fault_number fault) (define_title fault)

-- the line of a fault, of the script's line with this number
abbrev pub fault_line : ℕ → Fault → List ℕ
fault_line number fault = line (codes "LINE " ++ (decimal number ++ fault_text fault))

-- the line of a fault, if there is one
abbrev pub fault_lines : ℕ → Option Fault → List ℕ
fault_lines number None = []
fault_lines number (Some fault) = fault_line number fault

-- the lines of all that a line with this number led to
abbrev pub text_of : ℕ → Step → List ℕ
text_of number s = flat_map (λ h. event_line h.event) s.events ++ fault_lines number s.fault
