-- What a person is told of an event that was noted.
use Rattle.std.specs.Prelude.{ℕ, false, Option, Some, None, unwrap_or, Result, Ok, List, [], ◌++◌, codes}
use Rattle.cics_names.specs.Commands.{file_named}
use Rattle.cics_names.specs.Conditions.{title_of}
use Rattle.cics_names.specs.Keyed.{Bytes}
use Rattle.cics_names.specs.declared.commands.Verb.{Verb}
use Rattle.cics_names.specs.declared.conditions.Condition.{Condition}
use Rattle.cics_ksds.specs.declared.definition.FileDef.{FileDef}
use Rattle.cics_dispatch.specs.Machine.Machine.{definition_of}
use Rattle.cics_dispatch.specs.declared.machine.outcomes.Refused.{Refused}
use Rattle.cics_dispatch.specs.declared.machine.outcomes.Refused.TheVariants as refused
use Rattle.cics_dispatch.specs.declared.machine.reasons.Reason.{Reason}
use Rattle.cics_script.specs.Lines.{line}
use Rattle.cics_script.specs.Texts.{bare}
use Rattle.cics_script.specs.declared.lines.Line.{Line}
use Rattle.cics_script.specs.declared.lines.Line.TheVariants.{Issue}
use Rattle.cics_script.specs.declared.faults.LineFault.{LineFault}
use Rattle.cics_run.specs.Messages.Causes.{general_text, cause_text}
use Rattle.cics_run.specs.Messages.Instead.{instead_text, instead_in, meant_words}
use Rattle.cics_run.specs.Messages.Nearest.{nearest_label}
use Rattle.cics_run.specs.Messages.Reasons.{reason_text}
use Rattle.cics_run.specs.declared.stage.notices.Raised.{Raised}
use Rattle.cics_run.specs.declared.stage.notices.Notice.{Notice}
use Rattle.cics_run.specs.declared.stage.notices.Notice.TheVariants as notices
use Rattle.cics_run.specs.declared.stage.stage.Stage.{Stage}
use Rattle.cics_run.specs.declared.stage.stage.Stage.TheVariants.{Running}

-- of a command without a defined file
abbrev pub undefined : FileDef
undefined = record { key_length = 0; key_offset = 0; record_size = 0; recoverable = false }

-- the definition of a file
abbrev pub definition_at : Stage → Option Bytes → FileDef
definition_at (Running r) (Some f) = unwrap_or (definition_of r.machine f) undefined
definition_at stage name = undefined

-- the definition of the file that a command names
abbrev pub definition_in : Stage → Verb → FileDef
definition_in stage verb = definition_at stage (file_named verb)

-- a condition, before what is told of it
abbrev pub condition_head : Condition → List ℕ
condition_head c = title_of c ++ codes ": "

-- the check that a command failed, or what came up as it was executed
abbrev pub reason_or_cause : Stage → Verb → Condition → Option Reason → List ℕ
reason_or_cause stage verb c (Some reason) = reason_text (definition_in stage verb) verb reason
reason_or_cause stage verb c None = cause_text verb c

-- the words on a condition that a command raised, and on what is almost the name that isn't there
abbrev pub raised_text : Stage → Verb → Raised → List ℕ
raised_text stage verb r = reason_or_cause stage verb r.condition r.reason ++ instead_in stage verb r.condition

-- what came up, by the command of the line
abbrev pub read_text : Stage → Result Line LineFault → Raised → List ℕ
read_text stage (Ok (Issue label command)) r = raised_text stage command.verb r
read_text stage read r = general_text r.condition

-- a condition that the command of a line was answered
abbrev pub issued_text : Stage → Result Line LineFault → Raised → List ℕ
issued_text stage read r = condition_head r.condition ++ read_text stage read r

-- a condition that a command was answered as it resumed
abbrev pub resumed_text : Bytes → Condition → List ℕ
resumed_text label c = bare label ++ (codes "'s command resumed: " ++ (condition_head c ++ general_text c))

-- why a request was refused, behind its subject
abbrev pub refusal_words : Refused → List ℕ
refusal_words refused.NoMemory = codes " had no memory"
refusal_words refused.NoTask = codes " was never attached"
refusal_words refused.TaskWaiting = codes " still waits, and issues no command"
refusal_words refused.TaskEnded = codes " has ended"
refusal_words refused.DuplicateLabel = codes " was attached before"
refusal_words refused.ClockBack = codes " doesn't go back"
refusal_words refused.RegionDown = codes " comes after the shutdown"

-- the nearest label that was attached, if no task has that of a command
abbrev pub hint_text : Stage → Bytes → Refused → List ℕ
hint_text (Running r) label refused.NoTask = instead_text (nearest_label r.machine label) (codes " was")
hint_text stage label refusal = []

-- a refused request of a task
abbrev pub refused_text : Stage → Bytes → Refused → List ℕ
refused_text stage label refusal = bare label ++ (refusal_words refusal ++ hint_text stage label refusal)

-- each notice on a line with these bytes
abbrev pub notice_text : Stage → List ℕ → Notice → List ℕ
notice_text stage bytes (notices.Issued raised) = issued_text stage (line bytes) raised
notice_text stage bytes (notices.Resumed label c) = resumed_text label c
notice_text stage bytes (notices.TimedOut label) = bare label ++ codes " was abended with AKCS, as by a time-out"
notice_text stage bytes (notices.Refused label refusal) = refused_text stage label refusal
notice_text stage bytes (notices.Meant queue) = bare queue ++ meant_words
notice_text stage bytes (notices.ClockRefused refusal) = codes "CLOCK" ++ refusal_words refusal
notice_text stage bytes (notices.ShutdownRefused refusal) = codes "SHUTDOWN" ++ refusal_words refusal
