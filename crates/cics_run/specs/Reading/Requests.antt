-- What a check finds amiss in requests. It plays definitions and ATTACH, and no other request.
use Rattle.std.specs.Prelude.{Bool, true, false, is_some, if◌then◌else◌, Option, Some, None}
use Rattle.cics_names.specs.Commands.{file_named}
use Rattle.cics_names.specs.Keyed.{Bytes}
use Rattle.cics_names.specs.declared.commands.Verb.{Verb}
use Rattle.cics_names.specs.declared.commands.Verb.TheVariants.{WriteqTd, ReadqTd, DeleteqTd}
use Rattle.cics_dispatch.specs.Machine.Blockers.{number_of}
use Rattle.cics_dispatch.specs.Machine.Checks.{defined_reason, queue_reason}
use Rattle.cics_dispatch.specs.Machine.Machine.{Machine, definition_of}
use Rattle.cics_dispatch.specs.Machine.Reasons.{condition_of}
use Rattle.cics_dispatch.specs.declared.machine.outcomes.Refused.TheVariants.{NoTask, DuplicateLabel}
use Rattle.cics_dispatch.specs.declared.machine.reasons.Reason.{Reason}
use Rattle.cics_script.specs.declared.lines.Line.{Line}
use Rattle.cics_script.specs.declared.lines.Line.TheVariants.{Attach, Clock, Issue, Shutdown}
use Rattle.cics_run.specs.Messages.Instead.{meant_queue}
use Rattle.cics_run.specs.declared.stage.notices.Notice.{Notice}
use Rattle.cics_run.specs.declared.stage.notices.Notice.TheVariants as notices
use Rattle.cics_run.specs.declared.stage.stage.Stage.{Stage}
use Rattle.cics_run.specs.declared.stage.stage.Stage.TheVariants.{Opening, Running}

-- whether a check plays a line
abbrev pub is_played : Line → Bool
is_played (Clock seconds) = false
is_played (Issue label command) = false
is_played Shutdown = false
is_played _ = true

-- whether a task was attached with a label
abbrev pub is_attached : Stage → Bytes → Bool
is_attached (Opening o) label = false
is_attached (Running r) label = is_some (number_of r.machine.tasks label)

-- the first check of a command, of its file or else of its queue: that it is defined
abbrev pub name_reason : Machine → Verb → Option Bytes → Option Reason
name_reason m verb (Some file) = defined_reason (definition_of m file) (λ d. None)
name_reason m (WriteqTd queue from n) None = queue_reason m queue
name_reason m (ReadqTd queue n nosuspend) None = queue_reason m queue
name_reason m (DeleteqTd queue) None = queue_reason m queue
name_reason m verb None = None

-- the queue of transient data whose name a command of temporary storage has
abbrev pub meant_notice : Option Bytes → Option Notice
meant_notice None = None
meant_notice (Some queue) = Some (notices.Meant queue)

-- what a run notes of a command that fails a check, or what its name means
abbrev pub reason_or_meant : Option Reason → Option Bytes → Option Notice
reason_or_meant None meant = meant_notice meant
reason_or_meant (Some reason) meant = Some (notices.Issued (record { condition = condition_of reason; reason = Some reason }))

-- the same of a command in a region
abbrev pub name_notice : Machine → Verb → Option Notice
name_notice m verb = reason_or_meant (name_reason m verb (file_named verb)) (meant_queue m.units.opening verb)

-- without a region there is no command
abbrev pub command_notice : Stage → Verb → Option Notice
command_notice (Opening o) verb = None
command_notice (Running r) verb = name_notice r.machine verb

-- what is amiss in a line: its label was attached before, or never was; what it names isn't defined,
-- or is of transient data
abbrev pub notice_on : Stage → Line → Option Notice
notice_on stage (Attach label transaction dtimout) = if is_attached stage label then Some (notices.Refused label DuplicateLabel) else None
notice_on stage (Issue label command) = if is_attached stage label then command_notice stage command.verb else Some (notices.Refused label NoTask)
notice_on stage line = None
