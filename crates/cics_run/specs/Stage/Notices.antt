-- Which events of a run are told to a person at its end.
use Rattle.std.specs.Prelude.{Bool, true, false, ◌&&◌, ◌||◌, if◌then◌else◌, Option, Some, None, List, [], ◌∷◌, ◌++◌}
use Rattle.std.specs.List.{fold}
use Rattle.cics_names.specs.Keyed.{Bytes}
use Rattle.cics_names.specs.declared.conditions.AbendCode.{AbendCode}
use Rattle.cics_names.specs.declared.conditions.Condition.{Condition}
use Rattle.cics_history.specs.Store.{is_normal}
use Rattle.cics_dispatch.specs.Machine.Events.{Happened}
use Rattle.cics_dispatch.specs.declared.machine.events.Event.{Event}
use Rattle.cics_dispatch.specs.declared.machine.events.Event.TheVariants as event
use Rattle.cics_dispatch.specs.declared.machine.events.Subject.{Subject}
use Rattle.cics_dispatch.specs.declared.machine.events.Subject.TheVariants as subject
use Rattle.cics_dispatch.specs.declared.machine.outcomes.Outcome.{Outcome}
use Rattle.cics_dispatch.specs.declared.machine.outcomes.Outcome.TheVariants.{Replied, Abended}
use Rattle.cics_dispatch.specs.declared.machine.outcomes.Refused.{Refused}
use Rattle.cics_dispatch.specs.declared.machine.outcomes.Refused.TheVariants.{NoTask}
use Rattle.cics_dispatch.specs.declared.machine.reasons.Reason.{Reason}
use Rattle.cics_dispatch.specs.declared.machine.reasons.Reason.TheVariants.{FileNotDefined, QueueNotDefined}
use Rattle.cics_run.specs.Stage.Amiss.{is_amiss, is_time_out}
use Rattle.cics_run.specs.declared.stage.notices.Scope.{Scope}
use Rattle.cics_run.specs.declared.stage.notices.Notice.{Notice}
use Rattle.cics_run.specs.declared.stage.notices.Notice.TheVariants as notices

-- the condition of an outcome, if it is another than NORMAL
abbrev pub raised_by : Outcome → Option Condition
raised_by (Replied reply) = if is_normal reply.condition then None else Some reply.condition
raised_by (Abended code (Some reply)) = Some reply.condition
raised_by _ = None

-- an abend without a condition is noted with --strict, if its code is that of a time-out
abbrev pub noted_abend : Scope → Bytes → AbendCode → Option Notice
noted_abend scope label code = if scope.strict && is_time_out code then Some (notices.TimedOut label) else None

-- an outcome without a condition is noted if it is such an abend
abbrev pub noted_late : Scope → Bytes → Outcome → Option Notice
noted_late scope label (Abended code None) = noted_abend scope label code
noted_late scope label _ = None

-- whether no task has the label of a refused request
abbrev pub is_no_task : Refused → Bool
is_no_task NoTask = true
is_no_task _ = false

-- the notice on a refused request
abbrev pub refused_notice : Subject → Refused → Notice
refused_notice (subject.Task label) refusal = notices.Refused label refusal
refused_notice subject.Clock refusal = notices.ClockRefused refusal
refused_notice subject.Shutdown refusal = notices.ShutdownRefused refusal

-- a refused request is noted with --strict, and always if no task has its label
abbrev pub noted_refusal : Scope → Subject → Refused → Option Notice
noted_refusal scope who refusal = if scope.strict || is_no_task refusal then Some (refused_notice who refusal) else None

-- the condition of the line's command, with the check that failed
abbrev pub noted_issued : Option Reason → Option Condition → Option Notice → Option Notice
noted_issued reason None late = late
noted_issued reason (Some c) late = Some (notices.Issued (record { condition = c; reason = reason }))

-- the condition of a command that resumed
abbrev pub noted_resumed : Bytes → Option Condition → Option Notice → Option Notice
noted_resumed label None late = late
noted_resumed label (Some c) late = Some (notices.Resumed label c)

-- what is noted of an event, if it is told
abbrev pub noted_on : Scope → Event → Option Notice
noted_on scope (event.Issued label outcome reason) = noted_issued reason (raised_by outcome) (noted_late scope label outcome)
noted_on scope (event.Woken w) = noted_resumed w.label (raised_by w.outcome) (noted_late scope w.label w.outcome)
noted_on scope (event.Expired e) = noted_abend scope e.label e.code
noted_on scope (event.Refused who refusal) = noted_refusal scope who refusal
noted_on scope (event.Attached label transaction) = None
noted_on scope (event.ClockSet now) = None
noted_on scope (event.ShutDown units) = None

-- whether a check failed since a file or a queue of transient data isn't defined
abbrev pub is_undefined : Option Reason → Bool
is_undefined (Some FileNotDefined) = true
is_undefined (Some QueueNotDefined) = true
is_undefined _ = false

-- whether a command names such a file or queue
abbrev pub names_undefined : Event → Bool
names_undefined (event.Issued label outcome reason) = is_undefined reason
names_undefined _ = false

-- what is noted of an event: one that is amiss is told, a name that isn't defined too, and
-- otherwise each condition if that is wanted
abbrev pub noted : Scope → Event → Option Notice
noted scope e = if (is_amiss e || scope.why) || names_undefined e then noted_on scope e else None

-- a notice stands behind those before it, if there is one
abbrev pub with_notice : List Notice → Option Notice → List Notice
with_notice notices None = notices
with_notice notices (Some notice) = notices ++ notice ∷ []

-- what is noted of some events, in their order
abbrev pub notices_of : Scope → List Happened → List Notice
notices_of scope events = fold (λ notices h. with_notice notices (noted scope h.event)) [] events
