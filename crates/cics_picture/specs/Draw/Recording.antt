-- What a recorder keeps of a line of a script: what its rows tell, and the key of a read.
use Rattle.std.specs.Prelude.{ℕ, Bool, true, false, if◌then◌else◌, Option, Some, None, List, [], ◌∷◌, ◌++◌, codes}
use Rattle.std.specs.Fmt.{decimal}
use Rattle.cics_names.specs.Keyed.{Bytes}
use Rattle.cics_names.specs.declared.commands.Verb.{Verb}
use Rattle.cics_names.specs.declared.commands.Verb.TheVariants.{Syncpoint, Rollback}
use Rattle.cics_names.specs.declared.conditions.Condition.{Condition}
use Rattle.cics_names.specs.declared.conditions.Condition.TheVariants.{Normal, Lengerr}
use Rattle.cics_history.specs.Store.{is_normal}
use Rattle.cics_dispatch.specs.declared.machine.outcomes.Outcome.{Outcome}
use Rattle.cics_dispatch.specs.declared.machine.outcomes.Outcome.TheVariants.{Replied, Waiting, Abended, Ended}
use Rattle.cics_dispatch.specs.declared.machine.events.Subject.{Subject}
use Rattle.cics_dispatch.specs.declared.machine.events.Subject.TheVariants as subject
use Rattle.cics_dispatch.specs.declared.machine.events.Request.{Request}
use Rattle.cics_dispatch.specs.declared.machine.events.Request.TheVariants.{Issue}
use Rattle.cics_dispatch.specs.declared.machine.events.Event.{Event}
use Rattle.cics_dispatch.specs.declared.machine.events.Event.TheVariants as event
use Rattle.cics_run.specs.Stage.Journal.{event_text, fault_text}
use Rattle.cics_run.specs.Stage.Seen.{Sight, after_step}
use Rattle.cics_run.specs.Stage.Stages.{Step}
use Rattle.cics_run.specs.declared.stage.stage.Fault.{Fault}
use Rattle.cics_picture.specs.declared.events.RowKind.{RowKind}
use Rattle.cics_picture.specs.declared.events.RowKind.TheVariants as kind
use Rattle.cics_picture.specs.declared.events.Told.{Told}
use Rattle.cics_picture.specs.Draw.Notes.{note_of}
use Rattle.cics_picture.specs.declared.draw.recording.Given.{Given}
use Rattle.cics_picture.specs.declared.draw.recording.Recorder.{Recorder}

-- the kind of a command's outcome
abbrev pub outcome_kind : Outcome → RowKind
outcome_kind (Replied reply) = if is_normal reply.condition then kind.Normal else kind.Condition
outcome_kind (Waiting holder) = kind.Waiting
outcome_kind (Abended code reply) = kind.Abended
outcome_kind Ended = kind.Ended

-- the kind of a waiting command's outcome
abbrev pub woken_kind : RowKind → RowKind
woken_kind kind.Normal = kind.Woken
woken_kind other = other

-- the kind of an event
abbrev pub kind_of : Event → RowKind
kind_of (event.Attached label transaction) = kind.Attached
kind_of (event.Issued label outcome reason) = outcome_kind outcome
kind_of (event.Woken w) = woken_kind (outcome_kind w.outcome)
kind_of (event.Expired e) = kind.Abended
kind_of (event.ClockSet now) = kind.Clock
kind_of (event.ShutDown units) = kind.Down
kind_of (event.Refused who refusal) = kind.Refused

-- the kind of a command's answer NORMAL: SYNCPOINT and ROLLBACK have kinds of their own
abbrev pub verb_kind : Verb → RowKind
verb_kind Syncpoint = kind.Committed
verb_kind Rollback = kind.BackedOut
verb_kind verb = kind.Normal

-- the kind of the answer NORMAL to a request
abbrev pub answered_as : Request → RowKind
answered_as (Issue label c) = verb_kind c.verb
answered_as request = kind.Normal

-- the kind of a row, by that of the answer NORMAL and that of its event
abbrev pub marked_kind : RowKind → RowKind → RowKind
marked_kind answered kind.Normal = answered
marked_kind answered other = other

-- the task for which a request was refused, if it was for one
abbrev pub refused_task : Subject → Option Bytes
refused_task (subject.Task label) = Some label
refused_task subject.Clock = None
refused_task subject.Shutdown = None

-- the task of an event, if it is one of a task
abbrev pub task_of : Event → Option Bytes
task_of (event.Attached label transaction) = Some label
task_of (event.Issued label outcome reason) = Some label
task_of (event.Woken w) = Some w.label
task_of (event.Expired e) = Some e.label
task_of (event.ClockSet now) = None
task_of (event.ShutDown units) = None
task_of (event.Refused who refusal) = refused_task who

-- the task that an event names as the blocker
abbrev pub blocker_in : Event → Option Bytes
blocker_in (event.Issued label (Waiting holder) reason) = Some holder
blocker_in other = None

-- what the row of an event tells, by the kind of the answer NORMAL
abbrev pub told_of : RowKind → Event → Told
told_of answered e = record { kind = marked_kind answered (kind_of e); task = task_of e; blocker = blocker_in e; text = event_text e; note = note_of e }

-- the fault of the script's line with this number, as the journal has it
abbrev pub told_fault : ℕ → Fault → List ℕ
told_fault number fault = codes "LINE " ++ (decimal number ++ fault_text fault)

-- what the row of a fault tells
abbrev pub fault_told : ℕ → Fault → Told
fault_told number fault = record { kind = kind.Down; task = None; blocker = None; text = told_fault number fault; note = [] }

-- with these conditions a read gives data
abbrev pub gives_data : Condition → Bool
gives_data Normal = true
gives_data Lengerr = true
gives_data other = false

-- what a command was given as it was issued, if that is data
abbrev pub given_by : Event → Option Given
given_by (event.Issued label (Replied reply) reason) = if gives_data reply.condition then Some (record { key = reply.key }) else None
given_by other = None

-- the later of two, if there is one
abbrev pub later : Option Given → Option Given → Option Given
later before None = before
later before (Some given) = Some given

-- What a recorder has kept of a line: what its rows tell, what its command was given, and the kind
-- of the answer NORMAL to it.
pub record Recorded : Type 0 where
  pub told : List Told
  pub given : Option Given
  pub normal : RowKind

-- what a recorder has kept
abbrev pub recorded_in : Recorder → Recorded
recorded_in r = record { told = r.told.items; given = r.given; normal = r.normal }

-- before a line nothing is kept
abbrev pub nothing_recorded : Recorded
nothing_recorded = record { told = []; given = None; normal = kind.Normal }

-- a recorder keeps the kind that a request calls for, a row for each event, and one for the fault
abbrev pub recorder_sight : Sight Recorded
recorder_sight =
    record {
      with_request = λ r number request before. record r { normal = answered_as request };
      with_event = λ r number h. record r { told = r.told ++ told_of r.normal h.event ∷ []; given = later r.given (given_by h.event) };
      with_fault = λ r number fault. record r { told = r.told ++ fault_told number fault ∷ [] };
    }

-- what a recorder keeps of a line with this number
abbrev pub recorded : ℕ → Step → Recorded
recorded number s = after_step recorder_sight number nothing_recorded s
