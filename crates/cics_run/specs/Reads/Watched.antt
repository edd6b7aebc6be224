-- The steps of a run, as an observer of its events notes them.
use Rattle.std.specs.Prelude.{ℕ, zero, suc, Bool, true, false, if◌then◌else◌, Option, Some, None, is_none, option_map, unwrap_or, slice_get, filter, List, [], ◌∷◌, ◌++◌, length, codes}
use Rattle.cics_names.specs.Keyed.{Bytes, Map, value_at, with_value}
use Rattle.cics_names.specs.declared.commands.Command.{Command}
use Rattle.cics_names.specs.declared.commands.Verb.{Verb}
use Rattle.cics_names.specs.declared.commands.Verb.TheVariants.{Syncpoint, Rollback}
use Rattle.cics_history.specs.Holding.{store_of}
use Rattle.cics_dispatch.specs.Machine.Machine.{Machine, RegionValue, Task}
use Rattle.cics_dispatch.specs.Machine.Blockers.{waiting_command, blocker_of, label_at}
use Rattle.cics_dispatch.specs.Machine.Events.{Happened}
use Rattle.cics_dispatch.specs.declared.machine.events.Event.{Event}
use Rattle.cics_dispatch.specs.declared.machine.events.Event.TheVariants as event
use Rattle.cics_dispatch.specs.declared.machine.events.Request.{Request}
use Rattle.cics_dispatch.specs.declared.machine.events.Request.TheVariants as request
use Rattle.cics_dispatch.specs.declared.machine.outcomes.Outcome.{Outcome}
use Rattle.cics_dispatch.specs.declared.machine.outcomes.Outcome.TheVariants.{Replied, Waiting, Abended, Ended}
use Rattle.cics_dispatch.specs.declared.machine.reasons.Reason.{Reason}
use Rattle.cics_run.specs.Reads.Text.{findings_text, is_any_amiss}
use Rattle.cics_run.specs.Reads.Written.{findings}
use Rattle.cics_run.specs.Reads.Changes.{act_at, deletes_several, doomed_by}
use Rattle.cics_run.specs.Reads.Looks.{spot_of}
use Rattle.cics_run.specs.Reads.Runs.{Run, with_step}
use Rattle.cics_run.specs.Stage.Seen.{Sight}
use Rattle.cics_run.specs.declared.reads.steps.Act.{Act}
use Rattle.cics_run.specs.declared.reads.steps.Act.TheVariants.{Look, End}
use Rattle.cics_run.specs.declared.reads.steps.Cell.{Cell}

-- What is known of a run before its next event:
-- - its steps;
-- - what the command that was asked for does, if it passes its checks and leaves no entry in the
--   history;
-- - the cells that are deleted if the next command is DELETE GENERIC or DELETEQ TS;
-- - the number of entries in the history;
-- - the line of each command that waited;
-- - the tasks that wait with DELETE GENERIC or DELETEQ TS, in the order in which they began to.
pub record Watched : Type 0 where
  pub run : Run
  pub plain : Option Act
  pub doomed : List Cell
  pub entries : ℕ
  pub lines : Map ℕ
  pub deleters : List Bytes

-- what is printed of the steps: what reads saw and missed
abbrev pub reads_text : Watched → List ℕ
reads_text w = codes "READS\n" ++ findings_text false (findings w.run)

-- whether something of that is amiss
abbrev pub are_amiss : Watched → Bool
are_amiss w = is_any_amiss (findings w.run)

-- the lines on what is amiss, without the heading
abbrev pub amiss_text : Watched → List ℕ
amiss_text w = findings_text true (findings w.run)

-- before the first line
abbrev pub nothing_watched : Watched
nothing_watched = record { run = []; plain = None; doomed = []; entries = 0; lines = []; deleters = [] }

-- ---- Before a request

-- a read without UPDATE looks, and SYNCPOINT ends a turn
abbrev pub plain_of : RegionValue → Bytes → Verb → Option Act
plain_of r label Syncpoint = Some (End true)
plain_of r label Rollback = Some (End false)
plain_of r label verb = option_map Look (spot_of r label verb)

-- a request is made of a region
abbrev pub asked : Watched → Request → RegionValue → Watched
asked w (request.Issue label command) r =
    record w { plain = plain_of r label command.verb; doomed = doomed_by r.store command.verb }
asked w other r = record w { plain = None; doomed = [] }

-- ---- The steps of an event

-- a task did something by a line, or nothing
abbrev pub with_act : Run → ℕ → Bytes → Option Act → Run
with_act run line label None = run
with_act run line label (Some act) = with_step run line label act

-- what ends a task ends its turn
abbrev pub end_of : Outcome → Option Act
end_of (Replied reply) = None
end_of (Waiting holder) = None
end_of (Abended code reply) = Some (End false)
end_of Ended = Some (End true)

-- what the command did that was asked for, unless it failed a check
abbrev pub unless_failed : Option Reason → Option Act → Option Act
unless_failed None plain = plain
unless_failed (Some reason) plain = None

-- what the entry did that an event added to the history, if it added one
abbrev pub change_in : Watched → Machine → Option Act
change_in w m = act_at m.units.opening w.doomed (slice_get m.units.trace w.entries)

-- a command of a task, issued at a line, did this without an entry and this by its entry, and has
-- this outcome
abbrev pub executed : Run → ℕ → Bytes → Option Act → Option Act → Outcome → Run
executed run line label plain change outcome =
    with_act (with_act (with_act run line label plain) line label change) line label (end_of outcome)

-- the line at which the waiting command of a task was issued
abbrev pub line_of : Watched → ℕ → Bytes → ℕ
line_of w number label = unwrap_or (value_at label w.lines) number

-- the turn of a task is backed out by a line, if there is such a task
abbrev pub with_backout : Run → ℕ → Option Bytes → Run
with_backout run line None = run
with_backout run line (Some label) = with_step run line label (End false)

-- the turns of the tasks below a number are
abbrev pub with_backouts : Run → ℕ → List Task → ℕ → Run
with_backouts run line tasks zero = run
with_backouts run line tasks (suc n) = with_backout (with_backouts run line tasks n) line (label_at tasks n)

-- the steps after an event of the line with a number
abbrev pub run_after : Watched → ℕ → Happened → Run
run_after w number h = after h.event where
  after : Event → Run
  after (event.Issued label outcome reason) = executed w.run number label (unless_failed reason w.plain) (change_in w h.machine) outcome
  after (event.Woken woken) = executed w.run (line_of w number woken.label) woken.label None (change_in w h.machine) woken.outcome
  after (event.Expired e) = with_step w.run number e.label (End false)
  after (event.ShutDown units) = with_backouts w.run number h.machine.tasks (length h.machine.tasks)
  after (event.Attached label transaction) = w.run
  after (event.ClockSet now) = w.run
  after (event.Refused who refusal) = w.run

-- ---- Behind an event

-- the task whose command began to wait, if this is what happened
abbrev pub began : Event → Option Bytes
began (event.Issued label (Waiting holder) reason) = Some label
began other = None

-- the line of its command is kept
abbrev pub with_line : Map ℕ → ℕ → Option Bytes → Map ℕ
with_line lines number None = lines
with_line lines number (Some label) = with_value label number lines

-- it stands behind those that wait already
abbrev pub with_label : List Bytes → Option Bytes → List Bytes
with_label labels None = labels
with_label labels (Some label) = labels ++ label ∷ []

-- whether a waiting command may delete several cells
abbrev pub may_delete : Option Command → Bool
may_delete None = false
may_delete (Some c) = deletes_several c.verb

-- those of some tasks that wait with such a command
abbrev pub deleting : Machine → List Bytes → List Bytes
deleting m labels = filter (λ label. may_delete (waiting_command m label)) labels

-- the cells that a waiting command deletes if it resumes next
abbrev pub doomed_if : Machine → Option Command → List Cell
doomed_if m None = []
doomed_if m (Some c) = doomed_by (store_of m.units) c.verb

-- If the next command to resume is one of such tasks, it is the first that nothing blocks: these
-- are the cells that it deletes.
abbrev pub doomed_next : Machine → List Bytes → List Cell
doomed_next m [] = []
doomed_next m (label ∷ labels) =
    if is_none (blocker_of m label) then doomed_if m (waiting_command m label) else doomed_next m labels

-- what is known behind an event of the line with a number
abbrev pub behind : Watched → ℕ → Happened → Watched
behind w number h =
    let deleters = deleting h.machine (with_label w.deleters (began h.event)) in
    record {
      run = run_after w number h;
      plain = None;
      doomed = doomed_next h.machine deleters;
      entries = length h.machine.units.trace;
      lines = with_line w.lines number (began h.event);
      deleters = deleters;
    }

-- the observer that notes the steps of a run
abbrev pub watcher_sight : Sight Watched
watcher_sight =
    record {
      with_request = λ w number asking r. asked w asking r;
      with_event = behind;
      with_fault = λ w number fault. w;
    }
