-- The steps of a region: what ATTACH and each command are answered, and the state that they leave.
-- After its checks a command waits, or is executed and answered. A content longer than LENGTH is
-- LENGERR. A condition that nothing handles abends the task (all chapters of the manual on
-- commands, and that on the exceptional conditions; docs/RULES.md).
use Rattle.std.specs.Prelude.{ℕ, Bool, true, false, if◌then◌else◌, Option, Some, None, is_some, option_map, Result, Ok, Err, take, [], ◌∷◌, ◌++◌}
use Rattle.cics_names.specs.Commands.{file_named, length_of}
use Rattle.cics_names.specs.Keyed.{Bytes, value_at, with_value, without}
use Rattle.cics_names.specs.Conditions.{default_abend_of}
use Rattle.cics_names.specs.declared.conditions.Condition.{Condition}
use Rattle.cics_names.specs.declared.conditions.Condition.TheVariants.{Normal, Notfnd, Invreq, Qbusy, Enqbusy}
use Rattle.cics_names.specs.declared.conditions.AbendCode.{AbendCode}
use Rattle.cics_browse.specs.Positions.{Position, finds_start, start_at, read_next, after_next, read_prev, after_prev, reset_condition, after_reset}
use Rattle.cics_browse.specs.declared.browses.Browsed.{Browsed}
use Rattle.cics_history.specs.State.{UnitsState}
use Rattle.cics_history.specs.Execution.{execution, after_execution, enqueue, after_enqueue, after_dequeue, after_unlock, ts_reading, after_ts_reading, item_asked}
use Rattle.cics_history.specs.declared.ops.Op.{Op}
use Rattle.cics_history.specs.declared.ops.Op.TheVariants as op
use Rattle.cics_history.specs.declared.ops.Answer.{Answer}
use Rattle.cics_history.specs.declared.ops.Done.{Done}
use Rattle.cics_history.specs.declared.ops.Done.TheVariants.{Answered, MustWait}
use Rattle.cics_history.specs.declared.ops.Enqueued.{Enqueued}
use Rattle.cics_history.specs.declared.ops.Enqueued.TheVariants.{Taken, MustWait as EnqMustWait, CountFull}
use Rattle.cics_history.specs.declared.ops.UnitState.TheVariants.{Committed, BackedOut}
use Rattle.cics_dispatch.specs.Machine.Lengths.{used_of}
use Rattle.cics_dispatch.specs.Machine.Replies.{plain, cut, read_reply}
use Rattle.cics_dispatch.specs.Machine.Machine.{Machine, Task, task_at, is_waiting, label_of, with_units, with_task, with_waiting, with_unit, with_browses, unit_closed, abended, records_in, no_code}
use Rattle.cics_dispatch.specs.Machine.Checks.{fault_of, open_key}
use Rattle.cics_names.specs.declared.commands.Command.{Command}
use Rattle.cics_names.specs.declared.commands.Verb.{Verb}
use Rattle.cics_names.specs.declared.commands.Verb.TheVariants.{Read, Write, Rewrite, Delete, Unlock, StartBr, ResetBr, ReadNext, ReadPrev, EndBr, WriteqTs, ReadqTs, DeleteqTs, WriteqTd, ReadqTd, DeleteqTd, Enq, Deq, Syncpoint, Rollback, Return, Abend}
use Rattle.cics_dispatch.specs.declared.machine.outcomes.Number.{Number}
use Rattle.cics_dispatch.specs.declared.machine.outcomes.Number.TheVariants.{Item, Numrec}
use Rattle.cics_dispatch.specs.declared.machine.outcomes.Reply.{Reply}
use Rattle.cics_dispatch.specs.declared.machine.outcomes.Outcome.{Outcome}
use Rattle.cics_dispatch.specs.declared.machine.outcomes.Outcome.TheVariants.{Replied, Waiting, Abended, Ended}
use Rattle.cics_dispatch.specs.declared.machine.outcomes.Refused.{Refused}
use Rattle.cics_dispatch.specs.declared.machine.outcomes.Refused.TheVariants.{NoTask, TaskWaiting, TaskEnded, DuplicateLabel}

-- the outcome of an event, and the state that it leaves
pub record Stepped (X : Type 0) : Type 0 where
  pub outcome : X
  pub machine : Machine

-- this outcome, and this state
abbrev pub with_outcome : {X : Type 0} → X → Machine → Stepped X
with_outcome outcome m = record { outcome = outcome; machine = m }

-- ---- Answers

-- an unhandled condition abends the task with the condition's default code, if it has one
abbrev pub unhandled : Machine → Task → Reply → Option AbendCode → Stepped Outcome
unhandled m t r None = record { outcome = Replied r; machine = m }
unhandled m t r (Some code) = record { outcome = Abended code (Some r); machine = abended m t }

-- with RESP or NOHANDLE the task is told each condition, else it is unhandled
abbrev pub answered : Machine → Task → Bool → Reply → Stepped Outcome
answered m t resp r = if resp then record { outcome = Replied r; machine = m } else unhandled m t r (default_abend_of r.condition)

-- the number in the answer of a command: for DELETE the number of records deleted, else that of an
-- item
abbrev pub told_number : Verb → ℕ → Number
told_number (Delete f key given generic) k = Numrec k
told_number _ k = Item k

-- an answer as the task is told it, with this number, and no more of the content than LENGTH
abbrev pub reply_with : Option ℕ → Option Number → Answer → Reply
reply_with n number a = cut n (record { condition = a.condition; key = None; content = a.content; number = number })

-- an answer to a command as its task is told it
abbrev pub reply_of : Verb → Answer → Reply
reply_of verb a = reply_with (length_of verb) (option_map (told_number verb) a.number) a

-- ---- Waiting

-- NOSUSPEND answers a wait at once: READQ TD by QBUSY, ENQ by ENQBUSY
abbrev pub busy_of : Verb → Option Condition
busy_of (ReadqTd q n nosuspend) = if nosuspend then Some Qbusy else None
busy_of (Enq value n nosuspend) = if nosuspend then Some Enqbusy else None
busy_of _ = None

-- a command that must wait joins the waits, last of all, and nothing of it is executed; the outcome
-- names the task of the blocker, which is the unit holder
abbrev pub suspended : Machine → Task → Command → Option Op → ℕ → Stepped Outcome
suspended m t c o holder =
    record {
      outcome = Waiting (label_of m.tasks holder);
      machine = with_waiting m (m.waiting ++ record { label = t.label; command = c; op = o; since = m.clock } ∷ []);
    }

-- a command that must wait is suspended, or with NOSUSPEND answered
abbrev pub made_to_wait : Machine → Task → Command → Option Op → ℕ → Option Condition → Stepped Outcome
made_to_wait m t c o holder None = suspended m t c o holder
made_to_wait m t c o holder (Some busy) = answered m t c.resp (plain busy)

-- ---- Updating commands

-- DELETE deletes the record of RIDFLD, or with GENERIC each whose key begins with it; without
-- RIDFLD the one that was read for update
abbrev pub delete_op : Bytes → Option Bytes → Bool → Option Bytes → Option Op
delete_op f (Some key) generic open_read = Some (if generic then op.DeleteGeneric f key else op.Delete f key)
delete_op f None generic open_read = option_map (λ key. op.Delete f key) open_read

-- WRITEQ TS adds an item, or with REWRITE replaces the item of the number
abbrev pub ts_write_op : Bytes → Bytes → Option ℕ → Op
ts_write_op q from None = op.TsWrite q from
ts_write_op q from (Some item) = op.TsRewrite q item from

-- the updating command on a queue that a command asks for
abbrev pub queue_op : Verb → Option Op
queue_op (WriteqTs q from n item) = Some (ts_write_op q (used_of from n) item)
queue_op (DeleteqTs q) = Some (op.TsDelete q)
queue_op (WriteqTd q from n) = Some (op.TdWrite q (used_of from n))
queue_op (ReadqTd q n nosuspend) = Some (op.TdRead q)
queue_op (DeleteqTd q) = Some (op.TdDelete q)
queue_op _ = None

-- the updating command that a command asks for, if any; open_read is the key of its task's open
-- update read of its file
abbrev pub asked_op : Option Bytes → Verb → Option Op
asked_op open_read (Read f key given n generic gteq update) = if update then Some (op.ReadUpdate f key) else None
asked_op open_read (Write f key given from n) = Some (op.Write f key (used_of from n))
asked_op open_read (Rewrite f from n) = option_map (λ key. op.Rewrite f key (used_of from n)) open_read
asked_op open_read (Delete f key given generic) = delete_op f key generic open_read
asked_op open_read verb = queue_op verb

-- the key of the task's open update read of the file that is named, if one is named
abbrev pub key_read : Machine → Task → Option Bytes → Option Bytes
key_read m t None = None
key_read m t (Some f) = open_key m t f

-- the updating command that a task's command asks for
abbrev pub op_of : Machine → Task → Verb → Option Op
op_of m t verb = asked_op (key_read m t (file_named verb)) verb

-- an updating command waits, or is executed, whatever it is answered; its task then has the unit
-- that executed it
abbrev pub executed : Machine → Task → Command → Op → Done → Stepped Outcome
executed m t c o (MustWait holder) = made_to_wait m t c (Some o) holder (busy_of c.verb)
executed m t c o (Answered unit a) =
    let owner = with_unit t unit in
    answered (with_task (with_units m (after_execution m.units t.unit o)) owner) owner c.resp (reply_of c.verb a)

-- ---- Enqueues

-- ENQ waits, or acquires its value for the task's unit, which it may begin; it is INVREQ if the
-- unit owns the value the most times that a count allows
abbrev pub enqueued : Machine → Task → Command → Bytes → Enqueued → Stepped Outcome
enqueued m t c value (EnqMustWait holder) = made_to_wait m t c None holder (busy_of c.verb)
enqueued m t c value CountFull = answered m t c.resp (plain Invreq)
enqueued m t c value (Taken unit) =
    let owner = with_unit t unit in
    answered (with_task (with_units m (after_enqueue m.units t.unit value)) owner) owner c.resp (plain Normal)

-- the units after a task's unit has released a value once; a task without a unit changes none
abbrev pub units_dequeued : UnitsState → Option ℕ → Bytes → UnitsState
units_dequeued s None value = s
units_dequeued s (Some u) value = after_dequeue s u value

-- DEQ releases the value once; a task without a unit owns none
abbrev pub dequeued : Machine → Option ℕ → Bytes → Machine
dequeued m unit value = with_units m (units_dequeued m.units unit value)

-- ---- Files: plain READ, UNLOCK and browses

-- UNLOCK ends the update read of the file; a task without a unit has none
abbrev pub unlocked : Machine → Option ℕ → Bytes → Machine
unlocked m None f = m
unlocked m (Some u) f = with_units m (after_unlock m.units u f)

-- a read of a browse as the task is told it
abbrev pub browse_reply : Browsed → Reply
browse_reply b = record { condition = b.condition; key = b.key; content = b.content; number = None }

-- the task with a browse of the file at this position
abbrev pub with_browse : Task → Bytes → Position → Task
with_browse t f p = with_browses t (with_value f p t.browses)

-- STARTBR opens a browse if it finds its start, else it is NOTFND
abbrev pub started : Machine → Task → Bool → Bytes → Bytes → Bool → Bool → Stepped Outcome
started m t resp f key generic equal =
    let owner = with_browse t f (start_at key generic) in
    if finds_start (records_in m f) key generic equal
    then answered (with_task m owner) owner resp (plain Normal)
    else answered m t resp (plain Notfnd)

-- RESETBR moves the browse to another position; if it finds no start there, the browse stays
abbrev pub reset : Machine → Task → Bool → Bytes → Bytes → Bool → Bool → Option Position → Stepped Outcome
reset m t resp f key generic equal None = answered m t resp (plain Invreq)
reset m t resp f key generic equal (Some p) =
    let owner = with_browse t f (after_reset (records_in m f) p key generic equal) in
    answered (with_task m owner) owner resp (plain (reset_condition (records_in m f) key generic equal))

-- READNEXT and READPREV give a record of the file as it is now, and move the browse to it
abbrev pub browsed : Machine → Task → Bool → Bytes → Option ℕ → Option Position → (Position → Browsed) → (Position → Position) → Stepped Outcome
browsed m t resp f n None given after = answered m t resp (plain Invreq)
browsed m t resp f n (Some p) given after =
    let owner = with_browse t f (after p) in
    answered (with_task m owner) owner resp (cut n (browse_reply (given p)))

-- ENDBR ends the browse
abbrev pub browse_ended : Machine → Task → Bool → Bytes → Stepped Outcome
browse_ended m t resp f = let owner = with_browses t (without f t.browses) in answered (with_task m owner) owner resp (plain Normal)

-- ---- Temporary storage: READQ TS

-- READQ TS gives an item and moves the cursor NEXT to it
abbrev pub ts_read : Machine → Task → Bool → Bytes → Option ℕ → ℕ → Stepped Outcome
ts_read m t resp q n item = answered (with_units m (after_ts_reading m.units q item)) t resp (reply_of (ReadqTs q n (Some item)) (ts_reading m.units q item))

-- ---- The commands

-- the code of an ABEND, ???? without ABCODE
abbrev pub code_of : Option Bytes → AbendCode
code_of None = no_code
code_of (Some code) = record { 0 = code }

-- ABEND ends the task with its code
abbrev pub abended_with : Machine → Task → AbendCode → Stepped Outcome
abended_with m t code = record { outcome = Abended code None; machine = abended m t }

-- a command that asks for no updating command; the last case is a REWRITE or DELETE without an
-- update read, which its checks have answered before
abbrev pub other_command : Machine → Task → Command → Verb → Stepped Outcome
other_command m t c (Read f key given n generic gteq update) = answered m t c.resp (cut n (read_reply (records_in m f) key generic gteq))
other_command m t c (Unlock f) = answered (unlocked m t.unit f) t c.resp (plain Normal)
other_command m t c (StartBr f key given generic equal) = started m t c.resp f key generic equal
other_command m t c (ResetBr f key given generic equal) = reset m t c.resp f key generic equal (value_at f t.browses)
other_command m t c (ReadNext f n) = browsed m t c.resp f n (value_at f t.browses) (read_next (records_in m f)) (after_next (records_in m f))
other_command m t c (ReadPrev f n) = browsed m t c.resp f n (value_at f t.browses) (read_prev (records_in m f)) (after_prev (records_in m f))
other_command m t c (EndBr f) = browse_ended m t c.resp f
other_command m t c (ReadqTs q n item) = ts_read m t c.resp q n (item_asked m.units q item)
other_command m t c (Enq value n nosuspend) = enqueued m t c (take n value) (enqueue m.units t.unit (take n value))
other_command m t c (Deq value n) = answered (dequeued m t.unit (take n value)) t c.resp (plain Normal)
other_command m t c Syncpoint = record { outcome = Replied (plain Normal); machine = unit_closed m t Committed false }
other_command m t c Rollback = record { outcome = Replied (plain Normal); machine = unit_closed m t BackedOut false }
other_command m t c Return = record { outcome = Ended; machine = unit_closed m t Committed true }
other_command m t c (Abend code) = abended_with m t (code_of code)
other_command m t c _ = answered m t c.resp (plain Invreq)

-- a command with an updating command executes it, or waits; one without is executed by
-- other_command
abbrev pub by_op : Machine → Task → Command → Option Op → Stepped Outcome
by_op m t c (Some o) = executed m t c o (execution m.units t.unit o)
by_op m t c None = other_command m t c c.verb

-- a command whose checks have passed waits, or is executed and answered
abbrev pub performed : Machine → Task → Command → Stepped Outcome
performed m t c = by_op m t c (op_of m t c.verb)

-- a command is answered by its first fault, or performed
abbrev pub checked : Machine → Task → Command → Option Condition → Stepped Outcome
checked m t c (Some fault) = answered m t c.resp (plain fault)
checked m t c None = performed m t c

-- a command is refused, in this order, if its label is no task's, its task has ended, or a command
-- of its task waits
abbrev pub issue_refusal : Machine → Option Task → Option Refused
issue_refusal m None = Some NoTask
issue_refusal m (Some t) = if t.has_ended then Some TaskEnded else if is_waiting m.waiting t.label then Some TaskWaiting else None

-- an event that is refused leaves the region as it was; else it is Ok
abbrev pub refused_or : {X : Type 0} → Machine → Option Refused → Stepped X → Stepped (Result X Refused)
refused_or m (Some refusal) next = record { outcome = Err refusal; machine = m }
refused_or m None next = record { outcome = Ok next.outcome; machine = next.machine }

-- a command of a task is refused, or checked and performed; without a task it is NoTask
abbrev pub issued_by : Machine → Command → Option Task → Stepped (Result Outcome Refused)
issued_by m c None = record { outcome = Err NoTask; machine = m }
issued_by m c (Some t) = refused_or m (issue_refusal m (Some t)) (checked m t c (fault_of m t c.verb))

-- a command of a label's task is refused, or checked and performed
abbrev pub issued : Machine → Bytes → Command → Stepped (Result Outcome Refused)
issued m label c = issued_by m c (task_at m.tasks label)

-- ---- ATTACH

-- a task begins without a unit or a browse
abbrev pub new_task : Bytes → ℕ → Task
new_task label dtimout = record { label = label; dtimout = dtimout; unit = None; browses = []; has_ended = false }

-- a label stays that of its task, also once the task has ended
abbrev pub attach_refusal : Machine → Bytes → Option Refused
attach_refusal m label = if is_some (task_at m.tasks label) then Some DuplicateLabel else None

-- the region with a new task, last of all
abbrev pub with_new_task : Machine → Bytes → ℕ → Machine
with_new_task m label dtimout = record m { tasks = m.tasks ++ new_task label dtimout ∷ [] }

-- ATTACH is refused, or begins a task
abbrev pub attached : Machine → Bytes → ℕ → Stepped (Result (Unit {0}) Refused)
attached m label dtimout = refused_or m (attach_refusal m label) (record { outcome = tt; machine = with_new_task m label dtimout })
