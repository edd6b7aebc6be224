-- Worked examples of tasks: refusals, enqueues on values, the clock, and the order in which waiting
-- commands resume.
use Rattle.std.specs.Prelude.{◌≡◌, true, false, None, Ok, List, [], ◌∷◌, ◌++◌, refl}
use Rattle.cics_names.specs.Keyed.{Bytes}
use Rattle.cics_names.specs.declared.conditions.Condition.TheVariants.{Normal, Dsiderr, Invreq, Lengerr, Enqbusy, Qiderr}
use Rattle.cics_history.specs.Openings.{with_record}
use Rattle.cics_units.specs.declared.replay.listings.TaskState.TheVariants.{Idle, HasUnit}
use Rattle.cics_dispatch.specs.Machine.Machine.{Machine, timed_out}
use Rattle.cics_dispatch.specs.Machine.Steps.{issued}
use Rattle.cics_dispatch.specs.Machine.Answers.{tasks_listed, may_want}
use Rattle.cics_names.specs.declared.commands.Verb.{Verb}
use Rattle.cics_names.specs.declared.commands.Verb.TheVariants.{Enq, Deq, Unlock, WriteqTd, Syncpoint, Rollback, Return}
use Rattle.cics_dispatch.specs.declared.machine.outcomes.Outcome.{Outcome}
use Rattle.cics_dispatch.specs.declared.machine.outcomes.Outcome.TheVariants.{Waiting, Ended}
use Rattle.cics_dispatch.specs.declared.machine.outcomes.Refused.TheVariants.{NoTask, TaskWaiting, TaskEnded, DuplicateLabel, ClockBack, RegionDown}
use Rattle.cics_dispatch.proofs.OfMachine.Examples.{acct, log, t1, t2, t3, label, key_1, key_2, key_3, record_1, record_2, record_3, both_files, files_and_queues, read, read_update, write, delete, replied, abend}
use Rattle.cics_dispatch.proofs.OfMachine.Journal.{Event, journal, at_end, left}
use Rattle.cics_dispatch.proofs.OfMachine.Journal.Event.{attaches, does, asks, clock, shuts}
use Rattle.cics_dispatch.proofs.OfMachine.Journal.Line.{began, told, refused, ticked, stopped, down, woke, late}

abbrev normal : Outcome
normal = replied Normal

-- ---- Refusals

refusals : journal both_files (does t1 Return ∷ does t1 Syncpoint ∷ does (label 0xF9) Syncpoint ∷ attaches t1 0 ∷ clock 7 ∷ clock 6 ∷ []) ≡ told t1 Ended ∷ refused t1 TaskEnded ∷ refused (label 0xF9) NoTask ∷ refused t1 DuplicateLabel ∷ ticked 7 ∷ stopped ClockBack ∷ []
refusals = refl

only_t2 : tasks_listed (at_end both_files (does t1 Return ∷ [])) ≡ (t2, Idle) ∷ []
only_t2 = refl

-- conditions of checks, abended and handled
faults : journal files_and_queues (does t1 (read t3 key_1) ∷ asks t2 (WriteqTd t3 [] None) ∷ asks t2 (write acct key_2 record_3) ∷ asks t2 (read acct (0xF0 ∷ [])) ∷ []) ≡ told t1 (abend 0xC9 0xD3 Dsiderr) ∷ told t2 (replied Qiderr) ∷ told t2 (replied Invreq) ∷ told t2 (replied Invreq) ∷ []
faults = refl

-- ---- Enqueues on values

abbrev x : Bytes
x = 0xE7 ∷ []

abbrev enq : Verb
enq = Enq x 1 false

abbrev deq : Verb
deq = Deq x 1

-- a value that was enqueued on twice is free after two DEQ; a task that waits is given no other
-- command
counted : journal both_files (does t1 enq ∷ does t1 enq ∷ does t2 (Enq x 1 true) ∷ does t1 deq ∷ does t2 enq ∷ does t2 Syncpoint ∷ does t1 deq
    ∷ does t1 deq ∷ []) ≡ told t1 normal ∷ told t1 normal ∷ told t2 (replied Enqbusy) ∷ told t1 normal ∷ told t2 (Waiting t1) ∷ refused t2 TaskWaiting
    ∷ told t1 normal ∷ woke t2 normal ∷ told t1 normal ∷ []
counted = refl

counted_tasks : tasks_listed (at_end both_files (does t1 enq ∷ does t1 deq ∷ does t2 deq ∷ [])) ≡ (t1, HasUnit) ∷ (t2, Idle) ∷ []
counted_tasks = refl

-- the unit's end frees a value, however often it was enqueued on
freed_by_end : journal both_files (does t1 enq ∷ does t1 enq ∷ does t2 enq ∷ does t1 Rollback ∷ []) ≡ told t1 normal ∷ told t1 normal ∷ told t2 (Waiting t1) ∷ told t1 normal ∷ woke t2 normal ∷ []
freed_by_end = refl

-- LENGTH is 1 to 255 and within the literal, and the first bytes are the value
lengths : journal both_files (asks t1 (Enq x 0 false) ∷ asks t1 (Enq x 2 false) ∷ asks t1 (Deq x 2) ∷ does t1 (Enq (x ++ x) 1 false) ∷ does t2 enq ∷ []) ≡ told t1 (replied Lengerr) ∷ told t1 (replied Lengerr) ∷ told t1 (replied Lengerr) ∷ told t1 normal ∷ told t2 (Waiting t1) ∷ []
lengths = refl

-- ---- Waiting

-- the commands resume in the order in which their waits began
in_turn : journal (with_record both_files acct record_2) (
    attaches t3 0 ∷ does t1 (delete acct key_1) ∷ does t1 (delete acct key_2) ∷ does t3 (write acct key_2 record_2) ∷ does t2 (write acct key_1 record_1) ∷ does t1 Syncpoint ∷ []
    ) ≡ began t3 ∷ told t1 normal ∷ told t1 normal ∷ told t3 (Waiting t1) ∷ told t2 (Waiting t1) ∷ told t1 normal ∷ woke t3 normal ∷ woke t2 normal ∷ []
in_turn = refl

-- a wait that began at 10 with DTIMOUT 3 is over at 13; the task's unit is backed out, and the
-- record that it owned is free
timed : journal (with_record both_files acct record_2) (
    attaches t3 3 ∷ does t1 (delete acct key_1) ∷ does t3 (delete acct key_2) ∷ clock 10 ∷ does t3 (delete acct key_1) ∷ clock 12 ∷ clock 13 ∷ does t2 (delete acct key_2) ∷ does t3 Syncpoint ∷ []
    ) ≡ began t3 ∷ told t1 normal ∷ told t3 normal ∷ ticked 10 ∷ told t3 (Waiting t1) ∷ ticked 12 ∷ ticked 13 ∷ late t3 timed_out ∷ told t2 normal ∷ refused t3 TaskEnded ∷ []
timed = refl

-- a newly issued command looks at the owners alone, so it may pass one that waits
abbrev held : Machine
held = at_end (with_record both_files log record_1) (attaches t3 0 ∷ does t1 (read_update log key_1) ∷ does t2 (delete log key_1) ∷ [])

abbrev let_go : Machine
let_go = (issued held t1 (record { verb = Unlock log; resp = false })).machine

passed : (issued let_go t3 (record { verb = delete log key_1; resp = false })).outcome ≡ Ok normal
passed = refl

-- ---- Memory: a command may want it once its checks have passed, and never if it only releases
-- something

wants : may_want held t1 (record { verb = write acct key_2 record_2; resp = false }) ≡ true
wants = refl

wants_not_faulty : may_want held t1 (record { verb = write acct key_1 record_2; resp = false }) ≡ false
wants_not_faulty = refl

wants_not_waiting : may_want held t2 (record { verb = write acct key_2 record_2; resp = false }) ≡ false
wants_not_waiting = refl

wants_not_return : may_want held t1 (record { verb = Return; resp = false }) ≡ false
wants_not_return = refl

-- ---- Shutdown

-- the open units are backed out, no command resumes, and every event is refused from then on
abbrev shut : List Event
shut =
    does t1 (write acct key_2 record_2) ∷ does t2 (write acct key_3 record_3) ∷ does t1 (write acct key_3 record_3) ∷ shuts ∷ attaches t1 0
    ∷ does t1 Return ∷ clock 9 ∷ shuts ∷ []

shut_journal : journal both_files shut ≡ told t1 normal ∷ told t2 normal ∷ told t1 (Waiting t2) ∷ down 2 ∷ refused t1 RegionDown ∷ refused t1 RegionDown ∷ stopped RegionDown ∷ stopped RegionDown ∷ []
shut_journal = refl

shut_tasks : tasks_listed (at_end both_files shut) ≡ []
shut_tasks = refl

shut_left : (left both_files shut).files ≡ (left both_files []).files
shut_left = refl

-- a shutdown counts the units that are open, and not the tasks
shut_idle : journal both_files (does t1 (write acct key_2 record_2) ∷ does t1 Syncpoint ∷ does t2 Return ∷ shuts ∷ []) ≡ told t1 normal ∷ told t1 normal ∷ told t2 Ended ∷ down 0 ∷ []
shut_idle = refl
