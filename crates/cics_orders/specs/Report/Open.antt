-- Which tasks may leave their unit open: in a serial order no other task gives behind such a unit.
use Rattle.std.specs.Prelude.{ℕ, Bool, true, false, ◌||◌, if◌then◌else◌, List, [], ◌∷◌, ◌++◌, Result, Ok, codes}
use Rattle.cics_names.specs.Keyed.{Bytes}
use Rattle.cics_names.specs.declared.commands.Verb.{Verb}
use Rattle.cics_names.specs.declared.commands.Verb.TheVariants.{Read, Write, Rewrite, Delete, WriteqTs, DeleteqTs, WriteqTd, ReadqTd, DeleteqTd, Enq, Return, Abend}
use Rattle.cics_script.specs.Lines.{line}
use Rattle.cics_script.specs.Texts.{bare}
use Rattle.cics_script.specs.declared.lines.Line.{Line}
use Rattle.cics_script.specs.declared.lines.Line.TheVariants.{Issue}
use Rattle.cics_script.specs.declared.faults.LineFault.{LineFault}
use Rattle.cics_orders.specs.Plans.Taking.{NumberedLine}
use Rattle.cics_orders.specs.Turns.{is_syncpoint}
use Rattle.cics_orders.specs.declared.plans.plans.TaskPlan.{TaskPlan}

-- a verb that may begin a unit of work
abbrev pub may_begin : Verb → Bool
may_begin (Read f key given n generic gteq update) = update
may_begin (Write f key given from n) = true
may_begin (Rewrite f from n) = true
may_begin (Delete f key given generic) = true
may_begin (WriteqTs q from n item) = true
may_begin (DeleteqTs q) = true
may_begin (WriteqTd q from n) = true
may_begin (ReadqTd q n nosuspend) = true
may_begin (DeleteqTd q) = true
may_begin (Enq value n nosuspend) = true
may_begin _ = false

-- RETURN and ABEND
abbrev pub is_ending : Verb → Bool
is_ending Return = true
is_ending (Abend code) = true
is_ending _ = false

-- a line that ends its task
abbrev pub ends_task : Result Line LineFault → Bool
ends_task (Ok (Issue label command)) = is_ending command.verb
ends_task _ = false

-- a unit may be open behind a line: not behind SYNCPOINT, and else if it may before, or the line
-- may begin one
abbrev pub may_be_open : Bool → Result Line LineFault → Bool
may_be_open before (Ok (Issue label command)) = if is_syncpoint command.verb then false else before || may_begin command.verb
may_be_open before _ = before

-- lines may leave a unit open, by whether one may be before them; none is left if one of them ends
-- the task
abbrev pub may_leave : Bool → List NumberedLine → Bool
may_leave before [] = before
may_leave before (next ∷ lines) = if ends_task (line next.1) then false else may_leave (may_be_open before (line next.1)) lines

-- that a task may leave its unit open
unfoldable pub open_words : List ℕ
open_words = codes " MAY LEAVE ITS UNIT OPEN\n"

-- the line on a task of this label that may leave its unit open
abbrev pub label_text : Bytes → List ℕ
label_text label = codes "TASK " ++ (bare label ++ open_words)

-- the line on a task, if it may
abbrev pub open_text : TaskPlan → List ℕ
open_text task = if may_leave false task.lines then label_text task.label else []
