-- Turns. A task gives its lines in turns: a turn begins with a line, and ends with SYNCPOINT or
-- with the task. In a serial order no other task gives a line within a turn, and no SHUTDOWN comes.
use Rattle.std.specs.Prelude.{ℕ, zero, suc, Bool, true, false, not, ◌&&◌, ◌||◌, ◌==◌, List, Option, Some, None, is_some, Result, Ok, slice_get}
use Rattle.std.specs.List.{list_any}
use Rattle.cics_names.specs.Keyed.{Bytes}
use Rattle.cics_names.specs.declared.commands.Verb.{Verb}
use Rattle.cics_names.specs.declared.commands.Verb.TheVariants.{Syncpoint, Rollback}
use Rattle.cics_dispatch.specs.Machine.Machine.{Machine}
use Rattle.cics_dispatch.specs.Machine.Blockers.{unit_of}
use Rattle.cics_dispatch.specs.Machine.Events.{task_ended}
use Rattle.cics_script.specs.declared.lines.Line.{Line}
use Rattle.cics_script.specs.declared.lines.Line.TheVariants.{Issue, Shutdown}
use Rattle.cics_script.specs.declared.faults.LineFault.{LineFault}
use Rattle.cics_orders.specs.Space.Orders.{numbered_from}
use Rattle.cics_orders.specs.Plans.Taking.{NumberedLine}
use Rattle.cics_orders.specs.Giving.{State, said_at, next_said}
use Rattle.cics_orders.specs.declared.lanes.Lane.{Lane}

-- SYNCPOINT, also with ROLLBACK
abbrev pub is_syncpoint : Verb → Bool
is_syncpoint Syncpoint = true
is_syncpoint Rollback = true
is_syncpoint _ = false

-- a line that ends its task's turn
abbrev pub ends_turn : Result Line LineFault → Bool
ends_turn (Ok (Issue label command)) = is_syncpoint command.verb
ends_turn _ = false

-- what the line says that was given last, if so many were
abbrev pub last_said : List NumberedLine → ℕ → Option (Result Line LineFault)
last_said lines zero = None
last_said lines (suc n) = said_at lines n

-- such a line is there, and didn't end a turn
abbrev pub goes_on : Option (Result Line LineFault) → Bool
goes_on None = false
goes_on (Some says) = not (ends_turn says)

-- the task of a label has not ended, and it has an open unit or a line left
abbrev pub is_unfinished : Machine → Lane → Option Bytes → Bool
is_unfinished m lane None = false
is_unfinished m lane (Some label) = not (task_ended m label) && (is_some (unit_of m label) || is_some (slice_get lane.lines lane.given))

-- The task of a lane is within a turn: the last line that it gave didn't end its turn, it has not
-- ended, and it has an open unit or a line left. The clock never is.
abbrev pub is_in_turn : Machine → Lane → Bool
is_in_turn m lane = goes_on (last_said lane.lines lane.given) && is_unfinished m lane lane.label

-- the lanes whose tasks are within a turn
abbrev pub turns : State → List ℕ
turns s = numbered_from (is_in_turn s.machine) s.lanes 0

-- A line that interrupts the turns of others: a command, or SHUTDOWN. The clock may be set at any
-- time.
abbrev pub interrupts : Option (Result Line LineFault) → Bool
interrupts (Some (Ok (Issue label command))) = true
interrupts (Some (Ok Shutdown)) = true
interrupts _ = false

-- a lane breaks a turn: its next line is a command or SHUTDOWN, and the task of another lane is
-- within a turn
unfoldable pub breaks : State → ℕ → Bool
breaks s l = interrupts (next_said s.lanes l) && list_any (λ k. not (k == l)) (turns s)
