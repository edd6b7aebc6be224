-- The order as written: the lines of the script, one after the other, but for those that its plain
-- run refuses.
use Rattle.std.specs.Prelude.{ℕ, ◌==◌, if◌then◌else◌, List, [], ◌∷◌, length, Option, None, Some, option_map, option_and_then, slice_get}
use Rattle.cics_dispatch.specs.Machine.Machine.{Machine}
use Rattle.cics_orders.specs.Space.Orders.{Order, after, is_none_left}
use Rattle.cics_orders.specs.Plans.Taking.{WrittenLine}
use Rattle.cics_orders.specs.declared.plans.plans.Plan.{Plan}
use Rattle.cics_orders.specs.declared.lanes.Lane.{Lane}
use Rattle.cics_orders.specs.Giving.{State, lanes, givers, given, is_ready}

-- the number of a task's lane, or of the clock's, which is the last
abbrev pub lane_of : Plan → Option ℕ → ℕ
lane_of p None = length p.tasks
lane_of p (Some l) = l

-- the number of the line that a lane may give
abbrev pub line_ready : Machine → Lane → Option ℕ
line_ready m lane = if is_ready m lane.label then option_map (λ next. next.0) (slice_get lane.lines lane.given) else None

-- the number of the line that the lane of a number may give
abbrev pub next_number : State → ℕ → Option ℕ
next_number s l = option_and_then (line_ready s.machine) (slice_get s.lanes l)

-- A line of lane `l` with the number `n`. If the lane may not give, the plain run refuses the line,
-- and it is passed over. If it is the lane's next line, it is taken. Else there is no such order.
abbrev pub line_taken : ℕ → ℕ → Option ℕ → Option Order → Option Order → Option Order
line_taken l n None passed taken = passed
line_taken l n (Some next) passed taken = if next == n then option_map (λ o. l ∷ o) taken else None

-- The order as written from a state on, over the lines that are left of the script. There is none
-- if a lane may give at the end.
unfoldable pub written : State → List WrittenLine → Option Order
written s [] = if is_none_left (givers s 0) then Some [] else None
written s (next ∷ rest) =
    let l = lane_of s.plan next.0 in line_taken l next.1 (next_number s l) (written s rest) (written (given s l) rest)

-- the state after that order
abbrev pub written_to : State → List WrittenLine → Option State
written_to s rest = option_map (λ o. after lanes s o) (written s rest)

-- the state after the order as written, from the first line of a script on
abbrev pub as_written : State → Option State
as_written s = written_to s s.plan.written
