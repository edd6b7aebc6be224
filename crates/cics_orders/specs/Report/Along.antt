-- The lines of an order: each lane gives the next of its own.
use Rattle.std.specs.Prelude.{ℕ, ◌+◌, List, [], ◌∷◌, ◌++◌, length, replicate, get_or, Option, Some, None, slice_get, slice_set}
use Rattle.std.specs.List.{fold}
use Rattle.cics_orders.specs.Space.Orders.{Order}
use Rattle.cics_orders.specs.Plans.Taking.{NumberedLine}
use Rattle.cics_orders.specs.declared.plans.plans.Plan.{Plan}
use Rattle.cics_orders.specs.declared.plans.plans.TaskPlan.{TaskPlan}

-- how many lines each lane has given, and these lines
abbrev pub Along : Type 0
Along = List ℕ × List NumberedLine

-- the lines of a task, or without one the clock's
abbrev pub lines_of : List NumberedLine → Option TaskPlan → List NumberedLine
lines_of clock (Some task) = task.lines
lines_of clock None = clock

-- the lines of a lane: those of its task, or behind the tasks the clock's
abbrev pub lane_lines : Plan → ℕ → List NumberedLine
lane_lines p l = lines_of p.clock (slice_get p.tasks l)

-- the next line of a lane is added, if it has one left
abbrev pub with_next : Along → ℕ → Option NumberedLine → Along
with_next a l None = a
with_next a l (Some next) = (slice_set a.0 l (get_or a.0 l 0 + 1), a.1 ++ next ∷ [])

-- a lane gives its next line
abbrev pub given_more : Plan → Along → ℕ → Along
given_more p a l = with_next a l (slice_get (lane_lines p l) (get_or a.0 l 0))

-- no lane has given a line
abbrev pub initial_along : Plan → Along
initial_along p = (replicate (length p.tasks + 1) 0, [])

-- the lines of an order
abbrev pub lines_along : Plan → Order → List NumberedLine
lines_along p o = (fold (given_more p) (initial_along p) o).1
