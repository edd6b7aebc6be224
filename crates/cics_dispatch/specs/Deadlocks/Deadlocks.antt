-- The deadlocks of a region: tasks that wait for each other, each directly or through others. One
-- circle of each is told.
use Rattle.std.specs.Prelude.{◌≡◌, ℕ, zero, suc, ◌+◌, Bool, is_some, if◌then◌else◌, Option, option_and_then, unwrap_or, option_map, map, length, Contains, List, [], ◌∷◌, ◌++◌}
use Rattle.std.specs.List.{filter_map}
use Rattle.cics_names.specs.Keyed.{Bytes}
use Rattle.cics_dispatch.specs.Machine.Machine.{Machine}
use Rattle.cics_dispatch.specs.Machine.Blockers.{blocker_of, blockers_of, label_at, number_of}
use Rattle.cics_dispatch.specs.Deadlocks.Searches.{Graph, circles, led_back}
use Rattle.cics_dispatch.specs.Deadlocks.Circles.{IsCircle, IsCircleOf, Leads}

-- the numbers of the tasks that block the task of a number now
abbrev pub blockers_at : Machine → ℕ → List ℕ
blockers_at m number =
    filter_map (number_of m.tasks) (unwrap_or (option_map (blockers_of m) (label_at m.tasks number)) [])

-- the blockers of the tasks below a number
abbrev pub waits_below : Machine → ℕ → Graph
waits_below m zero = []
waits_below m (suc n) = waits_below m n ++ blockers_at m n ∷ []

-- the blockers of each task
abbrev pub waits_of : Machine → Graph
waits_of m = waits_below m (length m.tasks)

-- a task is blocked by another one
abbrev pub is_blocked : Machine → ℕ → Bool
is_blocked m number = is_some (option_and_then (blocker_of m) (label_at m.tasks number))

-- how many of the tasks below a number are blocked
abbrev pub blocked_below : Machine → ℕ → ℕ
blocked_below m zero = 0
blocked_below m (suc n) = blocked_below m n + (if is_blocked m n then 1 else 0)

-- how many tasks are blocked
abbrev pub waiting_count : Machine → ℕ
waiting_count m = blocked_below m (length m.tasks)

-- the labels of tasks
abbrev pub labels_of : Machine → List ℕ → List Bytes
labels_of m numbers = filter_map (label_at m.tasks) numbers

-- of each deadlock the labels of a circle, in the order of their first tasks. It is the shortest
-- way of steps from the first task of the deadlock back to it
abbrev pub deadlocks : Machine → List (List Bytes)
deadlocks m = map (labels_of m) (circles (waits_of m))

-- of each task, by its number, whether it is in a deadlock: steps lead back to it
abbrev pub in_deadlock : Machine → List Bool
in_deadlock m = led_back (waits_of m)

-- labels are those of a circle of blocked tasks, told from the first task of its deadlock on
pub record IsDeadlock (m : Machine) (labels : List Bytes) : Type 0 where
  pub numbers : List ℕ
  pub circle : IsCircle (blockers_at m) numbers
  pub told : labels ≡ labels_of m numbers

-- these circles have one of the deadlock of a task
pub record IsTold (m : Machine) (found : List (List Bytes)) (task : ℕ) : Type 0 where
  pub first : ℕ
  pub others : List ℕ
  pub same : IsCircleOf (blockers_at m) task first
  pub circle : Contains found (labels_of m (first ∷ others))
