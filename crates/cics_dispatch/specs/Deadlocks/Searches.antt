-- A graph of tasks, in which a step leads from each task to those that it waits for. What a search
-- from a task finds.
use Rattle.std.specs.Prelude.{ℕ, zero, suc, ◌+◌, ◌==◌, nat_eq, nat_lt, map, Bool, false, not, ◌&&◌, if◌then◌else◌, Option, Some, None, option_map, unwrap_or, slice_get, length, reverse, List, [], ◌∷◌, ◌++◌}
use Rattle.std.specs.List.{list_any}
use Rattle.cics_dispatch.specs.declared.deadlocks.searches.Found.{Found}

-- a graph: at the number of each task the numbers of those that it waits for
abbrev pub Graph : Type 0
Graph = List (List ℕ)

-- the tasks to which one step leads
abbrev pub steps : Graph → ℕ → List ℕ
steps g at = unwrap_or (slice_get g at) []

-- a search begins at a task. What it finds has the index of the task from which a step led there
abbrev pub begun : ℕ → List Found
begun first = record { task = first; from = 0 } ∷ []

-- the tasks that were found
abbrev pub tasks : List Found → List ℕ
tasks found = map (λ f. f.task) found

-- a task is among these
abbrev pub is_among : ℕ → List Found → Bool
is_among b found = list_any (nat_eq b) (tasks found)

-- a search has found a task. The first counts only if a step led back to it
abbrev pub has_found : List Found → ℕ → Bool
has_found [] b = false
has_found (first ∷ rest) b = is_among b rest

-- with a task to which a step leads, unless it was found before
abbrev pub with_step : ℕ → ℕ → List Found → ℕ → List Found
with_step n from found b = if nat_lt b n && not (has_found found b) then found ++ record { task = b; from = from } ∷ [] else found

-- with all tasks to which a step leads from the one at an index
abbrev pub with_steps : ℕ → ℕ → List Found → List ℕ → List Found
with_steps n from found [] = found
with_steps n from found (b ∷ bs) = with_steps n from (with_step n from found b) bs

-- the search goes on with the steps from the task at an index, if there is one
abbrev pub search_on : (List Found → List Found) → Graph → ℕ → List Found → Option Found → List Found
search_on further g at found None = found
search_on further g at found (Some f) = further (with_steps (length g) at found (steps g f.task))

-- the search goes on from an index, for at most so many tasks
abbrev pub searched : Graph → ℕ → ℕ → List Found → List Found
searched g zero at found = found
searched g (suc n) at found = search_on (searched g n (at + 1)) g at found (slice_get found at)

-- all that a search from a task finds, nearest first
abbrev pub search : Graph → ℕ → List Found
search g first = searched g (length g + 1) 0 (begun first)

-- one step or more lead from a task to another
abbrev pub leads : Graph → ℕ → ℕ → Bool
leads g a b = has_found (search g a) b

-- ---- The way back

-- the index of a task among these, the first of which has this index
abbrev pub index_from : ℕ → List Found → ℕ → ℕ
index_from at [] b = at
index_from at (f ∷ fs) b = if f.task == b then at else index_from (at + 1) fs b

-- the index at which a search has found a task
abbrev pub index_of : List Found → ℕ → ℕ
index_of [] b = 0
index_of (first ∷ rest) b = index_from 1 rest b

-- the task at an index
abbrev pub task_at : List Found → ℕ → ℕ
task_at found at = unwrap_or (option_map (λ f. f.task) (slice_get found at)) 0

-- the index from which the task at an index was found
abbrev pub from_at : List Found → ℕ → ℕ
from_at found at = unwrap_or (option_map (λ f. f.from) (slice_get found at)) 0

-- the tasks from which steps led to the one at an index, last to first
abbrev pub led_to : List Found → ℕ → ℕ → List ℕ
led_to found zero at = []
led_to found (suc n) zero = []
led_to found (suc n) (suc at) = task_at found (from_at found (suc at)) ∷ led_to found n (from_at found (suc at))

-- the way on which a search has found a task
abbrev pub way_among : List Found → ℕ → List ℕ
way_among found b = reverse (led_to found (index_of found b) (index_of found b))

-- the shortest way from a task back to it, of more than one the first in the order of the tasks
abbrev pub way_back : Graph → ℕ → List ℕ
way_back g first = way_among (search g first) first

-- ---- Circles

-- none of those that a task leads to, and that are less, leads to it
abbrev pub is_least : Graph → ℕ → List Found → Bool
is_least g first found = not (list_any (λ f. nat_lt f.task first && leads g f.task first) found)

-- a task leads back to itself, and of all that lead to each other so it is the first
abbrev pub is_first : Graph → ℕ → Bool
is_first g first = leads g first first && is_least g first (search g first)

-- these circles, with that of a task if it is the first of its deadlock
abbrev pub with_circle : Graph → List (List ℕ) → ℕ → List (List ℕ)
with_circle g cs first = if is_first g first then cs ++ way_back g first ∷ [] else cs

-- the circles of the deadlocks whose first task has a number below this one, in the order of those
-- numbers
abbrev pub circles_below : Graph → ℕ → List (List ℕ)
circles_below g zero = []
circles_below g (suc n) = with_circle g (circles_below g n) n

-- a circle of each deadlock
abbrev pub circles : Graph → List (List ℕ)
circles g = circles_below g (length g)

-- of each task below a number, whether steps lead back to it
abbrev pub led_back_below : Graph → ℕ → List Bool
led_back_below g zero = []
led_back_below g (suc n) = led_back_below g n ++ leads g n n ∷ []

-- of each task, whether steps lead back to it
abbrev pub led_back : Graph → List Bool
led_back g = led_back_below g (length g)
