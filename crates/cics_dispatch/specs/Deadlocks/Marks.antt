-- How the code notes what a search has found, and how much each search has found.
use Rattle.std.specs.List.{list_any}
use Rattle.std.specs.Prelude.{◌≡◌, ◌<◌, ◌≤◌, ℕ, zero, suc, ◌==◌, Bool, not, ◌&&◌, nat_lt, length, All, slice_index, List, [], ◌∷◌, ◌++◌}
use Rattle.cics_dispatch.specs.declared.deadlocks.searches.Found.{Found}
use Rattle.cics_dispatch.specs.Deadlocks.Searches.{Graph, has_found, search}

-- a search, which has a number of its own, has marked what it has found. Marks of earlier searches
-- are less
pub record AreMarks (marks : List ℕ) (own : ℕ) (found : List Found) : Type 0 where
  pub same : (b : ℕ) → b < length marks → (slice_index marks b == own) ≡ has_found found b
  pub most : All (λ mark. mark ≤ own) marks
  pub some : 1 ≤ length found

-- how much the searches from the tasks below a number have found
abbrev pub sizes_below : Graph → ℕ → List ℕ
sizes_below g zero = []
sizes_below g (suc n) = sizes_below g n ++ length (search g n) ∷ []

-- by these sizes, no task is less than a first one and has found as much as the search from it
abbrev pub is_least_by : List ℕ → ℕ → List Found → Bool
is_least_by sizes first found = not (list_any (λ f. nat_lt f.task first && (slice_index sizes f.task == length found)) found)
