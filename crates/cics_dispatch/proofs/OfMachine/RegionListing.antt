-- The tasks that a region lists, as they are listed one after the other.
use Rattle.std.specs.Prelude.{◌≡◌, ℕ, ◌+◌, zero, suc, Bool, true, false, not, cond, Some, slice_get, take, map, filter, List, [], ◌∷◌, ◌++◌, refl}
use Rattle.std.proofs.Common.{sym, ap, ◌∙◌, arith, append-nil}
use Rattle.cics_names.specs.Keyed.{Bytes}
use Rattle.cics_units.specs.declared.replay.listings.TaskState.{TaskState}
use Rattle.cics_dispatch.specs.Machine.Machine.{Machine, Task}
use Rattle.cics_dispatch.specs.Machine.Answers.{task_state}

-- the rows of those of these tasks that haven't ended
abbrev pub rows_of : Machine → List Task → List (Bytes × TaskState)
rows_of m ts = map (λ t. (t.label, task_state m t)) (filter (λ t. not t.has_ended) ts)

-- the tasks up to a place, with the one at the place
pub take_there : (ts : List Task) (at : ℕ) (t : Task) → slice_get ts at ≡ Some t → take (suc at) ts ≡ take at ts ++ t ∷ []
take_there [] at t there = cc
take_there (s ∷ ts) zero t there = let same : s ≡ t = cc in ap (λ x. x ∷ []) same
take_there (s ∷ ts) (suc at) t there = ap (λ l. s ∷ l) (take_there ts at t there)

-- the row of a task, if it hasn't ended, and further rows
abbrev row_and : Machine → Task → Bool → List (Bytes × TaskState) → List (Bytes × TaskState)
row_and m t ended rest = cond (not ended) ((t.label, task_state m t) ∷ rest) rest

-- the rows of some tasks begin with that of the first
rows_first : (m : Machine) (t : Task) (ts : List Task) → rows_of m (t ∷ ts) ≡ row_and m t t.has_ended (rows_of m ts)
rows_first m t ts = by t.has_ended
  where
    by : (b : Bool) → map (λ s. (s.label, task_state m s)) (cond (not b) (t ∷ filter (λ s. not s.has_ended) ts) (filter (λ s. not s.has_ended) ts)) ≡ row_and m t b (rows_of m ts)
    by true = refl
    by false = refl

-- further rows come after the row of a task
row_before : (m : Machine) (t : Task) (ended : Bool) (xs ys : List (Bytes × TaskState)) → row_and m t ended (xs ++ ys) ≡ row_and m t ended xs ++ ys
row_before m t true xs ys = refl
row_before m t false xs ys = refl

-- the rows of some tasks and of others
rows_append : (m : Machine) (xs ys : List Task) → rows_of m (xs ++ ys) ≡ rows_of m xs ++ rows_of m ys
rows_append m [] ys = refl
rows_append m (x ∷ xs) ys =
    rows_first m x (xs ++ ys) ∙ ap (row_and m x x.has_ended) (rows_append m xs ys)
    ∙ row_before m x x.has_ended (rows_of m xs) (rows_of m ys) ∙ ap (λ l. l ++ rows_of m ys) (sym (rows_first m x xs))

-- the rows of the tasks up to a place, with that of the one at the place
rows_there : (m : Machine) (ts : List Task) (at : ℕ) (t : Task) → slice_get ts at ≡ Some t → rows_of m (take (at + 1) ts) ≡ rows_of m (take at ts) ++ row_and m t t.has_ended []
rows_there m ts at t there =
    let next : at + 1 ≡ suc at = omega arith in
    ap (λ n. rows_of m (take n ts)) next ∙ ap (rows_of m) (take_there ts at t there) ∙ rows_append m (take at ts) (t ∷ [])
    ∙ ap (λ l. rows_of m (take at ts) ++ l) (rows_first m t [])

-- a task that has ended has no row
pub rows_ended : (m : Machine) (ts : List Task) (at : ℕ) (t : Task) → slice_get ts at ≡ Some t → t.has_ended ≡ true → rows_of m (take (at + 1) ts) ≡ rows_of m (take at ts)
rows_ended m ts at t there ended = rows_there m ts at t there ∙ ap (λ b. rows_of m (take at ts) ++ row_and m t b []) ended ∙ append-nil (rows_of m (take at ts))

-- a task that hasn't ended has a row, with its label and what it does
pub rows_more : (m : Machine) (ts : List Task) (at : ℕ) (t : Task) → slice_get ts at ≡ Some t → t.has_ended ≡ false →
    rows_of m (take (at + 1) ts) ≡ rows_of m (take at ts) ++ (t.label, task_state m t) ∷ []
rows_more m ts at t there awake = rows_there m ts at t there ∙ ap (λ b. rows_of m (take at ts) ++ row_and m t b []) awake
