-- Deadlocks and circles in a graph of tasks, without a search.
use Rattle.std.specs.Prelude.{◌≤◌, ℕ, List, [], ◌∷◌, Contains}

-- whom each task waits for
abbrev pub Steps : Type 0
Steps = ℕ → List ℕ

-- steps lead from a task over these to a last one, each task waiting for the next
abbrev pub IsWay : Steps → ℕ → List ℕ → ℕ → Type 0
IsWay next at [] last = Contains (next at) last
IsWay next at (k ∷ ks) last = Contains (next at) k × IsWay next k ks last

-- one step or more lead from a task to another
pub record Leads (next : Steps) (a b : ℕ) : Type 0 where
  pub over : List ℕ
  pub way : IsWay next a over b

-- these tasks wait for each other in a circle, each for the next, the last for the first. Of all
-- tasks of their deadlock, which lead to each other, the first has the least number
pub record IsCircleFrom (next : Steps) (first : ℕ) (others : List ℕ) : Type 0 where
  pub way : IsWay next first others first
  pub least : (k : ℕ) → Leads next first k → Leads next k first → first ≤ k

-- these tasks are a circle, told from its first task on
abbrev pub IsCircle : Steps → List ℕ → Type 0
IsCircle next [] = ⊥
IsCircle next (first ∷ others) = IsCircleFrom next first others

-- a circle is of the deadlock of a task: they lead to each other
pub record IsCircleOf (next : Steps) (task first : ℕ) : Type 0 where
  pub there : Leads next task first
  pub back : Leads next first task
