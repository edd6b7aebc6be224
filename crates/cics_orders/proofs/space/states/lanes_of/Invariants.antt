use Rattle.std.proofs.Common.{◌≡◌, ◌++◌, ◌∷◌, [], suc, length, not, filter, Bool, if◌then◌else◌, ℕ, List, Option, None, Some}
use Rattle.cics_orders.specs.Giving.{State, givers}
use Rattle.cics_orders.specs.Turns.{breaks}
use Rattle.cics_orders.proofs.space.states.lanes_of.Given as goal

-- the lanes from the next one on that may give
abbrev pub rest : State → Option ℕ → List ℕ
rest s None = []
rest s (Some l) = l ∷ givers s (suc l)

-- of these lanes those that are followed
abbrev pub chosen : Bool → State → List ℕ → List ℕ
chosen b s ls = if b then filter (λ l. not (breaks s l)) ls else ls

abbrev pub invariant-loop-giver : goal.invariant-loop-giver
invariant-loop-giver l = chosen l.is_serial l.walk (givers l.walk 0) ≡ l.lanes ++ chosen l.is_serial l.walk (rest l.walk l.giver)

abbrev pub decreases-loop-giver : goal.decreases-loop-giver
decreases-loop-giver l = length (rest l.walk l.giver)
