-- What is known of where lanes lead before their states are followed.
use Rattle.std.specs.Prelude.{◌≡◌, ℕ, Bool, List, map, length, take, IfSome}
use Rattle.std.specs.Map.{lookup}
use Rattle.std.specs.Str.{bytes_eq}
use Rattle.cics_names.specs.Keyed.{Bytes}
use Rattle.cics_orders.specs.Space.Orders.{Order, Lanes, IsWay, after}
use Rattle.cics_orders.specs.Space.States.{lanes_of, reached}
use Rattle.cics_orders.specs.declared.space.states.Reached.{Reached}

-- what is noted of the states that the lanes of a state lead to
abbrev pub all_reached : {S : Type 0} → Lanes S → (S → ℕ → Bool) → (S → Bytes) → Bool → S → List Reached
all_reached lanes breaks stamp b x = map (λ l. reached lanes breaks stamp b (lanes.given x l)) (lanes_of lanes breaks b x)

-- a state to which an order from the initial state `s` leads
abbrev pub IsMet : {S : Type 0} → Lanes S → S → S → Type 0
IsMet lanes s x = (o : Order) × IsWay lanes s o × (x ≡ after lanes s o)

-- the first lanes of each state of a stamp lead to these
abbrev pub AreFirst : {S : Type 0} → Lanes S → (S → ℕ → Bool) → (S → Bytes) → Bool → S → Bytes → List Reached → Type 0
AreFirst lanes breaks stamp b s k rs =
    (o : Order) → IsWay lanes s o → stamp (after lanes s o) ≡ k → rs ≡ take (length rs) (all_reached lanes breaks stamp b (after lanes s o))

-- what is known of each stamp is so
abbrev pub IsKnown : {S : Type 0} → Lanes S → (S → ℕ → Bool) → (S → Bytes) → Bool → S → List (Bytes × List Reached) → Type 0
IsKnown lanes breaks stamp b s known = (k : Bytes) → IfSome (lookup (bytes_eq k) known) (AreFirst lanes breaks stamp b s k)
