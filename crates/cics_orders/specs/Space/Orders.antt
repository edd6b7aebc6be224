-- The orders in which lanes may give their lines.
use Rattle.std.specs.Prelude.{◌≡◌, ◌≤◌, ◌⊎◌, ℕ, zero, suc, List, [], ◌∷◌, map, drop, Bool, true, false, not, ◌&&◌, filter, if◌then◌else◌, Option, Some, None}
use Rattle.std.specs.List.{flat_map}

-- an order: for each line that is given, the lane that gives it
abbrev pub Order : Type 0
Order = List ℕ

-- How lanes give their lines. `givers`: which lanes may give in a state, from a number on. `given`:
-- the state after a lane has given its next line.
pub record Lanes (S : Type 0) : Type 0 where
  pub givers : S → ℕ → List ℕ
  pub given : S → ℕ → S

-- `givers` lists lanes in rising order: the first isn't below the number asked for, and the others
-- are those asked for after it.
abbrev pub IsOrdered : {S : Type 0} → Lanes S → Type 0
IsOrdered {S} lanes = (s : S) (from l : ℕ) (ls : List ℕ) → lanes.givers s from ≡ l ∷ ls → (from ≤ l) × (ls ≡ lanes.givers s (suc l))

-- no lane is left
abbrev pub is_none_left : List ℕ → Bool
is_none_left [] = true
is_none_left (l ∷ ls) = false

-- the state after an order
abbrev pub after : {S : Type 0} → Lanes S → S → Order → S
after lanes s [] = s
after lanes s (l ∷ o) = after lanes (lanes.given s l) o

-- the orders that begin with one of these lanes; `more` has the orders that follow its line
abbrev pub led_by : (ℕ → List Order) → List ℕ → List Order
led_by more ls = flat_map (λ l. map (λ o. l ∷ o) (more l)) ls

-- the same, or only the empty order if there is no lane
abbrev pub led_by_any : (ℕ → List Order) → List ℕ → List Order
led_by_any more [] = [] ∷ []
led_by_any more (l ∷ ls) = led_by more (l ∷ ls)

-- all orders: in each state each lane that may give does, in the order of lanes. An order ends if
-- none may give or so many lines are given
abbrev pub orders : {S : Type 0} → Lanes S → ℕ → S → List Order
orders lanes zero s = [] ∷ []
orders lanes (suc n) s = led_by_any (λ l. orders lanes n (lanes.given s l)) (lanes.givers s 0)

-- An order from a state is serial if none of its lanes breaks a turn where it gives its line.
-- `breaks`: in a state a lane does.
abbrev pub is_serial_order : {S : Type 0} → Lanes S → (S → ℕ → Bool) → S → Order → Bool
is_serial_order lanes breaks s [] = true
is_serial_order lanes breaks s (l ∷ o) = not (breaks s l) && is_serial_order lanes breaks (lanes.given s l) o

-- The serial orders of at most so many lines: those of a walk that leaves out each lane that breaks
-- a turn. If lanes may give and each breaks one, there is none.
abbrev pub serial_orders : {S : Type 0} → Lanes S → (S → ℕ → Bool) → ℕ → S → List Order
serial_orders lanes breaks zero s = [] ∷ []
serial_orders lanes breaks (suc n) s =
    if is_none_left (lanes.givers s 0) then [] ∷ [] else led_by (λ l. serial_orders lanes breaks n (lanes.given s l)) (filter (λ l. not (breaks s l)) (lanes.givers s 0))

-- one of these lanes
abbrev pub IsOneOf : ℕ → List ℕ → Type 0
IsOneOf l [] = ⊥
IsOneOf l (k ∷ ks) = (l ≡ k) ⊎ IsOneOf l ks

-- each lane of these may give in its turn
abbrev pub IsWay : {S : Type 0} → Lanes S → S → Order → Type 0
IsWay lanes s [] = Unit {0}
IsWay lanes s (l ∷ o) = IsOneOf l (lanes.givers s 0) × IsWay lanes (lanes.given s l) o

-- Two states of one stamp: the same lanes may give, which lead to states of one stamp again. The
-- states end in the same parts, and the same lanes break a turn.
pub record AreStampedAlike {S : Type 0} (lanes : Lanes S) (ending : S → List (List ℕ)) (breaks : S → ℕ → Bool) (stamp : S → List ℕ) (x y : S) : Type 0 where
  pub givers : lanes.givers x 0 ≡ lanes.givers y 0
  pub next : (l : ℕ) → IsOneOf l (lanes.givers x 0) → stamp (lanes.given x l) ≡ stamp (lanes.given y l)
  pub ends : ending x ≡ ending y
  pub broken : (l : ℕ) → IsOneOf l (lanes.givers x 0) → breaks x l ≡ breaks y l

-- the numbers of the lanes that may give; the first lane of the list has the number `l`
abbrev pub numbered : {X : Type 0} → (X → Bool) → ℕ → List X → List ℕ
numbered may l [] = []
numbered may l (x ∷ xs) = if may x then l ∷ numbered may (suc l) xs else numbered may (suc l) xs

-- the numbers of the lanes that may give, from a number on
abbrev pub numbered_from : {X : Type 0} → (X → Bool) → List X → ℕ → List ℕ
numbered_from may xs from = numbered may from (drop from xs)

-- this is the first of these lanes, or there is none
abbrev pub IsFirst : Option ℕ → List ℕ → Type 0
IsFirst None ls = ls ≡ []
IsFirst (Some l) ls = (more : List ℕ) × (ls ≡ l ∷ more)

-- some of these, in the same order
abbrev pub AreAmong : {X : Type 0} → List X → List X → Type 0
AreAmong xs [] = xs ≡ []
AreAmong {X} xs (y ∷ ys) = AreAmong xs ys ⊎ ((more : List X) × (xs ≡ y ∷ more) × AreAmong more ys)
