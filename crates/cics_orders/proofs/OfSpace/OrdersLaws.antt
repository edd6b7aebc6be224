-- An order with one line more.
use Rattle.std.proofs.Common.{◌≡◌, ℕ, [], ◌∷◌, ◌++◌, refl}
use Rattle.cics_orders.specs.Space.Orders.{Order, Lanes, IsOneOf, IsWay, after}

pub after-append : {S : Type 0} (lanes : Lanes S) (s : S) (o : Order) (l : ℕ) → after lanes s (o ++ l ∷ []) ≡ lanes.given (after lanes s o) l
after-append lanes s [] l = refl
after-append lanes s (k ∷ o) l = after-append lanes (lanes.given s k) o l

pub way-append : {S : Type 0} (lanes : Lanes S) (s : S) (o : Order) (l : ℕ) → IsWay lanes s o → IsOneOf l (lanes.givers (after lanes s o) 0) → IsWay lanes s (o ++ l ∷ [])
way-append lanes s [] l way may = (may, tt)
way-append lanes s (k ∷ o) l way may = (way.0, way-append lanes (lanes.given s k) o l way.1 may)
