-- The order as written goes on with the lines that are left, and is an order.
use Rattle.std.proofs.Common.{◌≡◌, ℕ, zero, suc, ◌+◌, ◌==◌, ◌&&◌, Bool, true, false, List, [], ◌∷◌, Option, None, Some, option_map, refl, ap, sym, ◌∙◌, arith, subst, inl, inr}
use Rattle.std.specs.Prelude.{if◌then◌else◌, is_some, slice_get, option_and_then}
use Rattle.cics_orders.specs.Space.Orders.{Order, after, is_none_left, numbered, IsOneOf, IsWay}
use Rattle.cics_orders.specs.Plans.Taking.{NumberedLine, WrittenLine}
use Rattle.cics_orders.specs.Giving.{State, lanes, givers, given, is_ready, may_give}
use Rattle.cics_orders.specs.AsWritten.{lane_of, line_ready, next_number, line_taken, written, written_to}
use Rattle.cics_orders.specs.declared.lanes.Lane.{Lane}

-- ---- The lines that are left

module _ (s : State) (line : WrittenLine) (rest : List WrittenLine) where
  abbrev l : ℕ
  l = lane_of s.plan line.0

  abbrev by_next : Option ℕ → Option State
  by_next next = option_map (λ o. after lanes s o) (line_taken l line.1 next (written s rest) (written (given s l) rest))

  is_by_next : (next : Option ℕ) → next_number s l ≡ next → written_to s (line ∷ rest) ≡ by_next next
  unfolding written
  is_by_next next is = ap by_next is

  -- a line of a lane that may not give is passed over
  pub passes : next_number s l ≡ None → written_to s (line ∷ rest) ≡ written_to s rest
  passes none = is_by_next None none

  -- the next line of a lane is given
  pub takes : (n : ℕ) → next_number s l ≡ Some n → n == line.1 ≡ true → written_to s (line ∷ rest) ≡ written_to (given s l) rest
  takes n is same =
      is_by_next (Some n) is
      ∙ ap (λ b. option_map (λ o. after lanes s o) (if b then option_map (λ o. l ∷ o) (written (given s l) rest) else None)) same
      ∙ by (written (given s l) rest)
    where
      by : (o : Option Order) → option_map (λ o. after lanes s o) (option_map (λ o. l ∷ o) o) ≡ option_map (λ o. after lanes (given s l) o) o
      by None = refl
      by (Some o) = refl

  -- a lane gives another line
  pub stops : (n : ℕ) → next_number s l ≡ Some n → n == line.1 ≡ false → written_to s (line ∷ rest) ≡ None
  stops n is other =
      is_by_next (Some n) is
      ∙ ap (λ b. option_map (λ o. after lanes s o) (if b then option_map (λ o. l ∷ o) (written (given s l) rest) else None)) other

-- ---- It is an order

-- an element that may give has its number
is_numbered : {X : Type 0} (may : X → Bool) (xs : List X) (k l n : ℕ) (x : X) → n ≡ k + l → slice_get xs l ≡ Some x → may x ≡ true → IsOneOf n (numbered may k xs)
is_numbered may [] k l n x is at does = cc
is_numbered may (y ∷ ys) k zero n x is at does =
    let same : y ≡ x = cc in
    let here : n ≡ k = omega (arith, is) in
    subst (λ b. IsOneOf n (if b then k ∷ numbered may (suc k) ys else numbered may (suc k) ys)) (sym (ap may same ∙ does)) (inl here)
is_numbered may (y ∷ ys) k (suc l) n x is at does = by (is_numbered may ys (suc k) l n x (omega (arith, is)) at does) (may y)
  where
    by : IsOneOf n (numbered may (suc k) ys) → (b : Bool) → IsOneOf n (if b then k ∷ numbered may (suc k) ys else numbered may (suc k) ys)
    by rest true = inr rest
    by rest false = rest

-- a lane with a next line may give
may_next : (s : State) (l n : ℕ) → next_number s l ≡ Some n → IsOneOf l (givers s 0)
may_next s l n there = by (slice_get s.lanes l) refl there
  where
    may : (x : Lane) (b : Bool) → is_ready s.machine x.label ≡ b → (o : Option NumberedLine) → slice_get x.lines x.given ≡ o →
        (if b then option_map (λ next. next.0) o else None) ≡ Some n → may_give s.machine x ≡ true
    may x true ready (Some next) at there = λ i. is_some (at i) && ready i
    may x true ready None at there = cc
    may x false ready o at there = cc

    by : (o : Option Lane) → slice_get s.lanes l ≡ o → option_and_then (line_ready s.machine) o ≡ Some n → IsOneOf l (givers s 0)
    by None at there = cc
    by (Some x) at there =
        is_numbered (may_give s.machine) s.lanes 0 l l x (omega arith) at (may x (is_ready s.machine x.label) refl (slice_get x.lines x.given) refl there)

-- each lane may give when its line comes, and none at the end
abbrev IsOrder : State → Order → Type 0
IsOrder s o = IsWay lanes s o × (givers (after lanes s o) 0 ≡ [])

pub is_order : (rest : List WrittenLine) (s : State) (o : Order) → written s rest ≡ Some o → IsOrder s o
unfolding written
is_order [] s o is = by (givers s 0) refl is
  where
    by : (ls : List ℕ) → givers s 0 ≡ ls → (if is_none_left ls then Some [] else None) ≡ Some o → IsOrder s o
    by [] none is = let same : [] ≡ o = cc in subst (IsOrder s) same (tt, none)
    by (l ∷ ls) none is = cc
is_order (line ∷ rest) s o is = by (is_order rest s o) (is_order rest (given s l)) (next_number s l) refl (written (given s l) rest) refl is
  where
    l : ℕ
    l = lane_of s.plan line.0

    one : ((p : Order) → written (given s l) rest ≡ Some p → IsOrder (given s l) p) → IsOneOf l (givers s 0) →
        (b : Bool) (more : Option Order) → written (given s l) rest ≡ more → (if b then option_map (λ o. l ∷ o) more else None) ≡ Some o → IsOrder s o
    one goes may false more at is = cc
    one goes may true None at is = cc
    one goes may true (Some p) at is =
        let same : l ∷ p ≡ o = cc in
        let behind = goes p at in
        subst (IsOrder s) same ((may, behind.0), behind.1)

    by : (written s rest ≡ Some o → IsOrder s o) → ((p : Order) → written (given s l) rest ≡ Some p → IsOrder (given s l) p) →
        (next : Option ℕ) → next_number s l ≡ next → (more : Option Order) → written (given s l) rest ≡ more → line_taken l line.1 next (written s rest) more ≡ Some o → IsOrder s o
    by passed goes None at more behind is = passed is
    by passed goes (Some n) at more behind is = one goes (may_next s l n at) (n == line.1) more behind is
