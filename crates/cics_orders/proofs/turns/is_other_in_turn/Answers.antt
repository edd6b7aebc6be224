use Rattle.std.proofs.Common.{◌≡◌, ◌==◌, ◌&&◌, ◌||◌, ◌∙◌, ℕ, zero, suc, ◌+◌, Bool, true, false, not, List, [], ◌∷◌, drop, Some, refl, ap, sym, arith}
use Rattle.std.specs.Prelude.{if◌then◌else◌, slice_get}
use Rattle.std.specs.List.{list_any}
use Rattle.std.proofs.lemmas.Option.{slice_get-get_or}
use Rattle.cics_orders.specs.Space.Orders.{numbered, numbered_from}
use Rattle.cics_orders.specs.Turns.{is_in_turn}
use Rattle.cics_orders.specs.declared.lanes.Lane.{Lane}
use Rattle.cics_orders.proofs.turns.is_other_in_turn.Goals as goal

drop_at : {X : Type 0} (xs : List X) (i : ℕ) (x : X) → slice_get xs i ≡ Some x → drop i xs ≡ x ∷ drop (suc i) xs
drop_at [] i x at = cc
drop_at (y ∷ ys) zero x at = let same : y ≡ x = cc in ap (λ z. z ∷ ys) same
drop_at (y ∷ ys) (suc i) x at = drop_at ys i x at

module _ {X : Type 0} (may : X → Bool) (xs : List X) (i n : ℕ) (x : X) (at : slice_get xs i ≡ Some x) where
  abbrev others : ℕ → Bool
  others from = list_any (λ k. not (k == n)) (numbered_from may xs from)

  step : others i ≡ (if may x then not (i == n) || others (suc i) else others (suc i))
  step = ap (λ ys. list_any (λ k. not (k == n)) (numbered may i ys)) (drop_at xs i x at) ∙ by (may x)
    where
      by : (b : Bool) → list_any (λ k. not (k == n)) (if b then i ∷ numbered_from may xs (suc i) else numbered_from may xs (suc i)) ≡ (if b then not (i == n) || others (suc i) else others (suc i))
      by true = refl
      by false = refl

  -- this one is no other
  passed : (not (i == n) && may x) ≡ false → others (suc i) ≡ others i
  passed none = sym (step ∙ by (may x) (not (i == n)) none)
    where
      by : (b c : Bool) → (c && b) ≡ false → (if b then c || others (suc i) else others (suc i)) ≡ others (suc i)
      by true true none = cc
      by true false none = refl
      by false c none = refl

  -- this one is
  found : (not (i == n) && may x) ≡ true → others i ≡ true
  found one = step ∙ by (may x) (not (i == n)) one
    where
      by : (b c : Bool) → (c && b) ≡ true → (if b then c || others (suc i) else others (suc i)) ≡ true
      by true true one = refl
      by true false one = cc
      by false true one = cc
      by false false one = cc

-- a lane more is passed
pub loop-i-preserved : goal.loop-i-preserved
loop-i-preserved c =
    let xs = c.args.lanes.now in
    let i = c.loop-i.i in
    let x : Lane = c.index-lanes-i.result in
    let at : slice_get xs i ≡ Some x = slice_get-get_or xs i x c.loop-i-test.true ∙ ap Some (sym c.index-lanes-i.is) in
    let one : suc i ≡ i + 1 = omega arith in
    ap (λ k. list_any (λ j. not (j == c.args.number)) (numbered_from (is_in_turn c.args.region.now.machine) xs k)) (sym one)
    ∙ passed (is_in_turn c.args.region.now.machine) xs i c.args.number x at (sym c.is_other.ensures ∙ c.if-is_other.false) ∙ c.loop-i.invariant

-- the lane is found
pub returns-then-is_other : goal.returns-then-is_other
returns-then-is_other c =
    let xs = c.args.lanes.now in
    let i = c.loop-i.i in
    let x : Lane = c.index-lanes-i.result in
    let at : slice_get xs i ≡ Some x = slice_get-get_or xs i x c.loop-i-test.true ∙ ap Some (sym c.index-lanes-i.is) in
    sym (found (is_in_turn c.args.region.now.machine) xs i c.args.number x at (sym c.is_other.ensures ∙ c.if-is_other.true)) ∙ c.loop-i.invariant
