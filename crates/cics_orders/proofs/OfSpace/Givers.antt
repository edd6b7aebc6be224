-- The lanes that may give, in the order of their numbers.
use Rattle.std.proofs.Common.{◌≡◌, ◌≤◌, ℕ, suc, ◌+◌, Bool, true, false, List, [], ◌∷◌, drop, get_or, length, refl, ap, sym, ◌∙◌, arith}
use Rattle.std.proofs.lemmas.List.{drop-drop}
use Rattle.cics_orders.specs.Space.Orders.{numbered, numbered_from}

-- after the first number stand those of the lanes after it
numbers_after : {X : Type 0} (may : X → Bool) (ys : List X) (from l : ℕ) (ls : List ℕ) → numbered may from ys ≡ l ∷ ls →
    (k : ℕ) × (l ≡ from + k) × (ls ≡ numbered may (suc l) (drop (suc k) ys))
numbers_after may [] from l ls is = absurd (omega (arith, ap length is))
numbers_after {X} may (y ∷ ys) from l ls is = by (numbers_after may ys (suc from) l ls) (may y) refl is
  where
    by : (numbered may (suc from) ys ≡ l ∷ ls → (k : ℕ) × (l ≡ suc from + k) × (ls ≡ numbered may (suc l) (drop (suc k) ys))) →
        (b : Bool) → may y ≡ b → numbered may from (y ∷ ys) ≡ l ∷ ls → (k : ℕ) × (l ≡ from + k) × (ls ≡ numbered may (suc l) (drop (suc k) (y ∷ ys)))
    by rest true at is =
        let heads : from ∷ numbered may (suc from) ys ≡ l ∷ ls = rw at at is in
        let first : from ≡ l = ap (λ ns. get_or ns 0 0) heads in
        let others : numbered may (suc from) ys ≡ ls = ap (drop 1) heads in
        (0, omega (arith, first), sym others ∙ ap (λ n. numbered may (suc n) ys) first)
    by rest false at is =
        let tail = rest (rw at at is) in
        (suc tail.0, omega (arith, tail.1), tail.2)

pub givers_ordered : {X : Type 0} (may : X → Bool) (xs : List X) (from l : ℕ) (ls : List ℕ) → numbered_from may xs from ≡ l ∷ ls →
    (from ≤ l) × (ls ≡ numbered_from may xs (suc l))
givers_ordered may xs from l ls is =
    let found = numbers_after may (drop from xs) from l ls is in
    let place : from + suc found.0 ≡ suc l = omega (arith, found.1) in
    (omega (arith, found.1), found.2 ∙ ap (numbered may (suc l)) (drop-drop (suc found.0) from xs ∙ ap (λ n. drop n xs) place))
