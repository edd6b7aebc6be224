use Rattle.std.proofs.Common.{◌≡◌, ℕ, zero, suc, ◌-◌, ◌==◌, Bool, true, false, List, [], ◌∷◌, length, take, drop, get_or, Some, ap, sym, ◌∙◌, arith}
use Rattle.std.proofs.lemmas.Option.{slice_get-get_or}
use Rattle.std.specs.Prelude.{if◌then◌else◌, slice_get}
use Rattle.cics_dispatch.specs.declared.machine.outcomes.Outcome.{Outcome}
use Rattle.cics_orders.specs.Giving.{is_last}
use Rattle.cics_orders.specs.Stamps.{end_told, told_of}
use Rattle.cics_orders.proofs.stamping.told_of.Goals as goal

-- the last of these is told by its index
last_at : (xs : List Outcome) (x : Outcome) (e : Bool) → e ≡ (length xs == 0) → e ≡ false → x ≡ get_or xs (length xs - 1) x → slice_get xs (length xs - 1) ≡ Some x
last_at [] x e empty off is = cc
last_at (y ∷ ys) x e empty off is = slice_get-get_or (y ∷ ys) (length (y ∷ ys) - 1) x (omega arith) ∙ ap Some (sym is)

-- behind the others there is only the last
tail_at : (xs : List Outcome) (k : ℕ) (x : Outcome) → slice_get xs k ≡ Some x → suc k ≡ length xs → drop k xs ≡ x ∷ []
tail_at [] k x at long = cc
tail_at (y ∷ []) zero x at long = let same : y ≡ x = cc in ap (λ z. z ∷ []) same
tail_at (y ∷ z ∷ zs) zero x at long = absurd (omega (arith, long))
tail_at (y ∷ ys) (suc k) x at long = tail_at ys k x at (omega (arith, long))

-- a list with an element is longer than the index of its last by one
long_by : (xs : List Outcome) (x : Outcome) → slice_get xs (length xs - 1) ≡ Some x → (suc (length xs - 1) ≡ length xs) × (length xs - (length xs - 1) ≡ 1)
long_by [] x at = cc
long_by (y ∷ ys) x at = (omega arith, omega arith)

seen_last : (xs : List Outcome) (x : Outcome) (l : Bool) → slice_get xs (length xs - 1) ≡ Some x → l ≡ is_last x → told_of false xs ≡ (if l then x ∷ [] else [])
seen_last xs x l at last = ap end_told at ∙ ap (λ b. if b then x ∷ [] else []) (sym last)

module _ (all e l : Bool) (xs : List Outcome) (x : Outcome) (off : all ≡ false) (empty : e ≡ (length xs == 0)) (some : e ≡ false) (is : x ≡ get_or xs (length xs - 1) x)
    (last : l ≡ is_last x) where
  at : slice_get xs (length xs - 1) ≡ Some x
  at = last_at xs x e empty some is

  ended : l ≡ true → take (length xs - (length xs - 1)) (drop (length xs - 1) xs) ≡ told_of all xs
  ended one =
      let long = long_by xs x at in
      ap (λ n. take n (drop (length xs - 1) xs)) long.1 ∙ ap (take 1) (tail_at xs (length xs - 1) x at long.0)
      ∙ sym (ap (λ b. told_of b xs) off ∙ seen_last xs x l at last ∙ ap (λ b. if b then x ∷ [] else []) one)

  lives : l ≡ false → take (length xs - length xs) (drop (length xs) xs) ≡ told_of all xs
  lives other =
      let none : length xs - length xs ≡ 0 = omega arith in
      ap (λ n. take n (drop (length xs) xs)) none ∙ sym (ap (λ b. told_of b xs) off ∙ seen_last xs x l at last ∙ ap (λ b. if b then x ∷ [] else []) other)

pub returns-then-is_last : goal.returns-then-is_last
returns-then-is_last c =
    ended c.args.all c.is_empty.result c.is_last.result c.args.told.now c.index-told-last.result c.if-all.false c.is_empty.ensures c.if-is_empty.false
    c.index-told-last.is c.is_last.ensures c.if-is_last.true

pub returns-else-is_last : goal.returns-else-is_last
returns-else-is_last c =
    lives c.args.all c.is_empty.result c.is_last.result c.args.told.now c.index-told-last.result c.if-all.false c.is_empty.ensures c.if-is_empty.false
    c.index-told-last.is c.is_last.ensures c.if-is_last.false
