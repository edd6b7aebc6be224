-- What units did in turn is what they did, in another order.
use Rattle.std.proofs.Common.{◌≡◌, ℕ, Bool, true, false, not, ◌&&◌, ◌||◌, List, [], ◌∷◌, ◌++◌, refl, ap, sym, ◌∙◌, eqb, inl, inr}
use Rattle.std.specs.Prelude.{filter, IsPermutation}
use Rattle.std.proofs.lemmas.Bool.{true≢false, cases_Bool, and_parts, and_from, not-true, eqb-true, eq-eqb}
use Rattle.std.proofs.lemmas.List.Folds.{list_any-append}
use Rattle.std.proofs.lemmas.List.Sorted.{IsPermutation-refl, IsPermutation-cons, IsPermutation-sym, IsPermutation-trans, IsPermutation-middle, IsPermutation-append}
use Rattle.cics_history.specs.State.{OpeningState}
use Rattle.cics_history.specs.Store.{is_normal, is_recoverable}
use Rattle.cics_history.specs.declared.ops.Entry.{Entry}
use Rattle.cics_history.specs.Serial.{among, are_distinct, is_done_by, done_by, done_by_any, one_by_one}
use Rattle.cics_history.proofs.SerialLists.{eqb-turned, or_neither}

-- a test that passes what one of two others passes, which never pass the same
record Splits (whole first second : Bool) : Type 0 where
  either : whole ≡ (first || second)
  apart : first ≡ true → second ≡ false

split : (p q r : Entry → Bool) → ((e : Entry) → Splits (r e) (p e) (q e)) → (es : List Entry) →
    IsPermutation (filter r es) (filter p es ++ filter q es)
split p q r h [] = IsPermutation-refl []
split p q r h (e ∷ es) = elim (cases_Bool (p e)) [
  | inl y ↦
      rw ((h e).either, y, (h e).apart y)
      (IsPermutation-cons e (filter r es) (filter p es ++ filter q es) (split p q r h es))
  | inr n ↦ elim (cases_Bool (q e)) [
    | inl z ↦
        rw ((h e).either, n, z)
        (IsPermutation-trans (e ∷ filter r es) (e ∷ (filter p es ++ filter q es)) (filter p es ++ e ∷ filter q es)
        (IsPermutation-cons e (filter r es) (filter p es ++ filter q es) (split p q r h es))
        (IsPermutation-sym (filter p es ++ e ∷ filter q es) (e ∷ (filter p es ++ filter q es))
        (IsPermutation-middle (filter p es) e (filter q es))))
    | inr m ↦ rw ((h e).either, n, m) (split p q r h es)
  ]
]

none_done : (o : OpeningState) (es : List Entry) → done_by_any o es [] ≡ []
none_done o [] = refl
none_done o (e ∷ es) = none_done o es

-- one unit's commands, and those of others
splits : (o : OpeningState) (u : ℕ) (units : List ℕ) → among u units ≡ false → (e : Entry) →
    Splits (among e.unit (u ∷ units) && (is_normal e.answer.condition && is_recoverable o e.op)) (is_done_by o u e)
    (among e.unit units && (is_normal e.answer.condition && is_recoverable o e.op))
splits o u units absent e = elim (cases_Bool (eqb u e.unit)) [
  | inl y ↦
      let same : u ≡ e.unit = eqb-true u e.unit y in
      let turned : eqb e.unit u ≡ true = eq-eqb e.unit u (sym same) in
      let none : among e.unit units ≡ false = ap (λ n. among n units) (sym same) ∙ absent in
      rw (y, turned, none) (record { either = own (is_normal e.answer.condition && is_recoverable o e.op); apart = λ t. refl })
  | inr n ↦
      rw (n, eqb-turned e.unit u n) (record { either = refl; apart = λ t. absurd (true≢false (sym t)) })
]
  where
    own : (b : Bool) → b ≡ (b || false)
    own true = refl
    own false = refl

-- taking turns changes the order alone
pub turns_permute : (o : OpeningState) (es : List Entry) (units : List ℕ) → are_distinct units ≡ true →
    IsPermutation (done_by_any o es units) (one_by_one o es units)
turns_permute o es [] once = rw (none_done o es) (IsPermutation-refl [])
turns_permute o es (u ∷ units) once =
    let p = and_parts (not (among u units)) (are_distinct units) once in
    IsPermutation-trans (done_by_any o es (u ∷ units)) (done_by o es u ++ done_by_any o es units)
    (done_by o es u ++ one_by_one o es units)
    (split (is_done_by o u) (λ e. among e.unit units && (is_normal e.answer.condition && is_recoverable o e.op))
    (λ e. among e.unit (u ∷ units) && (is_normal e.answer.condition && is_recoverable o e.op))
    (splits o u units (not-true (among u units) p.0)) es)
    (IsPermutation-append (done_by o es u) (done_by o es u) (done_by_any o es units) (one_by_one o es units)
    (IsPermutation-refl (done_by o es u)) (turns_permute o es units p.1))

-- two lists of units that share none
pub distinct_behind : (units later : List ℕ) → are_distinct units ≡ true → are_distinct later ≡ true →
    ((n : ℕ) → among n later ≡ true → among n units ≡ false) → are_distinct (units ++ later) ≡ true
distinct_behind [] later a b h = b
distinct_behind (u ∷ units) later a b h =
    let p = and_parts (not (among u units)) (are_distinct units) a in
    let none : among u later ≡ false = elim (cases_Bool (among u later)) [
      | inr n ↦ n
      | inl y ↦ absurd (true≢false (sym (or_here (eqb u u) (among u units) (eq-eqb u u refl)) ∙ h u y))
    ] in
    let absent : among u (units ++ later) ≡ false =
    list_any-append (λ m. eqb m u) units later ∙ rw (not-true (among u units) p.0, none) refl in
    and_from _ _ (rw absent refl)
    (distinct_behind units later p.1 b (λ n y. (or_neither (eqb u n) (among n units) (h n y)).1))
  where
    or_here : (a b : Bool) → a ≡ true → (a || b) ≡ true
    or_here true b h = refl
    or_here false b h = absurd (true≢false (sym h))
