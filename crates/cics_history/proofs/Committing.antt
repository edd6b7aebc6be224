-- An open unit and those that committed are no more than have begun: so room for all that have begun is room for its commit.
use Rattle.std.proofs.Common.{arith, ◌≡◌, ℕ, ◌+◌, true, false, not, List, [], ◌∷◌, length, refl, ap, sym, subst, ◌∙◌, ◌<◌, ◌≤◌, eqb, ltb, inl, inr}
use Rattle.std.specs.Prelude.{unwrap_or}
use Rattle.std.specs.List.{list_any, IsDistinct, AllByRecursion}
use Rattle.std.proofs.lemmas.Bool.{false≢true, cases_Bool, or_cases, or_left, or_right, and_parts, and_from, not-true, ltb-true, ltb-false, eqb-true, eq-eqb}
use Rattle.std.proofs.lemmas.Option.{slice_get_past}
use Rattle.std.proofs.lemmas.Map.Keys.{IsDistinct-cons}
use Rattle.std.proofs.lemmas.Map.Steps.{length-le_from_distinct_below}
use Rattle.cics_history.specs.Headline.{outcome_of, is_open, is_committed}
use Rattle.cics_history.specs.State.{UnitsState}
use Rattle.cics_history.specs.Events.{is_live}
use Rattle.cics_history.specs.Serial.{among, are_distinct, IsCommitOrder}
use Rattle.cics_history.specs.declared.ops.UnitState.TheVariants.{Open}
use Rattle.cics_history.proofs.SerialLists.{eqb-turned, or_neither}
use Rattle.cics_history.proofs.SerialRuns.{open_absent}

distinct_of : (units : List ℕ) → are_distinct units ≡ true → IsDistinct eqb units
unfolding IsDistinct
distinct_of [] h = tt
distinct_of (u ∷ units) h =
    let p = and_parts (not (among u units)) (are_distinct units) h in
    IsDistinct-cons eqb u units (apart u units (not-true (among u units) p.0)) (distinct_of units p.1)
  where
    apart : (u : ℕ) (units : List ℕ) → among u units ≡ false → AllByRecursion (λ y. eqb u y ≡ false) units
    apart u [] h = tt
    apart u (n ∷ units) h =
        let q = or_neither (eqb n u) (among u units) h in
        (eqb-turned u n q.0, apart u units q.1)

pub room_for_one : (s : UnitsState) → IsCommitOrder s → (unit : ℕ) → is_live s unit ≡ true → length s.commits < length s.outcomes
room_for_one s c unit live =
    let p = and_parts (ltb unit (length s.outcomes)) (is_open (outcome_of s.outcomes unit)) live in
    let absent : among unit s.commits ≡ false = open_absent s c unit p.1 in
    let once : are_distinct (unit ∷ s.commits) ≡ true = and_from _ _ (rw absent refl) c.once in
    let fewer : length (unit ∷ s.commits) ≤ length s.outcomes =
    length-le_from_distinct_below (unit ∷ s.commits) (length s.outcomes) (distinct_of (unit ∷ s.commits) once)
    (λ q h. elim (or_cases (eqb q unit) (list_any (eqb q) s.commits) h) [
      | inl y ↦ subst (λ n. n < length s.outcomes) (sym (eqb-true q unit y)) (ltb-true unit (length s.outcomes) p.0)
      | inr y ↦ begun q (sym (c.committed q) ∙ flipped q s.commits y)
    ]) in
    let counted : length (unit ∷ s.commits) ≡ length s.commits + 1 = length-cons unit s.commits in
    omega (arith, fewer, counted)
  where
    flipped : (q : ℕ) (units : List ℕ) → list_any (eqb q) units ≡ true → among q units ≡ true
    flipped q [] h = absurd (false≢true h)
    flipped q (n ∷ units) h = elim (or_cases (eqb q n) (list_any (eqb q) units) h) [
      | inl y ↦ or_left _ _ (eq-eqb n q (sym (eqb-true q n y)))
      | inr y ↦ or_right _ _ (flipped q units y)
    ]

    length-cons : (n : ℕ) (xs : List ℕ) → length (n ∷ xs) ≡ length xs + 1
    length-cons n xs = omega arith

    -- a unit that committed has begun
    begun : (q : ℕ) → is_committed (outcome_of s.outcomes q) ≡ true → q < length s.outcomes
    begun q h = elim (cases_Bool (ltb q (length s.outcomes))) [
      | inl y ↦ ltb-true q (length s.outcomes) y
      | inr n ↦ absurd (false≢true (sym (ap (λ c. is_committed (unwrap_or c Open)) (slice_get_past s.outcomes q (ltb-false q (length s.outcomes) n))) ∙ h))
    ]
