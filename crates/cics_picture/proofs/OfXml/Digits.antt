-- The digits of a number stand for it, and none of them ends a reference.
use Rattle.std.proofs.Common.{◌≡◌, ℕ, zero, suc, Bool, true, false, not, ◌==◌, ◌+◌, ◌-◌, ◌*◌, ◌/◌, ◌%◌, ◌<◌, ◌≤◌, List, [], ◌∷◌, ◌++◌, refl, ap, ◌∙◌, arith}
use Rattle.std.proofs.lemmas.List.Sums.{fold-append}
use Rattle.std.proofs.lemmas.List.Folds.{list_all-append}
use Rattle.std.proofs.lemmas.Bool.Decides.{nat_tests}
use Rattle.std.specs.Prelude.{nat_lt}
use Rattle.std.specs.List.{list_all}
use Rattle.cics_picture.specs.Xml.Characters.{digits, number}

-- whether a byte goes on with a reference
abbrev pub is_within : ℕ → Bool
is_within c = not (c == 59)

-- digits that stand for a number, and are within a reference
abbrev StandsFor : List ℕ → ℕ → Type 0
StandsFor ds n = (number ds ≡ n) × (list_all is_within ds ≡ true)

digit-within : (n : ℕ) → n < 10 → is_within (48 + n) ≡ true
digit-within n small = let e : (48 + n == 59) ≡ false = grind (arith, nat_tests) in rw e refl

one : (n : ℕ) → n < 10 → StandsFor ((48 + n) ∷ []) n
one n small = (omega arith, rw (digit-within n small) refl)

more : (ds : List ℕ) (n : ℕ) → StandsFor ds (n / 10) → StandsFor (ds ++ ((48 + n % 10) ∷ [])) n
more ds n front =
    let value = fold-append (λ n d. n * 10 + (d - 48)) 0 ds ((48 + n % 10) ∷ []) in
    let small : n % 10 < 10 = omega arith in (
      value ∙ ap (λ m. m * 10 + (48 + n % 10 - 48)) front.0 ∙ omega arith,
      list_all-append is_within ds ((48 + n % 10) ∷ []) ∙ rw (front.1, digit-within (n % 10) small) refl,
    )

by_test : (b : Bool) (places n : ℕ) → nat_lt n 10 ≡ b → n < suc places → ((m : ℕ) → m < places → StandsFor (digits places m) m) → StandsFor (digits (suc places) n) n
unfolding digits
by_test true places n e small front = rw (e, digits) (one n (grind (arith, nat_tests, e)))
by_test false places n e small front =
    let large : 10 ≤ n = grind (arith, nat_tests, e) in
    rw (e, digits) (more (digits places (n / 10)) n (front (n / 10) (omega (arith, large, small))))

pub digits-read : (places n : ℕ) → n < places → StandsFor (digits places n) n
digits-read zero n small = absurd (omega (arith, small))
digits-read (suc places) n small = by_test (nat_lt n 10) places n refl small (digits-read places)
