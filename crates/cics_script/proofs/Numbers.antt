-- The value of digits, one digit further.
use Rattle.std.proofs.Common.{◌≡◌, ℕ, Bool, true, false, ◌+◌, ◌*◌, ◌-◌, ◌≤◌, ◌<◌, ◌^◌, cond, List, [], ◌∷◌, length, take, drop, get_or, refl, arith, ap, sym, ◌∙◌, subst, Some, None, take-append-drop}
use Rattle.std.proofs.lemmas.List.{take_more}
use Rattle.std.proofs.lemmas.List.Sums.{fold-append}
use Rattle.std.specs.List.{fold}
use Rattle.std.proofs.lemmas.Bool.Decides.{nat_tests}
use Rattle.std.specs.Prelude.{nat_lt}
use Rattle.cics_script.specs.Tokens.{value_of}

-- one digit more
pub value_of-more : (digits : List ℕ) (i : ℕ) → i < length digits → value_of (take (i + 1) digits) ≡ value_of (take i digits) * 10 + (get_or digits i 0 - 48)
value_of-more digits i within = ap value_of (take_more digits i 0 within) ∙ fold-append (λ n d. n * 10 + (d - 48)) 0 (take i digits) (get_or digits i 0 ∷ [])

-- more digits are no smaller number
fold-above : (n : ℕ) (digits : List ℕ) → n ≤ fold (λ n d. n * 10 + (d - 48)) n digits
fold-above n [] = omega arith
fold-above n (d ∷ digits) = omega (arith, fold-above (n * 10 + (d - 48)) digits)

pub value_of-above : (digits : List ℕ) (i : ℕ) → value_of (take i digits) ≤ value_of digits
value_of-above digits i =
    let whole : value_of digits ≡ fold (λ n d. n * 10 + (d - 48)) (value_of (take i digits)) (drop i digits) =
    ap value_of (sym (take-append-drop i digits)) ∙ fold-append (λ n d. n * 10 + (d - 48)) 0 (take i digits) (drop i digits) in
    omega (arith, whole, fold-above (value_of (take i digits)) (drop i digits))

fitting : (b : Bool) (n : ℕ) → b ≡ true → Some n ≡ cond b (Some n) None
fitting b n e = subst (λ v. Some n ≡ cond v (Some n) None) (sym e) refl

too_large : (b : Bool) (n : ℕ) → b ≡ false → None ≡ cond b (Some n) None
too_large b n e = subst (λ v. None ≡ cond v (Some n) None) (sym e) refl

pub number-fits : (n : ℕ) → n < 2 ^ 64 → Some n ≡ cond (nat_lt n (2 ^ 64)) (Some n) None
number-fits n fits = fitting _ n (grind (arith, nat_tests))

pub number-over : (n : ℕ) → 2 ^ 64 ≤ n → None ≡ cond (nat_lt n (2 ^ 64)) (Some n) None
number-over n over = too_large _ n (grind (arith, nat_tests))

-- from the test that a digit more doesn't fit
pub over-from_none : (n : ℕ) → None ≡ cond (nat_lt n (2 ^ 64)) (Some n) None → 2 ^ 64 ≤ n
over-from_none n e = grind (arith, nat_tests)
