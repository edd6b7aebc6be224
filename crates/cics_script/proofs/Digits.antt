-- The table of hexadecimal digits has at each byte what the digit is worth.
use Rattle.std.proofs.Common.{◌≡◌, ◌<◌, ◌≤◌, ℕ, ◌==◌, Bool, true, false, get_or, refl, ap, ◌∙◌, subst, arith, Option, Some, None, inl, inr}
use Rattle.std.proofs.lemmas.Bool.{cases_Bool}
use Rattle.std.proofs.lemmas.Bool.Decides.{nat_tests}
use Rattle.std.specs.Prelude.{nat_lt, MatchOption, if◌then◌else◌}
use Rattle.cics_script.specs.Tokens.{hex_value}
use Rattle.cics_script.proofs.Tables.{tells, table_read}
use Rattle.cics_script.specs.declared.literals.TheConstants.{DIGITS}

-- an entry of the table, of which 16 stands for none
abbrev pub digit : ℕ → Option ℕ
digit x = if nat_lt x 16 then Some x else None

-- whether two options are one
are_one : Option ℕ → Option ℕ → Bool
are_one None None = true
are_one (Some x) (Some y) = x == y
are_one _ _ = false

are_one-eq : (a b : Option ℕ) → are_one a b ≡ true → a ≡ b
unfolding are_one
are_one-eq None None e = refl
are_one-eq (Some x) (Some y) e = let same : x ≡ y = grind (arith, e) in ap Some same
are_one-eq _ _ e = cc

-- the table is read as the value of a digit
pub digit-DIGITS : (n : ℕ) → n < 256 → digit (get_or DIGITS n 0) ≡ hex_value n
unfolding tells are_one
digit-DIGITS n within = table_read digit are_one are_one-eq hex_value DIGITS 0 refl n within

digit-cases : (x : ℕ) → MatchOption (digit x) (16 ≤ x) (λ v. (x ≡ v) × (v < 16))
digit-cases x =
    elim (cases_Bool (nat_lt x 16)) [
      | inl small ↦ let less : x < 16 = grind (arith, nat_tests, small) in rw small (refl, less)
      | inr large ↦ let more : 16 ≤ x = grind (arith, nat_tests, large) in rw large more
    ]

-- an entry is the value of a digit, or 16 at least
pub digit-read : (n at : ℕ) → at ≡ n → n < 256 → MatchOption (hex_value n) (16 ≤ get_or DIGITS at 0) (λ v. (get_or DIGITS at 0 ≡ v) × (v < 16))
digit-read n at same within =
    subst (λ o. MatchOption o (16 ≤ get_or DIGITS at 0) (λ v. (get_or DIGITS at 0 ≡ v) × (v < 16)))
    (ap (λ i. digit (get_or DIGITS i 0)) same ∙ digit-DIGITS n within) (digit-cases (get_or DIGITS at 0))

pub hex_value-some : (o : Option ℕ) (x : ℕ) → MatchOption o (16 ≤ x) (λ v. (x ≡ v) × (v < 16)) → x < 16 → Some x ≡ o
hex_value-some None x read small = absurd (omega (arith, read, small))
hex_value-some (Some v) x read small = ap Some read.0

pub hex_value-none : (o : Option ℕ) (x : ℕ) → MatchOption o (16 ≤ x) (λ v. (x ≡ v) × (v < 16)) → 16 ≤ x → None ≡ o
hex_value-none None x read large = refl
hex_value-none (Some v) x read large = let same = read.0 in let small = read.1 in absurd (omega (arith, same, small, large))
