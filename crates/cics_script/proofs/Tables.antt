-- Tables are read as functions of the index.
use Rattle.std.proofs.Common.{◌≡◌, ◌<◌, ℕ, zero, suc, ◌+◌, ◌==◌, ◌&&◌, ◌||◌, Bool, true, false, List, [], ◌∷◌, length, get_or, refl, ap, ◌∙◌, arith, zero-add}
use Rattle.std.specs.Prelude.{not, nat_lt}
use Rattle.std.proofs.lemmas.Bool.{and_parts}
use Rattle.cics_names.specs.Ebcdic.{code_of}
use Rattle.cics_script.specs.Tokens.{is_word_byte, is_capital, is_digit}
use Rattle.cics_script.specs.Literals.{is_plain, ebcdic}
use Rattle.cics_script.specs.declared.literals.TheConstants.{CLASSES, EBCDIC}

-- whether each entry, from an index on, is read as what a function tells, by a test of when two are one
unfoldable pub tells : {X Y : Type 0} → (X → Y) → (Y → Y → Bool) → (ℕ → Y) → ℕ → List X → Bool
tells read are_one f i [] = true
tells read are_one f i (x ∷ xs) = are_one (read x) (f i) && tells read are_one f (suc i) xs

here : (i : ℕ) → i ≡ i + 0
here i = omega arith

one_on : (i n : ℕ) → suc i + n ≡ i + suc n
one_on i n = omega arith

read_within : {X Y : Type 0} (read : X → Y) (are_one : Y → Y → Bool) → ((a b : Y) → are_one a b ≡ true → a ≡ b)
    → (f : ℕ → Y) (i : ℕ) (xs : List X) (d : X) → tells read are_one f i xs ≡ true → (n : ℕ) → n < length xs → read (get_or xs n d) ≡ f (i + n)
unfolding tells
read_within read are_one sound f i [] d told n within = absurd (omega (arith, within))
read_within read are_one sound f i (x ∷ xs) d told zero within = sound _ _ (and_parts _ _ told).0 ∙ ap f (here i)
read_within read are_one sound f i (x ∷ xs) d told (suc n) within =
    read_within read are_one sound f (suc i) xs d (and_parts _ _ told).1 n (omega (arith, within)) ∙ ap f (one_on i n)

-- a table that tells what a function does is read as that function
pub table_read : {X Y : Type 0} (read : X → Y) (are_one : Y → Y → Bool) → ((a b : Y) → are_one a b ≡ true → a ≡ b)
    → (f : ℕ → Y) (xs : List X) (d : X) → tells read are_one f 0 xs ≡ true → (n : ℕ) → n < length xs → read (get_or xs n d) ≡ f n
table_read read are_one sound f xs d told n within = read_within read are_one sound f 0 xs d told n within ∙ ap f (zero-add n)

-- tables of tests
abbrev alike : Bool → Bool → Bool
alike true b = b
alike false true = false
alike false false = true

alike-eq : (a b : Bool) → alike a b ≡ true → a ≡ b
alike-eq true true e = refl
alike-eq true false e = cc
alike-eq false true e = cc
alike-eq false false e = refl

pub read-word : (n : ℕ) → n < 256 → nat_lt 1 (get_or CLASSES n 0) ≡ is_word_byte n
unfolding tells
read-word n within = table_read (λ n. nat_lt 1 n) alike alike-eq is_word_byte CLASSES 0 refl n within

pub read-label : (n : ℕ) → n < 256 → nat_lt 2 (get_or CLASSES n 0) ≡ (is_capital n || is_digit n)
unfolding tells
read-label n within = table_read (λ n. nat_lt 2 n) alike alike-eq (λ c. is_capital c || is_digit c) CLASSES 0 refl n within

pub read-plain : (n : ℕ) → n < 256 → not (get_or CLASSES n 0 == 0) ≡ is_plain n
unfolding tells code_of
read-plain n within = table_read (λ n. not (n == 0)) alike alike-eq is_plain CLASSES 0 refl n within

-- tables of numbers
pub eqb-eq : (a b : ℕ) → (a == b) ≡ true → a ≡ b
eqb-eq a b e = grind (arith, e)

pub read-EBCDIC : (n : ℕ) → n < 256 → get_or EBCDIC n 0 ≡ ebcdic n
unfolding tells code_of
read-EBCDIC n within = table_read (λ b. b) (λ a b. a == b) eqb-eq ebcdic EBCDIC 0 refl n within
