-- The two tables of characters have at each index what the runs tell.
use Rattle.std.specs.Prelude.{◌≡◌, ◌≤◌, ◌<◌, ℕ, zero, suc, ◌+◌, ◌==◌, ◌&&◌, Bool, true, false, nat_le, nat_lt, ◌-◌, if◌then◌else◌, Option, Some, None, length, List, [], ◌∷◌, refl}
use Rattle.std.specs.List.{list_all}
use Rattle.std.proofs.Common.{sym, ap, ◌∙◌, subst, arith, zero-add}
use Rattle.std.proofs.lemmas.Bool.{and_parts}
use Rattle.cics_names.specs.Ebcdic.{Run, runs, is_within, code_in, code_of, character_of, unless_zero, entry_at}
use Rattle.cics_names.specs.declared.ebcdic.TheConstants.{CODES, CHARACTERS}

-- whether two options are one
are_one : Option ℕ → Option ℕ → Bool
are_one None None = true
are_one (Some x) (Some y) = x == y
are_one _ _ = false

-- whether each entry of a table, from an index on, is what a function tells
tells : (ℕ → Option ℕ) → ℕ → List ℕ → Bool
tells f i [] = true
tells f i (x ∷ xs) = are_one (unless_zero (Some x)) (f i) && tells f (suc i) xs

are_one-eq : (a b : Option ℕ) → are_one a b ≡ true → a ≡ b
unfolding are_one
are_one-eq None None e = refl
are_one-eq (Some x) (Some y) e = let same : x ≡ y = grind (arith, e) in ap Some same
are_one-eq _ _ e = cc

-- then the table is read as the function
read_within : (f : ℕ → Option ℕ) (i : ℕ) (xs : List ℕ) → tells f i xs ≡ true → (n : ℕ) → n < length xs → entry_at xs n ≡ f (i + n)
unfolding tells
read_within f i [] told n within = absurd (omega (arith, within))
read_within f i (x ∷ xs) told zero within = are_one-eq _ _ (and_parts _ _ told).0 ∙ ap f (here i)
  where
    here : (i : ℕ) → i ≡ i + 0
    here i = omega arith
read_within f i (x ∷ xs) told (suc n) within =
    read_within f (suc i) xs (and_parts _ _ told).1 n (omega (arith, within)) ∙ ap f (one_on i n)
  where
    one_on : (i n : ℕ) → suc i + n ≡ i + suc n
    one_on i n = omega arith

-- behind the end of a table there is nothing
entry_behind : (xs : List ℕ) (n : ℕ) → length xs ≤ n → entry_at xs n ≡ None
entry_behind [] n behind = refl
entry_behind (x ∷ xs) zero behind = absurd (omega (arith, behind))
entry_behind (x ∷ xs) (suc n) behind = entry_behind xs n (omega (arith, behind))

-- where all runs end below a character, it is in none
code_behind : (rs : List Run) (end c : ℕ) → list_all (λ r. nat_le (r.character + r.count) end) rs ≡ true → end ≤ c → code_in rs c ≡ None
code_behind [] end c below behind = refl
code_behind (r ∷ rs) end c below behind =
    let parts = and_parts (nat_le (r.character + r.count) end) (list_all (λ r. nat_le (r.character + r.count) end) rs) below in
    let without : is_within r.character r.count c ≡ false = grind (arith, parts.0, behind) in
    subst (λ t. (if t then Some (r.code + (c - r.character)) else code_in rs c) ≡ None) (sym without) (code_behind rs end c parts.1 behind)

-- a table that tells a function below its length, which tells nothing behind it, is read as the function
read_all : (f : ℕ → Option ℕ) (xs : List ℕ) → tells f 0 xs ≡ true → ((n : ℕ) → length xs ≤ n → f n ≡ None) → (n : ℕ) → entry_at xs n ≡ f n
read_all f xs told behind n = elim (nat_lt n (length xs)) as (λ t. nat_lt n (length xs) ≡ t → entry_at xs n ≡ f n) [
  | true ↦ λ within. read_within f 0 xs told n (below n (length xs) within) ∙ ap f (zero-add n)
  | false ↦ λ out. let past : length xs ≤ n = not_below n (length xs) out in entry_behind xs n past ∙ sym (behind n past)
] refl
  where
    below : (n m : ℕ) → nat_lt n m ≡ true → n < m
    below n m e = grind (arith, e)

    not_below : (n m : ℕ) → nat_lt n m ≡ false → m ≤ n
    not_below n m e = grind (arith, e)

-- the table of codes has the code of each character
pub entry_at-CODES : (c : ℕ) → entry_at CODES c ≡ code_of c
unfolding tells are_one code_of
entry_at-CODES c = read_all code_of CODES refl (λ n. code_behind runs 128 n refl) c

-- the table of characters has the character of each byte
pub entry_at-CHARACTERS : (b : ℕ) → b < 256 → entry_at CHARACTERS b ≡ character_of b
unfolding tells are_one character_of
entry_at-CHARACTERS b within = read_within character_of 0 CHARACTERS refl b within ∙ ap character_of (zero-add b)
