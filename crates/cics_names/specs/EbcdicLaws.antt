-- The table of characters read from either side: each direction undoes the other.
use Rattle.std.specs.Prelude.{◌≡◌, ℕ, ◌+◌, ◌-◌, Bool, true, false, ◌&&◌, ◌||◌, nat_le, IfSome, if◌then◌else◌, Option, Some, None, List, [], ◌∷◌, map, refl}
use Rattle.std.specs.List.{list_all}
use Rattle.std.proofs.Common.{sym, ap, ◌∙◌, subst, arith}
use Rattle.cics_names.specs.Ebcdic.{Run, run, runs, is_within, code_in, character_in, code_of, character_of}

-- the run with its codes for its characters
abbrev turned : Run → Run
turned r = run r.code r.character r.count

-- whether no code is in both runs
abbrev are_apart : Run → Run → Bool
are_apart r s = nat_le (r.code + r.count) s.code || nat_le (s.code + s.count) r.code

-- whether no code is in two of the runs
abbrev are_all_apart : List Run → Bool
are_all_apart [] = true
are_all_apart (r ∷ rs) = list_all (are_apart r) rs && are_all_apart rs

-- a table read from its codes is the table of the turned runs
character_in-turned : (rs : List Run) (b : ℕ) → character_in rs b ≡ code_in (map turned rs) b
character_in-turned [] b = refl
character_in-turned (r ∷ rs) b =
    ap (λ o. if is_within r.code r.count b then Some (r.character + (b - r.code)) else o) (character_in-turned rs b)

-- to look for a code is to look for a character in the turned runs
code_in-turned : (rs : List Run) (c : ℕ) → code_in rs c ≡ character_in (map turned rs) c
code_in-turned [] c = refl
code_in-turned (r ∷ rs) c =
    ap (λ o. if is_within r.character r.count c then Some (r.code + (c - r.character)) else o) (code_in-turned rs c)

-- what two tests say together, each says
both_true : (a b : Bool) → (a && b) ≡ true → (a ≡ true) × (b ≡ true)
both_true true b e = (refl, e)
both_true false b e = let wrong : false ≡ true = e in cc

-- two values that are there and equal are one
some_same : (x y : ℕ) → Some x ≡ Some y → x ≡ y
some_same x y same = cc

-- a character of a run has a code of the run
is_within-code : (r : Run) (c b : ℕ) → is_within r.character r.count c ≡ true →
    r.code + (c - r.character) ≡ b → is_within r.code r.count b ≡ true
is_within-code r c b within is = grind arith

-- and as far from the first of them
character-code : (r : Run) (c b : ℕ) → is_within r.character r.count c ≡ true →
    r.code + (c - r.character) ≡ b → r.character + (b - r.code) ≡ c
character-code r c b within is = grind arith

-- a code of a run is in no run that lies apart from it
is_within-apart : (r s : Run) (c b : ℕ) → is_within s.character s.count c ≡ true →
    s.code + (c - s.character) ≡ b → are_apart r s ≡ true → is_within r.code r.count b ≡ false
is_within-apart r s c b within is apart = grind arith

-- a code of one table is the code of no run that lies apart from all of it
is_within-elsewhere : (r : Run) (rs : List Run) (c b : ℕ) → list_all (are_apart r) rs ≡ true →
    code_in rs c ≡ Some b → is_within r.code r.count b ≡ false
is_within-elsewhere r [] c b apart is = cc
is_within-elsewhere r (s ∷ rs) c b apart is =
    let parts = both_true (are_apart r s) (list_all (are_apart r) rs) apart in
    elim (is_within s.character s.count c) as (λ t. is_within s.character s.count c ≡ t → (if t then Some (s.code + (c - s.character)) else code_in rs c) ≡ Some b → is_within r.code r.count b ≡ false) [
      | true ↦ λ within here. is_within-apart r s c b within (some_same (s.code + (c - s.character)) b here) parts.0
      | false ↦ λ within later. is_within-elsewhere r rs c b parts.1 later
    ] refl is

-- if no code is in two runs, the character of a character's code is the character
character_in-code_in : (rs : List Run) (c b : ℕ) → are_all_apart rs ≡ true → code_in rs c ≡ Some b →
    character_in rs b ≡ Some c
character_in-code_in [] c b apart is = cc
character_in-code_in (r ∷ rs) c b apart is =
    let parts = both_true (list_all (are_apart r) rs) (are_all_apart rs) apart in
    elim (is_within r.character r.count c) as (λ t. is_within r.character r.count c ≡ t → (if t then Some (r.code + (c - r.character)) else code_in rs c) ≡ Some b → character_in (r ∷ rs) b ≡ Some c) [
      | true ↦ λ within here.
          let code : r.code + (c - r.character) ≡ b = some_same (r.code + (c - r.character)) b here in
          subst (λ t. (if t then Some (r.character + (b - r.code)) else character_in rs b) ≡ Some c) (sym (is_within-code r c b within code)) (ap Some (character-code r c b within code))
      | false ↦ λ within later.
          subst (λ t. (if t then Some (r.character + (b - r.code)) else character_in rs b) ≡ Some c) (sym (is_within-elsewhere r rs c b parts.0 later)) (character_in-code_in rs c b parts.1 later)
    ] refl is

-- the character of a character's code is the character
pub character_of-code_of : (c b : ℕ) → code_of c ≡ Some b → character_of b ≡ Some c
unfolding code_of character_of
character_of-code_of c b is = character_in-code_in runs c b refl is

-- the code of a code's character is the code
pub code_of-character_of : (b c : ℕ) → character_of b ≡ Some c → code_of c ≡ Some b
unfolding code_of character_of
code_of-character_of b c is =
    code_in-turned runs c ∙ character_in-code_in (map turned runs) b c refl (sym (character_in-turned runs b) ∙ is)

-- what holds of each value that it may be holds of the one that it is
each_value : {X : Type 0} {P : X → Type 0} (o : Option X) → ((x : X) → o ≡ Some x → P x) → IfSome o P
each_value None each = tt
each_value (Some x) each = each x refl

-- the code of a character has that character
pub IfSome-code_of : (c : ℕ) → IfSome (code_of c) (λ b. character_of b ≡ Some c)
IfSome-code_of c = each_value (code_of c) (character_of-code_of c)

-- the character of a code has that code
pub IfSome-character_of : (b : ℕ) → IfSome (character_of b) (λ c. code_of c ≡ Some b)
IfSome-character_of b = each_value (character_of b) (code_of-character_of b)
