-- The characters of the table are ASCII.
use Rattle.std.proofs.Common.{◌≡◌, ℕ, ◌+◌, ◌-◌, ◌<◌, Bool, true, false, ◌&&◌, nat_le, nat_lt, cond, List, [], ◌∷◌, Some, refl, arith}
use Rattle.std.specs.List.{list_all}
use Rattle.cics_names.specs.Ebcdic.{Run, runs, character_in, character_of}

-- whether a run's characters are ASCII
abbrev is_ascii : Run → Bool
is_ascii r = nat_le (r.character + r.count) 128

both_true : (a b : Bool) → (a && b) ≡ true → (a ≡ true) × (b ≡ true)
both_true true b e = (refl, e)
both_true false b e = let wrong : false ≡ true = e in cc

some_same : (x y : ℕ) → Some x ≡ Some y → x ≡ y
some_same x y same = cc

within : (r : Run) (b c : ℕ) → is_ascii r ≡ true → (nat_le r.code b && nat_lt b (r.code + r.count)) ≡ true → r.character + (b - r.code) ≡ c → c < 128
within r b c fits here is =
    let (from, up_to) = both_true (nat_le r.code b) (nat_lt b (r.code + r.count)) here in
    grind arith

character_in-ascii : (rs : List Run) (b c : ℕ) → list_all is_ascii rs ≡ true → character_in rs b ≡ Some c → c < 128
character_in-ascii [] b c fits is = cc
character_in-ascii (r ∷ rs) b c fits is =
    let parts = both_true (is_ascii r) (list_all is_ascii rs) fits in
    let test = nat_le r.code b && nat_lt b (r.code + r.count) in
    elim test as (λ t. test ≡ t → cond t (Some (r.character + (b - r.code))) (character_in rs b) ≡ Some c → c < 128) [
      | true ↦ λ here e. within r b c parts.0 here (some_same _ _ e)
      | false ↦ λ other e. character_in-ascii rs b c parts.1 e
    ] refl is

pub character_of-ascii : (b c : ℕ) → character_of b ≡ Some c → c < 128
unfolding character_of
character_of-ascii b c is = character_in-ascii runs b c refl is
