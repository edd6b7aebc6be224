-- The character that is shown for a byte.
use Rattle.std.proofs.Common.{◌≡◌, ◌≢◌, ℕ, Bool, true, false, not, ◌==◌, ◌&&◌, ◌||◌, [], ◌∷◌, refl, ap, sym, ◌∙◌, arith}
use Rattle.std.proofs.lemmas.Bool.Decides.{nat_tests}
use Rattle.std.specs.Prelude.{nat_le}
use Rattle.cics_picture.specs.Xml.Characters.{digits, is_special, is_plain, shown, character_text}
use lib.Chars.{codes}

-- whether a byte is shown as itself, if that is plain or not
is_shown : ℕ → Bool → Bool
is_shown b special = b == 10 || (nat_le 32 b && (nat_le b 126 && not special))

within : (a b c s : Bool) → (a || (b && (c && not s))) ≡ true → (a || (b && c)) ≡ true
within true b c s e = refl
within false true true s e = refl
within false true false s e = e
within false false c s e = e

pub plain_shown : (b : ℕ) → is_plain b ≡ true → character_text (shown b) ≡ b ∷ []
plain_shown b plain =
    let itself : shown b ≡ b = rw (within (b == 10) (nat_le 32 b) (nat_le b 126) (is_special b) plain) refl in
    ap character_text itself ∙ rw plain refl

without : (a b c : Bool) → (a || (b && (c && true))) ≡ false → (a || (b && c)) ≡ false
without true b c e = e
without false true true e = e
without false true false e = refl
without false false c e = refl

other : (b : ℕ) → is_plain b ≡ false → is_special b ≡ false → (b == 9) ≡ false → shown b ≡ 65533
other b plain special tab =
    let e : (b == 10 || (nat_le 32 b && (nat_le b 126 && true))) ≡ false = ap (λ s. b == 10 || (nat_le 32 b && (nat_le b 126 && not s))) (sym special) ∙ plain in
    rw (without (b == 10) (nat_le 32 b) (nat_le b 126) e, tab) refl

pub unprintable : (b : ℕ) → is_plain b ≡ false → b ≢ 38 → b ≢ 60 → b ≢ 62 → b ≢ 34 → b ≢ 39 → b ≢ 9 → character_text (shown b) ≡ codes "&#65533;"
unfolding digits
unprintable b plain a l g q p t =
    let ea : (b == 38) ≡ false = grind (arith, nat_tests) in
    let el : (b == 60) ≡ false = grind (arith, nat_tests) in
    let eg : (b == 62) ≡ false = grind (arith, nat_tests) in
    let eq : (b == 34) ≡ false = grind (arith, nat_tests) in
    let ep : (b == 39) ≡ false = grind (arith, nat_tests) in
    let et : (b == 9) ≡ false = grind (arith, nat_tests) in
    let special : is_special b ≡ false = rw (ea, el, eg, eq, ep) refl in
    ap character_text (other b plain special et)
