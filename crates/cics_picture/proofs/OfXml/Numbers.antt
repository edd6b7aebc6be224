-- The digits of a number are plain.
use Rattle.std.proofs.Common.{◌≡◌, ℕ, true, false, ◌==◌, ◌+◌, ◌%◌, ◌<◌, ◌^◌, List, [], ◌∷◌, ◌++◌, refl, ap, sym, ◌∙◌, arith, append_assoc}
use Rattle.std.proofs.lemmas.Bool.Decides.{nat_tests}
use Rattle.std.proofs.lemmas.List.Concat.{flat_map-append}
use Rattle.std.proofs.lemmas.Fmt.{decimal_by_steps}
use Rattle.std.specs.Fmt.{decimal}
use Rattle.std.specs.Prelude.{nat_le}
use Rattle.cics_picture.specs.Xml.Characters.{is_plain, text_of, character_text}
use Rattle.cics_picture.specs.Xml.Documents.{moved_to, attribute_text}
use lib.Chars.{codes}

pub text-append : (a b : List ℕ) → text_of (a ++ b) ≡ text_of a ++ text_of b
text-append a b = flat_map-append character_text a b

digit-plain : (n : ℕ) → n < 10 → is_plain (48 + n) ≡ true
digit-plain n small =
    let e1 : (48 + n == 10) ≡ false = grind (arith, nat_tests) in
    let e2 : nat_le 32 (48 + n) ≡ true = grind (arith, nat_tests) in
    let e3 : nat_le (48 + n) 126 ≡ true = grind (arith, nat_tests) in
    let a : (48 + n == 38) ≡ false = grind (arith, nat_tests) in
    let b : (48 + n == 60) ≡ false = grind (arith, nat_tests) in
    let c : (48 + n == 62) ≡ false = grind (arith, nat_tests) in
    let d : (48 + n == 34) ≡ false = grind (arith, nat_tests) in
    let e : (48 + n == 39) ≡ false = grind (arith, nat_tests) in
    rw (e1, e2, e3, a, b, c, d, e) refl

one : (n : ℕ) → n < 10 → text_of ((48 + n) ∷ []) ≡ (48 + n) ∷ []
one n small = rw (digit-plain n small) refl

pub decimal_text : (n : ℕ) → n < 2 ^ 64 → text_of (decimal n) ≡ decimal n
decimal_text n fits =
    decimal_by_steps (λ n ds. text_of ds ≡ ds) one
    (λ n ds large front. text-append ds ((48 + n % 10) ∷ []) ∙ (λ i. front i ++ one (n % 10) (omega arith) i)) n fits

pub moved_text :
    (x y : ℕ) → x < 2 ^ 64 → y < 2 ^ 64 → attribute_text (moved_to x y) ≡ codes " transform=\"translate(" ++ (decimal x ++ (codes " " ++ (decimal y ++ codes ")\"")))
moved_text x y fits_x fits_y =
    let inner : text_of (codes "translate(" ++ (decimal x ++ (codes " " ++ (decimal y ++ codes ")")))) ≡ codes "translate(" ++ (text_of (decimal x) ++ (codes " " ++ (text_of (decimal y) ++ codes ")"))) =
    ap (λ t. codes "translate(" ++ t) (text-append (decimal x) (codes " " ++ (decimal y ++ codes ")"))
    ∙ ap (λ t. text_of (decimal x) ++ (codes " " ++ t)) (text-append (decimal y) (codes ")"))) in
    ap (λ t. codes " transform=\"" ++ (t ++ codes "\"")) (inner ∙ (λ i. codes "translate(" ++ (decimal_text x fits_x i ++ (codes " " ++ (decimal_text y fits_y i ++ codes ")")))))
    ∙ simp (append_assoc) refl
