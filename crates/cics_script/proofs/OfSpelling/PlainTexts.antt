-- Texts of characters that stand for themselves between quotes.
use Rattle.std.proofs.Common.{◌≡◌, ℕ, ◌+◌, Bool, true, false, ◌==◌, cond, List, [], ◌∷◌, ◌++◌, length, take, drop, map, length-append, append_assoc, refl, ap, sym, ◌∙◌, Some, None, Option}
use Rattle.std.proofs.lemmas.List.{take_at, length-map}
use Rattle.std.proofs.lemmas.Bool.{and_parts}
use Rattle.std.specs.List.{flat_map, list_all}
use Rattle.std.specs.Option.{option_to_list}
use Rattle.std.specs.Prelude.{not, is_some}
use Rattle.cics_names.specs.Ebcdic.{character_of}
use Rattle.cics_script.specs.Texts.{has_character, doubled, quoted, unless_quote, plain, is_plain, text_of}
use lib.Chars.{codes}

-- bytes put behind others, then others over them
put-over : (f : ℕ → ℕ) (front bytes items text : List ℕ) (start n : ℕ) → start ≡ length front → items ≡ front ++ bytes
    → text ≡ take start items ++ map f bytes → n ≡ length items → take n (text ++ drop (length text) items) ≡ front ++ map f bytes
put-over f front bytes items text start n from here put count =
    let before : take start items ≡ front = ap (λ i. take i items) from ∙ ap (take (length front)) here ∙ take_at front bytes _ refl in
    let whole : text ≡ front ++ map f bytes = put ∙ ap (λ x. x ++ map f bytes) before in
    let size : length text ≡ length items =
    ap length whole ∙ length-append front (map f bytes) ∙ ap (λ k. length front + k) (length-map bytes f)
    ∙ sym (ap length here ∙ length-append front bytes) in
    ap (λ k. take k (text ++ drop (length text) items)) (count ∙ sym size) ∙ take_at text (drop (length text) items) _ refl ∙ whole

-- what a character that stands for itself is between quotes
alone : (test : Bool) (c : ℕ) → not (cond test 0 c == 0) ≡ true → (cond test (39 ∷ 39 ∷ []) (c ∷ []) ++ [] ≡ cond test 0 c ∷ [])
alone true c is = absurd (let wrong : false ≡ true = is in cc)
alone false c is = refl

one : (c : Option ℕ) → not (unless_quote c == 0) ≡ true → (flat_map doubled (option_to_list c) ≡ unless_quote c ∷ []) × (is_some c ≡ true)
one None is = absurd (let wrong : false ≡ true = is in cc)
one (Some c) is = (alone (c == 39) c is, refl)

pub all-plain : (bytes : List ℕ) → list_all is_plain bytes ≡ true → (flat_map quoted bytes ≡ map plain bytes) × (list_all has_character bytes ≡ true)
all-plain [] all = (refl, refl)
all-plain (b ∷ bytes) all =
    let parts = and_parts (is_plain b) (list_all is_plain bytes) all in
    let here = one (character_of b) parts.0 in
    let more = all-plain bytes parts.1 in
    (rw (here.0, more.0) refl, rw (here.1, more.1) refl)

-- such a text as it is printed
pub text_of-plain : (bytes : List ℕ) → list_all is_plain bytes ≡ true → text_of bytes ≡ codes "'" ++ (map plain bytes ++ codes "'")
text_of-plain bytes all =
    let both = all-plain bytes all in
    rw (both.1, both.0) refl

-- such a text put behind others, over its codes
pub put-plain : (out bytes items text : List ℕ) (start n : ℕ) → start ≡ length (out ++ 39 ∷ []) → items ≡ (out ++ 39 ∷ []) ++ bytes
    → text ≡ take start items ++ map plain bytes → n ≡ length items
    → take n (text ++ drop (length text) items) ++ 39 ∷ [] ≡ out ++ (codes "'" ++ (map plain bytes ++ codes "'"))
put-plain out bytes items text start n from here put count =
    ap (λ f. f ++ 39 ∷ []) (put-over plain (out ++ 39 ∷ []) bytes items text start n from here put count)
    ∙ append_assoc (out ++ 39 ∷ []) (map plain bytes) (39 ∷ []) ∙ append_assoc out (39 ∷ []) (map plain bytes ++ 39 ∷ [])
