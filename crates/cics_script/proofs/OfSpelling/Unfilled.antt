-- A name without the blanks that fill it up, one byte further at its end.
use Rattle.std.proofs.Common.{◌≡◌, ℕ, ◌+◌, ◌-◌, ◌<◌, ◌≤◌, ◌≢◌, Bool, true, false, ◌==◌, ◌&&◌, cond, List, [], ◌∷◌, ◌++◌, length, take, get_or, refl, ap, sym, ◌∙◌, arith}
use Rattle.std.specs.List.{list_all}
use Rattle.std.proofs.lemmas.Bool.Decides.{nat_tests}
use Rattle.std.proofs.lemmas.List.{take_more}
use Rattle.cics_names.specs.Names.{blank}
use Rattle.cics_script.specs.Texts.{unfilled}

abbrev is_blank : ℕ → Bool
is_blank b = b == blank

list_all-end : (bytes : List ℕ) (c : ℕ) → list_all is_blank (bytes ++ c ∷ []) ≡ (list_all is_blank bytes && is_blank c)
list_all-end [] c = elim (is_blank c) as (λ t. (t && true) ≡ t) [ true ↦ refl | false ↦ refl ]
list_all-end (b ∷ bytes) c = elim (is_blank b) as (λ t. (t && list_all is_blank (bytes ++ c ∷ [])) ≡ ((t && list_all is_blank bytes) && is_blank c)) [ true ↦ list_all-end bytes c | false ↦ refl ]

-- a blank at the end goes
and_true : (a : Bool) → (a && true) ≡ a
and_true true = refl
and_true false = refl

pub unfilled-blank : (bytes : List ℕ) → unfilled (bytes ++ blank ∷ []) ≡ unfilled bytes
unfilled-blank [] = refl
unfilled-blank (b ∷ bytes) =
    let same : list_all is_blank ((b ∷ bytes) ++ blank ∷ []) ≡ list_all is_blank (b ∷ bytes) = list_all-end (b ∷ bytes) blank ∙ and_true (list_all is_blank (b ∷ bytes)) in
    ap (λ t. cond t [] (b ∷ unfilled (bytes ++ blank ∷ []))) same ∙ ap (λ r. cond (list_all is_blank (b ∷ bytes)) [] (b ∷ r)) (unfilled-blank bytes)

and_false : (a : Bool) → (a && false) ≡ false
and_false true = refl
and_false false = refl

-- another byte at the end stays
pub unfilled-other : (bytes : List ℕ) (c : ℕ) → is_blank c ≡ false → unfilled (bytes ++ c ∷ []) ≡ bytes ++ c ∷ []
unfilled-other [] c other = ap (λ t. cond (t && true) [] (c ∷ [])) other
unfilled-other (b ∷ bytes) c other =
    let none : list_all is_blank ((b ∷ bytes) ++ c ∷ []) ≡ false = list_all-end (b ∷ bytes) c ∙ ap (λ t. list_all is_blank (b ∷ bytes) && t) other ∙ and_false (list_all is_blank (b ∷ bytes)) in
    ap (λ t. cond t [] (b ∷ unfilled (bytes ++ c ∷ []))) none ∙ ap (λ r. b ∷ r) (unfilled-other bytes c other)

-- the bytes up to an index, where that index is not 0
take-last : (name : List ℕ) (end : ℕ) → 0 < end → end ≤ length name → take end name ≡ take (end - 1) name ++ get_or name (end - 1) 0 ∷ []
take-last name end some fits =
    let again : end ≡ (end - 1) + 1 = omega arith in
    ap (λ n. take n name) again ∙ take_more name (end - 1) 0 (omega arith)

pub unfilled-take_blank : (name : List ℕ) (end : ℕ) → 0 < end → end ≤ length name → unfilled (take end name) ≡ unfilled name
    → get_or name (end - 1) 0 ≡ blank → unfilled (take (end - 1) name) ≡ unfilled name
unfilled-take_blank name end some fits same here =
    sym (unfilled-blank (take (end - 1) name)) ∙ ap (λ c. unfilled (take (end - 1) name ++ c ∷ [])) (sym here)
    ∙ ap unfilled (sym (take-last name end some fits)) ∙ same

pub unfilled-take_other : (name : List ℕ) (end : ℕ) → 0 < end → end ≤ length name → unfilled (take end name) ≡ unfilled name
    → get_or name (end - 1) 0 ≢ blank → take end name ≡ unfilled name
unfilled-take_other name end some fits same other =
    let no_blank : is_blank (get_or name (end - 1) 0) ≡ false = grind (arith, nat_tests) in
    take-last name end some fits ∙ sym (unfilled-other (take (end - 1) name) (get_or name (end - 1) 0) no_blank)
    ∙ ap unfilled (sym (take-last name end some fits)) ∙ same

pub unfilled-take_none : (name : List ℕ) (end : ℕ) → end ≡ 0 → unfilled (take end name) ≡ unfilled name → take end name ≡ unfilled name
unfilled-take_none name end none same = ap (λ n. take n name) none ∙ sym (ap (λ n. unfilled (take n name)) none) ∙ same
