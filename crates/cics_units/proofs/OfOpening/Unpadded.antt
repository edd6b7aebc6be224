-- The prefixes of the recoverable temporary storage queues: a name without the blanks that fill it
-- up, one byte further at its end, and what it is for a prefix to be among those that are defined.
use Rattle.std.proofs.Common.{◌≡◌, ℕ, suc, ◌+◌, ◌-◌, ◌<◌, ◌≤◌, ◌≢◌, Bool, false, ◌==◌, ◌||◌, cond, List, [], ◌∷◌, ◌++◌, length, take, drop, get_or, nat_eq, refl, ap, sym, ◌∙◌, arith, drop-cons}
use Rattle.std.specs.List.{list_any, starts_with}
use Rattle.std.proofs.lemmas.Bool.Decides.{nat_tests}
use Rattle.std.proofs.lemmas.List.{take_more}
use Rattle.cics_names.specs.Keyed.{Bytes, is_same, is_key_in}
use Rattle.cics_names.specs.RisingLaws.{is_same-turned}
use Rattle.cics_names.specs.Names.{blank}
use Rattle.cics_history.specs.State.{unpadded, has_prefix_in}

-- what is left behind a byte is all that tells what is left with it
same_rest : (b : ℕ) (bs cs : Bytes) → unpadded bs ≡ unpadded cs → unpadded (b ∷ bs) ≡ unpadded (b ∷ cs)
same_rest b bs cs e = rw e refl

-- a byte in front of one that is left is left
stays_in_front : (b x : ℕ) (bs xs : Bytes) → unpadded bs ≡ x ∷ xs → unpadded (b ∷ bs) ≡ b ∷ x ∷ xs
stays_in_front b x bs xs e = rw e refl

-- a blank at the end goes
unpadded-blank : (bytes : Bytes) → unpadded (bytes ++ blank ∷ []) ≡ unpadded bytes
unpadded-blank [] = refl
unpadded-blank (b ∷ bytes) = same_rest b (bytes ++ blank ∷ []) bytes (unpadded-blank bytes)

-- another byte at the end stays
unpadded-other : (bytes : Bytes) (c : ℕ) → (c == blank) ≡ false → unpadded (bytes ++ c ∷ []) ≡ bytes ++ c ∷ []
unpadded-other [] c other = ap (λ t. cond t [] (c ∷ [])) other
unpadded-other (b ∷ []) c other = stays_in_front b c (c ∷ []) [] (unpadded-other [] c other)
unpadded-other (b ∷ d ∷ bytes) c other = stays_in_front b d ((d ∷ bytes) ++ c ∷ []) (bytes ++ c ∷ []) (unpadded-other (d ∷ bytes) c other)

-- the bytes up to an index, if that index is not 0
take-last : (name : Bytes) (end : ℕ) → 0 < end → end ≤ length name → take end name ≡ take (end - 1) name ++ get_or name (end - 1) 0 ∷ []
take-last name end some fits =
    let again : end ≡ (end - 1) + 1 = omega arith in
    ap (λ n. take n name) again ∙ take_more name (end - 1) 0 (omega arith)

-- one blank fewer
pub take_blank : (name : Bytes) (end : ℕ) → 0 < end → end ≤ length name → unpadded (take end name) ≡ unpadded name
    → get_or name (end - 1) 0 ≡ blank → unpadded (take (end - 1) name) ≡ unpadded name
take_blank name end some fits same here =
    sym (unpadded-blank (take (end - 1) name)) ∙ ap (λ c. unpadded (take (end - 1) name ++ c ∷ [])) (sym here)
    ∙ ap unpadded (sym (take-last name end some fits)) ∙ same

-- the last that is left is no blank
pub take_other : (name : Bytes) (end : ℕ) → 0 < end → end ≤ length name → unpadded (take end name) ≡ unpadded name
    → get_or name (end - 1) 0 ≢ blank → take end name ≡ unpadded name
take_other name end some fits same other =
    let no_blank : (get_or name (end - 1) 0 == blank) ≡ false = grind (arith, nat_tests) in
    take-last name end some fits ∙ sym (unpadded-other (take (end - 1) name) (get_or name (end - 1) 0) no_blank)
    ∙ ap unpadded (sym (take-last name end some fits)) ∙ same

-- nothing is left
pub take_none : (name : Bytes) (end : ℕ) → end ≡ 0 → unpadded (take end name) ≡ unpadded name → take end name ≡ unpadded name
take_none name end none same = ap (λ n. take n name) none ∙ sym (ap (λ n. unpadded (take n name)) none) ∙ same

-- a prefix that is found among those that are defined
pub any-is_key_in : (eq : Bytes → Bytes → Bool) → ((a b : Bytes) → eq a b ≡ is_same b a) → (p : Bytes) (ps : List Bytes) → list_any (λ q. eq q p) ps ≡ is_key_in p ps
any-is_key_in eq is p [] = refl
any-is_key_in eq is p (q ∷ ps) = ap (λ b. b || list_any (λ q. eq q p) ps) (is q p) ∙ ap (λ b. is_same p q || b) (any-is_key_in eq is p ps)

pub same_turned : (a b : Bytes) → is_same a b ≡ is_same b a
same_turned = is_same-turned

-- the first of the prefixes that are left, and the others
pub next_prefix : (ps : List Bytes) (i : ℕ) (p : Bytes) (q : Bytes) → i < length ps → p ≡ get_or ps i p → has_prefix_in (drop i ps) q ≡ (starts_with nat_eq q (unpadded p) || has_prefix_in (drop (i + 1) ps) q)
next_prefix ps i p q low is =
    let one_more : suc i ≡ i + 1 = omega arith in
    ap (λ l. has_prefix_in l q) (drop-cons ps i p low ∙ ap (λ n. get_or ps i p ∷ drop n ps) one_more ∙ ap (λ x. x ∷ drop (i + 1) ps) (sym is))
