-- Tests of all bytes, part by part.
use Rattle.std.proofs.Common.{◌≡◌, ◌≤◌, ◌+◌, ◌-◌, ◌&&◌, ℕ, zero, suc, Bool, true, false, List, [], ◌∷◌, take, drop, length, arith, ap, sym, ◌∙◌, drop-drop, take-append-drop, inl, inr}
use Rattle.std.proofs.lemmas.Bool.{cases_Bool, false≢true}
use Rattle.std.proofs.lemmas.List.Folds.{list_all-append}
use Rattle.std.specs.List.{list_all}
use Rattle.cics_script.proofs.Layouts.{both_true}

-- what all bytes pass those behind some of them pass
pub list_all-drop : (p : ℕ → Bool) (n : ℕ) (xs : List ℕ) → list_all p xs ≡ true → list_all p (drop n xs) ≡ true
list_all-drop p zero xs all = all
list_all-drop p (suc n) [] all = all
list_all-drop p (suc n) (x ∷ xs) all = list_all-drop p n xs (both_true (p x) (list_all p xs) all).1

-- bytes some of which don't pass are not all passed
pub list_all-some : (p : ℕ → Bool) (n : ℕ) (xs : List ℕ) → list_all p (drop n xs) ≡ false → list_all p xs ≡ false
list_all-some p n xs some =
    elim (cases_Bool (list_all p xs)) [
      | inl all ↦ absurd (false≢true (sym some ∙ list_all-drop p n xs all))
      | inr not_all ↦ not_all
    ]

-- all bytes are those in front and those behind
pub list_all-parts : (p : ℕ → Bool) (n : ℕ) (xs : List ℕ) → list_all p xs ≡ (list_all p (take n xs) && list_all p (drop n xs))
list_all-parts p n xs = sym (ap (list_all p) (take-append-drop n xs)) ∙ list_all-append p (take n xs) (drop n xs)

-- the last bytes pass, where a longer end passes
pub list_all-end : (p : ℕ → Bool) (r m : ℕ) (xs rest : List ℕ) → rest ≡ drop (length xs - r) xs → r ≤ m → r ≤ length xs
    → list_all p (drop (length xs - m) xs) ≡ true → list_all p rest ≡ true
list_all-end p r m xs rest behind less within last =
    let more = (length xs - r) - (length xs - m) in
    let same : length xs - r ≡ (length xs - m) + more = omega (arith, less, within) in
    ap (list_all p) (behind ∙ ap (λ n. drop n xs) same ∙ sym (drop-drop more (length xs - m) xs)) ∙ list_all-drop p more (drop (length xs - m) xs) last

-- the end of a text, some bytes further
pub end-further : (n k m : ℕ) (xs rest : List ℕ) → rest ≡ drop (n - (k + m)) xs → k + m ≤ n → drop m rest ≡ drop (n - k) xs
end-further n k m xs rest behind within =
    ap (drop m) behind ∙ drop-drop m (n - (k + m)) xs ∙ ap (λ i. drop i xs) {x = (n - (k + m)) + m} {y = n - k} (omega (arith, within))
