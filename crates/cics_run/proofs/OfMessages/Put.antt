-- Texts that are put one behind the other, and lists that are folded in.
use Rattle.std.proofs.Common.{◌≡◌, ◌+◌, ◌<◌, ℕ, List, [], ◌∷◌, ◌++◌, take, length, ap, sym, ◌∙◌, append_assoc}
use Rattle.std.specs.Prelude.{get_or, Result, Ok, Err, OnOk}
use Rattle.std.specs.List.{fold}
use Rattle.std.proofs.lemmas.List.{take_more}
use Rattle.std.proofs.lemmas.List.Sums.{fold-append}

pub put-put : (a b c x y : List ℕ) → b ≡ a ++ x → c ≡ b ++ y → c ≡ a ++ (x ++ y)
put-put a b c x y p q = q ∙ ap (λ l. l ++ y) p ∙ append_assoc a x y

-- the same, if the second text was put
pub put-on : {A E : Type 0} (a b c x y : List ℕ) (r : Result A E) → b ≡ a ++ x → OnOk r (c ≡ b ++ y) → OnOk r (c ≡ a ++ (x ++ y))
put-on a b c x y (Ok v) p q = put-put a b c x y p q
put-on a b c x y (Err e) p q = tt

-- one more of a list was folded in
pub fold-next : {A B : Type 0} (f : A → B → A) (a : A) (xs : List B) (i : ℕ) (x : B) (b c : A) → i < length xs → x ≡ get_or xs i x
    → b ≡ fold f a (take i xs) → c ≡ f b x → c ≡ fold f a (take (i + 1) xs)
fold-next f a xs i x b c within there before now =
    now ∙ ap (λ y. f y x) before ∙ ap (f (fold f a (take i xs))) there ∙ sym (fold-append f a (take i xs) (get_or xs i x ∷ []))
    ∙ ap (fold f a) (sym (take_more xs i x within))

-- a text that is said in other words
pub put-as : {A E : Type 0} (a b x y : List ℕ) (r : Result A E) → x ≡ y → OnOk r (b ≡ a ++ x) → OnOk r (b ≡ a ++ y)
put-as a b x y (Ok v) is put = put ∙ ap (λ l. a ++ l) is
put-as a b x y (Err e) is put = tt
