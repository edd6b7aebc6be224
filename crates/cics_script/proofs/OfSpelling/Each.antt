-- A loop that appends the text of each item, one item further.
use Rattle.std.proofs.Common.{◌≡◌, ℕ, ◌+◌, ◌<◌, List, [], ◌∷◌, ◌++◌, length, take, get_or, ap, sym, ◌∙◌}
use Rattle.std.specs.List.{flat_map}
use Rattle.std.proofs.lemmas.List.{take_more, flat_map_more}

pub each-step : {X : Type 0} (f : X → List ℕ) (xs : List X) (i : ℕ) (x : X) (old before after : List ℕ) → i < length xs → x ≡ get_or xs i x
    → before ≡ old ++ flat_map f (take i xs) → after ≡ before ++ f x → after ≡ old ++ flat_map f (take (i + 1) xs)
each-step f xs i x old before after within is so_far more =
    let next : take (i + 1) xs ≡ take i xs ++ x ∷ [] = take_more xs i x within ∙ ap (λ y. take i xs ++ y ∷ []) (sym is) in
    more ∙ ap (λ out. out ++ f x) so_far ∙ flat_map_more f old (take i xs) x ∙ ap (λ ys. old ++ flat_map f ys) (sym next)
