-- A list that another one begins with.
use Rattle.std.proofs.Common.{◌≡◌, List, [], ◌∷◌, ◌++◌, refl}
use Rattle.cics_history.specs.Isolation.{IsFront}

pub IsFront-refl : {A : Type 0} (xs : List A) → IsFront xs xs
IsFront-refl [] = tt
IsFront-refl (x ∷ xs) = (refl, IsFront-refl xs)

pub IsFront-antisym : {A : Type 0} (xs ys : List A) → IsFront xs ys → IsFront ys xs → xs ≡ ys
IsFront-antisym [] [] h k = refl
IsFront-antisym [] (y ∷ ys) h k = absurd k
IsFront-antisym (x ∷ xs) [] h k = absurd h
IsFront-antisym (x ∷ xs) (y ∷ ys) h k = let e = h.0 in let f = IsFront-antisym xs ys h.1 k.1 in cc

pub IsFront-push : {A : Type 0} (xs ys : List A) (y : A) → IsFront xs ys → IsFront xs (ys ++ y ∷ [])
IsFront-push [] ys y h = tt
IsFront-push (x ∷ xs) [] y h = absurd h
IsFront-push (x ∷ xs) (z ∷ ys) y h = (h.0, IsFront-push xs ys y h.1)
