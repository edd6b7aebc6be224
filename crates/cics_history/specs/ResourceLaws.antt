-- Resources that are the same are equal, and conflicts go both ways.
use Rattle.std.specs.Prelude.{◌≡◌, ◌||◌, Bool, true, false, [], ◌∷◌, refl}
use Rattle.std.proofs.Common.{sym, ap, subst}
use Rattle.std.proofs.lemmas.Bool.{and_parts, and_from, eq-eqb}
use Rattle.cics_names.specs.Keyed.{Bytes, is_same}
use Rattle.cics_names.specs.KeyedLaws.{is_same-self, is_same-eq}
use Rattle.cics_ksds.specs.Prefixes.{has_prefix}
use Rattle.cics_history.specs.declared.resources.Resource.{Resource}
use Rattle.cics_history.specs.declared.resources.Resource.TheVariants.{FileKey, TsQueue, TdRead, TdWrite, User, FilePrefix}
use Rattle.cics_history.specs.Resources.{bytes_of, is_one}
use Rattle.cics_history.specs.Holding.{conflicts}

-- a resource is the same as itself
pub is_one-self : (r : Resource) → is_one r r ≡ true
is_one-self (FileKey f k) = and_from _ _ (is_same-self f) (is_same-self k.items)
is_one-self (TsQueue q) = is_same-self q
is_one-self (TdRead q) = is_same-self q
is_one-self (TdWrite q) = is_same-self q
is_one-self (User v) = is_same-self v.items
is_one-self (FilePrefix f p) = and_from _ _ (is_same-self f) (is_same-self p.items)

-- two that are the same resource are equal
pub is_one-eq : (r s : Resource) → is_one r s ≡ true → r ≡ s
is_one-eq (FileKey f k) (FileKey g l) e = let parts = and_parts _ _ e in λ i. FileKey (is_same-eq f g parts.0 i) (bytes_of (is_same-eq k.items l.items parts.1 i))
is_one-eq (TsQueue q) (TsQueue r) e = ap TsQueue (is_same-eq q r e)
is_one-eq (TdRead q) (TdRead r) e = ap TdRead (is_same-eq q r e)
is_one-eq (TdWrite q) (TdWrite r) e = ap TdWrite (is_same-eq q r e)
is_one-eq (User v) (User w) e = ap (λ b. User (bytes_of b)) (is_same-eq v.items w.items e)
is_one-eq (FilePrefix f p) (FilePrefix g q) e = let parts = and_parts _ _ e in λ i. FilePrefix (is_same-eq f g parts.0 i) (bytes_of (is_same-eq p.items q.items parts.1 i))
is_one-eq _ _ e = cc

-- bytes begin with themselves
pub has_prefix-self : (b : Bytes) → has_prefix b b ≡ true
has_prefix-self [] = refl
has_prefix-self (x ∷ b) = and_from _ _ (eq-eqb x x refl) (has_prefix-self b)

-- a resource conflicts with itself
pub conflicts-self : (r : Resource) → conflicts r r ≡ true
conflicts-self (FileKey f k) = is_one-self (FileKey f k)
conflicts-self (TsQueue q) = is_one-self (TsQueue q)
conflicts-self (TdRead q) = is_one-self (TdRead q)
conflicts-self (TdWrite q) = is_one-self (TdWrite q)
conflicts-self (User v) = is_one-self (User v)
conflicts-self (FilePrefix f p) = and_from _ _ (is_same-self f) (ap (λ b. b || b) (has_prefix-self p.items))

-- two tests that pass together are equal
pub same_test : (a b : Bool) → (a ≡ true → b ≡ true) → (b ≡ true → a ≡ true) → a ≡ b
same_test true b there back = sym (there refl)
same_test false true there back = back refl
same_test false false there back = refl

-- which of two comes first doesn't matter
turned : (a b : Bytes) → is_same a b ≡ true → is_same b a ≡ true
turned a b h = subst (λ c. is_same c a ≡ true) (is_same-eq a b h) (is_same-self a)

-- if one resource conflicts with another, that one conflicts with it
pub conflicts-turned : (r s : Resource) → conflicts r s ≡ true → conflicts s r ≡ true
conflicts-turned (FileKey f k) (FilePrefix g p) h = let b = and_parts (is_same f g) (has_prefix p.items k.items) h in and_from _ _ (turned f g b.0) b.1
conflicts-turned (FilePrefix f p) (FileKey g k) h = let b = and_parts (is_same f g) (has_prefix p.items k.items) h in and_from _ _ (turned f g b.0) b.1
conflicts-turned (FilePrefix f p) (FilePrefix g q) h =
    let b = and_parts (is_same f g) (has_prefix p.items q.items || has_prefix q.items p.items) h in
    and_from _ _ (turned f g b.0) (either (has_prefix p.items q.items) (has_prefix q.items p.items) b.1)
  where
    either : (x y : Bool) → (x || y) ≡ true → (y || x) ≡ true
    either true true h = refl
    either true false h = refl
    either false true h = refl
    either false false h = h
conflicts-turned (FileKey f k) (FileKey g l) h = let b = and_parts (is_same f g) (is_same k.items l.items) h in and_from _ _ (turned f g b.0) (turned k.items l.items b.1)
conflicts-turned (TsQueue q) (TsQueue r) h = turned q r h
conflicts-turned (TdRead q) (TdRead r) h = turned q r h
conflicts-turned (TdWrite q) (TdWrite r) h = turned q r h
conflicts-turned (User v) (User w) h = turned v.items w.items h
conflicts-turned _ _ h = cc
