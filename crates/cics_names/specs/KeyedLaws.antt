-- What maps from byte strings have at each key after a change.
use Rattle.std.specs.Prelude.{◌≡◌, ◌≢◌, Bool, true, false, not, cond, ◌||◌, if◌then◌else◌, Option, Some, None, List, [], ◌∷◌, nat_eq, refl}
use Rattle.std.proofs.Common.{sym, ap, ◌∙◌}
use Rattle.std.proofs.lemmas.Bool.{false_from_ne_true}
use Rattle.std.proofs.lemmas.Map.Text.{is_eq-slice_cmp}
use Rattle.std.specs.declared.cmp.Ordering.{Ordering}
use Rattle.std.specs.declared.cmp.Ordering.TheVariants.{Less, Equal, Greater}
use Rattle.std.specs.Ordering.{is_eq}
use Rattle.std.specs.Cmp.{tied_itself}
use Rattle.std.specs.Cmp.Lexicographic.{nat_list_cmp_total, pointwise}
use Rattle.std.specs.FinMap.{slice_cmp-IsAntisymmetric, nat_cmp-IsAntisymmetric}
use Rattle.std.specs.FinMap.Entries.{find-put, find-where_key}
use Rattle.cics_names.specs.Keyed.{Bytes, Map, bytes_cmp, is_same, value_at, with_value, without, is_key_in, with_key, without_key, is_below}

-- a key is the same as itself
pub is_same-self : (k : Bytes) → is_same k k ≡ true
is_same-self k = ap is_eq (tied_itself nat_list_cmp_total k)

-- the test for equal tells that it is
is_equal : (r : Ordering) → is_eq r ≡ true → r ≡ Equal
is_equal Less e = cc
is_equal Equal e = refl
is_equal Greater e = cc

-- bytes that compare equal are equal
pub same_bytes : (a b : Bytes) → bytes_cmp a b ≡ Equal → a ≡ b
same_bytes a b e = slice_cmp-IsAntisymmetric nat_cmp-IsAntisymmetric a b e

-- and so are those that the test finds the same
pub is_same-eq : (a b : Bytes) → is_same a b ≡ true → a ≡ b
is_same-eq a b e = same_bytes a b (is_equal (bytes_cmp a b) e)

-- other bytes are not the same
pub is_same-other : (a b : Bytes) → a ≢ b → is_same a b ≡ false
is_same-other a b other = false_from_ne_true (is_same a b) (λ e. other (is_same-eq a b e))

module _ {X : Type 0} where
  -- a map with a value at a key has it there, and what it had elsewhere
  pub value_at-with_value : (q k : Bytes) (x : X) (m : Map X) →
      value_at q (with_value k x m) ≡ cond (is_same q k) (Some x) (value_at q m)
  value_at-with_value q k x m = find-put bytes_cmp nat_list_cmp_total q k x m

  -- it has it there
  pub value_at-with_value_same : (k : Bytes) (x : X) (m : Map X) → value_at k (with_value k x m) ≡ Some x
  value_at-with_value_same k x m =
      value_at-with_value k k x m ∙ ap (λ b. cond b (Some x) (value_at k m)) (is_same-self k)

  -- it has what it had elsewhere
  pub value_at-with_value_other : (q k : Bytes) (x : X) (m : Map X) → q ≢ k →
      value_at q (with_value k x m) ≡ value_at q m
  value_at-with_value_other q k x m other =
      value_at-with_value q k x m ∙ ap (λ b. cond b (Some x) (value_at q m)) (is_same-other q k other)

  -- a choice, turned
  kept_else : (b : Bool) (x y : Option X) → cond (not b) x y ≡ cond b y x
  kept_else true x y = refl
  kept_else false x y = refl

  -- a map without a key has nothing there, and what it had elsewhere
  pub value_at-without : (q k : Bytes) (m : Map X) →
      value_at q (without k m) ≡ cond (is_same k q) None (value_at q m)
  value_at-without q k m =
      find-where_key bytes_cmp (λ x. not (is_same k x)) q (λ x e. ap (λ y. not (is_same k y)) (sym (same_bytes q x e))) m
      ∙ kept_else (is_same k q) (value_at q m) None

  -- it has nothing there
  pub value_at-without_same : (k : Bytes) (m : Map X) → value_at k (without k m) ≡ None
  value_at-without_same k m = value_at-without k k m ∙ ap (λ b. cond b None (value_at k m)) (is_same-self k)

  -- it has what it had elsewhere
  pub value_at-without_other : (q k : Bytes) (m : Map X) → q ≢ k → value_at q (without k m) ≡ value_at q m
  value_at-without_other q k m other =
      value_at-without q k m ∙ ap (λ b. cond b None (value_at q m)) (is_same-other k q (λ e. other (sym e)))

-- sets of keys, in any order, at another key
module _ (q k : Bytes) (other : q ≢ k) where
  -- one more key brings in no other
  pub is_key_in-with_key_other : (xs : List Bytes) → is_key_in q (with_key k xs) ≡ is_key_in q xs
  is_key_in-with_key_other [] = ap (λ b. b || false) (is_same-other q k other)
  is_key_in-with_key_other (x ∷ xs) =
      elim (is_below k x) as (λ b. is_key_in q (if b then k ∷ x ∷ xs else if is_same k x then x ∷ xs else x ∷ with_key k xs) ≡ (is_same q x || is_key_in q xs)) [
        | true ↦ ap (λ b. b || (is_same q x || is_key_in q xs)) (is_same-other q k other)
        | false ↦ elim (is_same k x) as (λ c. is_key_in q (if c then x ∷ xs else x ∷ with_key k xs) ≡ (is_same q x || is_key_in q xs)) [
          | true ↦ refl
          | false ↦ ap (λ b. is_same q x || b) (is_key_in-with_key_other xs)
        ]
      ]

  -- removing a key removes no other
  pub is_key_in-without_key_other : (xs : List Bytes) → is_key_in q (without_key k xs) ≡ is_key_in q xs
  is_key_in-without_key_other [] = refl
  is_key_in-without_key_other (x ∷ xs) =
      elim (is_same k x) as (λ c. is_same k x ≡ c → is_key_in q (if c then without_key k xs else x ∷ without_key k xs) ≡ (is_same q x || is_key_in q xs)) [
        | true ↦ λ e. is_key_in-without_key_other xs ∙ ap (λ b. b || is_key_in q xs) (sym (is_same-other q x (λ h. other (h ∙ sym (is_same-eq k x e)))))
        | false ↦ λ e. ap (λ b. is_same q x || b) (is_key_in-without_key_other xs)
      ] refl

-- the program's `==` of names and records, which goes byte by byte, tells the same
pub pointwise-is_same : (a b : Bytes) → pointwise nat_eq a b ≡ is_same a b
pointwise-is_same a b = sym (is_eq-slice_cmp a b)
