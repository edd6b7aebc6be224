-- What the entries of an ordered map have at a name, in the words for maps by name.
use Rattle.std.specs.Prelude.{◌≡◌, Bool, true, false, cond, ◌&&◌, T, Option, Some, None, Result, Ok, Err, OnOk, OnErr, [], ◌∷◌, refl}
use Rattle.std.proofs.Common.{sym, ap, ◌∙◌, subst}
use Rattle.std.specs.declared.cmp.Ordering.{Ordering}
use Rattle.std.specs.declared.cmp.Ordering.TheVariants.{Less, Equal, Greater}
use Rattle.std.specs.Ordering.{is_eq, is_lt, match_ordering}
use Rattle.std.specs.Cmp.Lexicographic.{nat_list_cmp_total}
use Rattle.std.specs.FinMap.Entries.{by_order, below_all, is_sorted-put}
use Rattle.std.specs.Map.{lookup, set_value}
use Rattle.std.specs.BTreeMap.{is_at, insert_entry}
use Rattle.std.proofs.lemmas.Map.Steps.{set_value_same}
use Rattle.cics_names.specs.RisingLaws.{rising-with_value}
use Rattle.cics_names.specs.Keyed.{Bytes, Map, bytes_cmp, is_same, value_at, with_value, is_rising}

pub first : (a b : Bool) → T (a && b) → T a
first true b p = tt
first false b p = p

pub second : (a b : Bool) → T (a && b) → T b
second true b p = p
second false b p = absurd p

not_equal : (o : Ordering) → T (is_lt o) → is_eq o ≡ false
not_equal Less p = refl
not_equal Equal p = absurd p
not_equal Greater p = absurd p

-- what follows from a fact of a success, or of a refusal
pub OnOk-more : {A E P Q : Type 0} (r : Result A E) → (P → Q) → OnOk r P → OnOk r Q
OnOk-more (Ok a) f p = f p
OnOk-more (Err e) f p = tt

pub OnErr-more : {A E P Q : Type 0} (r : Result A E) → (P → Q) → OnErr r P → OnErr r Q
OnErr-more (Ok a) f p = tt
OnErr-more (Err e) f p = f p

module _ {X : Type 0} where
  pub lookup-value_at : (k : Bytes) (es : Map X) → lookup (is_at (bytes_cmp k)) es ≡ value_at k es
  lookup-value_at k [] = refl
  lookup-value_at k (e ∷ es) = ap (cond (is_same k e.0) (Some e.1)) (lookup-value_at k es)

  -- what was looked up in the entries is what the map has
  pub value_at-looked_up : (k : Bytes) (es m : Map X) (o : Option X) → o ≡ lookup (is_at (bytes_cmp k)) es → es ≡ m → value_at k m ≡ o
  value_at-looked_up k es m o found is = sym (found ∙ lookup-value_at k es ∙ ap (value_at k) is)

  pub insert_entry-with_value : (k : Bytes) (x : X) (es : Map X) → insert_entry bytes_cmp es k x ≡ with_value k x es
  insert_entry-with_value k x [] = refl
  insert_entry-with_value k x (e ∷ es) =
      elim (bytes_cmp k e.0) as (λ o. match_ordering o ((k, x) ∷ e ∷ es) ((e.0, x) ∷ es) (e ∷ insert_entry bytes_cmp es k x) ≡ by_order o ((k, x) ∷ e ∷ es) ((e.0, x) ∷ es) (e ∷ with_value k x es)) [
        | Less ↦ refl
        | Equal ↦ refl
        | Greater ↦ ap (λ r. e ∷ r) (insert_entry-with_value k x es)
      ]

  -- a key below all isn't there
  pub value_at-below : (k : Bytes) (es : Map X) → T (below_all bytes_cmp k es) → value_at k es ≡ None
  value_at-below k [] below = refl
  value_at-below k (e ∷ es) below =
      ap (λ b. cond b (Some e.1) (value_at k es)) (not_equal (bytes_cmp k e.0) (first _ _ below)) ∙ value_at-below k es (second _ _ below)

  pub set_value-with_value : (k : Bytes) (x y : X) (es : Map X) → T (is_rising es) → value_at k es ≡ Some y → set_value (is_at (bytes_cmp k)) es x ≡ with_value k x es
  set_value-with_value k x y [] rising there = cc
  set_value-with_value k x y (e ∷ es) rising there =
      elim (bytes_cmp k e.0) as (λ o. T (is_rising (by_order o ((k, x) ∷ e ∷ es) ((e.0, x) ∷ es) (e ∷ with_value k x es))) → cond (is_eq o) (Some e.1) (value_at k es) ≡ Some y →
      cond (is_eq o) ((e.0, x) ∷ es) (e ∷ set_value (is_at (bytes_cmp k)) es x) ≡ by_order o ((k, x) ∷ e ∷ es) ((e.0, x) ∷ es) (e ∷ with_value k x es)) [
        | Less ↦ λ risen found. absurd (not_there y (sym found ∙ value_at-below k es (second (is_lt (bytes_cmp k e.0)) _ (first (below_all bytes_cmp k (e ∷ es)) (is_rising (e ∷ es)) risen))))
        | Equal ↦ λ risen found. refl
        | Greater ↦ λ risen found. ap (λ r. e ∷ r) (set_value-with_value k x y es (second (below_all bytes_cmp e.0 es) (is_rising es) rising) found)
      ] (is_sorted-put bytes_cmp nat_list_cmp_total k x (e ∷ es) rising) there
    where
      not_there : (y : X) → Some y ≡ None → ⊥
      not_there y e = cc

  -- entries in which the value of a key that is there was set
  module _ (k : Bytes) (x y : X) (es new : Map X) (rising : T (is_rising es)) (there : value_at k es ≡ Some y) (set : new ≡ set_value (is_at (bytes_cmp k)) es x) where
    pub with_value-set : new ≡ with_value k x es
    with_value-set = set ∙ set_value-with_value k x y es rising there

    pub rising-set : T (is_rising new)
    rising-set = subst (λ m. T (is_rising m)) (sym with_value-set) (rising-with_value k x es rising)

    pub unchanged-set : x ≡ y → new ≡ es
    unchanged-set same = set ∙ set_value_same (is_at (bytes_cmp k)) es x (lookup-value_at k es ∙ there ∙ ap Some (sym same))

  pub with_value-same : (k : Bytes) (x : X) (m : Map X) → T (is_rising m) → value_at k m ≡ Some x → with_value k x m ≡ m
  with_value-same k x m rising there = sym (set_value-with_value k x x m rising there) ∙ set_value_same (is_at (bytes_cmp k)) m x (lookup-value_at k m ∙ there)
