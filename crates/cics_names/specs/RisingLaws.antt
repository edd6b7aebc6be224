-- Maps and sets of keys whose keys rise are equal if they have the same at each key.
use Rattle.std.specs.Prelude.{◌≡◌, Bool, true, false, not, cond, ◌&&◌, ◌||◌, if◌then◌else◌, T, Option, Some, None, List, [], ◌∷◌, map, is_some, refl}
use Rattle.std.proofs.Common.{sym, ap, ◌∙◌, subst}
use Rattle.std.specs.declared.cmp.Ordering.{Ordering}
use Rattle.std.specs.declared.cmp.Ordering.TheVariants.{Less, Equal, Greater}
use Rattle.std.specs.Ordering.{is_eq, is_lt}
use Rattle.std.specs.Cmp.{eq_by_cmp_equiv}
use Rattle.std.specs.Cmp.Lexicographic.{nat_list_cmp_total}
use Rattle.std.specs.FinMap.Entries.{is_sorted-put, is_sorted-where_key, same_entries, by_order}
use Rattle.cics_names.specs.Keyed.{Bytes, Map, bytes_cmp, is_same, value_at, with_value, without, has_key, is_key_in, with_key, without_key, is_rising}
use Rattle.cics_names.specs.KeyedLaws.{is_same-self, same_bytes, value_at-with_value, value_at-without}

-- the test for the same bytes has no order
pub is_same-turned : (a b : Bytes) → is_same a b ≡ is_same b a
is_same-turned a b = (eq_by_cmp_equiv nat_list_cmp_total).symm a b

module _ {X : Type 0} where
  -- keys that rise do so with one more value
  pub rising-with_value : (k : Bytes) (x : X) (m : Map X) → T (is_rising m) → T (is_rising (with_value k x m))
  rising-with_value k x m rising = is_sorted-put bytes_cmp nat_list_cmp_total k x m rising

  -- and without a key
  pub rising-without : (k : Bytes) (m : Map X) → T (is_rising m) → T (is_rising (without k m))
  rising-without k m rising = is_sorted-where_key bytes_cmp (λ x. not (is_same k x)) m rising

  -- two maps whose keys rise are equal if they have the same at each key
  pub same_maps : (m n : Map X) → T (is_rising m) → T (is_rising n) →
      ((q : Bytes) → value_at q m ≡ value_at q n) → m ≡ n
  same_maps m n rising_m rising_n same =
      same_entries bytes_cmp nat_list_cmp_total same_bytes m n rising_m rising_n same

-- a set of keys as a map to nothing
abbrev pub paired : List Bytes → Map (Unit {0})
paired ks = map (λ k. (k, tt)) ks

-- whether the keys of a set rise strictly
abbrev pub are_rising : List Bytes → Bool
are_rising ks = is_rising (paired ks)

-- the keys of the map to nothing are the set
firsts : (ks : List Bytes) → map (λ e. e.0) (paired ks) ≡ ks
firsts [] = refl
firsts (k ∷ ks) = ap (λ r. k ∷ r) (firsts ks)

-- there is one nothing
one_unit : (t : Unit {0}) → t ≡ tt
one_unit t = refl

-- if a key goes before, instead of or after the first of the others
chosen : (k x : Bytes) (xs : List Bytes) (o : Ordering) →
    paired (with_key k xs) ≡ with_value k tt (paired xs) →
    paired (if is_lt o then k ∷ x ∷ xs else if is_eq o then x ∷ xs else x ∷ with_key k xs) ≡ by_order o ((k, tt) ∷ (x, tt) ∷ paired xs) ((x, tt) ∷ paired xs) ((x, tt) ∷ with_value k tt (paired xs))
chosen k x xs Less rest = refl
chosen k x xs Equal rest = refl
chosen k x xs Greater rest = ap (λ r. (x, tt) ∷ r) rest

-- one more key in the set is one more in the map
paired-with_key : (k : Bytes) (xs : List Bytes) → paired (with_key k xs) ≡ with_value k tt (paired xs)
paired-with_key k [] = refl
paired-with_key k (x ∷ xs) = chosen k x xs (bytes_cmp k x) (paired-with_key k xs)

-- the first of the keys, left in or out
left : (x : Bytes) (xs : List Bytes) (zs : Map (Unit {0})) (b : Bool) → paired xs ≡ zs →
    paired (if b then xs else x ∷ xs) ≡ cond (not b) ((x, tt) ∷ zs) zs
left x xs zs true rest = rest
left x xs zs false rest = ap (λ r. (x, tt) ∷ r) rest

-- a key removed from the set is removed from the map
paired-without_key : (k : Bytes) (xs : List Bytes) → paired (without_key k xs) ≡ without k (paired xs)
paired-without_key k [] = refl
paired-without_key k (x ∷ xs) =
    left x (without_key k xs) (without k (paired xs)) (is_same k x) (paired-without_key k xs)

-- a value is there if a key is the one that is sought, or a later one is
found : (b : Bool) (o : Option (Unit {0})) → is_some (cond b (Some tt) o) ≡ (b || is_some o)
found true o = refl
found false o = refl

-- the map has the keys that the set has
pub has_key-paired : (q : Bytes) (xs : List Bytes) → has_key q (paired xs) ≡ is_key_in q xs
has_key-paired q [] = refl
has_key-paired q (x ∷ xs) =
    found (is_same q x) (value_at q (paired xs)) ∙ ap (λ b. is_same q x || b) (has_key-paired q xs)

-- no value is there if its key was removed
gone : (b : Bool) (o : Option (Unit {0})) → is_some (cond b None o) ≡ (not b && is_some o)
gone true o = refl
gone false o = refl

-- a set with one more key has it and those that it had
pub is_key_in-with_key : (q k : Bytes) (xs : List Bytes) →
    is_key_in q (with_key k xs) ≡ (is_same q k || is_key_in q xs)
is_key_in-with_key q k xs =
    sym (has_key-paired q (with_key k xs)) ∙ ap (has_key q) (paired-with_key k xs) ∙ ap is_some (value_at-with_value q k tt (paired xs))
    ∙ found (is_same q k) (value_at q (paired xs)) ∙ ap (λ b. is_same q k || b) (has_key-paired q xs)

-- a set without a key has those others that it had
pub is_key_in-without_key : (q k : Bytes) (xs : List Bytes) →
    is_key_in q (without_key k xs) ≡ (not (is_same q k) && is_key_in q xs)
is_key_in-without_key q k xs =
    sym (has_key-paired q (without_key k xs)) ∙ ap (has_key q) (paired-without_key k xs) ∙ ap is_some (value_at-without q k (paired xs))
    ∙ gone (is_same k q) (value_at q (paired xs)) ∙ (λ i. not (is_same-turned k q i) && has_key-paired q xs i)

-- a set with a key has it
pub is_key_in-with_key_same : (k : Bytes) (xs : List Bytes) → is_key_in k (with_key k xs) ≡ true
is_key_in-with_key_same k xs = is_key_in-with_key k k xs ∙ ap (λ b. b || is_key_in k xs) (is_same-self k)

-- keys of a set that rise do so with one more
pub rising-with_key : (k : Bytes) (xs : List Bytes) → T (are_rising xs) → T (are_rising (with_key k xs))
rising-with_key k xs rising =
    subst (λ m. T (is_rising m)) (sym (paired-with_key k xs)) (rising-with_value k tt (paired xs) rising)

-- and without one
pub rising-without_key : (k : Bytes) (xs : List Bytes) → T (are_rising xs) → T (are_rising (without_key k xs))
rising-without_key k xs rising =
    subst (λ m. T (is_rising m)) (sym (paired-without_key k xs)) (rising-without k (paired xs) rising)

-- what may be nothing is the same if it is there or not alike
to_unit : (o p : Option (Unit {0})) → is_some o ≡ is_some p → o ≡ p
to_unit None None same = refl
to_unit None (Some y) same = cc
to_unit (Some x) None same = cc
to_unit (Some x) (Some y) same = refl

-- two sets whose keys rise are equal if they have the same keys
pub same_keys : (xs ys : List Bytes) → T (are_rising xs) → T (are_rising ys) →
    ((q : Bytes) → is_key_in q xs ≡ is_key_in q ys) → xs ≡ ys
same_keys xs ys rising_x rising_y same =
    sym (firsts xs) ∙ ap (map (λ e. e.0)) (same_maps (paired xs) (paired ys) rising_x rising_y
    (λ q. to_unit (value_at q (paired xs)) (value_at q (paired ys)) (has_key-paired q xs ∙ same q ∙ sym (has_key-paired q ys)))) ∙ firsts ys

-- removing what isn't there changes nothing, also in a list whose keys don't rise: the first key
-- stays
stays : {A : Type 0} (x : A) (xs ys : List A) (b : Bool) → b ≡ false → ys ≡ xs →
    (if b then ys else x ∷ ys) ≡ x ∷ xs
stays x xs ys true e same = cc
stays x xs ys false e same = ap (λ r. x ∷ r) same

-- if neither of two holds, the first doesn't and the second doesn't
both_false : (a b : Bool) → (a || b) ≡ false → (a ≡ false) × (b ≡ false)
both_false true b e = let wrong : true ≡ false = e in cc
both_false false b e = (refl, e)

-- a set that lacks the key
pub without_key-absent : (k : Bytes) (xs : List Bytes) → is_key_in k xs ≡ false → without_key k xs ≡ xs
without_key-absent k [] absent = refl
without_key-absent k (x ∷ xs) absent =
    let parts = both_false (is_same k x) (is_key_in k xs) absent in
    stays x xs (without_key k xs) (is_same k x) parts.0 (without_key-absent k xs parts.1)

module _ {X : Type 0} where
  -- if a choice is nothing, it doesn't choose what is there
  none_parts : (b : Bool) (x : X) (o : Option X) → cond b (Some x) o ≡ None → (b ≡ false) × (o ≡ None)
  none_parts true x o e = let wrong : Some x ≡ None = e in cc
  none_parts false x o e = (refl, e)

  -- the first entry, if it stays
  remains : (e : Bytes × X) (es fs : Map X) (b : Bool) → b ≡ false → fs ≡ es →
      cond (not b) (e ∷ fs) fs ≡ e ∷ es
  remains e es fs true h same = cc
  remains e es fs false h same = ap (λ r. e ∷ r) same

  -- a map that lacks the key
  pub without-absent : (k : Bytes) (m : Map X) → value_at k m ≡ None → without k m ≡ m
  without-absent k [] absent = refl
  without-absent k (e ∷ es) absent =
      let parts = none_parts (is_same k e.0) e.1 (value_at k es) absent in
      remains e es (without k es) (is_same k e.0) parts.0 (without-absent k es parts.1)
