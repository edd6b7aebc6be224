-- If no other unit owns anything that conflicts with a resource, a unit may acquire it.
use Rattle.std.specs.Prelude.{◌≡◌, ℕ, ◌==◌, ◌&&◌, ◌||◌, Bool, true, false, not, if◌then◌else◌, Option, Some, None, IfNone, option_map, [], ◌∷◌, ◌++◌, length, refl}
use Rattle.std.proofs.Common.{sym, ap, ◌∙◌, ◌⊎◌, inl, inr, append_assoc, append-nil}
use Rattle.std.specs.Ordering.{is_eq}
use Rattle.std.proofs.lemmas.Bool.{and_parts, and_from, or_cases, eq-eqb, eqb-true}
use Rattle.arrayvec.specs.ArrayVec.{ArrayVec}
use Rattle.cics_names.specs.Keyed.{Bytes, is_same, is_below}
use Rattle.cics_names.specs.KeyedLaws.{is_same-eq}
use Rattle.cics_history.specs.declared.resources.Resource.{Resource}
use Rattle.cics_history.specs.declared.resources.Resource.TheVariants.{FileKey, TsQueue, TdRead, TdWrite, User, FilePrefix}
use Rattle.cics_history.specs.Resources.{bytes_of, is_one}
use Rattle.cics_ksds.specs.Prefixes.{has_prefix}
use Rattle.cics_history.specs.Holding.{conflicts, is_other}
use Rattle.cics_enqueue.specs.Table.{Table, Held, IsFreeFor, IsFreeBut, is_under, resource_cmp, held_at, holder_of, other_than, first_of, first_that, lesser, place_of, holder_of_shorter, holder_over}
use Rattle.cics_history.specs.ResourceLaws.{is_one-eq, has_prefix-self}
use Rattle.cics_enqueue.specs.Order.{is_one-cmp}

-- if an entry that passes a test, or else the rest, is None, the test failed and the rest is None
if_none : (b : Bool) (e : Resource × Held) (o : Option (Resource × Held)) → (if b then Some e else o) ≡ None → (b ≡ false) × (o ≡ None)
if_none true e o h = cc
if_none false e o h = (refl, h)

-- if no entry passes a test, no resource that is owned does
absent : (test : Resource × Held → Bool) (t : Table) → first_that test t ≡ None → (s : Resource) (h : Held) → held_at s t ≡ Some h → test (s, h) ≡ false
absent test [] none s h = λ at. cc
absent test (e ∷ es) none s h =
    let parts = if_none (test e) e (first_that test es) none in
    elim (is_eq (resource_cmp s e.0)) as (λ b. is_eq (resource_cmp s e.0) ≡ b → (if b then Some e.1 else held_at s es) ≡ Some h → test (s, h) ≡ false) [
      | true ↦ λ one at.
          let same : e.1 ≡ h = cc in
          (λ i. test (is_one-eq s e.0 (is_one-cmp s e.0 ∙ one) i, sym same i)) ∙ parts.0
      | false ↦ λ other at. absent test es parts.1 s h at
    ] refl

-- an owner that isn't another unit is the asker
pub own_of : (u v : ℕ) → is_other (Some u) v ≡ false → v ≡ u
own_of u v = elim (v == u) as (λ b. v == u ≡ b → not b ≡ false → v ≡ u) [ true ↦ λ t n. eqb-true v u t | false ↦ λ f n. cc ] refl

-- an owner that other_than leaves out is the asker
pub own_holder : (asker : Option ℕ) (v : ℕ) → other_than asker (Some v) ≡ None → is_other asker v ≡ false
own_holder asker v = elim (is_other asker v) as (λ b. (if b then Some v else None) ≡ None → b ≡ false) [ true ↦ λ n. cc | false ↦ λ n. refl ]

-- if no other unit owns anything under a resource, the asker owns all that is owned there
pub under_own : (r : Resource) (asker : Option ℕ) (t : Table) → first_that (λ e. is_under r e.0 && is_other asker e.1.unit) t ≡ None → (s : Resource) → is_under r s ≡ true → (v : ℕ) → holder_of s t ≡ Some v → is_other asker v ≡ false
under_own r asker t none s under v holds = by (held_at s t) refl holds
  where
    by : (o : Option Held) → held_at s t ≡ o → option_map (λ h. h.unit) o ≡ Some v → is_other asker v ≡ false
    by None at is = cc
    by (Some h) at is =
        let same : h.unit ≡ v = cc in
        let fails : is_other asker h.unit ≡ false = sym (ap (λ b. b && is_other asker h.unit) under) ∙ absent (λ e. is_under r e.0 && is_other asker e.1.unit) t none s h at in
        ap (is_other asker) (sym same) ∙ fails

-- if the first of two that isn't None is None, both are
pub none_parts : (a b : Option ℕ) → first_of a b ≡ None → (a ≡ None) × (b ≡ None)
none_parts None b h = (refl, h)
none_parts (Some x) b h = cc

-- no shorter prefix is another unit's
pub shorter_none : (f p rest : Bytes) (asker : Option ℕ) (t : Table) → holder_of_shorter f p rest asker t ≡ None → (a : Bytes) (x : ℕ) (b : Bytes) → rest ≡ a ++ x ∷ b → other_than asker (holder_of (FilePrefix f (bytes_of (p ++ a))) t) ≡ None
shorter_none f p [] asker t none [] x b is = cc
shorter_none f p [] asker t none (z ∷ a) x b is = cc
shorter_none f p (y ∷ r) asker t none [] x b is = ap (λ k. other_than asker (holder_of (FilePrefix f (bytes_of k)) t)) (append-nil p) ∙ (none_parts _ _ none).0
shorter_none f p (y ∷ r) asker t none (z ∷ a) x b is =
    let first : y ≡ z = cc in
    let rest : r ≡ a ++ x ∷ b = cc in
    ap (λ k. other_than asker (holder_of (FilePrefix f (bytes_of k)) t)) (sym (append_assoc p (z ∷ []) a) ∙ ap (λ w. p ++ w ∷ [] ++ a) (sym first))
    ∙ shorter_none f (p ++ y ∷ []) r asker t (none_parts _ _ none).1 a x b rest

-- bytes with which others begin are these or are shorter
pub begins_split : (q p : Bytes) → has_prefix q p ≡ true → (q ≡ p) ⊎ ((x : ℕ) × (b : Bytes) × (p ≡ q ++ x ∷ b))
begins_split [] [] h = inl refl
begins_split [] (x ∷ b) h = inr (x, b, refl)
begins_split (x ∷ q) [] h = cc
begins_split (x ∷ q) (y ∷ p) h =
    let parts = and_parts (x == y) (has_prefix q p) h in
    let first : x ≡ y = eqb-true x y parts.0 in
    elim (begins_split q p parts.1) [
      | inl same ↦ inl (λ i. first i ∷ same i)
      | inr more ↦ inr (more.0, more.1, (λ i. sym first i ∷ more.2 i))
    ]

-- bytes that begin with others do so behind a name too
pub begins_after : (f p k : Bytes) → has_prefix p k ≡ true → has_prefix (f ++ p) (f ++ k) ≡ true
begins_after [] p k h = h
begins_after (x ∷ f) p k h = and_from _ _ (eq-eqb x x refl) (begins_after f p k h)

-- and behind a kind and a file
pub under_file : (n m : ℕ) (f p k : Bytes) → has_prefix p k ≡ true → has_prefix (n ∷ m ∷ (f ++ p)) (n ∷ m ∷ (f ++ k)) ≡ true
under_file n m f p k h = and_from _ _ (eq-eqb n n refl) (and_from _ _ (eq-eqb m m refl) (begins_after f p k h))

-- if the smaller of two is None, both are
least_none : (a b : Option (Resource × Held)) → option_map (λ e. e.1.unit) (lesser a b) ≡ None → (a ≡ None) × (b ≡ None)
least_none None None h = (refl, refl)
least_none None (Some y) h = cc
least_none (Some x) None h = cc
least_none (Some x) (Some y) h = by (is_below (place_of y.0) (place_of x.0)) h
  where
    by : (b : Bool) → option_map (λ e. e.1.unit) (if b then Some y else Some x) ≡ None → (Some x ≡ None) × (Some y ≡ None)
    by true h = cc
    by false h = cc

module _ (t : Table) (asker : Option ℕ) (v : ℕ) where
  -- the resource itself
  same_own : (r s : Resource) → other_than asker (holder_of r t) ≡ None → is_one r s ≡ true → holder_of s t ≡ Some v → is_other asker v ≡ false
  same_own r s none one at = own_holder asker v (ap (other_than asker) (sym (ap (λ q. holder_of q t) (is_one-eq r s one) ∙ at)) ∙ none)

  -- a prefix that bytes begin with
  cover_own : (f p : Bytes) → holder_of_shorter f [] p asker t ≡ None → other_than asker (holder_of (FilePrefix f (bytes_of p)) t) ≡ None → (q : Bytes) → has_prefix q p ≡ true → holder_of (FilePrefix f (bytes_of q)) t ≡ Some v → is_other asker v ≡ false
  cover_own f p shorter whole q begins at = elim (begins_split q p begins) [
    | inl same ↦ own_holder asker v (ap (other_than asker) (sym (ap (λ b. holder_of (FilePrefix f (bytes_of b)) t) (sym same) ∙ at)) ∙ whole)
    | inr more ↦ own_holder asker v (ap (other_than asker) (sym at) ∙ shorter_none f [] p asker t shorter q more.0 more.1 more.2)
  ]

  -- a key
  key_own : (f : Bytes) (k : ArrayVec ℕ) → holder_over (FileKey f k) asker t ≡ None → (s : Resource) → conflicts (FileKey f k) s ≡ true → holder_of s t ≡ Some v → is_other asker v ≡ false
  key_own f k none (FilePrefix g q) meets at =
      let parts = and_parts (is_same f g) (has_prefix q.items k.items) meets in
      let a = none_parts _ _ none in
      let b = none_parts _ _ a.1 in
      cover_own f k.items a.0 b.1 q.items parts.1 (ap (λ h. holder_of (FilePrefix h q) t) (is_same-eq f g parts.0) ∙ at)
  key_own f k none (FileKey g l) meets at = same_own (FileKey f k) (FileKey g l) (none_parts _ _ (none_parts _ _ none).1).0 meets at
  key_own f k none _ meets at = cc

  -- a prefix
  prefix_own : (f : Bytes) (p : ArrayVec ℕ) → holder_over (FilePrefix f p) asker t ≡ None → (s : Resource) → conflicts (FilePrefix f p) s ≡ true → holder_of s t ≡ Some v → is_other asker v ≡ false
  prefix_own f p none (FileKey g k) meets at =
      let parts = and_parts (is_same f g) (has_prefix p.items k.items) meets in
      let least = least_none _ _ (none_parts _ _ none).1 in
      under_own (FileKey f p) asker t least.0 (FileKey f k) (under_file 1 (length f) f p.items k.items parts.1) v (ap (λ h. holder_of (FileKey h k) t) (is_same-eq f g parts.0) ∙ at)
  prefix_own f p none (FilePrefix g q) meets at =
      let parts = and_parts (is_same f g) (has_prefix p.items q.items || has_prefix q.items p.items) meets in
      let least = least_none _ _ (none_parts _ _ none).1 in
      let here : holder_of (FilePrefix f q) t ≡ Some v = ap (λ h. holder_of (FilePrefix h q) t) (is_same-eq f g parts.0) ∙ at in
      let under : (has_prefix p.items q.items ≡ true) → is_other asker v ≡ false = λ b. under_own (FilePrefix f p) asker t least.1 (FilePrefix f q) (under_file 0 (length f) f p.items q.items b) v here in
      elim (or_cases (has_prefix p.items q.items) (has_prefix q.items p.items) parts.1) [
        | inl y ↦ under y
        | inr y ↦ elim (begins_split q.items p.items y) [
          | inl same ↦ under (ap (has_prefix p.items) same ∙ has_prefix-self p.items)
          | inr more ↦ own_holder asker v (ap (other_than asker) (sym here) ∙ shorter_none f [] p.items asker t (none_parts _ _ none).0 q.items more.0 more.1 more.2)
        ]
      ]
  prefix_own f p none _ meets at = cc

-- if no blocker of a resource is found, nobody but the asker owns what conflicts with it
pub free_where_none : (t : Table) (r : Resource) (asker : Option ℕ) → holder_over r asker t ≡ None → IsFreeBut t r asker
free_where_none t (FileKey f k) asker none s v meets at = key_own t asker v f k none s meets at
free_where_none t (FilePrefix f p) asker none s v meets at = prefix_own t asker v f p none s meets at
free_where_none t (TsQueue q) asker none s v meets at = same_own t asker v (TsQueue q) s none meets at
free_where_none t (TdRead q) asker none s v meets at = same_own t asker v (TdRead q) s none meets at
free_where_none t (TdWrite q) asker none s v meets at = same_own t asker v (TdWrite q) s none meets at
free_where_none t (User w) asker none s v meets at = same_own t asker v (User w) s none meets at

-- the same for a result that is `None`
pub free_if_none : (o : Option ℕ) (t : Table) (r : Resource) (asker : Option ℕ) → o ≡ holder_over r asker t → IfNone o (IsFreeBut t r asker)
free_if_none None t r asker is = free_where_none t r asker (sym is)
free_if_none (Some x) t r asker is = tt

-- a unit may acquire what nobody but it owns
pub free_for : (t : Table) (r : Resource) (u : ℕ) → IsFreeBut t r (Some u) → IsFreeFor t r u
free_for t r u free s v meets at = own_of u v (free s v meets at)
