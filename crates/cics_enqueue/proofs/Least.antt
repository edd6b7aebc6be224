-- The owner that is found of what conflicts with a resource owns the smallest of it, in byte order.
use Rattle.std.proofs.Common.{◌≡◌, ℕ, ◌&&◌, ◌||◌, ◌==◌, Bool, true, false, cond, T, Option, Some, None, [], ◌∷◌, ◌++◌, length, arith, refl, sym, ap, subst, ◌∙◌, ◌⊎◌, inl, inr, append_assoc, append-nil}
use Rattle.std.specs.Prelude.{IfSome, option_map, if◌then◌else◌}
use Rattle.std.specs.declared.cmp.Ordering.{Ordering}
use Rattle.std.specs.declared.cmp.Ordering.TheVariants.{Less, Equal, Greater}
use Rattle.std.specs.Ordering.{is_eq, is_lt, ordering_then, ordering_reverse}
use Rattle.std.specs.Cmp.Lexicographic.{nat_list_cmp_total}
use Rattle.std.specs.FinMap.Entries.{below_all}
use Rattle.std.proofs.lemmas.Bool.{and_parts, and_from, or_cases, eq-eqb, eqb-true}
use Rattle.arrayvec.specs.ArrayVec.{ArrayVec}
use Rattle.cics_names.specs.Keyed.{Bytes, bytes_cmp, is_same, is_below}
use Rattle.cics_names.specs.KeyedLaws.{is_same-eq, is_same-self, same_bytes}
use Rattle.cics_history.specs.declared.resources.Resource.{Resource}
use Rattle.cics_history.specs.declared.resources.Resource.TheVariants.{FileKey, TsQueue, TdRead, TdWrite, User, FilePrefix}
use Rattle.cics_history.specs.Resources.{bytes_of, is_one}
use Rattle.cics_ksds.specs.Prefixes.{has_prefix}
use Rattle.cics_history.specs.Holding.{conflicts, is_other}
use Rattle.cics_enqueue.specs.Table.{Table, Held, HoldsLeast, is_under, is_in_order, resource_cmp, resource_key}
use Rattle.cics_enqueue.specs.Table.{place_of, held_at, holder_of, other_than, first_of, first_that, lesser, least_under, holder_of_shorter, held_with_prefix, holder_over}
use Rattle.cics_history.specs.ResourceLaws.{is_one-eq, has_prefix-self, conflicts-self}
use Rattle.cics_enqueue.specs.Order.{is_one-cmp}
use Rattle.cics_enqueue.specs.FreedomLaws.{own_holder, shorter_none, begins_split, begins_after, under_file, under_own}
use Rattle.cics_enqueue.proofs.Seeking.{tied, has_prefix-trans}
use Rattle.cics_enqueue.proofs.TableLaws.{left_of, right_of, held_below}

-- ---- bytes and their order

-- bytes are not below those that they begin with
begins-not_below : (a b : Bytes) → has_prefix a b ≡ true → is_below b a ≡ false
begins-not_below [] [] h = refl
begins-not_below [] (y ∷ b) h = refl
begins-not_below (x ∷ a) [] h = cc
begins-not_below (x ∷ a) (y ∷ b) h =
    let p = and_parts (x == y) (has_prefix a b) h in
    ap (λ o. is_lt (ordering_then o (bytes_cmp b a))) (tied y x (eq-eqb y x (sym (eqb-true x y p.0)))) ∙ begins-not_below a b p.1

-- bytes begin with those that more was put behind
begins_append : (a b : Bytes) → has_prefix a (a ++ b) ≡ true
begins_append [] b = refl
begins_append (x ∷ a) b = and_from _ _ (eq-eqb x x refl) (begins_append a b)

-- of two that bytes begin with the second begins with the first, or the first is longer
two_begin : (a q p : Bytes) → has_prefix a p ≡ true → has_prefix q p ≡ true → (has_prefix a q ≡ true) ⊎ ((y : ℕ) × (c : Bytes) × (a ≡ q ++ y ∷ c))
two_begin [] q p x y = inl refl
two_begin (w ∷ a) [] p x y = inr (w, a, refl)
two_begin (w ∷ a) (z ∷ q) [] x y = cc
two_begin (w ∷ a) (z ∷ q) (e ∷ p) x y =
    let xs = and_parts (w == e) (has_prefix a p) x in
    let ys = and_parts (z == e) (has_prefix q p) y in
    let same : w ≡ z = eqb-true w e xs.0 ∙ sym (eqb-true z e ys.0) in
    elim (two_begin a q p xs.1 ys.1) [
      | inl b ↦ inl (and_from _ _ (eq-eqb w z same) b)
      | inr m ↦ inr (m.0, m.1, (λ i. same i ∷ m.2 i))
    ]

-- what is below isn't above
below-turned : (a b : Bytes) → is_below a b ≡ true → is_below b a ≡ false
below-turned a b h = ap is_lt (nat_list_cmp_total.antisymm b a) ∙ turn (bytes_cmp a b) h
  where
    turn : (o : Ordering) → is_lt o ≡ true → is_lt (ordering_reverse o) ≡ false
    turn Less h = refl
    turn Equal h = cc
    turn Greater h = cc

-- what isn't below another that isn't below a third isn't below the third
not_below-trans : (a b c : Bytes) → is_below a b ≡ false → is_below b c ≡ false → is_below a c ≡ false
not_below-trans a b c ab bc = elim (bytes_cmp a c) as (λ o. bytes_cmp a c ≡ o → is_lt o ≡ false) [
  | Less ↦ λ ac. elim (bytes_cmp a b) as (λ o. bytes_cmp a b ≡ o → true ≡ false) [
    | Less ↦ λ is. ap is_lt (sym is) ∙ ab
    | Equal ↦ λ is. ap is_lt (sym ac) ∙ ap (λ x. is_below x c) (same_bytes a b is) ∙ bc
    | Greater ↦ λ is. ap is_lt (sym (nat_list_cmp_total.trans b a c (nat_list_cmp_total.antisymm b a ∙ ap ordering_reverse is) ac)) ∙ bc
  ] refl
  | Equal ↦ λ ac. refl
  | Greater ↦ λ ac. refl
] refl

-- ---- entries of a table in order

-- what stands behind a resource isn't below it
below_held : (r : Resource) (es : Table) → T (below_all resource_cmp r es) → (s : Resource) (h : Held) → held_at s es ≡ Some h → is_below (resource_key s) (resource_key r) ≡ false
below_held r [] below s h at = cc
below_held r (e ∷ es) below s h at = elim (is_eq (resource_cmp s e.0)) as (λ b. is_eq (resource_cmp s e.0) ≡ b → cond b (Some e.1) (held_at s es) ≡ Some h → is_below (resource_key s) (resource_key r) ≡ false) [
  | true ↦ λ one is. ap (λ q. is_below (resource_key q) (resource_key r)) (is_one-eq s e.0 (is_one-cmp s e.0 ∙ one))
      ∙ below-turned (resource_key r) (resource_key e.0) (is_true _ (left_of _ _ below))
  | false ↦ λ other is. below_held r es (right_of _ _ below) s h is
] refl at
  where
    is_true : (b : Bool) → T b → b ≡ true
    is_true true p = refl
    is_true false p = absurd p

-- an entry passes a test, has this holding, and none that passes is below it
IsFirst : (Resource × Held → Bool) → Table → Resource × Held → Type 0
IsFirst test t e =
    (test e ≡ true) × (held_at e.0 t ≡ Some e.1) × ((s : Resource) (h : Held) → held_at s t ≡ Some h → test (s, h) ≡ true → is_below (resource_key s) (resource_key e.0) ≡ false)

-- the first of a table in order that passes is the least that does
first_least : (test : Resource × Held → Bool) (t : Table) → T (is_in_order t) → (e : Resource × Held) → first_that test t ≡ Some e → IsFirst test t e
unfolding IsFirst
first_least test [] rises e is = cc
first_least test (d ∷ ds) rises e is = elim (test d) as (λ b. test d ≡ b → (if b then Some d else first_that test ds) ≡ Some e → IsFirst test (d ∷ ds) e) [
  | true ↦ λ passes at.
      let same : d ≡ e = cc in
      subst (IsFirst test (d ∷ ds)) same (passes, ap (λ b. cond b (Some d.1) (held_at d.0 ds)) (is_same-self (resource_key d.0)), λ s h held _. here s h held)
  | false ↦ λ fails at.
      let rest = first_least test ds (right_of _ _ rises) e at in
      (rest.0, past e rest.1, λ s h held passes. later s h fails (rest.2 s h) held passes)
] refl is
  where
    -- a resource that is owned is that of the first entry, or comes behind it
    here : (s : Resource) (h : Held) → held_at s (d ∷ ds) ≡ Some h → is_below (resource_key s) (resource_key d.0) ≡ false
    here s h = elim (is_eq (resource_cmp s d.0)) as (λ b. is_eq (resource_cmp s d.0) ≡ b → cond b (Some d.1) (held_at s ds) ≡ Some h → is_below (resource_key s) (resource_key d.0) ≡ false) [
      | true ↦ λ one held. ap (λ q. is_below (resource_key q) (resource_key d.0)) (is_one-eq s d.0 (is_one-cmp s d.0 ∙ one)) ∙ begins-not_below (resource_key d.0) (resource_key d.0) (has_prefix-self (resource_key d.0))
      | false ↦ λ other held. below_held d.0 ds (left_of (below_all resource_cmp d.0 ds) (is_in_order ds) rises) s h held
    ] refl

    -- a resource behind the first entry has the holding that it has there
    past : (e : Resource × Held) → held_at e.0 ds ≡ Some e.1 → held_at e.0 (d ∷ ds) ≡ Some e.1
    past e held = elim (is_eq (resource_cmp e.0 d.0)) as (λ b. is_eq (resource_cmp e.0 d.0) ≡ b → cond b (Some d.1) (held_at e.0 ds) ≡ Some e.1) [
      | true ↦ λ one.
          let wrong : Some e.1 ≡ None = sym held ∙ ap (λ q. held_at q ds) (is_one-eq e.0 d.0 (is_one-cmp e.0 d.0 ∙ one)) ∙ held_below d.0 ds (left_of (below_all resource_cmp d.0 ds) (is_in_order ds) rises) in
          cc
      | false ↦ λ other. held
    ] refl

    -- if the first entry doesn't pass, what passes comes behind it
    later : (s : Resource) (h : Held) → test d ≡ false → (held_at s ds ≡ Some h → test (s, h) ≡ true → is_below (resource_key s) (resource_key e.0) ≡ false) → held_at s (d ∷ ds) ≡ Some h → test (s, h) ≡ true → is_below (resource_key s) (resource_key e.0) ≡ false
    later s h fails behind = elim (is_eq (resource_cmp s d.0)) as (λ b. is_eq (resource_cmp s d.0) ≡ b → cond b (Some d.1) (held_at s ds) ≡ Some h → test (s, h) ≡ true → is_below (resource_key s) (resource_key e.0) ≡ false) [
      | true ↦ λ one held passes.
          let same : d.1 ≡ h = cc in
          let wrong : true ≡ false = sym passes ∙ (λ i. test (is_one-eq s d.0 (is_one-cmp s d.0 ∙ one) i, sym same i)) ∙ fails in
          cc
      | false ↦ λ other held passes. behind held passes
    ] refl

-- another unit's holding
other_parts : (asker o : Option ℕ) (v : ℕ) → other_than asker o ≡ Some v → (o ≡ Some v) × (is_other asker v ≡ true)
other_parts asker None v is = cc
other_parts asker (Some w) v is = elim (is_other asker w) as (λ b. is_other asker w ≡ b → (if b then Some w else None) ≡ Some v → (Some w ≡ Some v) × (is_other asker v ≡ true)) [
  | true ↦ λ t s. let same : w ≡ v = cc in (s, ap (is_other asker) (sym same) ∙ t)
  | false ↦ λ f s. cc
] refl is

module _ (f : Bytes) (asker : Option ℕ) (t : Table) where
  -- the other unit that owns a prefix of the file
  abbrev others : Bytes → Option ℕ
  others b = other_than asker (holder_of (FilePrefix f (bytes_of b)) t)

  -- bytes in the order of the keys and the prefixes of the file
  abbrev place : Bytes → Bytes
  place b = length f ∷ (f ++ b)

  not_below : (a k : Bytes) → has_prefix a k ≡ true → is_below (place k) (place a) ≡ false
  not_below a k h = begins-not_below (place a) (place k) (and_from _ _ (eq-eqb (length f) (length f) refl) (begins_after f a k h))

  -- no other unit than the asker owns it
  not_held : (b : Bytes) (w : ℕ) → others b ≡ None → holder_of (FilePrefix f (bytes_of b)) t ≡ Some w → is_other asker w ≡ true → ⊥
  not_held b w none at other =
      let wrong : true ≡ false = sym other ∙ own_holder asker w (sym (ap (other_than asker) at) ∙ none) in
      cc

  -- ---- what conflicts with a key or a prefix of keys with the bytes p
  abbrev pub Near : Bytes → Resource → Type 0
  Near p q =
      ((k : Bytes) × (has_prefix p k ≡ true) × (q ≡ FileKey f (bytes_of k)))
      ⊎ (((k : Bytes) × (has_prefix p k ≡ true) × (q ≡ FilePrefix f (bytes_of k)))
      ⊎ ((b : Bytes) × (has_prefix b p ≡ true) × (q ≡ FilePrefix f (bytes_of b))))

  pub near_prefix : (p : ArrayVec ℕ) (q : Resource) → conflicts (FilePrefix f p) q ≡ true → Near p.items q
  near_prefix p (FileKey g k) h =
      let parts = and_parts (is_same f g) (has_prefix p.items k.items) h in
      inl (k.items, parts.1, ap (λ n. FileKey n k) (sym (is_same-eq f g parts.0)))
  near_prefix p (FilePrefix g q) h =
      let parts = and_parts (is_same f g) (has_prefix p.items q.items || has_prefix q.items p.items) h in
      let is : FilePrefix g q ≡ FilePrefix f q = ap (λ n. FilePrefix n q) (sym (is_same-eq f g parts.0)) in
      elim (or_cases (has_prefix p.items q.items) (has_prefix q.items p.items) parts.1) [
        | inl y ↦ inr (inl (q.items, y, is))
        | inr y ↦ inr (inr (q.items, y, is))
      ]
  near_prefix p _ h = cc

  near_key : (k : ArrayVec ℕ) (q : Resource) → conflicts (FileKey f k) q ≡ true → Near k.items q
  near_key k (FileKey g l) h =
      inl (k.items, has_prefix-self k.items, sym (is_one-eq (FileKey f k) (FileKey g l) h))
  near_key k (FilePrefix g q) h =
      let parts = and_parts (is_same f g) (has_prefix q.items k.items) h in
      inr (inr (q.items, parts.1, ap (λ n. FilePrefix n q) (sym (is_same-eq f g parts.0))))
  near_key k _ h = cc

  -- ---- a shorter prefix

  -- the shortest prefix that another unit owns and with which the bytes begin
  abbrev Shortest : Bytes → Bytes → ℕ → Type 0
  Shortest p rest v =
      (a : Bytes) × (x : ℕ) × (b : Bytes) × (rest ≡ a ++ x ∷ b) × (others (p ++ a) ≡ Some v) × ((c : Bytes) (y : ℕ) (d : Bytes) → a ≡ c ++ y ∷ d → others (p ++ c) ≡ None)

  none_shorter : (c : Bytes) (y : ℕ) (d : Bytes) {Q : Type 0} → [] ≡ c ++ y ∷ d → Q
  none_shorter [] y d is = cc
  none_shorter (z ∷ c) y d is = cc

  found_shorter : (p rest : Bytes) (v : ℕ) → holder_of_shorter f p rest asker t ≡ Some v → Shortest p rest v
  found_shorter p [] v is = cc
  found_shorter p (x ∷ r) v is = by (others p) refl (found_shorter (p ++ x ∷ []) r v) is
    where
      -- if no other unit owns the prefix itself, a longer one is the shortest
      earlier : others p ≡ None → (a : Bytes) → ((c : Bytes) (y : ℕ) (d : Bytes) → a ≡ c ++ y ∷ d → others ((p ++ x ∷ []) ++ c) ≡ None) → (c : Bytes) (y : ℕ) (d : Bytes) → x ∷ a ≡ c ++ y ∷ d → others (p ++ c) ≡ None
      earlier at a later [] y d e = ap others (append-nil p) ∙ at
      earlier at a later (z ∷ c) y d e =
          let first : x ≡ z = cc in
          let rest : a ≡ c ++ y ∷ d = cc in
          ap (λ w. others (p ++ w ∷ c)) (sym first) ∙ ap others (sym (append_assoc p (x ∷ []) c)) ∙ later c y d rest

      by : (o : Option ℕ) → others p ≡ o → (holder_of_shorter f (p ++ x ∷ []) r asker t ≡ Some v → Shortest (p ++ x ∷ []) r v) → first_of o (holder_of_shorter f (p ++ x ∷ []) r asker t) ≡ Some v → Shortest p (x ∷ r) v
      by (Some w) at later is = ([], x, r, refl, ap others (append-nil p) ∙ at ∙ is, λ c y d e. none_shorter c y d e)
      by None at later is =
          let rest = later is in
          (x ∷ rest.0, rest.1, rest.2, ap (λ k. x ∷ k) rest.3, ap others (sym (append_assoc p (x ∷ []) rest.0)) ∙ rest.4, earlier at rest.0 rest.5)

  -- it is the least of all that is near
  shorter_least : (r : Resource) (p : Bytes) (v : ℕ) → ((b : Bytes) → has_prefix b p ≡ true → conflicts r (FilePrefix f (bytes_of b)) ≡ true) → ((q : Resource) → conflicts r q ≡ true → Near p q) →
      Shortest [] p v → HoldsLeast t r asker v
  shorter_least r p v covers near found =
      let a = found.0 in
      let begins : has_prefix a p ≡ true = ap (has_prefix a) found.3 ∙ begins_append a (found.1 ∷ found.2) in
      let held = other_parts asker (holder_of (FilePrefix f (bytes_of a)) t) v found.4 in (
        FilePrefix f (bytes_of a),
        (covers a begins, held.0, held.1),
        λ q w way. elim (near q way.0) [
          | inl key ↦ ap (λ s. is_below (place_of s) (place a)) key.2 ∙ not_below a key.0 (has_prefix-trans a p key.0 begins key.1)
          | inr other ↦ elim other [
            | inl longer ↦ ap (λ s. is_below (place_of s) (place a)) longer.2 ∙ not_below a longer.0 (has_prefix-trans a p longer.0 begins longer.1)
            | inr shorter ↦ elim (two_begin a shorter.0 p begins shorter.1) [
              | inl y ↦ ap (λ s. is_below (place_of s) (place a)) shorter.2 ∙ not_below a shorter.0 y
              | inr more ↦ absurd (not_held shorter.0 w (found.5 shorter.0 more.0 more.1 more.2) (ap (λ s. holder_of s t) (sym shorter.2) ∙ way.1) way.2)
            ]
          ]
        ],
      )

  -- if no shorter prefix is another unit's, nothing that conflicts is below what has the same bytes
  same_least : (p : Bytes) → holder_of_shorter f [] p asker t ≡ None → (q : Resource) (w : ℕ) → Near p q → holder_of q t ≡ Some w → is_other asker w ≡ true → is_below (place_of q) (place p) ≡ false
  same_least p none q w near at other = elim near [
    | inl key ↦ ap (λ s. is_below (place_of s) (place p)) key.2 ∙ not_below p key.0 key.1
    | inr more ↦ elim more [
      | inl longer ↦ ap (λ s. is_below (place_of s) (place p)) longer.2 ∙ not_below p longer.0 longer.1
      | inr shorter ↦ elim (begins_split shorter.0 p shorter.1) [
        | inl same ↦ ap (λ s. is_below (place_of s) (place p)) shorter.2 ∙ ap (λ b. is_below (place b) (place p)) same ∙ not_below p p (has_prefix-self p)
        | inr rest ↦ absurd (not_held shorter.0 w (shorter_none f [] p asker t none shorter.0 rest.0 rest.1 rest.2) (ap (λ s. holder_of s t) (sym shorter.2) ∙ at) other)
      ]
    ]
  ]

  -- the key itself, or the prefix with its bytes, is the least
  same_holds : (r s : Resource) (p : Bytes) (v : ℕ) → conflicts r s ≡ true → place_of s ≡ place p → ((q : Resource) → conflicts r q ≡ true → Near p q) → holder_of_shorter f [] p asker t ≡ None →
      other_than asker (holder_of s t) ≡ Some v → HoldsLeast t r asker v
  same_holds r s p v meets is near none found =
      let held = other_parts asker (holder_of s t) v found in
      (s, (meets, held.0, held.1), λ q w way. ap (is_below (place_of q)) is ∙ same_least p none q w (near q way.0) way.1 way.2)

  -- ---- what begins with a prefix

  -- bytes behind two names of one length
  split_front : (a b p k : Bytes) → length a ≡ length b → has_prefix (a ++ p) (b ++ k) ≡ true → (a ≡ b) × (has_prefix p k ≡ true)
  split_front [] [] p k len h = (refl, h)
  split_front [] (y ∷ b) p k len h = absurd (omega (arith, len))
  split_front (x ∷ a) [] p k len h = absurd (omega (arith, len))
  split_front (x ∷ a) (y ∷ b) p k len h =
      let parts = and_parts (x == y) (has_prefix (a ++ p) (b ++ k)) h in
      let rest = split_front a b p k (omega (arith, len)) parts.1 in
      ((λ i. eqb-true x y parts.0 i ∷ rest.0 i), rest.1)

  pub under_name : (g p k : Bytes) → has_prefix (length f ∷ (f ++ p)) (length g ∷ (g ++ k)) ≡ true → (f ≡ g) × (has_prefix p k ≡ true)
  under_name g p k h =
      let parts = and_parts (length f == length g) (has_prefix (f ++ p) (g ++ k)) h in
      split_front f g p k (eqb-true (length f) (length g) parts.0) parts.1

  pub under_key : (p : Bytes) (s : Resource) → is_under (FileKey f (bytes_of p)) s ≡ true → (k : Bytes) × (has_prefix p k ≡ true) × (s ≡ FileKey f (bytes_of k))
  under_key p (FileKey g k) h = let parts = under_name g p k.items h in (k.items, parts.1, ap (λ n. FileKey n k) (sym parts.0))
  under_key p (FilePrefix g k) h = cc
  under_key p (TsQueue q) h = cc
  under_key p (TdRead q) h = cc
  under_key p (TdWrite q) h = cc
  under_key p (User v) h = cc

  pub under_prefix : (p : Bytes) (s : Resource) → is_under (FilePrefix f (bytes_of p)) s ≡ true → (k : Bytes) × (has_prefix p k ≡ true) × (s ≡ FilePrefix f (bytes_of k))
  under_prefix p (FilePrefix g k) h = let parts = under_name g p k.items h in (k.items, parts.1, ap (λ n. FilePrefix n k) (sym parts.0))
  under_prefix p (FileKey g k) h = cc
  under_prefix p (TsQueue q) h = cc
  under_prefix p (TdRead q) h = cc
  under_prefix p (TdWrite q) h = cc
  under_prefix p (User v) h = cc

  -- an entry of another unit that begins with a resource's bytes
  abbrev under : Resource → Resource × Held → Bool
  under r e = is_under r e.0 && is_other asker e.1.unit

  -- none of a kind that begins with a prefix and is another unit's is below these bytes
  abbrev Above : (Bytes → Resource) → Bytes → Bytes → Type 0
  Above kind p at = (k : Bytes) (w : ℕ) → has_prefix p k ≡ true → holder_of (kind k) t ≡ Some w → is_other asker w ≡ true → is_below (place k) at ≡ false

  -- if there is none, none is below anything
  above_none : (kind : Bytes → Resource) (p at : Bytes) → ((k : Bytes) → has_prefix p k ≡ true → is_under (kind p) (kind k) ≡ true) → first_that (under (kind p)) t ≡ None → Above kind p at
  above_none kind p at begins none k w begin held other =
      let wrong : true ≡ false = sym other ∙ under_own (kind p) asker t none (kind k) (begins k begin) w held in
      cc

  -- the first is the least of its kind
  above_first : (kind : Bytes → Resource) (p : Bytes) (e : Resource × Held) → ((k : Bytes) → has_prefix p k ≡ true → is_under (kind p) (kind k) ≡ true) → ((k : Bytes) → place_of (kind k) ≡ place k) →
      ((k : Bytes) → is_below (resource_key (kind k)) (resource_key e.0) ≡ is_below (place_of (kind k)) (place_of e.0)) → IsFirst (under (kind p)) t e → Above kind p (place_of e.0)
  unfolding IsFirst
  above_first kind p e begins is same first k w begin held other = by (held_at (kind k) t) refl held
    where
      by : (o : Option Held) → held_at (kind k) t ≡ o → option_map (λ h. h.unit) o ≡ Some w → is_below (place k) (place_of e.0) ≡ false
      by None at is_w = cc
      by (Some h) at is_w =
          let unit : h.unit ≡ w = cc in
          let passes : under (kind p) (kind k, h) ≡ true = (λ i. begins k begin i && is_other asker (unit i)) ∙ other in
          ap (λ b. is_below b (place_of e.0)) (sym (is k)) ∙ sym (same k) ∙ first.2 (kind k) h at passes

  -- what is below neither the keys nor the prefixes that begin with a prefix is the least
  least_of : (p : Bytes) (e : Resource × Held) (v : ℕ) → holder_of_shorter f [] p asker t ≡ None → conflicts (FilePrefix f (bytes_of p)) e.0 ≡ true → holder_of e.0 t ≡ Some v → is_other asker v ≡ true →
      Above (λ k. FileKey f (bytes_of k)) p (place_of e.0) → Above (λ k. FilePrefix f (bytes_of k)) p (place_of e.0) → HoldsLeast t (FilePrefix f (bytes_of p)) asker v
  least_of p e v none meets held other keys prefixes = (
    e.0,
    (meets, held, other),
    λ q w way. elim (near_prefix (bytes_of p) q way.0) [
      | inl key ↦ ap (λ s. is_below (place_of s) (place_of e.0)) key.2 ∙ keys key.0 w key.1 (ap (λ s. holder_of s t) (sym key.2) ∙ way.1) way.2
      | inr more ↦ elim more [
        | inl longer ↦ ap (λ s. is_below (place_of s) (place_of e.0)) longer.2 ∙ prefixes longer.0 w longer.1 (ap (λ s. holder_of s t) (sym longer.2) ∙ way.1) way.2
        | inr shorter ↦ elim (begins_split shorter.0 p shorter.1) [
          | inl same ↦ ap (λ s. is_below (place_of s) (place_of e.0)) shorter.2
              ∙ prefixes shorter.0 w (ap (has_prefix p) same ∙ has_prefix-self p) (ap (λ s. holder_of s t) (sym shorter.2) ∙ way.1) way.2
          | inr rest ↦ absurd (not_held shorter.0 w (shorter_none f [] p asker t none shorter.0 rest.0 rest.1 rest.2) (ap (λ s. holder_of s t) (sym shorter.2) ∙ way.1) way.2)
        ]
      ]
    ],
  )

  -- a first entry conflicts, and none of its kind is below it
  abbrev Found : (Bytes → Resource) → Bytes → Resource × Held → Type 0
  Found kind p e =
      (conflicts (FilePrefix f (bytes_of p)) e.0 ≡ true) × (holder_of e.0 t ≡ Some e.1.unit) × (is_other asker e.1.unit ≡ true) × Above kind p (place_of e.0)

  module _ (rises : T (is_in_order t)) (p : Bytes) where
    abbrev key : Bytes → Resource
    key k = FileKey f (bytes_of k)

    abbrev prefix : Bytes → Resource
    prefix k = FilePrefix f (bytes_of k)

    found_key : (e : Resource × Held) → first_that (under (key p)) t ≡ Some e → Found key p e
    unfolding IsFirst
    found_key e is =
        let first = first_least (under (key p)) t rises e is in
        let parts = and_parts (is_under (key p) e.0) (is_other asker e.1.unit) first.0 in
        let at = under_key p e.0 parts.0 in (
          ap (conflicts (prefix p)) at.2 ∙ and_from _ _ (is_same-self f) at.1,
          ap (option_map (λ h. h.unit)) first.1,
          parts.1,
          above_first key p e (λ k b. under_file 1 (length f) f p k b) (λ k. refl) (λ k. (λ i. is_below (resource_key (key k)) (resource_key (at.2 i))) ∙ (λ i. is_below (place k) (place_of (sym at.2 i)))) first,
        )

    found_prefix : (e : Resource × Held) → first_that (under (prefix p)) t ≡ Some e → Found prefix p e
    unfolding IsFirst
    found_prefix e is =
        let first = first_least (under (prefix p)) t rises e is in
        let parts = and_parts (is_under (prefix p) e.0) (is_other asker e.1.unit) first.0 in
        let at = under_prefix p e.0 parts.0 in (
          ap (conflicts (prefix p)) at.2 ∙ and_from _ _ (is_same-self f) (ap (λ b. b || has_prefix at.0 p) at.1),
          ap (option_map (λ h. h.unit)) first.1,
          parts.1,
          above_first prefix p e (λ k b. under_file 0 (length f) f p k b) (λ k. refl) (λ k. (λ i. is_below (resource_key (prefix k)) (resource_key (at.2 i))) ∙ (λ i. is_below (place k) (place_of (sym at.2 i)))) first,
        )

    no_key : (at : Bytes) → first_that (under (key p)) t ≡ None → Above key p at
    no_key at = above_none key p at (λ k b. under_file 1 (length f) f p k b)

    no_prefix : (at : Bytes) → first_that (under (prefix p)) t ≡ None → Above prefix p at
    no_prefix at = above_none prefix p at (λ k b. under_file 0 (length f) f p k b)

    -- the lesser of the first key and the first prefix is the least
    under_least : (v : ℕ) → holder_of_shorter f [] p asker t ≡ None → option_map (λ e. e.1.unit) (least_under f p asker t) ≡ Some v → HoldsLeast t (prefix p) asker v
    under_least v none is = by (first_that (under (key p)) t) refl (first_that (under (prefix p)) t) refl is
      where
        chosen : (e : Resource × Held) → e.1.unit ≡ v → conflicts (prefix p) e.0 ≡ true → holder_of e.0 t ≡ Some e.1.unit → is_other asker e.1.unit ≡ true → Above key p (place_of e.0) → Above prefix p (place_of e.0) → HoldsLeast t (prefix p) asker v
        chosen e unit meets held other keys prefixes = least_of p e v none meets (held ∙ ap Some unit) (ap (is_other asker) (sym unit) ∙ other) keys prefixes

        by : (a : Option (Resource × Held)) → first_that (under (key p)) t ≡ a → (b : Option (Resource × Held)) → first_that (under (prefix p)) t ≡ b → option_map (λ e. e.1.unit) (lesser a b) ≡ Some v → HoldsLeast t (prefix p) asker v
        by None ka None pa is = cc
        by (Some x) ka None pa is =
            let found = found_key x ka in
            chosen x (let unit : x.1.unit ≡ v = cc in unit) found.0 found.1 found.2 found.3 (no_prefix (place_of x.0) pa)
        by None ka (Some y) pa is =
            let found = found_prefix y pa in
            chosen y (let unit : y.1.unit ≡ v = cc in unit) found.0 found.1 found.2 (no_key (place_of y.0) ka) found.3
        by (Some x) ka (Some y) pa is =
            let keys = found_key x ka in
            let prefixes = found_prefix y pa in
            elim (is_below (place_of y.0) (place_of x.0)) as (λ b. is_below (place_of y.0) (place_of x.0) ≡ b → option_map (λ e. e.1.unit) (if b then Some y else Some x) ≡ Some v → HoldsLeast t (prefix p) asker v) [
              | true ↦ λ below at. chosen y (let unit : y.1.unit ≡ v = cc in unit) prefixes.0 prefixes.1 prefixes.2
                  (λ k w begins held other. not_below-trans (place k) (place_of x.0) (place_of y.0) (keys.3 k w begins held other) (below-turned (place_of y.0) (place_of x.0) below)) prefixes.3
              | false ↦ λ above at. chosen x (let unit : x.1.unit ≡ v = cc in unit) keys.0 keys.1 keys.2 keys.3
                  (λ k w begins held other. not_below-trans (place k) (place_of y.0) (place_of x.0) (prefixes.3 k w begins held other) above)
            ] refl is

    -- a prefix
    prefix_least : (v : ℕ) → held_with_prefix f p asker t ≡ Some v → HoldsLeast t (prefix p) asker v
    prefix_least v is = by (holder_of_shorter f [] p asker t) refl is
      where
        covers : (b : Bytes) → has_prefix b p ≡ true → conflicts (prefix p) (prefix b) ≡ true
        covers b h = and_from _ _ (is_same-self f) (either (has_prefix p b) (has_prefix b p) h)
          where
            either : (x y : Bool) → y ≡ true → (x || y) ≡ true
            either true y h = refl
            either false y h = h

        by : (o : Option ℕ) → holder_of_shorter f [] p asker t ≡ o → first_of o (option_map (λ e. e.1.unit) (least_under f p asker t)) ≡ Some v → HoldsLeast t (prefix p) asker v
        by (Some w) at is = shorter_least (prefix p) p v covers (near_prefix (bytes_of p)) (found_shorter [] p v (at ∙ is))
        by None at is = under_least v at is

    -- a key
    key_least : (v : ℕ) → holder_over (key p) asker t ≡ Some v → HoldsLeast t (key p) asker v
    key_least v is = by (holder_of_shorter f [] p asker t) refl is
      where
        covers : (b : Bytes) → has_prefix b p ≡ true → conflicts (key p) (prefix b) ≡ true
        covers b h = and_from _ _ (is_same-self f) h

        same : holder_of_shorter f [] p asker t ≡ None → (o : Option ℕ) → other_than asker (holder_of (key p) t) ≡ o → first_of o (other_than asker (holder_of (prefix p) t)) ≡ Some v → HoldsLeast t (key p) asker v
        same none (Some w) at is = same_holds (key p) (key p) p v (conflicts-self (key p)) refl (near_key (bytes_of p)) none (at ∙ is)
        same none None at is = same_holds (key p) (prefix p) p v (covers p (has_prefix-self p)) refl (near_key (bytes_of p)) none is

        by : (o : Option ℕ) → holder_of_shorter f [] p asker t ≡ o → first_of o (first_of (other_than asker (holder_of (key p) t)) (other_than asker (holder_of (prefix p) t))) ≡ Some v → HoldsLeast t (key p) asker v
        by (Some w) at is = shorter_least (key p) p v covers (near_key (bytes_of p)) (found_shorter [] p v (at ∙ is))
        by None at is = same at (other_than asker (holder_of (key p) t)) refl is

-- the owner of what conflicts with itself alone
plain_least : (t : Table) (asker : Option ℕ) (r : Resource) (v : ℕ) → ((q : Resource) → conflicts r q ≡ true → is_one r q ≡ true) → other_than asker (holder_of r t) ≡ Some v → HoldsLeast t r asker v
plain_least t asker r v alone found =
    let held = other_parts asker (holder_of r t) v found in
    (r, (conflicts-self r, held.0, held.1), λ q w way. ap (λ s. is_below (place_of s) (place_of r)) (sym (is_one-eq r q (alone q way.0))) ∙ begins-not_below (place_of r) (place_of r) (has_prefix-self (place_of r)))

-- the owner that is found of what conflicts with a resource owns the smallest of it
pub holder_over-least : (t : Table) (asker : Option ℕ) → T (is_in_order t) → (r : Resource) (v : ℕ) → holder_over r asker t ≡ Some v → HoldsLeast t r asker v
holder_over-least t asker rises (FilePrefix f p) v is = prefix_least f asker t rises p.items v is
holder_over-least t asker rises (FileKey f k) v is = key_least f asker t rises k.items v is
holder_over-least t asker rises (TsQueue q) v is = plain_least t asker (TsQueue q) v (λ q h. h) is
holder_over-least t asker rises (TdRead q) v is = plain_least t asker (TdRead q) v (λ q h. h) is
holder_over-least t asker rises (TdWrite q) v is = plain_least t asker (TdWrite q) v (λ q h. h) is
holder_over-least t asker rises (User w) v is = plain_least t asker (User w) v (λ q h. h) is

-- so does an answer of some unit
pub least_if_some : (o : Option ℕ) (t : Table) (r : Resource) (asker : Option ℕ) → T (is_in_order t) → o ≡ holder_over r asker t → IfSome o (HoldsLeast t r asker)
least_if_some None t r asker rises is = tt
least_if_some (Some v) t r asker rises is = holder_over-least t asker rises r v (sym is)

-- if no other unit owns anything, there is no blocker
pub none_alone : (t : Table) (r : Resource) (asker : Option ℕ) → T (is_in_order t) → ((s : Resource) → other_than asker (holder_of s t) ≡ None) → None ≡ holder_over r asker t
none_alone t r asker rises alone = by (holder_over r asker t) refl
  where
    by : (o : Option ℕ) → holder_over r asker t ≡ o → None ≡ holder_over r asker t
    by None is = sym is
    by (Some v) is =
        let least = holder_over-least t asker rises r v is in
        let wrong : Some v ≡ None = sym (ap (λ b. if b then Some v else None) least.1.2) ∙ sym (ap (other_than asker) least.1.1) ∙ alone least.0 in cc
