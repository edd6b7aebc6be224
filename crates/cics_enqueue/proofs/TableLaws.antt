-- What a table of enqueues says of each resource once a unit has acquired one, released one once,
-- or released all that it owned.
use Rattle.std.specs.Prelude.{◌≡◌, ℕ, ◌+◌, ◌-◌, ◌==◌, Bool, true, false, not, ◌&&◌, cond, if◌then◌else◌, T, Option, Some, None, is_some, option_map, nat_le, nat_lt, [], ◌∷◌}
use Rattle.std.proofs.Common.{refl, sym, ap, subst, ◌∙◌, arith}
use Rattle.std.specs.declared.cmp.Ordering.{Ordering}
use Rattle.std.specs.declared.cmp.Ordering.TheVariants.{Less, Equal, Greater}
use Rattle.std.specs.Ordering.{is_eq, is_lt}
use Rattle.std.specs.Cmp.{eq_by_cmp_equiv}
use Rattle.std.specs.FinMap as map_by
use Rattle.std.specs.FinMap.Entries.{find-put, find-where_key, is_sorted-put, is_sorted-where_key, same_entries, below_all}
use Rattle.std.proofs.lemmas.Bool.{eq-eqb, false≢true}
use Rattle.cics_history.specs.declared.resources.Resource.{Resource}
use Rattle.cics_history.specs.Resources.{is_one, is_user}
use Rattle.cics_enqueue.specs.Table.{Table, Held, IsFreeFor, other_than, held_at, holder_of, count_of, count_in, raised_count, is_in_order, resource_cmp, with_holder, freed, released, taken, given_back, given_back_of}
use Rattle.cics_history.specs.ResourceLaws.{is_one-eq, is_one-self}
use Rattle.cics_enqueue.specs.Order.{free_own, resource_cmp_total, is_one-cmp, same_resources}

-- a holding after a unit released it once
abbrev pub held_less : ℕ → Option Held → Option Held
held_less u None = None
held_less u (Some h) = if h.unit == u then (if nat_lt 1 h.count then Some (record { unit = u; count = h.count - 1 }) else None) else Some h

-- a holding after a unit released all that it owned
abbrev pub held_without : ℕ → Option Held → Option Held
held_without u None = None
held_without u (Some h) = if h.unit == u then None else Some h

-- the owner, if it isn't this unit
abbrev pub holder_without : ℕ → Option ℕ → Option ℕ
holder_without u None = None
holder_without u (Some v) = if v == u then None else Some v

-- which of two comes first doesn't matter
pub is_one-turned : (r s : Resource) → is_one r s ≡ is_one s r
is_one-turned r s = is_one-cmp r s ∙ (eq_by_cmp_equiv resource_cmp_total).symm r s ∙ sym (is_one-cmp s r)

turned : {A : Type 0} (b : Bool) (x y : A) → cond (not b) x y ≡ cond b y x
turned true x y = refl
turned false x y = refl

-- a test of two parts
pub left_of : (a b : Bool) → T (a && b) → T a
left_of true b p = tt
left_of false b p = absurd p

pub right_of : (a b : Bool) → T (a && b) → T b
right_of true b p = p
right_of false b p = absurd p

joined : (a b : Bool) → T a → T b → T (a && b)
joined true b p q = q
joined false b p q = p

-- two resources that are one have the same holding
held_same : (t : Table) (r q : Resource) (o : Option Held) → held_at r t ≡ o → held_at q t ≡ (if is_one q r then o else held_at q t)
held_same t r q o at =
    elim (is_one q r) as (λ b. is_one q r ≡ b → held_at q t ≡ (if b then o else held_at q t)) [
      | true ↦ λ one. ap (λ s. held_at s t) (is_one-eq q r one) ∙ at
      | false ↦ λ other. refl
    ] refl

-- ---- The holding of each resource

pub held_at-with_holder : (t : Table) (r : Resource) (u n : ℕ) (q : Resource) →
    held_at q (with_holder t r u n) ≡ (if is_one q r then Some (record { unit = u; count = n }) else held_at q t)
held_at-with_holder t r u n q =
    find-put resource_cmp resource_cmp_total q r (record { unit = u; count = n }) t
    ∙ ap (λ b. cond b (Some (record { unit = u; count = n })) (held_at q t)) (sym (is_one-cmp q r))

pub held_at-freed : (t : Table) (r q : Resource) → held_at q (freed t r) ≡ (if is_one q r then None else held_at q t)
held_at-freed t r q =
    find-where_key resource_cmp (λ s. not (is_one r s)) q (λ x tied. ap (λ s. not (is_one r s)) (sym (same_resources q x tied))) t
    ∙ turned (is_one r q) (held_at q t) None ∙ ap (λ b. cond b None (held_at q t)) (is_one-turned r q)

pub held_at-given_back : (t : Table) (r : Resource) (u : ℕ) (q : Resource) →
    held_at q (given_back t r u) ≡ (if is_one q r then held_less u (held_at r t) else held_at q t)
held_at-given_back t r u q =
    elim (held_at r t) as (λ o. held_at r t ≡ o → held_at q (given_back_of o t r u) ≡ (if is_one q r then held_less u o else held_at q t)) [
      | None ↦ λ at. held_same t r q None at
      | Some h ↦ λ at. elim (h.unit == u) as (λ b.
          held_at q (if b then (if nat_lt 1 h.count then with_holder t r u (h.count - 1) else freed t r) else t)
          ≡ (if is_one q r then (if b then (if nat_lt 1 h.count then Some (record { unit = u; count = h.count - 1 }) else None) else Some h) else held_at q t)) [
            | true ↦ elim (nat_lt 1 h.count) as (λ b.
                held_at q (if b then with_holder t r u (h.count - 1) else freed t r)
                ≡ (if is_one q r then (if b then Some (record { unit = u; count = h.count - 1 }) else None) else held_at q t)) [
                  | true ↦ held_at-with_holder t r u (h.count - 1) q
                  | false ↦ held_at-freed t r q
                ]
            | false ↦ held_same t r q (Some h) at
          ]
    ] refl

-- what comes before isn't the same
pub not_tied : (o : Ordering) → T (is_lt o) → is_eq o ≡ false
not_tied Less p = refl
not_tied Equal p = absurd p
not_tied Greater p = refl

-- what comes before all of a table isn't in it
pub held_below : (q : Resource) (es : Table) → T (below_all resource_cmp q es) → held_at q es ≡ None
held_below q [] below = refl
held_below q (e ∷ es) below =
    ap (λ b. cond b (Some e.1) (held_at q es)) (not_tied (resource_cmp q e.0) (left_of _ _ below))
    ∙ held_below q es (right_of _ _ below)

pub held_before : (q r : Resource) (es : Table) → resource_cmp q r ≡ Less → T (below_all resource_cmp r es) → held_at q es ≡ None
held_before q r [] less below = refl
held_before q r (e ∷ es) less below =
    ap (λ o. cond (is_eq o) (Some e.1) (held_at q es)) (resource_cmp_total.trans q r e.0 less (is_less (resource_cmp r e.0) (left_of _ _ below)))
    ∙ held_before q r es less (right_of _ _ below)
  where
    is_less : (o : Ordering) → T (is_lt o) → o ≡ Less
    is_less Less p = refl
    is_less Equal p = absurd p
    is_less Greater p = absurd p

-- to free what nobody owns changes nothing
pub freed-absent : (r : Resource) (t : Table) → held_at r t ≡ None → freed t r ≡ t
freed-absent r [] free = refl
freed-absent r (e ∷ es) free =
    elim (is_one r e.0) as (λ b. is_one r e.0 ≡ b → cond (not b) (e ∷ freed es r) (freed es r) ≡ e ∷ es) [
      | true ↦ λ one.
          let found : Some e.1 ≡ None = sym (ap (λ b. cond b (Some e.1) (held_at r es)) (sym (is_one-cmp r e.0) ∙ one)) ∙ free in
          cc
      | false ↦ λ other.
          ap (λ t. e ∷ t) (freed-absent r es (sym (ap (λ b. cond b (Some e.1) (held_at r es)) (sym (is_one-cmp r e.0) ∙ other)) ∙ free))
    ] refl

pub held_at-released : (t : Table) (u : ℕ) (q : Resource) → T (is_in_order t) → held_at q (released t u) ≡ held_without u (held_at q t)
held_at-released [] u q rises = refl
held_at-released (e ∷ es) u q rises =
    let rest = held_at-released es u q (right_of _ _ rises) in
    elim (is_eq (resource_cmp q e.0)) as (λ b. is_eq (resource_cmp q e.0) ≡ b → held_at q (released (e ∷ es) u) ≡ held_without u (cond b (Some e.1) (held_at q es))) [
      | true ↦ λ one.
          let same : q ≡ e.0 = is_one-eq q e.0 (is_one-cmp q e.0 ∙ one) in
          let none : held_at q es ≡ None = held_below q es (subst (λ s. T (below_all resource_cmp s es)) (sym same) (left_of _ _ rises)) in
          elim (e.1.unit == u) as (λ b. held_at q (cond (not b) (e ∷ released es u) (released es u)) ≡ cond b None (Some e.1)) [
            | true ↦ rest ∙ ap (held_without u) none
            | false ↦ ap (λ b. cond b (Some e.1) (held_at q (released es u))) one
          ]
      | false ↦ λ other.
          elim (e.1.unit == u) as (λ b. held_at q (cond (not b) (e ∷ released es u) (released es u)) ≡ held_without u (held_at q es)) [
            | true ↦ rest
            | false ↦ ap (λ b. cond b (Some e.1) (held_at q (released es u))) other ∙ rest
          ]
    ] refl

-- ---- The order stays

pub is_in_order-taken : (t : Table) (r : Resource) (u : ℕ) → T (is_in_order t) → T (is_in_order (taken t r u))
is_in_order-taken t r u rises = is_sorted-put resource_cmp resource_cmp_total r (record { unit = u; count = raised_count r (held_at r t) }) t rises

pub is_in_order-given_back : (t : Table) (r : Resource) (u : ℕ) → T (is_in_order t) → T (is_in_order (given_back t r u))
is_in_order-given_back t r u rises =
    elim (held_at r t) as (λ o. T (is_in_order (given_back_of o t r u))) [
      | None ↦ rises
      | Some h ↦ elim (h.unit == u) as (λ b. T (is_in_order (if b then (if nat_lt 1 h.count then with_holder t r u (h.count - 1) else freed t r) else t))) [
        | true ↦ elim (nat_lt 1 h.count) as (λ b. T (is_in_order (if b then with_holder t r u (h.count - 1) else freed t r))) [
          | true ↦ is_sorted-put resource_cmp resource_cmp_total r (record { unit = u; count = h.count - 1 }) t rises
          | false ↦ is_sorted-where_key resource_cmp (λ s. not (is_one r s)) t rises
        ]
        | false ↦ rises
      ]
    ]

below_released : (x : Resource) (t : Table) (u : ℕ) → T (below_all resource_cmp x t) → T (below_all resource_cmp x (released t u))
below_released x [] u below = tt
below_released x (e ∷ es) u below =
    let rest = below_released x es u (right_of _ _ below) in
    elim (e.1.unit == u) as (λ b. T (below_all resource_cmp x (cond (not b) (e ∷ released es u) (released es u)))) [
      | true ↦ rest
      | false ↦ joined _ _ (left_of _ _ below) rest
    ]

pub is_in_order-released : (t : Table) (u : ℕ) → T (is_in_order t) → T (is_in_order (released t u))
is_in_order-released [] u rises = tt
is_in_order-released (e ∷ es) u rises =
    let rest = is_in_order-released es u (right_of _ _ rises) in
    elim (e.1.unit == u) as (λ b. T (is_in_order (cond (not b) (e ∷ released es u) (released es u)))) [
      | true ↦ rest
      | false ↦ joined _ _ (below_released e.0 es u (left_of _ _ rises)) rest
    ]

-- ---- The owner of each resource

after_test : {A B : Type 0} (f : A → B) (b : Bool) (x y : A) → f (if b then x else y) ≡ (if b then f x else f y)
after_test f true x y = refl
after_test f false x y = refl

-- the unit of a holding
abbrev pub unit_in : Option Held → Option ℕ
unit_in o = option_map (λ h. h.unit) o

pub holder_of-taken : (t : Table) (r : Resource) (u : ℕ) (q : Resource) → holder_of q (taken t r u) ≡ (if is_one q r then Some u else holder_of q t)
holder_of-taken t r u q =
    ap unit_in (held_at-with_holder t r u (raised_count r (held_at r t)) q)
    ∙ after_test unit_in (is_one q r) (Some (record { unit = u; count = raised_count r (held_at r t) })) (held_at q t)

unit_less : (u : ℕ) (o : Option Held) → nat_le (count_in o) 1 ≡ true → unit_in (held_less u o) ≡ holder_without u (unit_in o)
unit_less u None single = refl
unit_less u (Some h) single = elim (h.unit == u) as (λ b.
    unit_in (if b then (if nat_lt 1 h.count then Some (record { unit = u; count = h.count - 1 }) else None) else Some h)
    ≡ (if b then None else Some h.unit)) [
      | true ↦ elim (nat_lt 1 h.count) as (λ b. nat_lt 1 h.count ≡ b → unit_in (if b then Some (record { unit = u; count = h.count - 1 }) else None) ≡ None) [
        | true ↦ λ more. absurd (never h.count single more)
        | false ↦ λ last. refl
      ] refl
      | false ↦ refl
    ]
  where
    never : (n : ℕ) → nat_le n 1 ≡ true → nat_lt 1 n ≡ true → ⊥
    never n a b = grind (arith, a, b)

-- what is owned once is free once its unit releases it
pub holder_of-given_back : (t : Table) (r : Resource) (u : ℕ) (q : Resource) → nat_le (count_of r t) 1 ≡ true →
    holder_of q (given_back t r u) ≡ (if is_one q r then holder_without u (holder_of r t) else holder_of q t)
holder_of-given_back t r u q single =
    ap unit_in (held_at-given_back t r u q)
    ∙ after_test unit_in (is_one q r) (held_less u (held_at r t)) (held_at q t)
    ∙ ap (λ o. if is_one q r then o else holder_of q t) (unit_less u (held_at r t) single)

pub holder_of-released : (t : Table) (u : ℕ) (q : Resource) → T (is_in_order t) → holder_of q (released t u) ≡ holder_without u (holder_of q t)
holder_of-released t u q rises = ap unit_in (held_at-released t u q rises) ∙ without (held_at q t)
  where
    without : (o : Option Held) → unit_in (held_without u o) ≡ holder_without u (unit_in o)
    without None = refl
    without (Some h) = after_test unit_in (h.unit == u) None (Some h)

-- ---- What is owned once stays so

abbrev is_once : Option Held → Bool
is_once o = nat_le (count_in o) 1

pub once-taken : (t : Table) (r : Resource) (u : ℕ) (q : Resource) → is_user q ≡ false → nat_le (count_of q t) 1 ≡ true → nat_le (count_of q (taken t r u)) 1 ≡ true
once-taken t r u q value single =
    ap is_once (held_at-with_holder t r u (raised_count r (held_at r t)) q)
    ∙ elim (is_one q r) as (λ b. is_one q r ≡ b → is_once (if b then Some (record { unit = u; count = raised_count r (held_at r t) }) else held_at q t) ≡ true) [
      | true ↦ λ one. subst (λ s. nat_le (raised_count s (held_at s t)) 1 ≡ true) (is_one-eq q r one) (raised (held_at q t) single)
      | false ↦ λ other. single
    ] refl
  where
    raised : (o : Option Held) → nat_le (count_in o) 1 ≡ true → nat_le (raised_count q o) 1 ≡ true
    raised None h = refl
    raised (Some held) h = ap (λ b. nat_le (if b then held.count + 1 else held.count) 1) value ∙ h

pub once-given_back : (t : Table) (r : Resource) (u : ℕ) (q : Resource) → nat_le (count_of q t) 1 ≡ true → nat_le (count_of q (given_back t r u)) 1 ≡ true
once-given_back t r u q single =
    ap is_once (held_at-given_back t r u q)
    ∙ elim (is_one q r) as (λ b. is_one q r ≡ b → is_once (if b then held_less u (held_at r t) else held_at q t) ≡ true) [
      | true ↦ λ one. subst (λ s. is_once (held_less u (held_at s t)) ≡ true) (is_one-eq q r one) (less (held_at q t) single)
      | false ↦ λ other. single
    ] refl
  where
    fewer : (n : ℕ) → nat_le n 1 ≡ true → nat_le (n - 1) 1 ≡ true
    fewer n h = grind (arith, h)

    less : (o : Option Held) → is_once o ≡ true → is_once (held_less u o) ≡ true
    less None h = refl
    less (Some held) h = elim (held.unit == u) as (λ b.
        is_once (if b then (if nat_lt 1 held.count then Some (record { unit = u; count = held.count - 1 }) else None) else Some held) ≡ true) [
          | true ↦ elim (nat_lt 1 held.count) as (λ b. is_once (if b then Some (record { unit = u; count = held.count - 1 }) else None) ≡ true) [
            | true ↦ fewer held.count h
            | false ↦ refl
          ]
          | false ↦ h
        ]

pub once-released : (t : Table) (u : ℕ) (q : Resource) → T (is_in_order t) → nat_le (count_of q t) 1 ≡ true → nat_le (count_of q (released t u)) 1 ≡ true
once-released t u q rises single = ap is_once (held_at-released t u q rises) ∙ without (held_at q t) single
  where
    without : (o : Option Held) → is_once o ≡ true → is_once (held_without u o) ≡ true
    without None h = refl
    without (Some held) h = elim (held.unit == u) as (λ b. is_once (if b then None else Some held) ≡ true) [ true ↦ refl | false ↦ h ]

-- if no other unit owns anything, a unit that releases all leaves nothing
pub released-alone : (t : Table) (u : ℕ) → T (is_in_order t) → ((s : Resource) → other_than (Some u) (holder_of s t) ≡ None) → released t u ≡ []
released-alone t u rises alone = same_entries resource_cmp resource_cmp_total same_resources (released t u) [] (is_in_order-released t u rises) tt (λ q. held_at-released t u q rises ∙ step (held_at q t) (alone q))
  where
    step : (o : Option Held) → other_than (Some u) (option_map (λ h. h.unit) o) ≡ None → held_without u o ≡ None
    step None e = refl
    step (Some h) e = elim (h.unit == u) as (λ b. (if not b then Some h.unit else None) ≡ None → (if b then None else Some h) ≡ None) [ true ↦ λ e. refl | false ↦ λ e. cc ] e

-- ---- What is acquired and released

-- what nobody owned is as it was once it is acquired and released
pub given_back-taken : (t : Table) (r : Resource) (u : ℕ) → T (is_in_order t) → held_at r t ≡ None → given_back (taken t r u) r u ≡ t
given_back-taken t r u rises free =
    same_entries resource_cmp resource_cmp_total same_resources (given_back (taken t r u) r u) t
    (is_in_order-given_back (taken t r u) r u (is_in_order-taken t r u rises)) rises (λ q.
    held_at-given_back (taken t r u) r u q
    ∙ ap (λ o. if is_one q r then o else held_at q (taken t r u)) (ap (held_less u) there ∙ all_less)
    ∙ elim (is_one q r) as (λ b. is_one q r ≡ b → (if b then None else held_at q (taken t r u)) ≡ held_at q t) [
      | true ↦ λ one. sym (ap (λ s. held_at s t) (is_one-eq q r one) ∙ free)
      | false ↦ λ other. held_at-with_holder t r u (raised_count r (held_at r t)) q
          ∙ ap (λ b. if b then Some (record { unit = u; count = raised_count r (held_at r t) }) else held_at q t) other
    ] refl)
  where
    there : held_at r (taken t r u) ≡ Some (record { unit = u; count = 1 })
    there =
        held_at-with_holder t r u (raised_count r (held_at r t)) r
        ∙ ap (λ b. if b then Some (record { unit = u; count = raised_count r (held_at r t) }) else held_at r t) (is_one-self r)
        ∙ ap (λ o. Some (record { unit = u; count = raised_count r o })) free

    all_less : held_less u (Some (record { unit = u; count = 1 })) ≡ None
    all_less = ap (λ b. if b then None else Some (record { unit = u; count = 1 })) (eq-eqb u u refl)

-- ---- What a unit owns already

-- to put a holding in its own place changes nothing
put-same : (r : Resource) (h : Held) (t : Table) → T (is_in_order t) → held_at r t ≡ Some h → map_by.put resource_cmp r h t ≡ t
put-same r h t rises at = same_entries resource_cmp resource_cmp_total same_resources _ _ (is_sorted-put resource_cmp resource_cmp_total r h t rises) rises (λ q.
    find-put resource_cmp resource_cmp_total q r h t
    ∙ elim (resource_cmp q r) as (λ o. resource_cmp q r ≡ o → cond (is_eq o) (Some h) (held_at q t) ≡ held_at q t) [
      | Less ↦ λ e. refl
      | Equal ↦ λ e. sym (ap (λ s. held_at s t) (same_resources q r e) ∙ at)
      | Greater ↦ λ e. refl
    ] refl)

-- a unit that acquires what it owns already, other than a value, changes nothing
pub taken-held : (t : Table) (r : Resource) (u : ℕ) → T (is_in_order t) → holder_of r t ≡ Some u → is_user r ≡ false → taken t r u ≡ t
taken-held t r u rises held plain = by (held_at r t) refl held
  where
    by : (o : Option Held) → held_at r t ≡ o → option_map (λ h. h.unit) o ≡ Some u → taken t r u ≡ t
    by None at is = absurd (none_some is)
      where
        none_some : None ≡ Some u → ⊥
        none_some e = cc
    by (Some h) at is =
        let unit : h.unit ≡ u = cc in
        ap (λ o. map_by.put resource_cmp r (record { unit = u; count = raised_count r o }) t) at
        ∙ ap (λ n. map_by.put resource_cmp r (record { unit = u; count = n }) t) (ap (λ b. if b then h.count + 1 else h.count) plain)
        ∙ ap (λ n. map_by.put resource_cmp r (record { unit = n; count = h.count }) t) (sym unit)
        ∙ put-same r h t rises at

-- if a unit may acquire a resource that is owned, that unit owns it
pub held_own : (t : Table) (r : Resource) (u : ℕ) → IsFreeFor t r u → is_some (holder_of r t) ≡ true → holder_of r t ≡ Some u
held_own t r u free some = by (holder_of r t) refl some
  where
    by : (o : Option ℕ) → holder_of r t ≡ o → is_some o ≡ true → holder_of r t ≡ Some u
    by None at is = absurd (false≢true is)
    by (Some v) at is = at ∙ ap Some (free_own t r u free v at)
