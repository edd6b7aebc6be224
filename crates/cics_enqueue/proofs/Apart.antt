-- Conflicting resources have one owner, also once a unit acquired what it may, or released
-- something.
use Rattle.std.proofs.Common.{◌≡◌, ℕ, ◌-◌, ◌==◌, true, false, T, Option, Some, None, refl, sym, ap, subst, ◌∙◌, ◌⊎◌, inl, inr}
use Rattle.std.specs.Prelude.{nat_lt, if◌then◌else◌}
use Rattle.std.proofs.lemmas.Bool.{eqb-true}
use Rattle.cics_history.specs.declared.resources.Resource.{Resource}
use Rattle.cics_history.specs.Resources.{is_one}
use Rattle.cics_history.specs.Holding.{conflicts}
use Rattle.cics_enqueue.specs.Table.{Table, Held, AreApart, IsFreeFor, is_in_order, held_at, holder_of, taken, given_back, released}
use Rattle.cics_history.specs.ResourceLaws.{is_one-eq, conflicts-turned}
use Rattle.cics_enqueue.proofs.TableLaws.{holder_of-taken, held_at-given_back, holder_of-released, held_less, holder_without, unit_in}

-- the owner of a resource once a unit has acquired one: that unit, or the owner before
after_take : (t : Table) (r : Resource) (u : ℕ) (q : Resource) (v : ℕ) → holder_of q (taken t r u) ≡ Some v → ((q ≡ r) × (v ≡ u)) ⊎ (holder_of q t ≡ Some v)
after_take t r u q v at = elim (is_one q r) as (λ b. is_one q r ≡ b → (if b then Some u else holder_of q t) ≡ Some v → ((q ≡ r) × (v ≡ u)) ⊎ (holder_of q t ≡ Some v)) [
  | true ↦ λ one is. let same : u ≡ v = cc in inl (is_one-eq q r one, sym same)
  | false ↦ λ other is. inr is
] refl (sym (holder_of-taken t r u q) ∙ at)

pub AreApart-taken : (t : Table) (r : Resource) (u : ℕ) → AreApart t → IsFreeFor t r u → AreApart (taken t r u)
AreApart-taken t r u apart free p q v w meets at bt = elim (after_take t r u p v at) [
  | inl mine ↦ elim (after_take t r u q w bt) [
    | inl too ↦ mine.1 ∙ sym too.1
    | inr theirs ↦ mine.1 ∙ sym (free q w (subst (λ s. conflicts s q ≡ true) mine.0 meets) theirs)
  ]
  | inr held ↦ elim (after_take t r u q w bt) [
    | inl mine ↦ free p v (conflicts-turned p r (subst (λ s. conflicts p s ≡ true) mine.0 meets)) held ∙ sym mine.1
    | inr theirs ↦ apart p q v w meets held theirs
  ]
]

-- nobody comes to own a resource by a release
after_gift : (t : Table) (r : Resource) (u : ℕ) (q : Resource) (v : ℕ) → holder_of q (given_back t r u) ≡ Some v → holder_of q t ≡ Some v
after_gift t r u q v at = elim (is_one q r) as (λ b. is_one q r ≡ b → unit_in (if b then held_less u (held_at r t) else held_at q t) ≡ Some v → holder_of q t ≡ Some v) [
  | true ↦ λ one is. ap (λ s. holder_of s t) (is_one-eq q r one) ∙ less (held_at r t) is
  | false ↦ λ other is. is
] refl (sym (ap unit_in (held_at-given_back t r u q)) ∙ at)
  where
    less : (o : Option Held) → unit_in (held_less u o) ≡ Some v → unit_in o ≡ Some v
    less None = λ is. is
    less (Some h) = elim (h.unit == u) as (λ b. h.unit == u ≡ b → unit_in (if b then (if nat_lt 1 h.count then Some (record { unit = u; count = h.count - 1 }) else None) else Some h) ≡ Some v → Some h.unit ≡ Some v) [
      | true ↦ λ own. elim (nat_lt 1 h.count) as (λ b. unit_in (if b then Some (record { unit = u; count = h.count - 1 }) else None) ≡ Some v → Some h.unit ≡ Some v) [
        | true ↦ λ is. ap Some (eqb-true h.unit u own) ∙ is
        | false ↦ λ is. cc
      ]
      | false ↦ λ other is. is
    ] refl

pub AreApart-given_back : (t : Table) (r : Resource) (u : ℕ) → AreApart t → AreApart (given_back t r u)
AreApart-given_back t r u apart p q v w meets at bt = apart p q v w meets (after_gift t r u p v at) (after_gift t r u q w bt)

after_release : (t : Table) (u : ℕ) (q : Resource) (v : ℕ) → T (is_in_order t) → holder_of q (released t u) ≡ Some v → holder_of q t ≡ Some v
after_release t u q v rises at = by (holder_of q t) (sym (holder_of-released t u q rises) ∙ at)
  where
    by : (o : Option ℕ) → holder_without u o ≡ Some v → o ≡ Some v
    by None = λ is. is
    by (Some w) = elim (w == u) as (λ b. (if b then None else Some w) ≡ Some v → Some w ≡ Some v) [ true ↦ λ is. cc | false ↦ λ is. is ]

pub AreApart-released : (t : Table) (u : ℕ) → T (is_in_order t) → AreApart t → AreApart (released t u)
AreApart-released t u rises apart p q v w meets at bt = apart p q v w meets (after_release t u p v rises at) (after_release t u q w rises bt)
