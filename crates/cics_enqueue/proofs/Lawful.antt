-- A table stays lawful if a unit acquires what it may acquire, and if it releases something.
use Rattle.std.proofs.Common.{◌≡◌, ◌≤◌, ◌+◌, ◌-◌, ◌==◌, ℕ, Bool, true, false, Option, Some, None, [], arith, refl, sym, subst, ◌∙◌}
use Rattle.std.specs.Prelude.{if◌then◌else◌, nat_lt}
use Rattle.std.proofs.lemmas.Bool.{ltb-true}
use Rattle.cics_history.specs.declared.resources.Resource.{Resource}
use Rattle.cics_history.specs.Resources.{is_one, is_user}
use Rattle.cics_enqueue.specs.Table.{Table, Held, IsLawful, IsFreeFor, held_at, raised_count, taken, given_back, released}
use Rattle.cics_enqueue.proofs.Apart.{AreApart-taken, AreApart-given_back, AreApart-released}
use Rattle.cics_enqueue.proofs.TableLaws.{held_less, held_without, held_at-with_holder, held_at-given_back, held_at-released, is_in_order-taken, is_in_order-given_back, is_in_order-released, once-taken, once-given_back, once-released}

pub lawful-none : IsLawful []
lawful-none = record {
  in_order = tt;
  apart = λ r s u v meets at bt. cc;
  held = λ r h at. cc;
  once = λ r value. refl;
}

-- a resource that is acquired is owned at least once
raised : (r : Resource) (o : Option Held) → ((h : Held) → o ≡ Some h → 1 ≤ h.count) → 1 ≤ raised_count r o
raised r None held = omega arith
raised r (Some h) held =
    let least : 1 ≤ h.count = held h refl in
    elim (is_user r) as (λ b. 1 ≤ (if b then h.count + 1 else h.count)) [ true ↦ omega arith | false ↦ least ]

pub lawful-taken : (t : Table) (r : Resource) (u : ℕ) → IsLawful t → IsFreeFor t r u → IsLawful (taken t r u)
lawful-taken t r u lawful free = record {
  in_order = is_in_order-taken t r u lawful.in_order;
  apart = AreApart-taken t r u lawful.apart free;
  held = λ q h at. by q h (is_one q r) (sym (held_at-with_holder t r u (raised_count r (held_at r t)) q) ∙ at);
  once = λ q value. once-taken t r u q value (lawful.once q value);
}
  where
    by : (q : Resource) (h : Held) (b : Bool) → (if b then Some (record { unit = u; count = raised_count r (held_at r t) }) else held_at q t) ≡ Some h → 1 ≤ h.count
    by q h true at =
        let count : raised_count r (held_at r t) ≡ h.count = cc in
        subst (λ n. 1 ≤ n) count (raised r (held_at r t) (lawful.held r))
    by q h false at = lawful.held q h at

-- what is still owned after a release is owned at least once
lessened : (u : ℕ) (o : Option Held) → ((h : Held) → o ≡ Some h → 1 ≤ h.count) → (h : Held) → held_less u o ≡ Some h → 1 ≤ h.count
lessened u None held h at = cc
lessened u (Some g) held h at = elim (g.unit == u) as (λ b. (if b then (if nat_lt 1 g.count then Some (record { unit = u; count = g.count - 1 }) else None) else Some g) ≡ Some h → 1 ≤ h.count) [
  | true ↦ elim (nat_lt 1 g.count) as (λ b. nat_lt 1 g.count ≡ b → (if b then Some (record { unit = u; count = g.count - 1 }) else None) ≡ Some h → 1 ≤ h.count) [
    | true ↦ λ more is.
        let count : g.count - 1 ≡ h.count = cc in
        let least = ltb-true 1 g.count more in
        omega (arith, count, least)
    | false ↦ λ last is. cc
  ] refl
  | false ↦ λ is. held h is
] at

pub lawful-given_back : (t : Table) (r : Resource) (u : ℕ) → IsLawful t → IsLawful (given_back t r u)
lawful-given_back t r u lawful = record {
  in_order = is_in_order-given_back t r u lawful.in_order;
  apart = AreApart-given_back t r u lawful.apart;
  held = λ q h at. by q h (is_one q r) (sym (held_at-given_back t r u q) ∙ at);
  once = λ q value. once-given_back t r u q (lawful.once q value);
}
  where
    by : (q : Resource) (h : Held) (b : Bool) → (if b then held_less u (held_at r t) else held_at q t) ≡ Some h → 1 ≤ h.count
    by q h true at = lessened u (held_at r t) (lawful.held r) h at
    by q h false at = lawful.held q h at

-- what is still owned after a unit released all was owned as it is
left : (u : ℕ) (o : Option Held) (h : Held) → held_without u o ≡ Some h → o ≡ Some h
left u None h at = cc
left u (Some g) h at = elim (g.unit == u) as (λ b. (if b then None else Some g) ≡ Some h → Some g ≡ Some h) [ true ↦ λ is. cc | false ↦ λ is. is ] at

pub lawful-released : (t : Table) (u : ℕ) → IsLawful t → IsLawful (released t u)
lawful-released t u lawful = record {
  in_order = is_in_order-released t u lawful.in_order;
  apart = AreApart-released t u lawful.in_order lawful.apart;
  held = λ q h at. lawful.held q h (left u (held_at q t) h (sym (held_at-released t u q lawful.in_order) ∙ at));
  once = λ q value. once-released t u q lawful.in_order (lawful.once q value);
}
