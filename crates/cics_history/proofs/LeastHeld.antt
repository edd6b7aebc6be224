-- What is found for a resource is the least, in byte order, of what other units hold and what conflicts with it.
use Rattle.std.proofs.Common.{is_some, ◌≡◌, ℕ, Bool, true, false, ◌&&◌, ◌||◌, Option, Some, None, [], ◌∷◌, refl, ap, sym, subst, ◌∙◌, inl, inr}
use Rattle.std.specs.Prelude.{if◌then◌else◌}
use Rattle.std.specs.List.{list_any}
use Rattle.std.specs.Ordering.{is_lt, ordering_reverse}
use Rattle.std.specs.declared.cmp.Ordering.{Ordering}
use Rattle.std.specs.declared.cmp.Ordering.TheVariants.{Less, Equal, Greater}
use Rattle.std.specs.Cmp.{tied_itself}
use Rattle.std.specs.Cmp.Lexicographic.{nat_list_cmp_total}
use Rattle.std.proofs.lemmas.Bool.{true≢false, false≢true, cases_Bool, eq-eqb, and_parts, and_from, or_from, or_left, or_right, false_from_ne_true}
use Rattle.cics_names.specs.Keyed.{Bytes, bytes_cmp, is_below}
use Rattle.cics_history.specs.Resources.{is_one}
use Rattle.cics_history.specs.ResourceLaws.{is_one-self, is_one-eq}
use Rattle.cics_history.specs.declared.resources.Resource.{Resource}
use Rattle.cics_history.specs.State.{UnitsState}
use Rattle.cics_history.specs.Holding.{held_by, owned, smallest_conflict, blocker_at, conflicts, bytes_in, Owned, is_other, smaller}
use Rattle.cics_history.specs.Holders.{IsLeastHeld}
use Rattle.cics_history.specs.Isolation.{IsSound}
use Rattle.cics_history.proofs.Waiting.{any_more, any_less, is_of, table_holds, stands_one, in_table, none_held, none_first}
use Rattle.cics_history.proofs.Holders.{holder_begun}

-- ---- The order of bytes

less : (o : Ordering) → is_lt o ≡ true → o ≡ Less
less Less h = refl
less Equal h = absurd (false≢true h)
less Greater h = absurd (false≢true h)

never_below : (a : Bytes) → is_below a a ≡ false
never_below a = ap is_lt (tied_itself nat_list_cmp_total a)

below_turned : (a b : Bytes) → is_below a b ≡ true → is_below b a ≡ false
below_turned a b h = ap is_lt (nat_list_cmp_total.antisymm b a) ∙ reversed (bytes_cmp a b) (less (bytes_cmp a b) h)
  where
    reversed : (o : Ordering) → o ≡ Less → is_lt (ordering_reverse o) ≡ false
    reversed o e = ap (λ x. is_lt (ordering_reverse x)) e

not_below : (a b c : Bytes) → is_below a b ≡ false → is_below b c ≡ false → is_below a c ≡ false
not_below a b c h k = false_from_ne_true (is_below a c) (λ t. by t (bytes_cmp a b) refl)
  where
    by : is_below a c ≡ true → (o : Ordering) → bytes_cmp a b ≡ o → ⊥
    by t Less e = true≢false (sym (ap is_lt e) ∙ h)
    by t Equal e = true≢false (sym t ∙ (ap is_lt (nat_list_cmp_total.congr a b c e) ∙ k))
    by t Greater e =
        let turned : bytes_cmp b a ≡ Less = nat_list_cmp_total.antisymm b a ∙ ap ordering_reverse e in
        true≢false (sym (ap is_lt (nat_list_cmp_total.trans b a c turned (less (bytes_cmp a c) t))) ∙ k)

-- ---- The entry that is found

abbrev passes : Option ℕ → Resource → Resource × ℕ → Bool
passes u r e = conflicts r e.0 && is_other u e.1

-- the smaller of two is one of them
lesser_either : {P : Type 0} (d : Resource × ℕ) (o : Option (Resource × ℕ)) (e : Resource × ℕ) →
    smaller (Some d) o ≡ Some e → (d ≡ e → P) → (o ≡ Some e → P) → P
lesser_either d None e h own later = own (given d e h)
  where
    given : (d e : Resource × ℕ) → Some d ≡ Some e → d ≡ e
    given d e h = cc
lesser_either {P} d (Some y) e h own later =
    elim (is_below (bytes_in y.0) (bytes_in d.0)) as (λ b. (if b then Some y else Some d) ≡ Some e → P)
    [ true ↦ λ g. later g | false ↦ λ g. own (given d e g) ] h
  where
    given : (d e : Resource × ℕ) → Some d ≡ Some e → d ≡ e
    given d e h = cc

none_some : (e : Resource × ℕ) → None ≡ Some e → ⊥
none_some e h = cc

-- it passes
first_passes : (t : Owned) (u : Option ℕ) (r : Resource) (e : Resource × ℕ) → smallest_conflict t u r ≡ Some e → passes u r e ≡ true
first_passes [] u r e h = absurd (none_some e h)
first_passes (d ∷ t) u r e h =
    elim (passes u r d) as (λ b. passes u r d ≡ b → (if b then smaller (Some d) (smallest_conflict t u r) else smallest_conflict t u r) ≡ Some e →
    passes u r e ≡ true) [
      | true ↦ λ y g. lesser_either d (smallest_conflict t u r) e g (λ same. subst (λ x. passes u r x ≡ true) same y) (first_passes t u r e)
      | false ↦ λ n g. first_passes t u r e g
    ] refl h

-- it stands in the table
first_stands : (test : Resource × ℕ → Bool) (t : Owned) (u : Option ℕ) (r : Resource) (e : Resource × ℕ) →
    smallest_conflict t u r ≡ Some e → test e ≡ true → list_any test t ≡ true
first_stands test [] u r e h q = absurd (none_some e h)
first_stands test (d ∷ t) u r e h q =
    elim (passes u r d) as (λ b. (if b then smaller (Some d) (smallest_conflict t u r) else smallest_conflict t u r) ≡ Some e →
    list_any test (d ∷ t) ≡ true) [
      | true ↦ λ g. lesser_either d (smallest_conflict t u r) e g (λ same. or_left _ _ (subst (λ x. test x ≡ true) (sym same) q))
          (λ later. or_right _ _ (first_stands test t u r e later q))
      | false ↦ λ g. or_right _ _ (first_stands test t u r e g q)
    ] h

-- an entry that passes and comes before these bytes
abbrev is_before : Option ℕ → Resource → Bytes → Resource × ℕ → Bool
is_before u r b d = passes u r d && is_below (bytes_in d.0) b

-- none of a list, and not its head, passes and comes before an entry
abbrev none_before : Option ℕ → Resource → Resource × ℕ → Owned → Resource × ℕ → Type 0
none_before u r d t x = (is_below (bytes_in d.0) (bytes_in x.0) || list_any (is_before u r (bytes_in x.0)) t) ≡ false

-- and none that passes comes before it
first_least : (t : Owned) (u : Option ℕ) (r : Resource) (e : Resource × ℕ) → smallest_conflict t u r ≡ Some e →
    list_any (is_before u r (bytes_in e.0)) t ≡ false
first_least [] u r e h = refl
first_least (d ∷ t) u r e h =
    elim (passes u r d) as (λ b. (if b then smaller (Some d) (smallest_conflict t u r) else smallest_conflict t u r) ≡ Some e →
    ((b && is_below (bytes_in d.0) (bytes_in e.0)) || list_any (is_before u r (bytes_in e.0)) t) ≡ false) [
      | true ↦ λ g. by (first_least t u r) (smallest_conflict t u r) refl g
      | false ↦ λ g. first_least t u r e g
    ] h
  where
    given : (x y : Resource × ℕ) → Some x ≡ Some y → x ≡ y
    given x y h = cc

    by : ((y : Resource × ℕ) → smallest_conflict t u r ≡ Some y → list_any (is_before u r (bytes_in y.0)) t ≡ false) →
        (o : Option (Resource × ℕ)) → smallest_conflict t u r ≡ o → smaller (Some d) o ≡ Some e → none_before u r d t e
    by rest None is g = subst (none_before u r d t) (given d e g) (or_from _ _ (never_below (bytes_in d.0))
        (any_less (is_before u r (bytes_in d.0)) (passes u r) (λ x y. (and_parts (passes u r x) (is_below (bytes_in x.0) (bytes_in d.0)) y).0) t (none_held t u r is)))
    by rest (Some y) is g = elim (is_below (bytes_in y.0) (bytes_in d.0)) as
        (λ b. is_below (bytes_in y.0) (bytes_in d.0) ≡ b → (if b then Some y else Some d) ≡ Some e → none_before u r d t e) [
          | true ↦ λ lower g. subst (none_before u r d t) (given y e g) (or_from _ _ (below_turned (bytes_in y.0) (bytes_in d.0) lower) (rest y is))
          | false ↦ λ higher g. subst (none_before u r d t) (given d e g) (or_from _ _ (never_below (bytes_in d.0))
              (any_less (is_before u r (bytes_in d.0)) (is_before u r (bytes_in y.0)) (further y higher) t (rest y is)))
        ] refl g
      where
        further : (y : Resource × ℕ) → is_below (bytes_in y.0) (bytes_in d.0) ≡ false → (x : Resource × ℕ) →
            is_before u r (bytes_in d.0) x ≡ true → is_before u r (bytes_in y.0) x ≡ true
        further y higher x z =
            let both = and_parts (passes u r x) (is_below (bytes_in x.0) (bytes_in d.0)) z in
            elim (cases_Bool (is_below (bytes_in x.0) (bytes_in y.0))) [
              | inl low ↦ and_from _ _ both.0 low
              | inr high ↦ absurd (true≢false (sym both.1 ∙ not_below (bytes_in x.0) (bytes_in y.0) (bytes_in d.0) high higher))
            ]

-- ---- Who holds it

-- a resource conflicts with another and comes before an entry
abbrev is_low : Resource → Resource × ℕ → Resource → Bool
is_low r e x = conflicts r x && is_below (bytes_in x) (bytes_in e.0)

-- what is found is the least
pub least_held : (s : UnitsState) (u : Option ℕ) (r : Resource) (e : Resource × ℕ) → IsSound s →
    smallest_conflict (owned s) u r ≡ Some e → IsLeastHeld s u r e
least_held s u r e i found = record {
  meets = (and_parts (conflicts r e.0) (is_other u e.1) (first_passes (owned s) u r e found)).0;
  other = (and_parts (conflicts r e.0) (is_other u e.1) (first_passes (owned s) u r e found)).1;
  holds = table_holds s (is_one e.0) e.1 (first_stands (is_of (is_one e.0) e.1) (owned s) u r e found
      (and_from _ _ (is_one-self e.0) (eq-eqb e.1 e.1 refl)));
  least = λ q unit meets other holds. false_from_ne_true (is_below (bytes_in q) (bytes_in e.0)) (λ low.
      true≢false (sym (any_more (stands_one (is_low r e) u) (is_before u r (bytes_in e.0)) turned (owned s)
      (in_table s (is_low r e) u unit (holder_begun s i.known i.begun unit (is_one q) holds) other
      (any_more (is_one q) (is_low r e) (λ x same. subst (λ y. is_low r e y ≡ true) (is_one-eq q x same) (and_from _ _ meets low)) (held_by s unit) holds)))
      ∙ first_least (owned s) u r e found));
}
  where
    turned : (d : Resource × ℕ) → stands_one (is_low r e) u d ≡ true → is_before u r (bytes_in e.0) d ≡ true
    turned d h =
        let a = and_parts (is_low r e d.0) (is_other u d.1) h in
        let b = and_parts (conflicts r d.0) (is_below (bytes_in d.0) (bytes_in e.0)) a.0 in
        and_from _ _ (and_from _ _ b.0 a.1) b.1

-- where another unit holds what conflicts with a resource, somebody is found
pub holder_some : (s : UnitsState) (u : Option ℕ) (r : Resource) (n : ℕ) → IsSound s → is_other u n ≡ true →
    list_any (conflicts r) (held_by s n) ≡ true → is_some (blocker_at (owned s) u r) ≡ true
holder_some s u r n i other holds = by (blocker_at (owned s) u r) refl
  where
    by : (o : Option ℕ) → blocker_at (owned s) u r ≡ o → is_some o ≡ true
    by (Some x) found = refl
    by None free = absurd (true≢false (
        sym (in_table s (conflicts r) u n (holder_begun s i.known i.begun n (conflicts r) holds) other holds)
        ∙ none_first (owned s) u r free))
