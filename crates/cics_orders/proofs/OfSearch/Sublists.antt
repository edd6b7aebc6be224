-- Some of a list's elements, in the same order.
use Rattle.std.proofs.Common.{◌≡◌, Bool, true, false, ◌||◌, if◌then◌else◌, List, [], ◌∷◌, ◌++◌, inl, inr, refl, ap, sym, ◌∙◌, subst}
use Rattle.std.specs.List.{flat_map, filter}
use Rattle.std.proofs.lemmas.Bool.{true≢false}
use Rattle.cics_orders.specs.Space.Groups.{added, added_all}
use Rattle.cics_orders.specs.Space.Orders.{AreAmong}
use Rattle.cics_orders.proofs.OfSearch.Regrouping.{AreLaws, has, or_parts}

pub among_all : {X : Type 0} (xs : List X) → AreAmong xs xs
among_all [] = refl
among_all (x ∷ xs) = inr (xs, refl, among_all xs)

pub among_none : {X : Type 0} (xs : List X) → AreAmong [] xs
among_none [] = refl
among_none (x ∷ xs) = inl (among_none xs)

pub among_both : {X : Type 0} (xs ys us vs : List X) → AreAmong xs us → AreAmong ys vs → AreAmong (xs ++ ys) (us ++ vs)
among_both xs ys [] vs none is = subst (λ zs. AreAmong (zs ++ ys) vs) (sym none) is
among_both xs ys (u ∷ us) vs (inl rest) is = inl (among_both xs ys us vs rest is)
among_both xs ys (u ∷ us) vs (inr (more, at, rest)) is = inr (more ++ ys, ap (λ zs. zs ++ ys) at, among_both more ys us vs rest is)

pub among_flat_map : {X Y : Type 0} (f : X → List Y) (xs us : List X) → AreAmong xs us → AreAmong (flat_map f xs) (flat_map f us)
among_flat_map f xs [] none = ap (flat_map f) none
among_flat_map f xs (u ∷ us) (inl rest) = among_both [] (flat_map f xs) (f u) (flat_map f us) (among_none (f u)) (among_flat_map f xs us rest)
among_flat_map f xs (u ∷ us) (inr (more, at, rest)) =
    subst (λ zs. AreAmong zs (f u ++ flat_map f us)) (sym (ap (flat_map f) at))
    (among_both (f u) (flat_map f more) (f u) (flat_map f us) (among_all (f u)) (among_flat_map f more us rest))

pub among_trans : {X : Type 0} (xs ys zs : List X) → AreAmong xs ys → AreAmong ys zs → AreAmong xs zs
among_trans xs ys [] is none = subst (AreAmong xs) none is
among_trans xs ys (z ∷ zs) is (inl rest) = inl (among_trans xs ys zs is rest)
among_trans {X} xs ys (z ∷ zs) is (inr (more, at, rest)) = by (λ us less. among_trans us more zs less rest) (subst (AreAmong xs) at is)
  where
    by : ((us : List X) → AreAmong us more → AreAmong us zs) → AreAmong xs (z ∷ more) → AreAmong xs (z ∷ zs)
    by on (inl less) = inl (on xs less)
    by on (inr (tail, is_first, less)) = inr (tail, is_first, on tail less)

pub among_filter : {X : Type 0} (p : X → Bool) (xs : List X) → AreAmong (filter p xs) xs
among_filter p [] = refl
among_filter {X} p (x ∷ xs) = by (among_filter p xs) (p x) refl
  where
    by : AreAmong (filter p xs) xs → (b : Bool) → p x ≡ b → AreAmong (filter p (x ∷ xs)) (x ∷ xs)
    by rest true is = inr (filter p xs, rw is refl, rest)
    by rest false is = inl (subst (λ ys. AreAmong ys xs) (sym (rw is refl)) rest)

-- ---- Some groups

module _ {K X : Type 0} (eq : K → K → Bool) (join : X → X → X) (laws : AreLaws eq join) where
  flip : (k l : K) → eq k l ≡ false → eq l k ≡ false
  flip k l is = by (eq l k) refl
    where
      by : (b : Bool) → eq l k ≡ b → b ≡ false
      by true at = absurd (true≢false (sym ((laws.same k l).1 (sym ((laws.same l k).0 at))) ∙ is))
      by false at = refl

  -- the groups of some keys are those of the values of these keys
  added_test : (p : K → Bool) (t : List (K × X)) (k : K) (x : X) →
      filter (λ e. p e.0) (added eq join t k x) ≡ (if p k then added eq join (filter (λ e. p e.0) t) k x else filter (λ e. p e.0) t)
  added_test p [] k x = refl
  added_test p (e ∷ es) k x = by (added_test p es k x) (eq k e.0) (p e.0) (p k) refl refl refl
    where
      some : List (K × X)
      some = filter (λ e. p e.0) es

      by : filter (λ e. p e.0) (added eq join es k x) ≡ (if p k then added eq join (filter (λ e. p e.0) es) k x else filter (λ e. p e.0) es) →
          (b a c : Bool) → eq k e.0 ≡ b → p e.0 ≡ a → p k ≡ c →
          filter (λ e. p e.0) (added eq join (e ∷ es) k x) ≡ (if p k then added eq join (filter (λ e. p e.0) (e ∷ es)) k x else filter (λ e. p e.0) (e ∷ es))
      by rest true true true q r s = simp (q, r, s)
      by rest true false false q r s = simp (q, r, s)
      by rest true true false q r s = absurd (true≢false (sym r ∙ ap p (sym ((laws.same k e.0).0 q)) ∙ s))
      by rest true false true q r s = absurd (true≢false (sym s ∙ ap p ((laws.same k e.0).0 q) ∙ r))
      by rest false true true q r s = simp (q, r, s) (ap (λ fs. e ∷ fs) (rest ∙ simp s))
      by rest false true false q r s = simp (q, r, s) (ap (λ fs. e ∷ fs) (rest ∙ simp s))
      by rest false false true q r s = simp (q, r, s) (rest ∙ simp s)
      by rest false false false q r s = simp (q, r, s) (rest ∙ simp s)

  pub added_all_test : (p : K → Bool) (es t : List (K × X)) →
      filter (λ e. p e.0) (added_all eq join t es) ≡ added_all eq join (filter (λ e. p e.0) t) (filter (λ e. p e.0) es)
  added_all_test p [] t = refl
  added_all_test p (e ∷ es) t = added_all_test p es (added eq join t e.0 e.1) ∙ by (p e.0) refl
    where
      by : (b : Bool) → p e.0 ≡ b →
          added_all eq join (filter (λ e. p e.0) (added eq join t e.0 e.1)) (filter (λ e. p e.0) es)
          ≡ added_all eq join (filter (λ e. p e.0) t) (filter (λ e. p e.0) (e ∷ es))
      by true is =
          let here : filter (λ e. p e.0) (added eq join t e.0 e.1) ≡ added eq join (filter (λ e. p e.0) t) e.0 e.1 = added_test p t e.0 e.1 ∙ rw is refl in
          ap (λ u. added_all eq join u (filter (λ e. p e.0) es)) here ∙ rw is refl
      by false is =
          let here : filter (λ e. p e.0) (added eq join t e.0 e.1) ≡ filter (λ e. p e.0) t = added_test p t e.0 e.1 ∙ rw is refl in
          ap (λ u. added_all eq join u (filter (λ e. p e.0) es)) here ∙ rw is refl

  -- each key is there once
  abbrev pub AreOnce : List (K × X) → Type 0
  AreOnce [] = Unit {0}
  AreOnce (e ∷ es) = (has eq join es e.0 ≡ false) × AreOnce es

  has_not : (t : List (K × X)) (k l : K) (x : X) → has eq join t l ≡ false → eq l k ≡ false → has eq join (added eq join t k x) l ≡ false
  has_not [] k l x none other = simp other
  has_not (e ∷ es) k l x none other = by (has_not es k l x (or_parts (eq l e.0) (has eq join es l) none).1 other) (eq k e.0)
    where
      here : eq l e.0 ≡ false
      here = (or_parts (eq l e.0) (has eq join es l) none).0

      by : has eq join (added eq join es k x) l ≡ false → (b : Bool) → has eq join (if b then (e.0, join e.1 x) ∷ es else e ∷ added eq join es k x) l ≡ false
      by rest true = none
      by rest false = ap (λ c. c || has eq join (added eq join es k x) l) here ∙ rest

  once_added : (t : List (K × X)) (k : K) (x : X) → AreOnce t → AreOnce (added eq join t k x)
  once_added [] k x once = (refl, tt)
  once_added (e ∷ es) k x once = by (once_added es k x once.1) (eq k e.0) refl
    where
      by : AreOnce (added eq join es k x) → (b : Bool) → eq k e.0 ≡ b → AreOnce (if b then (e.0, join e.1 x) ∷ es else e ∷ added eq join es k x)
      by rest true is = once
      by rest false is = (has_not es k e.0 x once.0 (flip k e.0 is), rest)

  pub once_added_all : (es t : List (K × X)) → AreOnce t → AreOnce (added_all eq join t es)
  once_added_all [] t once = once
  once_added_all (e ∷ es) t once = once_added_all es (added eq join t e.0 e.1) (once_added t e.0 e.1 once)

  among_has : (es ss : List (K × X)) (k : K) → has eq join es k ≡ false → AreAmong ss es → has eq join ss k ≡ false
  among_has [] ss k none is = ap (λ ts. has eq join ts k) is
  among_has (e ∷ es) ss k none (inl rest) = among_has es ss k (or_parts (eq k e.0) (has eq join es k) none).1 rest
  among_has (e ∷ es) ss k none (inr (more, at, rest)) =
      ap (λ ts. has eq join ts k) at
      ∙ ap (λ b. b || has eq join more k) (or_parts (eq k e.0) (has eq join es k) none).0
      ∙ among_has es more k (or_parts (eq k e.0) (has eq join es k) none).1 rest

  -- a key that none has makes no difference
  other_key : (es ms : List (K × X)) (k : K) → has eq join es k ≡ false →
      filter (λ f. eq f.0 k || has eq join ms f.0) es ≡ filter (λ f. has eq join ms f.0) es
  other_key [] ms k none = refl
  other_key (e ∷ es) ms k none = by (other_key es ms k (or_parts (eq k e.0) (has eq join es k) none).1) (has eq join ms e.0) refl
    where
      here : eq e.0 k ≡ false
      here = flip k e.0 (or_parts (eq k e.0) (has eq join es k) none).0

      by : filter (λ f. eq f.0 k || has eq join ms f.0) es ≡ filter (λ f. has eq join ms f.0) es → (b : Bool) → has eq join ms e.0 ≡ b →
          filter (λ f. eq f.0 k || has eq join ms f.0) (e ∷ es) ≡ filter (λ f. has eq join ms f.0) (e ∷ es)
      by rest true is = rw (here, is) (ap (λ fs. e ∷ fs) rest)
      by rest false is = rw (here, is) rest

  -- some groups are those of their keys
  some_by_keys : (es ss : List (K × X)) → AreOnce es → AreAmong ss es → ss ≡ filter (λ e. has eq join ss e.0) es
  some_by_keys [] ss once is = is
  some_by_keys (e ∷ es) ss once (inl rest) = some_by_keys es ss once.1 rest ∙ rw (among_has es ss e.0 once.0 rest) refl
  some_by_keys (e ∷ es) ss once (inr (more, at, rest)) =
      subst (λ ts. ts ≡ filter (λ f. has eq join ts f.0) (e ∷ es)) (sym at)
      (ap (λ ts. e ∷ ts) (some_by_keys es more once.1 rest ∙ sym (other_key es more e.0 once.0))
      ∙ rw ((laws.same e.0 e.0).1 refl) refl)

  -- some groups of values are all groups of some values
  pub some_groups : (es ss : List (K × X)) → AreAmong ss (added_all eq join [] es) →
      (p : K → Bool) × (ss ≡ added_all eq join [] (filter (λ e. p e.0) es))
  some_groups es ss is =
      (λ k. has eq join ss k, some_by_keys (added_all eq join [] es) ss (once_added_all es [] tt) is ∙ added_all_test (λ k. has eq join ss k) es [])
