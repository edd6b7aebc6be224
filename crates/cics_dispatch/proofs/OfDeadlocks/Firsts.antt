-- The first task of each deadlock: how it is found by the sizes of searches, and that each has one.
use Rattle.std.specs.Prelude.{◌≡◌, ◌<◌, ◌≤◌, ◌||◌, ◌&&◌, ◌+◌, ◌==◌, ℕ, zero, suc, Bool, true, false, not, cond, nat_eq, nat_lt, List, [], ◌∷◌, ◌++◌, All, Contains, length, slice_index, refl}
use Rattle.std.proofs.Common.{sym, ap, ◌∙◌, subst, eq-eqb, arith, inl, inr}
use Rattle.std.specs.List.{list_any, IsDistinct, AllByRecursion}
use Rattle.std.specs.Cmp.{nat_eq_equiv}
use Rattle.std.proofs.lemmas.Bool.{and_parts, and_from, or_cases, or_left, or_right, or_parts, eqb-true, lt-ltb, ltb-true, false≢true}
use Rattle.std.proofs.lemmas.Map.Made.{length-le_from_is_member}
use Rattle.std.proofs.lemmas.List.Elements.{All-nil, All-cons, All-append, Contains-append_left, Contains-append_right}
use Rattle.cics_dispatch.specs.declared.deadlocks.searches.Found.{Found}
use Rattle.cics_dispatch.specs.Deadlocks.Searches.{Graph, steps, tasks, is_among, search, leads, way_back, is_least, is_first, with_circle, circles_below, circles}
use Rattle.cics_dispatch.specs.Deadlocks.Marks.{sizes_below, is_least_by}
use Rattle.cics_dispatch.specs.Deadlocks.Circles.{Leads, IsCircle}
use Rattle.cics_dispatch.proofs.OfDeadlocks.Found.{root, ended, tasks_many}
use Rattle.cics_dispatch.proofs.OfDeadlocks.Reached.{rest, has_rest, found_if_led, led_if_found, leads_if_found, found_within, leads_on, leads_within}
use Rattle.cics_dispatch.proofs.OfDeadlocks.Marked.{size_at}

-- two tests that pass together are equal
one_test : (a b : Bool) → (a ≡ true → b ≡ true) → (b ≡ true → a ≡ true) → a ≡ b
one_test true b there back = sym (there refl)
one_test false true there back = back refl
one_test false false there back = refl

-- tests that agree on each of some entries agree on all
agree : (p q : Found → Bool) (fs : List Found) → ((f : Found) → is_among f.task fs ≡ true → p f ≡ q f) → list_any p fs ≡ list_any q fs
agree p q [] same = refl
agree p q (x ∷ xs) same = λ i. same x (or_left (nat_eq x.task x.task) (is_among x.task xs) (eq-eqb x.task x.task refl)) i
    || agree p q xs (λ f is. same f (or_right (nat_eq f.task x.task) (is_among f.task xs) is)) i

-- an entry that passes makes one pass
passes : (p : ℕ → Bool) (fs : List Found) (b : ℕ) → is_among b fs ≡ true → p b ≡ true → list_any (λ f. p f.task) fs ≡ true
passes p [] b among is = absurd (false≢true among)
passes p (x ∷ xs) b among is = elim (or_cases (nat_eq b x.task) (is_among b xs) among) [
  | inl here ↦ or_left (p x.task) _ (subst (λ c. p c ≡ true) (eqb-true b x.task here) is)
  | inr later ↦ or_right (p x.task) _ (passes p xs b later is)
]

-- and if one passes there is such an entry
passed : (p : ℕ → Bool) (fs : List Found) → list_any (λ f. p f.task) fs ≡ true → (b : ℕ) × (is_among b fs ≡ true) × (p b ≡ true)
passed p [] is = absurd (false≢true is)
passed p (x ∷ xs) is = elim (or_cases (p x.task) (list_any (λ f. p f.task) xs) is) [
  | inl here ↦ (x.task, or_left (nat_eq x.task x.task) _ (eq-eqb x.task x.task refl), here)
  | inr later ↦ let b = passed p xs later in (b.0, or_right (nat_eq b.0 x.task) _ b.1, b.2)
]

apart_all : (x : ℕ) (ys : List ℕ) → list_any (nat_eq x) ys ≡ false → AllByRecursion (λ y. nat_eq x y ≡ false) ys
apart_all x [] none = tt
apart_all x (y ∷ ys) none = let parts = or_parts (nat_eq x y) (list_any (nat_eq x) ys) none in (parts.0, apart_all x ys parts.1)

distinct_with : (x : ℕ) (ys : List ℕ) → list_any (nat_eq x) ys ≡ false → IsDistinct nat_eq ys → IsDistinct nat_eq (x ∷ ys)
unfolding IsDistinct
distinct_with x ys none once = (apart_all x ys none, once)

module _ (g : Graph) where
  among_if_leads : (a b : ℕ) → Leads (steps g) a b → b < length g → is_among b (rest g a) ≡ true
  among_if_leads a b l inside = sym (has_rest g a b) ∙ found_if_led g a b l inside

  leads_if_among : (a b : ℕ) → is_among b (rest g a) ≡ true → Leads (steps g) a b
  leads_if_among a b is = leads_if_found g a b (has_rest g a b ∙ is)

  -- what is led to from a task that is led to
  wider : (a k : ℕ) → Leads (steps g) a k → (q : ℕ) → is_among q (rest g k) ≡ true → is_among q (rest g a) ≡ true
  wider a k l q is = among_if_leads a q (leads_on g a k q l (leads_if_among k q is)) (found_within g k q (has_rest g k q ∙ is))

  size : (a : ℕ) → length (search g a) ≡ suc (length (tasks (rest g a)))
  size a = ap length (ended g a).is ∙ ap suc (sym (tasks_many (rest g a)))

  -- of two searches, the second from a task that the first has found, both find as much exactly if
  -- the second finds the first one's task
  pub as_much : (a k : ℕ) → leads g a a ≡ true → Leads (steps g) a k → (length (search g k) == length (search g a)) ≡ leads g k a
  as_much a k back there = one_test (length (search g k) == length (search g a)) (leads g k a)
      (λ e. elim (leads g k a) as (λ t. leads g k a ≡ t → t ≡ true) [
        | true ↦ λ is. refl
        | false ↦ λ none.
            let few = length-le_from_is_member nat_eq_equiv (a ∷ tasks (rest g k)) (tasks (rest g a))
            (distinct_with a (tasks (rest g k)) (sym (has_rest g k a) ∙ none) (ended g k).sound.once)
            (λ q is. elim (or_cases (nat_eq q a) (is_among q (rest g k)) is) [
              | inl one ↦ subst (λ x. is_among x (rest g a) ≡ true) (sym (eqb-true q a one)) (sym (has_rest g a a) ∙ back)
              | inr more ↦ wider a k there q more
            ]) in
            let same : length (search g k) ≡ length (search g a) = eqb-true (length (search g k)) (length (search g a)) e in
            let one = size a in
            let two = size k in
            absurd (omega (arith, few, same, one, two))
      ] refl)
      (λ is.
      let l = leads_if_found g k a is in
      let few = length-le_from_is_member nat_eq_equiv (tasks (rest g k)) (tasks (rest g a)) (ended g k).sound.once (wider a k there) in
      let many = length-le_from_is_member nat_eq_equiv (tasks (rest g a)) (tasks (rest g k)) (ended g a).sound.once (wider k a l) in
      let one = size a in
      let two = size k in
      eq-eqb (length (search g k)) (length (search g a)) (omega (arith, few, many, one, two)))

  -- so the sizes tell which is the first
  pub first_by_sizes : (a : ℕ) → (leads g a a && is_least_by (sizes_below g a) a (search g a)) ≡ is_first g a
  first_by_sizes a = elim (leads g a a) as (λ t. leads g a a ≡ t → (t && is_least_by (sizes_below g a) a (search g a)) ≡ (t && is_least g a (search g a))) [
    | false ↦ λ none. refl
    | true ↦ λ back. ap not (ap (list_any (by_size back)) (ended g a).is ∙ (λ i. by_root back i || agree (by_size back) (by_search back) (rest g a) (alike back) i) ∙ sym (ap (list_any (by_search back)) (ended g a).is))
  ] refl
    where
      by_size : leads g a a ≡ true → Found → Bool
      by_size back f = nat_lt f.task a && (slice_index (sizes_below g a) f.task == length (search g a))

      by_search : leads g a a ≡ true → Found → Bool
      by_search back f = nat_lt f.task a && leads g f.task a

      differ : (k : ℕ) (x y : Bool) → (k < a → x ≡ y) → (nat_lt k a && x) ≡ (nat_lt k a && y)
      differ k x y same = elim (nat_lt k a) as (λ t. nat_lt k a ≡ t → (t && x) ≡ (t && y)) [
        | true ↦ λ e. same (ltb-true k a e)
        | false ↦ λ e. refl
      ] refl

      by_root : (back : leads g a a ≡ true) → by_size back (root g a) ≡ by_search back (root g a)
      by_root back = differ a _ _ (λ less. absurd (omega arith))

      alike : (back : leads g a a ≡ true) (f : Found) → is_among f.task (rest g a) ≡ true → by_size back f ≡ by_search back f
      alike back f among = differ f.task _ _ (λ less. ap (λ n. n == length (search g a)) (size_at g a f.task less) ∙ as_much a f.task back (leads_if_among a f.task among))

  -- ---- Each deadlock has a first task

  -- a task that isn't the first leads to a lesser one, which leads to it
  pub lesser : (a : ℕ) → is_least g a (search g a) ≡ false → (k : ℕ) × (k < a) × (leads g a k ≡ true) × (leads g k a ≡ true)
  lesser a none =
      let some : list_any (λ f. nat_lt f.task a && leads g f.task a) (root g a ∷ rest g a) ≡ true = ap (list_any (λ f. nat_lt f.task a && leads g f.task a)) (sym (ended g a).is) ∙ turned _ none in
      elim (or_cases (nat_lt a a && leads g a a) (list_any (λ f. nat_lt f.task a && leads g f.task a) (rest g a)) some) [
        | inl itself ↦ let less : a < a = ltb-true a a (and_parts _ _ itself).0 in absurd (omega arith)
        | inr other ↦
            let b = passed (λ k. nat_lt k a && leads g k a) (rest g a) other in
            let parts = and_parts (nat_lt b.0 a) (leads g b.0 a) b.2 in
            (b.0, ltb-true b.0 a parts.0, has_rest g a b.0 ∙ b.1, parts.1)
      ]
    where
      turned : (t : Bool) → not t ≡ false → t ≡ true
      turned true e = refl
      turned false e = cc

  pub record HasFirst (a : ℕ) : Type 0 where
    pub first : ℕ
    pub is : is_first g first ≡ true
    pub there : Leads (steps g) a first
    pub back : Leads (steps g) first a

  first_below : (n a : ℕ) → a < n → leads g a a ≡ true → HasFirst a
  first_below zero a less back = absurd (omega arith)
  first_below (suc n) a less back = elim (is_least g a (search g a)) as (λ t. is_least g a (search g a) ≡ t → HasFirst a) [
    | true ↦ λ e. record { first = a; is = and_from _ _ back e; there = leads_if_found g a a back; back = leads_if_found g a a back }
    | false ↦ λ e.
        let k = lesser a e in
        let there = leads_if_found g a k.0 k.2 in
        let again = leads_if_found g k.0 a k.3 in
        let lower = k.1 in
        let f = first_below n k.0 (omega (arith, lower)) (found_if_led g k.0 k.0 (leads_on g k.0 a k.0 again there) (found_within g a k.0 k.2)) in
        record { first = f.first; is = f.is; there = leads_on g a k.0 f.first there f.there; back = leads_on g f.first k.0 a f.back again }
  ] refl

  pub has_first : (a : ℕ) → Leads (steps g) a a → HasFirst a
  has_first a l = first_below (suc a) a (omega arith) (found_if_led g a a l (leads_within g a a l))

  -- no lesser task leads to it and is led to by it
  pub first_least : (a : ℕ) → is_first g a ≡ true → (k : ℕ) → Leads (steps g) a k → Leads (steps g) k a → a ≤ k
  first_least a is k there back = elim (nat_lt k a) as (λ t. nat_lt k a ≡ t → a ≤ k) [
    | false ↦ λ e. let not_less : k < a → ⊥ = λ h. false≢true (sym e ∙ lt-ltb k a h) in omega arith
    | true ↦ λ e.
        let parts = and_parts (leads g a a) (is_least g a (search g a)) is in
        let among = among_if_leads a k there (leads_within g k a back) in
        let some : list_any (λ f. nat_lt f.task a && leads g f.task a) (search g a) ≡ true = ap (list_any (λ f. nat_lt f.task a && leads g f.task a)) (ended g a).is
        ∙ or_right (nat_lt a a && leads g a a) _ (passes (λ b. nat_lt b a && leads g b a) (rest g a) k among (and_from _ _ e (found_if_led g k a back (leads_within g a k there)))) in
        absurd (false≢true (sym (ap not some) ∙ parts.1))
  ] refl

  -- ---- Circles

  pub more_circles : (n : ℕ) → circles_below g (n + 1) ≡ with_circle g (circles_below g n) n
  more_circles n = ap (circles_below g) (let next : n + 1 ≡ suc n = omega arith in next)

  circle_is : (a : ℕ) → is_first g a ≡ true → IsCircle (steps g) (way_back g a)
  circle_is a is =
      let l = led_if_found g a a (and_parts (leads g a a) (is_least g a (search g a)) is).0 in
      subst (IsCircle (steps g)) (sym l.is) (record { way = l.way; least = first_least a is })

  pub each_below : (n : ℕ) → All (IsCircle (steps g)) (circles_below g n)
  each_below zero = All-nil (IsCircle (steps g))
  each_below (suc n) = elim (is_first g n) as (λ t. is_first g n ≡ t → All (IsCircle (steps g)) (cond t (circles_below g n ++ way_back g n ∷ []) (circles_below g n))) [
    | false ↦ λ e. each_below n
    | true ↦ λ e. All-append (IsCircle (steps g)) (circles_below g n) (way_back g n ∷ []) (each_below n) (All-cons (IsCircle (steps g)) (way_back g n) [] (circle_is n e) (All-nil (IsCircle (steps g))))
  ] refl

  told_below : (n a : ℕ) → a < n → is_first g a ≡ true → Contains (circles_below g n) (way_back g a)
  told_below zero a less is = absurd (omega arith)
  told_below (suc n) a less is = elim (nat_eq a n) as (λ t. nat_eq a n ≡ t → Contains (circles_below g (suc n)) (way_back g a)) [
    | true ↦ λ e.
        let here : a ≡ n = eqb-true a n e in
        subst (λ k. Contains (circles_below g (suc n)) (way_back g k)) (sym here)
        (subst (λ t. Contains (cond t (circles_below g n ++ way_back g n ∷ []) (circles_below g n)) (way_back g n)) (sym (subst (λ k. is_first g k ≡ true) here is))
        (Contains-append_right (circles_below g n) (way_back g n ∷ []) (way_back g n) (0, omega arith, refl)))
    | false ↦ λ e.
        let other : a ≡ n → ⊥ = λ same. false≢true (sym e ∙ eq-eqb a n same) in
        let before = told_below n a (omega (arith, other)) is in
        elim (is_first g n) as (λ t. Contains (cond t (circles_below g n ++ way_back g n ∷ []) (circles_below g n)) (way_back g a)) [
          | true ↦ Contains-append_left (circles_below g n) (way_back g n ∷ []) (way_back g a) before
          | false ↦ before
        ]
  ] refl

  -- the circle of each first task is told, from that task on
  pub record IsToldFrom (a : ℕ) : Type 0 where
    pub others : List ℕ
    pub circle : Contains (circles g) (a ∷ others)

  pub told : (a : ℕ) → is_first g a ≡ true → IsToldFrom a
  told a is =
      let l = led_if_found g a a (and_parts (leads g a a) (is_least g a (search g a)) is).0 in
      let way = leads_if_found g a a (and_parts (leads g a a) (is_least g a (search g a)) is).0 in
      record { others = l.others; circle = subst (Contains (circles g)) l.is (told_below (length g) a (leads_within g a a way) is) }
