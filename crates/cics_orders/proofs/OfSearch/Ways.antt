-- The orders that a search follows, line by line, are those that it is to follow.
use Rattle.std.proofs.Common.{◌≡◌, ◌<◌, length, get_or, inl, inr, ℕ, zero, suc, Bool, true, false, not, ◌&&◌, if◌then◌else◌, List, [], ◌∷◌, ◌++◌, map, refl, ap, sym, ◌∙◌, arith, append-nil, append_assoc, subst}
use Rattle.std.specs.List.{flat_map, filter}
use Rattle.std.proofs.lemmas.Grind.{flat_map-append}
use Rattle.std.proofs.lemmas.List.{map-append}
use Rattle.std.proofs.lemmas.List.Elements.{filter-append}
use Rattle.cics_orders.specs.Space.Orders.{is_none_left, is_serial_order, serial_orders, Order, Lanes, IsOneOf, IsWay, after, led_by, led_by_any, orders, AreAmong}
use Rattle.cics_orders.specs.Search.Levels.{followed}
use Rattle.cics_orders.specs.Space.States.{lanes_of}
use Rattle.cics_orders.proofs.OfSearch.Regrouping.{Each}

-- ---- Lists

pub filter_map_both : {X Y : Type 0} (f : X → Y) (p : Y → Bool) (xs : List X) → filter p (map f xs) ≡ map f (filter (λ x. p (f x)) xs)
filter_map_both f p [] = refl
filter_map_both {X} {Y} f p (x ∷ xs) = by (filter_map_both f p xs) (p (f x)) refl
  where
    by : filter p (map f xs) ≡ map f (filter (λ x. p (f x)) xs) → (b : Bool) → p (f x) ≡ b → filter p (map f (x ∷ xs)) ≡ map f (filter (λ x. p (f x)) (x ∷ xs))
    by rest true is = rw is (ap (λ ys. f x ∷ ys) rest)
    by rest false is = rw is rest

pub each_append : {X : Type 0} (P : X → Type 0) (xs ys : List X) → Each P xs → Each P ys → Each P (xs ++ ys)
each_append P [] ys first second = second
each_append P (x ∷ xs) ys first second = (first.0, each_append P xs ys first.1 second)

pub each_mapped : {X Y : Type 0} (P : Y → Type 0) (f : X → Y) (xs : List X) → Each (λ x. P (f x)) xs → Each P (map f xs)
each_mapped P f [] all = tt
each_mapped P f (x ∷ xs) all = (all.0, each_mapped P f xs all.1)

pub each_on : {X : Type 0} (P Q : X → Type 0) (xs : List X) → ((x : X) → P x → Q x) → Each P xs → Each Q xs
each_on P Q [] on all = tt
each_on P Q (x ∷ xs) on all = (on x all.0, each_on P Q xs on all.1)

pub each_filter : {X : Type 0} (P : X → Type 0) (p : X → Bool) (xs : List X) → Each P xs → Each P (filter p xs)
each_filter P p [] all = tt
each_filter P p (x ∷ xs) all = by (each_filter P p xs all.1) (p x) refl
  where
    by : Each P (filter p xs) → (b : Bool) → p x ≡ b → Each P (filter p (x ∷ xs))
    by rest true is =
        let both : Each P (x ∷ filter p xs) = (all.0, rest) in
        let here : filter p (x ∷ xs) ≡ x ∷ filter p xs = rw is refl in
        subst (Each P) (sym here) both
    by rest false is =
        let here : filter p (x ∷ xs) ≡ filter p xs = rw is refl in
        subst (Each P) (sym here) rest

pub each_among : {X : Type 0} (P : X → Type 0) (xs ys : List X) → AreAmong xs ys → Each P ys → Each P xs
each_among P xs [] is all = subst (Each P) (sym is) tt
each_among P xs (y ∷ ys) (inl rest) all = each_among P xs ys rest all.1
each_among P xs (y ∷ ys) (inr (more, at, rest)) all =
    subst (Each P) (sym at) (let both : Each P (y ∷ more) = (all.0, each_among P more ys rest all.1) in both)

each_one : (ks ls : List ℕ) → Each (λ l. IsOneOf l (ks ++ ls)) ls
each_one ks [] = tt
each_one ks (l ∷ ls) =
    (at ks, subst (λ js. Each (λ k. IsOneOf k js) ls) (append_assoc ks (l ∷ []) ls) (each_one (ks ++ l ∷ []) ls))
  where
    at : (js : List ℕ) → IsOneOf l (js ++ l ∷ ls)
    at [] = inl refl
    at (j ∷ js) = inr (at js)

pub each_at : {X : Type 0} (P : X → Type 0) (xs : List X) (i : ℕ) (d : X) → Each P xs → i < length xs → P (get_or xs i d)
each_at P [] i d all short = absurd (omega (arith, short))
each_at P (x ∷ xs) zero d all short = all.0
each_at P (x ∷ xs) (suc i) d all short = each_at P xs i d all.1 (omega (arith, short))

-- each of these lanes is one of them
pub each_own : (ls : List ℕ) → Each (λ l. IsOneOf l ls) ls
each_own ls = each_one [] ls

-- ---- Orders line by line

-- the orders that go on from an order by a line
abbrev pub longer : {S : Type 0} → Lanes S → (S → ℕ → Bool) → Bool → S → Order → List Order
longer lanes breaks b s o =
    if is_none_left (lanes.givers (after lanes s o) 0) then o ∷ [] else map (λ l. o ++ l ∷ []) (lanes_of lanes breaks b (after lanes s o))

module _ {S : Type 0} (lanes : Lanes S) (breaks : S → ℕ → Bool) (b : Bool) where
  singles : (ls : List ℕ) → map (λ l. l ∷ []) ls ≡ led_by (λ l. [] ∷ []) ls
  singles [] = refl
  singles (l ∷ ls) = ap (λ os. (l ∷ []) ∷ os) (singles ls)

  consed : (l : ℕ) (o : Order) (ls : List ℕ) → map (λ k. l ∷ (o ++ k ∷ [])) ls ≡ map (λ p. l ∷ p) (map (λ k. o ++ k ∷ []) ls)
  consed l o [] = refl
  consed l o (k ∷ ls) = ap (λ os. (l ∷ (o ++ k ∷ [])) ∷ os) (consed l o ls)

  longer_led : (s : S) (l : ℕ) (o : Order) → longer lanes breaks b s (l ∷ o) ≡ map (λ p. l ∷ p) (longer lanes breaks b (lanes.given s l) o)
  longer_led s l o = by (is_none_left (lanes.givers (after lanes (lanes.given s l) o) 0))
    where
      by : (c : Bool) →
          (if c then (l ∷ o) ∷ [] else map (λ k. l ∷ (o ++ k ∷ [])) (lanes_of lanes breaks b (after lanes (lanes.given s l) o)))
          ≡ map (λ p. l ∷ p) (if c then o ∷ [] else map (λ k. o ++ k ∷ []) (lanes_of lanes breaks b (after lanes (lanes.given s l) o)))
      by true = refl
      by false = consed l o (lanes_of lanes breaks b (after lanes (lanes.given s l) o))

  all_led : (s : S) (l : ℕ) (os : List Order) →
      flat_map (longer lanes breaks b s) (map (λ o. l ∷ o) os) ≡ map (λ o. l ∷ o) (flat_map (longer lanes breaks b (lanes.given s l)) os)
  all_led s l [] = refl
  all_led s l (o ∷ os) =
      ap (λ ps. ps ++ flat_map (longer lanes breaks b s) (map (λ o. l ∷ o) os)) (longer_led s l o)
      ∙ ap (λ ps. map (λ o. l ∷ o) (longer lanes breaks b (lanes.given s l) o) ++ ps) (all_led s l os)
      ∙ sym (map-append (λ o. l ∷ o) (longer lanes breaks b (lanes.given s l) o) (flat_map (longer lanes breaks b (lanes.given s l)) os))

  by_lanes : (n : ℕ) (s : S) → ((t : S) → flat_map (longer lanes breaks b t) (followed lanes breaks b n t) ≡ followed lanes breaks b (suc n) t) → (ls : List ℕ) →
      flat_map (longer lanes breaks b s) (led_by (λ l. followed lanes breaks b n (lanes.given s l)) ls)
      ≡ led_by (λ l. followed lanes breaks b (suc n) (lanes.given s l)) ls
  by_lanes n s on [] = refl
  by_lanes n s on (l ∷ ls) =
      flat_map-append (longer lanes breaks b s) (map (λ o. l ∷ o) (followed lanes breaks b n (lanes.given s l))) (led_by (λ l. followed lanes breaks b n (lanes.given s l)) ls)
      ∙ ap (λ ps. ps ++ flat_map (longer lanes breaks b s) (led_by (λ l. followed lanes breaks b n (lanes.given s l)) ls))
      (all_led s l (followed lanes breaks b n (lanes.given s l)) ∙ ap (map (λ o. l ∷ o)) (on (lanes.given s l)))
      ∙ ap (λ ps. map (λ o. l ∷ o) (followed lanes breaks b (suc n) (lanes.given s l)) ++ ps) (by_lanes n s on ls)

  -- the orders of one line more go on from those before
  pub grows : (n : ℕ) (s : S) → flat_map (longer lanes breaks b s) (followed lanes breaks b n s) ≡ followed lanes breaks b (suc n) s
  grows zero s = append-nil (longer lanes breaks b s []) ∙ by (is_none_left (lanes.givers s 0))
    where
      by : (c : Bool) →
          (if c then [] ∷ [] else map (λ l. l ∷ []) (lanes_of lanes breaks b s)) ≡ (if c then [] ∷ [] else led_by (λ l. [] ∷ []) (lanes_of lanes breaks b s))
      by true = refl
      by false = singles (lanes_of lanes breaks b s)
  grows (suc n) s = by (by_lanes n s (grows n) (lanes_of lanes breaks b s)) (is_none_left (lanes.givers s 0)) refl
    where
      by : flat_map (longer lanes breaks b s) (led_by (λ l. followed lanes breaks b n (lanes.given s l)) (lanes_of lanes breaks b s))
          ≡ led_by (λ l. followed lanes breaks b (suc n) (lanes.given s l)) (lanes_of lanes breaks b s) →
          (c : Bool) → is_none_left (lanes.givers s 0) ≡ c →
          flat_map (longer lanes breaks b s) (followed lanes breaks b (suc n) s)
          ≡ (if c then [] ∷ [] else led_by (λ l. followed lanes breaks b (suc n) (lanes.given s l)) (lanes_of lanes breaks b s))
      by on true is =
          let here : longer lanes breaks b s [] ≡ [] ∷ [] = ap (λ c. if c then [] ∷ [] else map (λ l. l ∷ []) (lanes_of lanes breaks b s)) is in
          ap (λ c. flat_map (longer lanes breaks b s) (if c then [] ∷ [] else led_by (λ l. followed lanes breaks b n (lanes.given s l)) (lanes_of lanes breaks b s))) is
          ∙ append-nil (longer lanes breaks b s []) ∙ here
      by on false is =
          ap (λ c. flat_map (longer lanes breaks b s) (if c then [] ∷ [] else led_by (λ l. followed lanes breaks b n (lanes.given s l)) (lanes_of lanes breaks b s))) is ∙ on

  pub each_lane : (x : S) → Each (λ l. IsOneOf l (lanes.givers x 0)) (lanes_of lanes breaks b x)
  each_lane x = by b
    where
      by : (c : Bool) → Each (λ l. IsOneOf l (lanes.givers x 0)) (if c then filter (λ l. not (breaks x l)) (lanes.givers x 0) else lanes.givers x 0)
      by true = each_filter (λ l. IsOneOf l (lanes.givers x 0)) (λ l. not (breaks x l)) (lanes.givers x 0) (each_own (lanes.givers x 0))
      by false = each_own (lanes.givers x 0)

  led_ways : (n : ℕ) (s : S) → ((t : S) → Each (IsWay lanes t) (followed lanes breaks b n t)) → (ls : List ℕ) → Each (λ l. IsOneOf l (lanes.givers s 0)) ls →
      Each (IsWay lanes s) (led_by (λ l. followed lanes breaks b n (lanes.given s l)) ls)
  led_ways n s on [] may = tt
  led_ways n s on (l ∷ ls) may =
      each_append (IsWay lanes s) (map (λ o. l ∷ o) (followed lanes breaks b n (lanes.given s l))) (led_by (λ l. followed lanes breaks b n (lanes.given s l)) ls)
      (each_mapped (IsWay lanes s) (λ o. l ∷ o) (followed lanes breaks b n (lanes.given s l))
      (each_on (IsWay lanes (lanes.given s l)) (λ o. IsWay lanes s (l ∷ o)) (followed lanes breaks b n (lanes.given s l)) (λ o way. (may.0, way)) (on (lanes.given s l))))
      (led_ways n s on ls may.1)

  -- each order that is followed is a way
  pub are_ways : (n : ℕ) (s : S) → Each (IsWay lanes s) (followed lanes breaks b n s)
  are_ways zero s = (tt, tt)
  are_ways (suc n) s = by (led_ways n s (are_ways n) (lanes_of lanes breaks b s) (each_lane s)) (is_none_left (lanes.givers s 0))
    where
      by : Each (IsWay lanes s) (led_by (λ l. followed lanes breaks b n (lanes.given s l)) (lanes_of lanes breaks b s)) →
          (c : Bool) → Each (IsWay lanes s) (if c then [] ∷ [] else led_by (λ l. followed lanes breaks b n (lanes.given s l)) (lanes_of lanes breaks b s))
      by on true = (tt, tt)
      by on false = on

-- ---- All orders

pub all_followed : {S : Type 0} (lanes : Lanes S) (breaks : S → ℕ → Bool) (n : ℕ) (s : S) → followed lanes breaks false n s ≡ orders lanes n s
all_followed lanes breaks zero s = refl
all_followed {S} lanes breaks (suc n) s = by (all_followed lanes breaks n) (lanes.givers s 0)
  where
    by : ((t : S) → followed lanes breaks false n t ≡ orders lanes n t) → (ls : List ℕ) →
        (if is_none_left ls then [] ∷ [] else led_by (λ l. followed lanes breaks false n (lanes.given s l)) ls) ≡ led_by_any (λ l. orders lanes n (lanes.given s l)) ls
    by on [] = refl
    by on (l ∷ ls) = λ i. led_by (λ k. on (lanes.given s k) i) (l ∷ ls)

-- ---- Serial orders

none_kept : {X : Type 0} (xs : List X) → filter (λ x. false) xs ≡ []
none_kept [] = refl
none_kept (x ∷ xs) = none_kept xs

module _ {S : Type 0} (lanes : Lanes S) (breaks : S → ℕ → Bool) where
  -- those of the orders that a lane begins
  serial_led : (s : S) (l : ℕ) (os : List Order) (c : Bool) → breaks s l ≡ c →
      filter (is_serial_order lanes breaks s) (map (λ o. l ∷ o) os) ≡ (if c then [] else map (λ o. l ∷ o) (filter (is_serial_order lanes breaks (lanes.given s l)) os))
  serial_led s l os true at =
      filter_map_both (λ o. l ∷ o) (is_serial_order lanes breaks s) os
      ∙ ap (map (λ o. l ∷ o)) ((λ i. filter (λ o. not (at i) && is_serial_order lanes breaks (lanes.given s l) o) os) ∙ none_kept os)
  serial_led s l os false at =
      filter_map_both (λ o. l ∷ o) (is_serial_order lanes breaks s) os
      ∙ ap (map (λ o. l ∷ o)) (λ i. filter (λ o. not (at i) && is_serial_order lanes breaks (lanes.given s l) o) os)

  -- and of those that these lanes begin
  serial_lanes : (s : S) (more kept : ℕ → List Order) → ((l : ℕ) → filter (is_serial_order lanes breaks (lanes.given s l)) (more l) ≡ kept l) → (ls : List ℕ) →
      filter (is_serial_order lanes breaks s) (led_by more ls) ≡ led_by kept (filter (λ l. not (breaks s l)) ls)
  serial_lanes s more kept same [] = refl
  serial_lanes s more kept same (l ∷ ls) =
      filter-append (is_serial_order lanes breaks s) (map (λ o. l ∷ o) (more l)) (led_by more ls)
      ∙ by (serial_lanes s more kept same ls) (breaks s l) refl
    where
      by : filter (is_serial_order lanes breaks s) (led_by more ls) ≡ led_by kept (filter (λ l. not (breaks s l)) ls) → (c : Bool) → breaks s l ≡ c →
          filter (is_serial_order lanes breaks s) (map (λ o. l ∷ o) (more l)) ++ filter (is_serial_order lanes breaks s) (led_by more ls)
          ≡ led_by kept (filter (λ l. not (breaks s l)) (l ∷ ls))
      by rest true at =
          let left : filter (λ k. not (breaks s k)) (l ∷ ls) ≡ filter (λ k. not (breaks s k)) ls = rw at refl in
          (λ i. serial_led s l (more l) true at i ++ rest i) ∙ ap (led_by kept) (sym left)
      by rest false at =
          let left : filter (λ k. not (breaks s k)) (l ∷ ls) ≡ l ∷ filter (λ k. not (breaks s k)) ls = rw at refl in
          (λ i. serial_led s l (more l) false at i ++ rest i) ∙ ap (λ os. map (λ o. l ∷ o) os ++ led_by kept (filter (λ k. not (breaks s k)) ls)) (same l)
          ∙ ap (led_by kept) (sym left)

  -- the serial orders are those that are followed if no lane may break a turn
  pub serial_followed : (n : ℕ) (s : S) → filter (is_serial_order lanes breaks s) (orders lanes n s) ≡ followed lanes breaks true n s
  serial_followed zero s = refl
  serial_followed (suc n) s = by (serial_followed n) (lanes.givers s 0)
    where
      by : ((t : S) → filter (is_serial_order lanes breaks t) (orders lanes n t) ≡ followed lanes breaks true n t) → (ls : List ℕ) →
          filter (is_serial_order lanes breaks s) (led_by_any (λ l. orders lanes n (lanes.given s l)) ls)
          ≡ (if is_none_left ls then [] ∷ [] else led_by (λ l. followed lanes breaks true n (lanes.given s l)) (filter (λ l. not (breaks s l)) ls))
      by rest [] = refl
      by rest (l ∷ ls) = serial_lanes s (λ l. orders lanes n (lanes.given s l)) (λ l. followed lanes breaks true n (lanes.given s l)) (λ l. rest (lanes.given s l)) (l ∷ ls)

  -- and these are the serial orders of a walk that leaves out each lane that breaks one
  serial_walk : (n : ℕ) (s : S) → followed lanes breaks true n s ≡ serial_orders lanes breaks n s
  serial_walk zero s = refl
  serial_walk (suc n) s =
      (λ i. if is_none_left (lanes.givers s 0) then [] ∷ [] else led_by (λ l. serial_walk n (lanes.given s l) i) (filter (λ l. not (breaks s l)) (lanes.givers s 0)))

  pub serial_all : (n : ℕ) (s : S) → filter (is_serial_order lanes breaks s) (orders lanes n s) ≡ serial_orders lanes breaks n s
  serial_all n s = serial_followed n s ∙ serial_walk n s
