-- What a report says of orders if only some are followed.
use Rattle.std.proofs.Common.{◌≡◌, ◌≤◌, ℕ, Bool, List, [], ◌∷◌, ◌++◌, map, length, not, All, inl, inr, refl, ap, sym, arith, subst}
use Rattle.std.specs.List.{count_by, filter}
use Rattle.cics_orders.specs.Space.Orders.{Order, Lanes, orders, AreAmong}
use Rattle.cics_orders.specs.Space.Endings.{Parts, Run, Reported, are_same, firsts, run_of, reported_of_both, report_of_both}
use Rattle.cics_orders.specs.Search.Reports.{runs, serial_of, IsShown, IsBounded}
use Rattle.cics_orders.proofs.OfSearch.Regrouping.{Each}
use Rattle.cics_orders.proofs.OfSearch.Ways.{each_append, each_at, each_filter, each_mapped, each_on, filter_map_both}
use Rattle.cics_orders.proofs.OfSearch.Sublists.{among_none, among_trans, among_filter}
use Rattle.cics_orders.proofs.OfSearch.Tallying.{count_first, count_filter, count_fewer}

-- ---- Some of a list

among_mapped : {X Y : Type 0} (f : X → Y) (xs ys : List X) → AreAmong xs ys → AreAmong (map f xs) (map f ys)
among_mapped f xs [] none = ap (map f) none
among_mapped f xs (y ∷ ys) (inl rest) = inl (among_mapped f xs ys rest)
among_mapped f xs (y ∷ ys) (inr (more, at, rest)) = inr (map f more, ap (map f) at, among_mapped f more ys rest)

each_member : {X : Type 0} (xs ys : List X) → AreAmong xs ys → Each (λ x. AreAmong (x ∷ []) ys) xs
each_member xs [] none = subst (Each (λ x. AreAmong (x ∷ []) [])) (sym none) tt
each_member xs (y ∷ ys) (inl rest) = each_on (λ x. AreAmong (x ∷ []) ys) (λ x. AreAmong (x ∷ []) (y ∷ ys)) xs (λ x at. inl at) (each_member xs ys rest)
each_member {X} xs (y ∷ ys) (inr (more, at, rest)) =
    subst (Each (λ x. AreAmong (x ∷ []) (y ∷ ys))) (sym at)
    (first, each_on (λ x. AreAmong (x ∷ []) ys) (λ x. AreAmong (x ∷ []) (y ∷ ys)) more (λ x at. inl at) (each_member more ys rest))
  where
    first : AreAmong (y ∷ []) (y ∷ ys)
    first = inr ([], refl, among_none ys)

fewer : (p : Run → Bool) (xs ys : List Run) → AreAmong xs ys → count_by p xs ≤ count_by p ys
fewer p xs [] none = subst (λ zs. count_by p zs ≤ count_by p []) (sym none) (omega arith)
fewer p xs (y ∷ ys) (inl rest) = omega (arith, fewer p xs ys rest, count_first p y ys)
fewer p xs (y ∷ ys) (inr (more, at, rest)) =
    let here : count_by p xs ≡ count_by p (y ∷ more) = ap (count_by p) at in
    omega (arith, here, fewer p more ys rest, count_first p y ys, count_first p y more)

each_first : (P : Run → Type 0) (rs : List Run) → Each P rs → Each P (firsts rs)
each_first P [] all = tt
each_first P (r ∷ rs) all = (all.0, each_filter P (λ s. not (are_same s.ending r.ending)) (firsts rs) (each_first P rs all.1))

all_each : {X : Type 0} (P : X → Type 0) (xs : List X) → Each P xs → All P xs
all_each P xs each = λ k d short. each_at P xs k d each short

-- ---- The report

pub some_reported : (rs ss : List Run) (es : List Reported) → es ≡ report_of_both rs ss → 1 ≤ length rs → 1 ≤ length es
some_reported [] ss es is any = absurd (omega (arith, any))
some_reported (r ∷ rs) ss es is any = subst (λ (ts : List Reported). 1 ≤ length ts) (sym is) (omega arith)

module _ {S : Type 0} (lanes : Lanes S) (ending : S → Parts) (breaks : S → ℕ → Bool) (s : S) (n : ℕ) (os ps : List Order)
    (among : AreAmong os (orders lanes n s)) (serially : AreAmong ps (serial_of lanes breaks s (orders lanes n s))) where
  abbrev of_order : Order → Run
  of_order = run_of lanes ending breaks s

  abbrev all : List Run
  all = runs lanes ending breaks s (orders lanes n s)

  abbrev rs : List Run
  rs = runs lanes ending breaks s os

  abbrev ss : List Run
  ss = runs lanes ending breaks s ps

  some : AreAmong rs all
  some = among_mapped of_order os (orders lanes n s) among

  serial_ones : AreAmong ss (filter (λ r. r.is_serial) all)
  serial_ones =
      subst (AreAmong ss) (sym (filter_map_both of_order (λ r. r.is_serial) (orders lanes n s)))
      (among_mapped of_order ps (serial_of lanes breaks s (orders lanes n s)) serially)

  bounded : (r : Run) → IsBounded all (reported_of_both rs ss r)
  bounded r =
      let same : Run → Bool = λ t. are_same t.ending r.ending in
      let first = fewer same rs all some in
      let second = fewer same ss (filter (λ t. t.is_serial) all) serial_ones in
      let those = count_filter same (λ t. t.is_serial) all in
      record { orders = omega (arith, first, second, those, count_fewer same (λ t. t.is_serial) all); serial = omega (arith, second, those) }

  each_shown : Each (IsShown all) (report_of_both rs ss)
  each_shown =
      let P : Run → Type 0 = λ r. AreAmong (r ∷ []) all in
      let found = each_append P rs ss (each_member rs all some) (each_on (λ r. AreAmong (r ∷ []) (filter (λ t. t.is_serial) all)) P ss (λ r at. one r at) (each_member ss (filter (λ t. t.is_serial) all) serial_ones)) in
      each_mapped (IsShown all) (reported_of_both rs ss) (firsts (rs ++ ss))
      (each_on P (λ r. IsShown all (reported_of_both rs ss r)) (firsts (rs ++ ss)) (λ r at. (r.is_serial, at)) (each_first P (rs ++ ss) found))
    where
      one : (r : Run) → AreAmong (r ∷ []) (filter (λ t. t.is_serial) all) → AreAmong (r ∷ []) all
      one r at = among_trans (r ∷ []) (filter (λ t. t.is_serial) all) all at (among_filter (λ t. t.is_serial) all)

  each_bounded : Each (IsBounded all) (report_of_both rs ss)
  each_bounded = each_mapped (IsBounded all) (reported_of_both rs ss) (firsts (rs ++ ss)) (every (firsts (rs ++ ss)))
    where
      every : (ts : List Run) → Each (λ r. IsBounded all (reported_of_both rs ss r)) ts
      every [] = tt
      every (t ∷ ts) = (bounded t, every ts)

  pub shown : (es : List Reported) → es ≡ report_of_both rs ss → All (IsShown all) es
  shown es is = all_each (IsShown all) es (subst (Each (IsShown all)) (sym is) each_shown)

  pub bounds : (es : List Reported) → es ≡ report_of_both rs ss → All (IsBounded all) es
  bounds es is = all_each (IsBounded all) es (subst (Each (IsBounded all)) (sym is) each_bounded)
