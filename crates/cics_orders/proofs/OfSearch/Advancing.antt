-- What is known of where lanes lead stays right.
use Rattle.std.proofs.Common.{◌≡◌, ◌<◌, ℕ, ◌+◌, Bool, true, false, cond, List, [], ◌∷◌, ◌++◌, Some, None, Option, map, length, take, get_or, refl, ap, sym, ◌∙◌, subst}
use Rattle.std.specs.Prelude.{IfSome}
use Rattle.std.specs.Map.{lookup}
use Rattle.std.specs.Option.{unwrap_or}
use Rattle.std.specs.Str.{bytes_eq}
use Rattle.std.proofs.lemmas.List.{length_push, map_more, take-map}
use Rattle.std.proofs.lemmas.Slice.Eq.{bytes_eq-Decides}
use Rattle.cics_names.specs.Keyed.{Bytes}
use Rattle.cics_orders.specs.Space.Orders.{is_none_left, Order, Lanes, IsOneOf, IsWay, AreStampedAlike, after}
use Rattle.cics_orders.specs.Space.Endings.{Parts}
use Rattle.cics_orders.specs.Space.States.{lanes_of, reached}
use Rattle.cics_orders.specs.Search.Ahead.{all_reached, AreFirst, IsKnown, IsMet}
use Rattle.cics_orders.specs.declared.space.states.Reached.{Reached}
use Rattle.cics_orders.proofs.OfSearch.Regrouping.{Each}
use Rattle.cics_orders.proofs.OfSpace.OrdersLaws.{after-append, way-append}
use Rattle.cics_orders.proofs.OfSearch.Ways.{each_lane, each_at}
use Rattle.cics_orders.proofs.OfSearch.Leveling.{same_lanes}

-- one more of what these lanes lead to
pub front_more : {X : Type 0} (f : ℕ → X) (ls : List ℕ) (xs : List X) → length xs < length ls → xs ≡ take (length xs) (map f ls) →
    xs ++ f (get_or ls (length xs) 0) ∷ [] ≡ take (length (xs ++ f (get_or ls (length xs) 0) ∷ [])) (map f ls)
front_more f ls xs short are =
    ap (λ ys. ys ++ f (get_or ls (length xs) 0) ∷ []) (are ∙ take-map f (length xs) ls)
    ∙ sym (map_more f ls (length xs) 0 short) ∙ sym (take-map f (length xs + 1) ls)
    ∙ ap (λ n. take n (map f ls)) (sym (length_push xs (f (get_or ls (length xs) 0))))

-- what was taken away is put back with one more
pub put_more : {X : Type 0} (c : Bool) (x y : X) (xs us : List X) (old taken new put : Option (List X)) → x ≡ y → xs ≡ unwrap_or put [] → us ≡ xs ++ x ∷ [] →
    taken ≡ cond c None old → new ≡ cond c (Some us) taken → new ≡ cond c (Some (unwrap_or put [] ++ y ∷ [])) old
put_more true x y xs us old taken new put one found more takes puts = puts ∙ ap Some (more ∙ (λ i. found i ++ one i ∷ []))
put_more false x y xs us old taken new put one found more takes puts = puts ∙ takes

module _ {S : Type 0} (lanes : Lanes S) (breaks : S → ℕ → Bool) (stamp : S → Bytes) (ending : S → Parts) (b : Bool) (s : S)
    (tell : (o p : Order) → IsWay lanes s o → IsWay lanes s p → stamp (after lanes s o) ≡ stamp (after lanes s p) →
    AreStampedAlike lanes ending breaks stamp (after lanes s o) (after lanes s p)) where
  -- the same is noted of states of one stamp
  same_reached : (o p : Order) → IsWay lanes s o → IsWay lanes s p → stamp (after lanes s o) ≡ stamp (after lanes s p) →
      reached lanes breaks stamp b (after lanes s o) ≡ reached lanes breaks stamp b (after lanes s p)
  same_reached o p first second one =
      let alike = tell o p first second one in
      λ i. record { stamp = one i; lanes = same_lanes lanes breaks stamp ending b s tell (after lanes s o) (after lanes s p) alike i; has_ended = is_none_left (alike.givers i) }

  -- and of those that their lanes lead to
  same_all : (o p : Order) → IsWay lanes s o → IsWay lanes s p → stamp (after lanes s o) ≡ stamp (after lanes s p) →
      all_reached lanes breaks stamp b (after lanes s o) ≡ all_reached lanes breaks stamp b (after lanes s p)
  same_all o p first second one =
      by (lanes_of lanes breaks b x) (each_lane lanes breaks b x)
      ∙ ap (map (λ l. reached lanes breaks stamp b (lanes.given y l))) (same_lanes lanes breaks stamp ending b s tell x y alike)
    where
      x : S
      x = after lanes s o

      y : S
      y = after lanes s p

      alike : AreStampedAlike lanes ending breaks stamp (after lanes s o) (after lanes s p)
      alike = tell o p first second one

      by : (ls : List ℕ) → Each (λ l. IsOneOf l (lanes.givers (after lanes s o) 0)) ls →
          map (λ l. reached lanes breaks stamp b (lanes.given (after lanes s o) l)) ls ≡ map (λ l. reached lanes breaks stamp b (lanes.given (after lanes s p) l)) ls
      by [] may = refl
      by (l ∷ ls) may =
          let there : stamp (after lanes s (o ++ l ∷ [])) ≡ stamp (after lanes s (p ++ l ∷ []))
          = ap stamp (after-append lanes s o l) ∙ alike.next l may.0 ∙ sym (ap stamp (after-append lanes s p l)) in
          let same = same_reached (o ++ l ∷ []) (p ++ l ∷ []) (way-append lanes s o l first may.0)
          (way-append lanes s p l second (subst (IsOneOf l) alike.givers may.0)) there in
          λ i. (ap (reached lanes breaks stamp b) (sym (after-append lanes s o l)) ∙ same ∙ ap (reached lanes breaks stamp b) (after-append lanes s p l)) i ∷ by ls may.1 i

  -- a lane of a state that was met leads to one that is met
  pub met_more : (x y : S) (i : ℕ) (ls : List ℕ) → IsMet lanes s x → ls ≡ lanes_of lanes breaks b x → i < length ls → y ≡ lanes.given x (get_or ls i 0) → IsMet lanes s y
  met_more x y i ls met are short is =
      let all = subst (Each (λ l. IsOneOf l (lanes.givers x 0))) (sym are) (each_lane lanes breaks b x) in
      let may = subst (λ z. IsOneOf (get_or ls i 0) (lanes.givers z 0)) met.2 (each_at (λ l. IsOneOf l (lanes.givers x 0)) ls i 0 all short) in (
        met.0 ++ get_or ls i 0 ∷ [],
        way-append lanes s met.0 (get_or ls i 0) met.1 may,
        is ∙ ap (λ z. lanes.given z (get_or ls i 0)) met.2 ∙ sym (after-append lanes s met.0 (get_or ls i 0)),
      )

  -- ---- What is known of one stamp

  -- a lane more is known of a state's stamp
  pub first_more : (o : Order) (rs : List Reached) → IsWay lanes s o → AreFirst lanes breaks stamp b s (stamp (after lanes s o)) rs →
      length rs < length (lanes_of lanes breaks b (after lanes s o)) →
      AreFirst lanes breaks stamp b s (stamp (after lanes s o))
      (rs ++ reached lanes breaks stamp b (lanes.given (after lanes s o) (get_or (lanes_of lanes breaks b (after lanes s o)) (length rs) 0)) ∷ [])
  first_more o rs way are short p way_too one =
      let ls = lanes_of lanes breaks b (after lanes s o) in
      let next : ℕ → Reached = λ l. reached lanes breaks stamp b (lanes.given (after lanes s o) l) in
      front_more next ls rs short (are o way refl)
      ∙ ap (take (length (rs ++ next (get_or ls (length rs) 0) ∷ []))) (same_all o p way way_too (sym one))

  -- ---- What is known of all stamps

  pub known_none : (known : List (Bytes × List Reached)) → known ≡ [] → IsKnown lanes breaks stamp b s known
  known_none known is k = rw is tt

  -- what is known of a stamp is taken away or replaced
  pub known_put : (old new : List (Bytes × List Reached)) (k : Bytes) (rs : Option (List Reached)) → IsKnown lanes breaks stamp b s old →
      ((q : Bytes) → lookup (bytes_eq q) new ≡ cond (bytes_eq k q) rs (lookup (bytes_eq q) old)) → IfSome rs (AreFirst lanes breaks stamp b s k) →
      IsKnown lanes breaks stamp b s new
  known_put old new k rs known puts are q = by (bytes_eq k q) refl
    where
      by : (c : Bool) → bytes_eq k q ≡ c → IfSome (lookup (bytes_eq q) new) (AreFirst lanes breaks stamp b s q)
      by true is =
          let same : k ≡ q = (bytes_eq-Decides k q).0 is in
          let there : lookup (bytes_eq q) new ≡ rs = puts q ∙ ap (λ c. cond c rs (lookup (bytes_eq q) old)) is in
          subst (λ t. IfSome t (AreFirst lanes breaks stamp b s q)) (sym there) (subst (λ j. IfSome rs (AreFirst lanes breaks stamp b s j)) same are)
      by false is =
          let there : lookup (bytes_eq q) new ≡ lookup (bytes_eq q) old = puts q ∙ ap (λ c. cond c rs (lookup (bytes_eq q) old)) is in
          subst (λ t. IfSome t (AreFirst lanes breaks stamp b s q)) (sym there) (known q)

  -- what is known of a stamp, or nothing
  pub known_first : (known : List (Bytes × List Reached)) (k : Bytes) (rs : List Reached) → IsKnown lanes breaks stamp b s known → rs ≡ unwrap_or (lookup (bytes_eq k) known) [] →
      AreFirst lanes breaks stamp b s k rs
  known_first known k rs all is = subst (AreFirst lanes breaks stamp b s k) (sym is) (by (lookup (bytes_eq k) known) (all k))
    where
      by : (found : Option (List Reached)) → IfSome found (AreFirst lanes breaks stamp b s k) → AreFirst lanes breaks stamp b s k (unwrap_or found [])
      by None are = λ o way one. refl
      by (Some us) are = are

  -- the next lane of a state that was met is known too
  pub known_more : (o : Order) (here there : Reached) (rs : List Reached) (lane : ℕ) (old new : List (Bytes × List Reached)) →
      IsWay lanes s o → here ≡ reached lanes breaks stamp b (after lanes s o) → length rs < length here.lanes → lane ≡ get_or here.lanes (length rs) 0 →
      there ≡ reached lanes breaks stamp b (lanes.given (after lanes s o) lane) →
      IsKnown lanes breaks stamp b s old → rs ≡ unwrap_or (lookup (bytes_eq here.stamp) old) [] →
      ((q : Bytes) → lookup (bytes_eq q) new ≡ cond (bytes_eq here.stamp q) (Some (rs ++ there ∷ [])) (lookup (bytes_eq q) old)) →
      IsKnown lanes breaks stamp b s new
  known_more o here there rs lane old new way at short next is known found puts =
      let x = after lanes s o in
      let ls : here.lanes ≡ lanes_of lanes breaks b x = ap (λ r. r.lanes) at in
      let k : here.stamp ≡ stamp x = ap (λ r. r.stamp) at in
      let so_far = subst (λ (j : Bytes). AreFirst lanes breaks stamp b s j rs) k (known_first old here.stamp rs known found) in
      let more = first_more o rs way so_far (subst (λ (ks : List ℕ). length rs < length ks) ls short) in
      let last : there ≡ reached lanes breaks stamp b (lanes.given x (get_or (lanes_of lanes breaks b x) (length rs) 0))
      = is ∙ ap (λ l. reached lanes breaks stamp b (lanes.given x l)) (next ∙ ap (λ ks. get_or ks (length rs) 0) ls) in
      known_put old new here.stamp (Some (rs ++ there ∷ [])) known puts
      (subst (λ (j : Bytes). AreFirst lanes breaks stamp b s j (rs ++ there ∷ [])) (sym k)
      (subst (λ (r : Reached). AreFirst lanes breaks stamp b s (stamp x) (rs ++ r ∷ [])) (sym last) more))
