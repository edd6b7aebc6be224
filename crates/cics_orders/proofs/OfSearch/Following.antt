-- A state and a level are followed, entry by entry.
use Rattle.std.proofs.Common.{◌≡◌, ◌<◌, ◌≤◌, ℕ, zero, suc, ◌+◌, ◌^◌, min, Bool, true, false, not, cond, Some, None, List, [], ◌∷◌, ◌++◌, map, length, take, drop, get_or, arith, inl, inr, refl, ap, sym, ◌∙◌, append-nil, append_assoc, subst}
use Rattle.std.specs.List.{flat_map, slice_get}
use Rattle.std.specs.Int.{from_bool}
use Rattle.std.proofs.lemmas.List.Sums.{sum_by_more, sum_by-append}
use Rattle.std.proofs.lemmas.Option.{slice_get_within, get_or_from_slice_get}
use Rattle.std.specs.Str.{bytes_eq}
use Rattle.std.proofs.lemmas.Bool.{true≢false}
use Rattle.std.proofs.lemmas.Grind.{flat_map-append}
use Rattle.std.proofs.lemmas.List.{map-append, take_more}
use Rattle.cics_names.specs.Keyed.{Bytes}
use Rattle.cics_orders.specs.Space.Orders.{Order, Lanes, AreAmong, after}
use Rattle.cics_orders.specs.Space.Groups.{added, added_all}
use Rattle.cics_orders.specs.Space.States.{led_joined}
use Rattle.cics_orders.specs.Search.Levels.{live, spread}
use Rattle.cics_orders.specs.declared.space.states.Led.{Led}
use Rattle.cics_orders.proofs.OfSearch.Regrouping.{added_all-append}

-- no order changes the initial state
pub initial_after : {S : Type 0} (lanes : Lanes S) (initial : S → S) → ((s : S) (l : ℕ) → initial (lanes.given s l) ≡ initial s) →
    (s : S) (o : Order) → initial (after lanes s o) ≡ initial s
initial_after lanes initial stays s [] = refl
initial_after lanes initial stays s (l ∷ o) = initial_after lanes initial stays (lanes.given s l) o ∙ stays s l

-- a lane gives a line in the state after an order: where that leads, and from which initial state
pub given_there : {S : Type 0} (lanes : Lanes S) (initial : S → S) → ((s : S) (l : ℕ) → initial (lanes.given s l) ≡ initial s) → ((s : S) → initial (initial s) ≡ initial s) →
    (t was at now : S) (o : Order) (l : ℕ) → at ≡ after lanes (initial was) o → initial was ≡ initial t → now ≡ lanes.given at l →
    (now ≡ lanes.given (after lanes (initial t) o) l) × (initial now ≡ initial t)
given_there lanes initial stays itself t was at now o l went same gave = (led, ap initial led ∙ stays (after lanes (initial t) o) l ∙ initial_after lanes initial stays (initial t) o ∙ itself t)
  where
    led : now ≡ lanes.given (after lanes (initial t) o) l
    led = gave ∙ ap (λ s. lanes.given s l) (went ∙ ap (λ s. after lanes s o) same)

-- one value more is added
pub added_more : {K X : Type 0} (eq : K → K → Bool) (join : X → X → X) (f : ℕ → K × X) (ls : List ℕ) (i : ℕ) (base now next : List (K × X)) (k : K) (x : X) →
    i < length ls → now ≡ added_all eq join base (map f (take i ls)) → (k, x) ≡ f (get_or ls i 0) → next ≡ added eq join now k x →
    next ≡ added_all eq join base (map f (take (i + 1) ls))
added_more eq join f ls i base now next k x short so_far one is =
    is ∙ ap (λ es. added eq join es k x) so_far
    ∙ ap (λ e. added eq join (added_all eq join base (map f (take i ls))) e.0 e.1) one
    ∙ sym (added_all-append eq join base (map f (take i ls)) (f (get_or ls i 0) ∷ []))
    ∙ ap (added_all eq join base) (sym (map-append f (take i ls) (get_or ls i 0 ∷ [])) ∙ ap (map f) (sym (take_more ls i 0 short)))

-- what the lanes from a place on lead to
pub lane_next : {X : Type 0} (f : ℕ → X) (ls : List ℕ) (i : ℕ) (x : X) (xs : List X) → x ∷ xs ≡ map f (drop i ls) →
    (i < length ls) × (x ≡ f (get_or ls i 0)) × (xs ≡ map f (drop (suc i) ls))
lane_next f [] zero x xs is = absurd cc
lane_next f [] (suc i) x xs is = absurd cc
lane_next f (l ∷ ls) zero x xs is = (omega arith, cc, cc)
lane_next f (l ∷ ls) (suc i) x xs is = let rest = lane_next f ls i x xs is in (omega (arith, rest.0), rest.1, rest.2)

-- a state more is counted if a lane may give there
pub live_more : (es : List (Bytes × Led)) (i : ℕ) (e : Bytes × Led) → slice_get es i ≡ Some e → live (take (i + 1) es) ≡ live (take i es) + cond (not e.1.has_ended) 1 0
live_more es i e is =
    sum_by_more (λ f. cond (not f.1.has_ended) 1 0) es i e (slice_get_within es i e is)
    ∙ ap (λ f. live (take i es) + cond (not f.1.has_ended) 1 0) (get_or_from_slice_get es i e e is)

pub none_past : {X : Type 0} (xs : List X) (i : ℕ) → i < length xs → None ≡ slice_get xs i → ⊥
none_past [] i short is = omega (arith, short)
none_past (x ∷ xs) zero short is = absurd cc
none_past (x ∷ xs) (suc i) short is = none_past xs i (omega (arith, short)) is

-- ---- The entries of a level

-- an entry more is passed: those passed in which a lane may give, and those left, are all
live_first : (e : Bytes × Led) (es : List (Bytes × Led)) → live (e ∷ es) ≡ cond (not e.1.has_ended) 1 0 + live es
live_first e es = sum_by-append (λ f. cond (not f.1.has_ended) 1 0) (e ∷ []) es ∙ omega arith

pub one_counted : (at more now count : ℕ) (before left : List (Bytes × Led)) (e : Bytes × Led) → before ≡ e ∷ left → at + live before ≡ count → count < 2 ^ 64 →
    more ≡ from_bool (not e.1.has_ended) → now ≡ min (at + more) 18446744073709551615 → now + live left ≡ count
one_counted at more now count before left e is sum few made next = by (not e.1.has_ended) refl
  where
    size : live before ≡ cond (not e.1.has_ended) 1 0 + live left
    size = ap live is ∙ live_first e left

    by : (c : Bool) → not e.1.has_ended ≡ c → now + live left ≡ count
    by true at_e =
        let one : more ≡ 1 = made ∙ ap from_bool at_e in
        let first : live before ≡ 1 + live left = size ∙ ap (λ c. cond c 1 0 + live left) at_e in
        omega (arith, sum, few, one, first, next)
    by false at_e =
        let none : more ≡ 0 = made ∙ ap from_bool at_e in
        let first : live before ≡ 0 + live left = size ∙ ap (λ c. cond c 1 0 + live left) at_e in
        omega (arith, sum, few, none, first, next)

-- an entry that isn't the last in which a lane may give isn't the last
pub one_left : (at count : ℕ) (before left : List (Bytes × Led)) (e : Bytes × Led) → before ≡ e ∷ left → at + live before ≡ count → not e.1.has_ended ≡ true →
    (at + 1 ≡ count → ⊥) → 1 ≤ length left
one_left at count before [] e is sum may other =
    let size : live before ≡ 1 = ap live is ∙ live_first e [] ∙ ap (λ c. cond c 1 0 + live []) may in
    absurd (other (omega (arith, sum, size)))
one_left at count before (x ∷ left) e is sum may other = omega arith

-- Some of the entries before `left` are followed, and all if the search is whole.
pub record IsPart (was_whole is_whole : Bool) (es left some : List (Bytes × Led)) : Type 0 where
  pub among : (more : List (Bytes × Led)) → AreAmong more left → AreAmong (some ++ more) es
  pub whole : is_whole ≡ true → (was_whole ≡ true) × (some ++ left ≡ es)

pub part_none : (w : Bool) (es left : List (Bytes × Led)) → left ≡ es → IsPart w w es left []
part_none w es left is = record { among = λ more fewer. subst (AreAmong more) is fewer; whole = λ all. (all, is) }

-- an entry is followed
pub part_more : (w v : Bool) (es before left some : List (Bytes × Led)) (e : Bytes × Led) → before ≡ e ∷ left → IsPart w v es before some → IsPart w v es left (some ++ e ∷ [])
part_more w v es before left some e at part = record {
  among = λ more is.
      subst (λ os. AreAmong os es) (sym (append_assoc some (e ∷ []) more))
      (part.among (e ∷ more) (subst (AreAmong (e ∷ more)) (sym at) (inr (more, refl, is))));
  whole = λ is. let all = part.whole is in (all.0, append_assoc some (e ∷ []) left ∙ ap (λ os. some ++ os) (sym at) ∙ all.1);
}

-- an entry is left out
pub part_less : (w v u : Bool) (es before left some : List (Bytes × Led)) (e : Bytes × Led) → before ≡ e ∷ left → u ≡ false → IsPart w v es before some → IsPart w u es left some
part_less w v u es before left some e at cut part = record {
  among = λ more is. part.among more (subst (AreAmong more) (sym at) (inl is));
  whole = λ is. absurd (true≢false (sym is ∙ cut));
}

module _ {S : Type 0} (lanes : Lanes S) (breaks : S → ℕ → Bool) (stamp : S → Bytes) (b : Bool) (s : S) where
  pub spread_more : (some next now : List (Bytes × Led)) (e : Bytes × Led) → now ≡ added_all bytes_eq led_joined [] (flat_map (spread lanes breaks stamp b s) some) →
      next ≡ added_all bytes_eq led_joined now (spread lanes breaks stamp b s e) →
      next ≡ added_all bytes_eq led_joined [] (flat_map (spread lanes breaks stamp b s) (some ++ e ∷ []))
  spread_more some next now e so_far is =
      is ∙ ap (λ es. added_all bytes_eq led_joined es (spread lanes breaks stamp b s e)) so_far
      ∙ sym (added_all-append bytes_eq led_joined [] (flat_map (spread lanes breaks stamp b s) some) (spread lanes breaks stamp b s e))
      ∙ ap (added_all bytes_eq led_joined [])
      (ap (λ es. flat_map (spread lanes breaks stamp b s) some ++ es) (sym (append-nil (spread lanes breaks stamp b s e)))
      ∙ sym (flat_map-append (spread lanes breaks stamp b s) some (e ∷ [])))
