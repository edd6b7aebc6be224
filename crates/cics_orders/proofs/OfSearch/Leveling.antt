-- A level is the grouping of the orders that are followed, and the next one is what it leads to.
use Rattle.std.proofs.Common.{◌≤◌, ◌≡◌, ℕ, suc, ◌+◌, Bool, true, false, not, if◌then◌else◌, List, [], ◌∷◌, ◌++◌, map, length, length-append, inr, refl, ap, sym, ◌∙◌, arith, subst}
use Rattle.std.specs.List.{flat_map, filter}
use Rattle.std.specs.Str.{bytes_eq}
use Rattle.std.proofs.lemmas.List.{map-append}
use Rattle.std.proofs.lemmas.Bool.{true≢false}
use Rattle.std.proofs.lemmas.Slice.Eq.{bytes_eq-Decides}
use Rattle.cics_names.specs.Keyed.{Bytes}
use Rattle.cics_orders.specs.Space.Orders.{is_none_left, Order, Lanes, IsOneOf, IsWay, AreStampedAlike, after, AreAmong}
use Rattle.cics_orders.specs.Space.Endings.{Parts, kept_number}
use Rattle.cics_orders.specs.Space.Groups.{added, added_all}
use Rattle.cics_orders.specs.Search.Levels.{followed, entry, spread, level, live, IsEntry, IsLevel, IsNext, state_count}
use Rattle.cics_orders.specs.Space.States.{lanes_of, led_joined}
use Rattle.cics_orders.specs.declared.space.states.Led.{Led}
use Rattle.cics_orders.proofs.OfSearch.Regrouping.{AreLaws, Each, Leads, keys, merged, each_added_all, regrouped}
use Rattle.cics_orders.proofs.OfSearch.Sublists.{among_all, among_trans, among_flat_map, among_filter, some_groups}
use Rattle.cics_orders.proofs.OfSearch.Ways.{each_among, each_on, longer, grows, each_own, each_lane, are_ways, filter_map_both}
use Rattle.cics_orders.proofs.OfSpace.OrdersLaws.{after-append}

pub kept_sums : (l m n : ℕ) → kept_number (kept_number (l + m) + n) ≡ kept_number (l + kept_number (m + n))
kept_sums l m n = omega arith

pub kept_swap : (l m n : ℕ) → kept_number (kept_number (l + m) + n) ≡ kept_number (kept_number (l + n) + m)
kept_swap l m n = omega arith

pub led_laws : AreLaws bytes_eq led_joined
led_laws = record {
  same = bytes_eq-Decides;
  assoc = λ x y z. λ i. record x { count = kept_sums x.count y.count z.count i };
  swap = λ x y z. λ i. record x { count = kept_swap x.count y.count z.count i };
}

module _ {S : Type 0} (lanes : Lanes S) (breaks : S → ℕ → Bool) (stamp : S → Bytes) (ending : S → Parts) (b : Bool) (s : S)
    (tell : (o p : Order) → IsWay lanes s o → IsWay lanes s p → stamp (after lanes s o) ≡ stamp (after lanes s p) →
    AreStampedAlike lanes ending breaks stamp (after lanes s o) (after lanes s p)) where
  abbrev entry_of : Order → Bytes × Led
  entry_of o = entry lanes breaks stamp b o 1 (after lanes s o)

  pub are_entries : (os : List Order) → Each (IsWay lanes s) os → Each (IsEntry lanes breaks stamp b s) (map (λ o. entry lanes breaks stamp b o 1 (after lanes s o)) os)
  are_entries [] ways = tt
  are_entries (o ∷ os) ways = (record { way = ways.0; stamped = refl; lanes_there = refl; ended = refl }, are_entries os ways.1)

  -- ---- Entries of one stamp

  pub same_there : (g e : Bytes × Led) → IsEntry lanes breaks stamp b s g → IsEntry lanes breaks stamp b s e → g.0 ≡ e.0 →
      AreStampedAlike lanes ending breaks stamp (after lanes s g.1.first) (after lanes s e.1.first)
  same_there g e first second one = tell g.1.first e.1.first first.way second.way (sym first.stamped ∙ one ∙ second.stamped)

  same_filtered : (p q : ℕ → Bool) (P : ℕ → Type 0) (ls : List ℕ) → ((l : ℕ) → P l → p l ≡ q l) → Each P ls → filter (λ l. not (p l)) ls ≡ filter (λ l. not (q l)) ls
  same_filtered p q P [] same all = refl
  same_filtered p q P (l ∷ ls) same all = by (same_filtered p q P ls same all.1) (q l) refl
    where
      by : filter (λ l. not (p l)) ls ≡ filter (λ l. not (q l)) ls → (c : Bool) → q l ≡ c → filter (λ l. not (p l)) (l ∷ ls) ≡ filter (λ l. not (q l)) (l ∷ ls)
      by rest true is = rw (same l all.0, is) rest
      by rest false is = rw (same l all.0, is) (ap (λ ks. l ∷ ks) rest)

  pub same_lanes : (x y : S) → AreStampedAlike lanes ending breaks stamp x y → lanes_of lanes breaks b x ≡ lanes_of lanes breaks b y
  same_lanes x y alike = by b
    where
      by : (c : Bool) →
          (if c then filter (λ l. not (breaks x l)) (lanes.givers x 0) else lanes.givers x 0)
          ≡ (if c then filter (λ l. not (breaks y l)) (lanes.givers y 0) else lanes.givers y 0)
      by true =
          same_filtered (breaks x) (breaks y) (λ l. IsOneOf l (lanes.givers x 0)) (lanes.givers x 0) alike.broken (each_own (lanes.givers x 0))
          ∙ ap (filter (λ l. not (breaks y l))) alike.givers
      by false = alike.givers

  same_keys : (x y : S) (o p : Order) (m n : ℕ) (ls : List ℕ) → Each (λ l. stamp (lanes.given x l) ≡ stamp (lanes.given y l)) ls →
      keys (map (λ l. entry lanes breaks stamp b (o ++ l ∷ []) m (lanes.given x l)) ls) ≡ keys (map (λ l. entry lanes breaks stamp b (p ++ l ∷ []) n (lanes.given y l)) ls)
  same_keys x y o p m n [] all = refl
  same_keys x y o p m n (l ∷ ls) all = λ i. all.0 i ∷ same_keys x y o p m n ls all.1 i

  merged_lanes : (x y : S) (o p : Order) (m n : ℕ) (ls : List ℕ) →
      map (λ l. entry lanes breaks stamp b (o ++ l ∷ []) (kept_number (m + n)) (lanes.given x l)) ls
      ≡ merged bytes_eq led_joined (map (λ l. entry lanes breaks stamp b (o ++ l ∷ []) m (lanes.given x l)) ls) (map (λ l. entry lanes breaks stamp b (p ++ l ∷ []) n (lanes.given y l)) ls)
  merged_lanes x y o p m n [] = refl
  merged_lanes x y o p m n (l ∷ ls) = ap (λ es. entry lanes breaks stamp b (o ++ l ∷ []) (kept_number (m + n)) (lanes.given x l) ∷ es) (merged_lanes x y o p m n ls)

  spread_alike : (g e : Bytes × Led) → IsEntry lanes breaks stamp b s g → IsEntry lanes breaks stamp b s e → g.0 ≡ e.0 → keys (spread lanes breaks stamp b s g) ≡ keys (spread lanes breaks stamp b s e)
  spread_alike g e first second one = by (is_none_left (lanes.givers (after lanes s g.1.first) 0)) first.ended (second.ended ∙ ap is_none_left (sym (same_there g e first second one).givers))
    where
      by : (c : Bool) → g.1.has_ended ≡ c → e.1.has_ended ≡ c → keys (spread lanes breaks stamp b s g) ≡ keys (spread lanes breaks stamp b s e)
      by true p q = rw (p, q) (ap (λ k. k ∷ []) one)
      by false p q =
          let x = after lanes s g.1.first in
          let y = after lanes s e.1.first in
          let alike = same_there g e first second one in
          let both : e.1.lanes ≡ g.1.lanes = second.lanes_there ∙ sym (same_lanes x y alike) ∙ sym first.lanes_there in
          let all = each_on (λ l. IsOneOf l (lanes.givers x 0)) (λ l. stamp (lanes.given x l) ≡ stamp (lanes.given y l)) g.1.lanes alike.next
          (subst (Each (λ l. IsOneOf l (lanes.givers x 0))) (sym first.lanes_there) (each_lane lanes breaks b x)) in
          rw (p, q) (same_keys x y g.1.first e.1.first g.1.count e.1.count g.1.lanes all
          ∙ ap (λ ls. keys (map (λ l. entry lanes breaks stamp b (e.1.first ++ l ∷ []) e.1.count (lanes.given y l)) ls)) (sym both))

  spread_merges : (g e : Bytes × Led) → IsEntry lanes breaks stamp b s g → IsEntry lanes breaks stamp b s e → g.0 ≡ e.0 →
      spread lanes breaks stamp b s (g.0, led_joined g.1 e.1) ≡ merged bytes_eq led_joined (spread lanes breaks stamp b s g) (spread lanes breaks stamp b s e)
  spread_merges g e first second one = by (is_none_left (lanes.givers (after lanes s g.1.first) 0)) first.ended (second.ended ∙ ap is_none_left (sym (same_there g e first second one).givers))
    where
      by : (c : Bool) → g.1.has_ended ≡ c → e.1.has_ended ≡ c →
          spread lanes breaks stamp b s (g.0, led_joined g.1 e.1) ≡ merged bytes_eq led_joined (spread lanes breaks stamp b s g) (spread lanes breaks stamp b s e)
      by true p q = rw (p, q) refl
      by false p q =
          let x = after lanes s g.1.first in
          let y = after lanes s e.1.first in
          let both : e.1.lanes ≡ g.1.lanes = second.lanes_there ∙ sym (same_lanes x y (same_there g e first second one)) ∙ sym first.lanes_there in
          rw (p, q) (merged_lanes x y g.1.first e.1.first g.1.count e.1.count g.1.lanes
          ∙ ap (λ ls. merged bytes_eq led_joined (map (λ l. entry lanes breaks stamp b (g.1.first ++ l ∷ []) g.1.count (lanes.given x l)) g.1.lanes)
          (map (λ l. entry lanes breaks stamp b (e.1.first ++ l ∷ []) e.1.count (lanes.given y l)) ls)) (sym both))

  leads_on : Leads led_joined bytes_eq led_joined (spread lanes breaks stamp b s) (IsEntry lanes breaks stamp b s)
  leads_on = record {
    stays = λ g x is. record { way = is.way; stamped = is.stamped; lanes_there = is.lanes_there; ended = is.ended };
    alike = spread_alike;
    merges = spread_merges;
  }

  -- ---- The next level

  spread_lanes : (o : Order) (ls : List ℕ) →
      map (λ l. entry lanes breaks stamp b (o ++ l ∷ []) 1 (lanes.given (after lanes s o) l)) ls
      ≡ map (λ p. entry lanes breaks stamp b p 1 (after lanes s p)) (map (λ l. o ++ l ∷ []) ls)
  spread_lanes o [] = refl
  spread_lanes o (l ∷ ls) = λ i. entry lanes breaks stamp b (o ++ l ∷ []) 1 (sym (after-append lanes s o l) i) ∷ spread_lanes o ls i

  spread_one : (o : Order) →
      spread lanes breaks stamp b s (entry lanes breaks stamp b o 1 (after lanes s o)) ≡ map (λ p. entry lanes breaks stamp b p 1 (after lanes s p)) (longer lanes breaks b s o)
  spread_one o = by (is_none_left (lanes.givers (after lanes s o) 0))
    where
      by : (c : Bool) →
          (if c then entry lanes breaks stamp b o 1 (after lanes s o) ∷ []
          else map (λ l. entry lanes breaks stamp b (o ++ l ∷ []) 1 (lanes.given (after lanes s o) l)) (lanes_of lanes breaks b (after lanes s o)))
          ≡ map (λ p. entry lanes breaks stamp b p 1 (after lanes s p)) (if c then o ∷ [] else map (λ l. o ++ l ∷ []) (lanes_of lanes breaks b (after lanes s o)))
      by true = refl
      by false = spread_lanes o (lanes_of lanes breaks b (after lanes s o))

  spread_all : (os : List Order) →
      flat_map (spread lanes breaks stamp b s) (map (λ o. entry lanes breaks stamp b o 1 (after lanes s o)) os)
      ≡ map (λ o. entry lanes breaks stamp b o 1 (after lanes s o)) (flat_map (longer lanes breaks b s) os)
  spread_all [] = refl
  spread_all (o ∷ os) =
      ap (λ es. es ++ flat_map (spread lanes breaks stamp b s) (map (λ o. entry lanes breaks stamp b o 1 (after lanes s o)) os)) (spread_one o)
      ∙ ap (λ es. map (λ p. entry lanes breaks stamp b p 1 (after lanes s p)) (longer lanes breaks b s o) ++ es) (spread_all os)
      ∙ sym (map-append (λ o. entry lanes breaks stamp b o 1 (after lanes s o)) (longer lanes breaks b s o) (flat_map (longer lanes breaks b s) os))

  next_level : (os : List Order) → Each (IsWay lanes s) os →
      added_all bytes_eq led_joined [] (flat_map (spread lanes breaks stamp b s) (level lanes breaks stamp b s os)) ≡ level lanes breaks stamp b s (flat_map (longer lanes breaks b s) os)
  next_level os ways =
      regrouped bytes_eq led_joined led_laws bytes_eq led_joined led_laws (spread lanes breaks stamp b s) (IsEntry lanes breaks stamp b s) leads_on
      (map (λ o. entry lanes breaks stamp b o 1 (after lanes s o)) os) [] [] tt (are_entries os ways)
      ∙ ap (added_all bytes_eq led_joined []) (spread_all os)

  -- each entry of a level is that of its first order
  pub level_entries : (n : ℕ) (w : Bool) (es : List (Bytes × Led)) → IsLevel lanes breaks stamp b s n w es → Each (IsEntry lanes breaks stamp b s) es
  level_entries n w es is =
      let ways = each_among (IsWay lanes s) is.orders (followed lanes breaks b n s) is.among (are_ways lanes breaks b n s) in
      subst (Each (IsEntry lanes breaks stamp b s)) (sym is.groups)
      (each_added_all bytes_eq led_joined led_laws bytes_eq led_joined led_laws (spread lanes breaks stamp b s) (IsEntry lanes breaks stamp b s) leads_on
      (map (λ o. entry lanes breaks stamp b o 1 (after lanes s o)) is.orders) [] tt (are_entries is.orders ways))

  pub initial_level : (w : Bool) (es : List (Bytes × Led)) → es ≡ entry lanes breaks stamp b [] 1 s ∷ [] → IsLevel lanes breaks stamp b s 0 w es
  initial_level w es is = record { orders = [] ∷ []; among = inr ([], refl, refl); groups = is; whole = λ _. refl; some = λ _. omega arith }

  -- ---- A level isn't empty

  added_size : (t : List (Bytes × Led)) (k : Bytes) (x : Led) → 1 ≤ length (added bytes_eq led_joined t k x)
  added_size [] k x = omega arith
  added_size (e ∷ t) k x = by (bytes_eq k e.0)
    where
      by : (c : Bool) → 1 ≤ length (if c then (e.0, led_joined e.1 x) ∷ t else e ∷ added bytes_eq led_joined t k x)
      by true = omega arith
      by false = omega arith

  all_size : (t es : List (Bytes × Led)) → 1 ≤ length t → 1 ≤ length (added_all bytes_eq led_joined t es)
  all_size t [] any = any
  all_size t (e ∷ es) any = all_size (added bytes_eq led_joined t e.0 e.1) es (added_size t e.0 e.1)

  some_states : (os : List Order) → 1 ≤ length os → 1 ≤ length (level lanes breaks stamp b s os)
  some_states [] any = absurd (omega (arith, any))
  some_states (o ∷ os) any = all_size (entry_of o ∷ []) (map entry_of os) (omega arith)

  some_orders : (os : List Order) → 1 ≤ length (level lanes breaks stamp b s os) → 1 ≤ length os
  some_orders [] any = any
  some_orders (o ∷ os) any = omega arith

  one_longer : b ≡ false → (o : Order) → 1 ≤ length (longer lanes breaks b s o)
  one_longer plain o = by (lanes.givers (after lanes s o) 0) refl
    where
      by : (ls : List ℕ) → lanes.givers (after lanes s o) 0 ≡ ls → 1 ≤ length (longer lanes breaks b s o)
      by [] at = rw at (omega arith)
      by (l ∷ ls) at = rw (plain, at) (omega arith)

  some_longer : b ≡ false → (os : List Order) → 1 ≤ length os → 1 ≤ length (flat_map (longer lanes breaks b s) os)
  some_longer plain [] any = absurd (omega (arith, any))
  some_longer plain (o ∷ os) any = omega (arith, length-append (longer lanes breaks b s o) (flat_map (longer lanes breaks b s) os), one_longer plain o)

  -- the entries that are followed of a level, and the next one
  pub level_on : (n : ℕ) (w v : Bool) (es next : List (Bytes × Led)) → IsLevel lanes breaks stamp b s n w es → IsNext lanes breaks stamp b s w v es next → IsLevel lanes breaks stamp b s (suc n) v next
  level_on n w v es next is on = by v refl
    where
      -- the next level of some of the orders
      of_some : (os : List Order) → AreAmong os is.orders → on.some ≡ level lanes breaks stamp b s os → (v ≡ true → os ≡ followed lanes breaks b n s) → (b ≡ false → 1 ≤ length os) →
          IsLevel lanes breaks stamp b s (suc n) v next
      of_some os less groups all any =
          let fewer = among_trans os is.orders (followed lanes breaks b n s) less is.among in
          record {
            orders = flat_map (longer lanes breaks b s) os;
            among = subst (AreAmong (flat_map (longer lanes breaks b s) os)) (grows lanes breaks b n s)
                (among_flat_map (longer lanes breaks b s) os (followed lanes breaks b n s) fewer);
            groups = on.leads ∙ ap (λ es. added_all bytes_eq led_joined [] (flat_map (spread lanes breaks stamp b s) es)) groups
                ∙ next_level os (each_among (IsWay lanes s) os (followed lanes breaks b n s) fewer (are_ways lanes breaks b n s));
            whole = λ at. ap (flat_map (longer lanes breaks b s)) (all at) ∙ grows lanes breaks b n s;
            some = λ plain. some_longer plain os (any plain);
          }

      by : (c : Bool) → v ≡ c → IsLevel lanes breaks stamp b s (suc n) v next
      by true at = of_some is.orders (among_all is.orders) ((on.whole at).1 ∙ is.groups) (λ _. is.whole (on.whole at).0) is.some
      by false at =
          let found = some_groups bytes_eq led_joined led_laws (map (λ o. entry lanes breaks stamp b o 1 (after lanes s o)) is.orders) on.some (subst (AreAmong on.some) is.groups on.among) in
          let os = filter (λ o. found.0 (stamp (after lanes s o))) is.orders in
          let groups : on.some ≡ level lanes breaks stamp b s os = found.1 ∙ ap (added_all bytes_eq led_joined []) (filter_map_both (λ o. entry lanes breaks stamp b o 1 (after lanes s o)) (λ e. found.0 e.0) is.orders) in
          of_some os (among_filter (λ o. found.0 (stamp (after lanes s o))) is.orders) groups (λ so. absurd (true≢false (sym so ∙ at)))
          (λ plain. some_orders os (subst (λ (ts : List (Bytes × Led)). 1 ≤ length ts) groups (on.kept (subst (λ (ts : List (Bytes × Led)). 1 ≤ length ts) (sym is.groups) (some_states is.orders (is.some plain))))))

-- as long as the levels have no more states in which a lane may give than the limit, the search is whole
pub level_met : {S : Type 0} (lanes : Lanes S) (breaks : S → ℕ → Bool) (stamp : S → Bytes) (b : Bool) (s : S) (n limit met more : ℕ) (w v : Bool) (es next : List (Bytes × Led)) →
    IsLevel lanes breaks stamp b s n w es → IsNext lanes breaks stamp b s w v es next →
    (w ≡ true → met ≤ state_count lanes breaks stamp b s n) → (state_count lanes breaks stamp b s n ≤ limit → w ≡ true) →
    more ≤ met + live es → (met + live es ≤ limit → v ≡ w) →
    (v ≡ true → more ≤ state_count lanes breaks stamp b s (suc n)) × (state_count lanes breaks stamp b s (suc n) ≤ limit → v ≡ true)
level_met lanes breaks stamp b s n limit met more w v es next is on so_far within met_more stays = (
  λ whole. let all = (on.whole whole).0 in omega (arith, so_far all, met_more, size all),
  λ fits.
      let all = within (omega (arith, fits)) in
      stays (omega (arith, so_far all, size all, fits)) ∙ all,
)
  where
    size : w ≡ true → live es ≡ live (level lanes breaks stamp b s (followed lanes breaks b n s))
    size all = ap live (is.groups ∙ ap (level lanes breaks stamp b s) (is.whole all))
