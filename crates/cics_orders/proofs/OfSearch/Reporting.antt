-- The report of what two searches told.
use Rattle.std.proofs.Common.{◌≡◌, ◌≤◌, ℕ, Bool, true, false, List, [], ◌∷◌, map, length, Option, refl, ap, sym, ◌∙◌, arith, subst}
use Rattle.std.specs.List.{flat_map}
use Rattle.std.specs.Str.{bytes_eq}
use Rattle.cics_names.specs.Keyed.{Bytes}
use Rattle.cics_orders.specs.Space.Orders.{Order, Lanes, IsWay, AreStampedAlike, after, orders, AreAmong}
use Rattle.cics_orders.specs.Space.Endings.{Parts, Reported, are_same, run_of, report_of_both}
use Rattle.cics_orders.specs.Space.Groups.{added_all}
use Rattle.cics_orders.specs.Search.Levels.{followed, entry, level, tallied, IsEntry, IsLevel}
use Rattle.cics_orders.specs.Space.States.{led_joined}
use Rattle.cics_orders.specs.Space.Tallies.{tally_joined, ending_of}
use Rattle.cics_orders.specs.Search.Reports.{runs, serial_of, IsReport}
use Rattle.cics_orders.specs.declared.space.endings.Tally.{Tally}
use Rattle.cics_orders.specs.declared.space.states.Led.{Led}
use Rattle.cics_orders.proofs.OfSpace.SameParts.{same_decides}
use Rattle.cics_orders.proofs.OfSearch.Regrouping.{AreLaws, Each, Leads, merged, regrouped}
use Rattle.cics_orders.proofs.OfSearch.Ways.{each_among, are_ways, all_followed, serial_followed, filter_map_both}
use Rattle.cics_orders.proofs.OfSearch.Leveling.{kept_sums, kept_swap, led_laws, are_entries, same_there}
use Rattle.cics_orders.proofs.OfSearch.Tallying.{run_tells, all_told, whole_report}
use Rattle.cics_orders.proofs.OfSearch.Bounds.{shown, bounds, some_reported}

tally_laws : AreLaws are_same tally_joined
tally_laws = record {
  same = same_decides;
  assoc = λ x y z. λ i. record x { orders = kept_sums x.orders y.orders z.orders i; serial = kept_sums x.serial y.serial z.serial i };
  swap = λ x y z. λ i. record x { orders = kept_swap x.orders y.orders z.orders i; serial = kept_swap x.serial y.serial z.serial i };
}

module _ {S : Type 0} (lanes : Lanes S) (breaks : S → ℕ → Bool) (stamp : S → Bytes) (ending : S → Parts) (s : S)
    (tell : (o p : Order) → IsWay lanes s o → IsWay lanes s p → stamp (after lanes s o) ≡ stamp (after lanes s p) →
    AreStampedAlike lanes ending breaks stamp (after lanes s o) (after lanes s p)) where
  leads_told : (b : Bool) →
      Leads led_joined are_same tally_joined (λ e. tallied lanes ending b s e ∷ []) (IsEntry lanes breaks stamp b s)
  leads_told b = record {
    stays = λ g x is. record { way = is.way; stamped = is.stamped; lanes_there = is.lanes_there; ended = is.ended };
    alike = λ g e first second one. ap (λ p. p ∷ []) (same_there lanes breaks stamp ending b s tell g e first second one).ends;
    merges = λ g e first second one. by g e b;
  }
    where
      by : (g e : Bytes × Led) (c : Bool) →
          tallied lanes ending c s (g.0, led_joined g.1 e.1) ∷ [] ≡ merged are_same tally_joined (tallied lanes ending c s g ∷ []) (tallied lanes ending c s e ∷ [])
      by g e true = refl
      by g e false = refl

  told_flat : (b : Bool) (es : List (Bytes × Led)) → flat_map (λ e. tallied lanes ending b s e ∷ []) es ≡ map (tallied lanes ending b s) es
  told_flat b [] = refl
  told_flat b (e ∷ es) = ap (λ ts. tallied lanes ending b s e ∷ ts) (told_flat b es)

  told_runs : (b : Bool) (os : List Order) →
      flat_map (λ e. tallied lanes ending b s e ∷ []) (map (λ o. entry lanes breaks stamp b o 1 (after lanes s o)) os) ≡ map (run_tells b) (runs lanes ending breaks s os)
  told_runs b [] = refl
  told_runs b (o ∷ os) = ap (λ ts. run_tells b (run_of lanes ending breaks s o) ∷ ts) (told_runs b os)

  -- what a level tells is what its orders tell
  told_level : (b : Bool) (os : List Order) → Each (IsWay lanes s) os → (met : List (Parts × Tally)) →
      added_all are_same tally_joined met (map (tallied lanes ending b s) (level lanes breaks stamp b s os))
      ≡ added_all are_same tally_joined met (map (run_tells b) (runs lanes ending breaks s os))
  told_level b os ways met =
      ap (added_all are_same tally_joined met) (sym (told_flat b (level lanes breaks stamp b s os)))
      ∙ regrouped bytes_eq led_joined led_laws are_same tally_joined tally_laws (λ e. tallied lanes ending b s e ∷ []) (IsEntry lanes breaks stamp b s) (leads_told b)
      (map (λ o. entry lanes breaks stamp b o 1 (after lanes s o)) os) [] met tt (are_entries lanes breaks stamp ending b s tell os ways)
      ∙ ap (added_all are_same tally_joined met) (told_runs b os)

  level_ways : (b : Bool) (n : ℕ) (w : Bool) (es : List (Bytes × Led)) (is : IsLevel lanes breaks stamp b s n w es) → Each (IsWay lanes s) is.orders
  level_ways b n w es is = each_among (IsWay lanes s) is.orders (followed lanes breaks b n s) is.among (are_ways lanes breaks b n s)

  some_runs : (os : List Order) → 1 ≤ length os → 1 ≤ length (runs lanes ending breaks s os)
  some_runs [] any = any
  some_runs (o ∷ os) any = omega arith

  -- what two searches told is the report
  pub searched : (n : ℕ) (w v : Bool) (es fs : List (Bytes × Led)) (endings : List Reported) (written : Option Parts) →
      IsLevel lanes breaks stamp false s n w es → IsLevel lanes breaks stamp true s n v fs →
      endings ≡ map ending_of (added_all are_same tally_joined (added_all are_same tally_joined [] (map (tallied lanes ending false s) es)) (map (tallied lanes ending true s) fs)) →
      IsReport lanes ending breaks n s (record { endings = endings; is_whole = w; has_all_serial = v; written = written })
  searched n w v es fs endings written all some is =
      let serials : serial_of lanes breaks s (orders lanes n s) ≡ followed lanes breaks true n s = serial_followed lanes breaks n s in
      let every : followed lanes breaks false n s ≡ orders lanes n s = all_followed lanes breaks n s in
      let reported : endings ≡ report_of_both (runs lanes ending breaks s all.orders) (runs lanes ending breaks s some.orders)
      = is
      ∙ ap (λ ts. map ending_of (added_all are_same tally_joined (added_all are_same tally_joined [] (map (tallied lanes ending false s) ts)) (map (tallied lanes ending true s) fs))) all.groups
      ∙ ap (λ ts. map ending_of (added_all are_same tally_joined (added_all are_same tally_joined [] (map (tallied lanes ending false s) (level lanes breaks stamp false s all.orders))) (map (tallied lanes ending true s) ts))) some.groups
      ∙ ap (λ met. map ending_of (added_all are_same tally_joined met (map (tallied lanes ending true s) (level lanes breaks stamp true s some.orders))))
      (told_level false all.orders (level_ways false n w es all) [])
      ∙ ap (map ending_of) (told_level true some.orders (level_ways true n v fs some) (added_all are_same tally_joined [] (map (run_tells false) (runs lanes ending breaks s all.orders))))
      ∙ all_told (runs lanes ending breaks s all.orders) (runs lanes ending breaks s some.orders) in
      let among = subst (AreAmong all.orders) every all.among in
      let serially = subst (AreAmong some.orders) (sym serials) some.among in
      record {
        followed = all.orders;
        serially = some.orders;
        among = among;
        serially_among = serially;
        endings = reported;
        some = some_reported (runs lanes ending breaks s all.orders) (runs lanes ending breaks s some.orders) endings reported (some_runs all.orders (all.some refl));
        shown = shown lanes ending breaks s n all.orders some.orders among serially endings reported;
        bounds = bounds lanes ending breaks s n all.orders some.orders among serially endings reported;
        is_whole = λ at. all.whole at ∙ every;
        has_all_serial = λ at. some.whole at ∙ sym serials;
        whole = λ at too.
            reported
            ∙ ap (λ os. report_of_both (runs lanes ending breaks s os) (runs lanes ending breaks s some.orders)) (all.whole at ∙ every)
            ∙ ap (λ os. report_of_both (runs lanes ending breaks s (orders lanes n s)) (runs lanes ending breaks s os)) (some.whole too ∙ sym serials)
            ∙ ap (report_of_both (runs lanes ending breaks s (orders lanes n s)))
            (sym (filter_map_both (run_of lanes ending breaks s) (λ r. r.is_serial) (orders lanes n s)))
            ∙ whole_report (runs lanes ending breaks s (orders lanes n s));
      }
