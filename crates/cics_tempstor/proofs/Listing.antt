-- A listing: the items of the rows, in the order of their names.
use Rattle.std.proofs.Common.{◌≡◌, ◌<◌, ◌-◌, ℕ, zero, suc, drop, slice_get, arith, Some, Bool, true, false, cond, List, [], ◌∷◌, map, refl, sym, ap, ◌∙◌}
use Rattle.std.specs.Prelude.{if◌then◌else◌, nat_lt}
use Rattle.std.specs.declared.cmp.Ordering.{Ordering}
use Rattle.std.specs.declared.cmp.Ordering.TheVariants.{Less, Equal, Greater}
use Rattle.std.specs.FinMap.Entries.{by_order}
use Rattle.std.specs.BTreeMap.{insert_entry}
use Rattle.std.specs.Ordering.{match_ordering}
use Rattle.cics_names.specs.Keyed.{Bytes, Map, bytes_cmp, with_value}
use Rattle.cics_tempstor.specs.declared.queue_rows.Row.{Row}
use Rattle.cics_tempstor.specs.Queues.{Queue, queues_of, is_there, place_of, places_of}
use Rattle.cics_tempstor.specs.Tables.{in_order, rows_of, lists_of, those_there, cursors_of, those_set}

module _ {X : Type 0} (f : Row → X) where
  -- a value of each row
  abbrev each : Map Row → Map X
  each rows = map (λ e. (e.0, f e.1)) rows

  -- one more row is one more value
  each-with_value : (k : Bytes) (r : Row) (rows : Map Row) → each (with_value k r rows) ≡ with_value k (f r) (each rows)
  each-with_value k r [] = refl
  each-with_value k r (e ∷ es) = by (bytes_cmp k e.0) (each-with_value k r es)
    where
      by : (o : Ordering) → each (with_value k r es) ≡ with_value k (f r) (each es) →
          each (by_order o ((k, r) ∷ e ∷ es) ((e.0, r) ∷ es) (e ∷ with_value k r es))
          ≡ by_order o ((k, f r) ∷ each (e ∷ es)) ((e.0, f r) ∷ each es) ((e.0, f e.1) ∷ with_value k (f r) (each es))
      by Less rest = refl
      by Equal rest = refl
      by Greater rest = ap (λ t. (e.0, f e.1) ∷ t) rest

  in_order-rows : (es : List (Bytes × Row)) → in_order f es ≡ each (rows_of es)
  in_order-rows [] = refl
  in_order-rows (e ∷ es) = ap (with_value e.0 (f e.1)) (in_order-rows es) ∙ sym (each-with_value e.0 e.1 (rows_of es))

-- the items of each row
abbrev items_of : Map Row → Map Queue
items_of rows = each (λ row. row.items) rows

those_there-items : (rows : Map Row) → those_there (items_of rows) ≡ queues_of rows
those_there-items [] = refl
those_there-items (e ∷ es) = by (is_there e.1.items) (those_there-items es)
  where
    by : (b : Bool) → those_there (items_of es) ≡ queues_of es → cond b ((e.0, e.1.items) ∷ those_there (items_of es)) (those_there (items_of es)) ≡ (if b then (e.0, e.1.items) ∷ queues_of es else queues_of es)
    by true rest = ap (λ t. (e.0, e.1.items) ∷ t) rest
    by false rest = rest

-- what is listed are the queues that are there
pub those_there-lists_of : (es : List (Bytes × Row)) → those_there (lists_of es) ≡ queues_of (rows_of es)
those_there-lists_of es = ap those_there (in_order-rows (λ row. row.items) es) ∙ those_there-items (rows_of es)

those_set-each : (rows : Map Row) → those_set (each place_of rows) ≡ places_of rows
those_set-each [] = refl
those_set-each (e ∷ es) = by (nat_lt 0 (place_of e.1)) (those_set-each es)
  where
    by : (b : Bool) → those_set (each place_of es) ≡ places_of es → cond b ((e.0, place_of e.1) ∷ those_set (each place_of es)) (those_set (each place_of es)) ≡ (if b then (e.0, place_of e.1) ∷ places_of es else places_of es)
    by true rest = ap (λ t. (e.0, place_of e.1) ∷ t) rest
    by false rest = rest

-- the cursors that aren't 0
pub those_set-cursors_of : (es : List (Bytes × Row)) → those_set (cursors_of es) ≡ places_of (rows_of es)
those_set-cursors_of es = ap those_set (in_order-rows place_of es) ∙ those_set-each (rows_of es)

-- ---- the map that a listing is made with
-- what the map has after an insertion
pub insert_entry-with_value : {X : Type 0} (k : Bytes) (x : X) (es : Map X) → insert_entry bytes_cmp es k x ≡ with_value k x es
insert_entry-with_value k x [] = refl
insert_entry-with_value k x (e ∷ es) =
    elim (bytes_cmp k e.0) as (λ o. match_ordering o ((k, x) ∷ e ∷ es) ((e.0, x) ∷ es) (e ∷ insert_entry bytes_cmp es k x) ≡ by_order o ((k, x) ∷ e ∷ es) ((e.0, x) ∷ es) (e ∷ with_value k x es)) [
      | Less ↦ refl
      | Equal ↦ refl
      | Greater ↦ ap (λ r. e ∷ r) (insert_entry-with_value k x es)
    ]

-- the entries from one on are that one and those behind it
drop_at : {X : Type 0} (es : List X) (j : ℕ) (e : X) → slice_get es j ≡ Some e → drop j es ≡ e ∷ drop (suc j) es
drop_at [] j e h = cc
drop_at (x ∷ xs) zero e h = let same : x ≡ e = cc in ap (λ y. y ∷ xs) same
drop_at (x ∷ xs) (suc j) e h = drop_at xs j e h

-- one more entry in the map, from the back
pub in_order-drop : {X : Type 0} (f : Row → X) (es : List (Bytes × Row)) (i : ℕ) (k : Bytes) (r : Row) (x : X) (m n : Map X) → 0 < i → slice_get es (i - 1) ≡ Some (k, r) → x ≡ f r →
    m ≡ in_order f (drop i es) → n ≡ with_value k x m → n ≡ in_order f (drop (i - 1) es)
in_order-drop f es i k r x m n above at taken before after =
    let next : suc (i - 1) ≡ i = omega arith in
    after ∙ ap (λ y. with_value k y m) taken ∙ ap (with_value k (f r)) (before ∙ ap (λ j. in_order f (drop j es)) (sym next))
    ∙ ap (in_order f) (sym (drop_at es (i - 1) (k, r) at))
