-- The queues that are there and their NEXT cursors, by name, after each change of the rows: what a
-- unit of work shows of them.
use Rattle.std.proofs.Common.{◌≡◌, ℕ, Bool, true, false, ◌&&◌, cond, T, List, [], ◌∷◌, length, zero, suc, fold, Option, Some, None, nat_lt, arith, refl, sym, ap, subst, ◌∙◌}
use Rattle.std.specs.Prelude.{unwrap_or, if◌then◌else◌}
use Rattle.std.specs.Option.{option_and_then}
use Rattle.std.specs.declared.cmp.Ordering.{Ordering}
use Rattle.std.specs.declared.cmp.Ordering.TheVariants.{Less, Equal, Greater}
use Rattle.std.specs.Ordering.{is_eq, is_lt}
use Rattle.std.specs.FinMap.Entries.{below_all}
use Rattle.std.proofs.lemmas.Bool.{lt-ltb}
use Rattle.cics_names.specs.Keyed.{Bytes, Map, bytes_cmp, is_same, value_at, with_value, without, is_rising}
use Rattle.cics_names.specs.KeyedLaws.{is_same-eq, value_at-with_value, value_at-without}
use Rattle.cics_names.specs.RisingLaws.{rising-with_value, rising-without, same_maps, is_same-turned, without-absent}
use Rattle.cics_images.specs.Cells.{all_swept}
use Rattle.cics_tempstor.specs.declared.images.TsImage.{TsImage}
use Rattle.cics_tempstor.specs.declared.queue_rows.Row.{Row}
use Rattle.cics_tempstor.specs.Queues.{Queue, is_there, row_at, queue_at, queues_of, place_of, next_place, places_of, empty_row, ts_written, ts_rewritten, ts_deleted, ts_swept, row_written, row_rewritten, row_read, after_read_item, has_item, most_items}
use Rattle.cics_tempstor.specs.Undo.{undone, name_of_image, row_undone}

-- ---- the names of the rows rise in every change
-- of two maps whose names rise, the names of each rise
either : (b : Bool) (f g : Map Row) → T (is_rising f) → T (is_rising g) → T (is_rising (if b then f else g))
either true f g h k = h
either false f g h k = k

module _ (rows : Map Row) (rising : T (is_rising rows)) (q : Bytes) where
  -- the names rise after WRITEQ TS
  pub rising_written : (d : Bytes) → T (is_rising (ts_written rows q d))
  rising_written d = either (nat_lt (length (queue_at q rows)) most_items) (with_value q (row_written (row_at q rows) d) rows) rows (rising-with_value q (row_written (row_at q rows) d) rows rising) rising

  -- after WRITEQ TS REWRITE
  pub rising_rewritten : (n : ℕ) (d : Bytes) → T (is_rising (ts_rewritten rows q n d))
  rising_rewritten n d = either (has_item (queue_at q rows) n) (with_value q (row_rewritten (row_at q rows) n d) rows) rows (rising-with_value q (row_rewritten (row_at q rows) n d) rows rising) rising

  -- after DELETEQ TS
  pub rising_deleted : (keep : Bool) → T (is_rising (ts_deleted keep rows q))
  rising_deleted keep = either (is_there (queue_at q rows)) (if keep then with_value q empty_row rows else without q rows) rows
      (either keep (with_value q empty_row rows) (without q rows) (rising-with_value q empty_row rows rising) (rising-without q rows rising)) rising

  -- after READQ TS
  pub rising_read : (n : ℕ) → T (is_rising (after_read_item rows q n))
  rising_read n = either (has_item (queue_at q rows) n) (with_value q (row_read (row_at q rows) n) rows) rows (rising-with_value q (row_read (row_at q rows) n) rows rising) rising

  -- after a sweep of the name
  pub rising_swept : T (is_rising (ts_swept rows q))
  rising_swept = either (is_there (queue_at q rows)) rows (without q rows) rising (rising-without q rows rising)

-- after an image is undone
pub rising_undone : (rows : Map Row) (i : TsImage) → T (is_rising rows) → T (is_rising (undone rows i))
rising_undone rows i rising = rising-with_value i.name (row_undone i.before (row_at i.name rows)) rows rising

-- and after several are, one after the other
pub rising_all_undone : (rows : Map Row) (images : List TsImage) → T (is_rising rows) → T (is_rising (fold undone rows images))
rising_all_undone rows [] rising = rising
rising_all_undone rows (i ∷ is) rising = rising_all_undone (undone rows i) is (rising_undone rows i rising)

-- the names of images are swept one after the other
pub rising_all_swept : (rows : Map Row) (images : List TsImage) → T (is_rising rows) → T (is_rising (all_swept ts_swept name_of_image rows images))
rising_all_swept rows [] rising = rising
rising_all_swept rows (i ∷ is) rising = rising_all_swept (ts_swept rows i.name) is (rising_swept rows rising i.name)

-- ---- what each row shows, if it shows something
-- if two tests hold, the first holds
pub left_of : (a b : Bool) → T (a && b) → T a
left_of true b h = tt
left_of false b h = h

-- and the second
pub right_of : (a b : Bool) → T (a && b) → T b
right_of true b h = h
right_of false b h = absurd h

-- if each of two tests holds, both do
pub both_of : (a b : Bool) → T a → T b → T (a && b)
both_of true b h k = k
both_of false b h k = h

module _ {X : Type 0} (f : Row → Option X) where
  -- one more entry, if there is something
  abbrev one_more : Bytes → Option X → Map X → Map X
  one_more k None m = m
  one_more k (Some x) m = (k, x) ∷ m

  -- the entries that show something
  abbrev pub shown : Map Row → Map X
  shown [] = []
  shown (e ∷ es) = one_more e.0 (f e.1) (shown es)

  -- a name below all names of the rows is below those that are shown
  below-shown : (k : Bytes) (m : Map Row) → T (below_all bytes_cmp k m) → T (below_all bytes_cmp k (shown m))
  below-shown k [] below = tt
  below-shown k (e ∷ es) below = by (f e.1) (below-shown k es (right_of (is_lt (bytes_cmp k e.0)) (below_all bytes_cmp k es) below))
    where
      by : (o : Option X) → T (below_all bytes_cmp k (shown es)) → T (below_all bytes_cmp k (one_more e.0 o (shown es)))
      by None rest = rest
      by (Some x) rest = both_of (is_lt (bytes_cmp k e.0)) (below_all bytes_cmp k (shown es)) (left_of (is_lt (bytes_cmp k e.0)) (below_all bytes_cmp k es) below) rest

  -- the names of what is shown rise if those of the rows do
  pub rising-shown : (m : Map Row) → T (is_rising m) → T (is_rising (shown m))
  rising-shown [] rising = tt
  rising-shown (e ∷ es) rising = by (f e.1) (rising-shown es (right_of (below_all bytes_cmp e.0 es) (is_rising es) rising))
    where
      by : (o : Option X) → T (is_rising (shown es)) → T (is_rising (one_more e.0 o (shown es)))
      by None rest = rest
      by (Some x) rest = both_of (below_all bytes_cmp e.0 (shown es)) (is_rising (shown es)) (below-shown e.0 es (left_of (below_all bytes_cmp e.0 es) (is_rising es) rising)) rest

  -- what is less is not equal
  not_equal : (o : Ordering) → T (is_lt o) → is_eq o ≡ false
  not_equal Less h = refl
  not_equal Equal h = absurd h
  not_equal Greater h = absurd h

  -- a name that comes before all has nothing
  value_at-below : (k : Bytes) (m : Map X) → T (below_all bytes_cmp k m) → value_at k m ≡ None
  value_at-below k [] below = refl
  value_at-below k (e ∷ es) below =
      ap (λ b. cond b (Some e.1) (value_at k es)) (not_equal (bytes_cmp k e.0) (left_of (is_lt (bytes_cmp k e.0)) (below_all bytes_cmp k es) below))
      ∙ value_at-below k es (right_of (is_lt (bytes_cmp k e.0)) (below_all bytes_cmp k es) below)

  -- a name shows what its row shows
  pub value_at-shown : (q : Bytes) (m : Map Row) → T (is_rising m) → value_at q (shown m) ≡ option_and_then f (value_at q m)
  value_at-shown q [] rising = refl
  value_at-shown q (e ∷ es) rising = by (is_same q e.0) (f e.1) refl refl (value_at-shown q es (right_of (below_all bytes_cmp e.0 es) (is_rising es) rising))
    where
      none_here : is_same q e.0 ≡ true → value_at q (shown es) ≡ None
      none_here same = ap (λ k. value_at k (shown es)) (is_same-eq q e.0 same) ∙ value_at-below e.0 (shown es) (below-shown e.0 es (left_of (below_all bytes_cmp e.0 es) (is_rising es) rising))

      by : (b : Bool) (o : Option X) → is_same q e.0 ≡ b → f e.1 ≡ o → value_at q (shown es) ≡ option_and_then f (value_at q es) →
          value_at q (one_more e.0 o (shown es)) ≡ option_and_then f (cond b (Some e.1) (value_at q es))
      by true None same is rest = none_here same ∙ sym is
      by true (Some x) same is rest = ap (λ b. cond b (Some x) (value_at q (shown es))) same ∙ sym is
      by false None same is rest = rest
      by false (Some x) same is rest = ap (λ b. cond b (Some x) (value_at q (shown es))) same ∙ rest

  -- a name gets what its row shows, or has nothing any more
  abbrev pub put_if : Bytes → Option X → Map X → Map X
  put_if k None m = without k m
  put_if k (Some x) m = with_value k x m

  -- and the names still rise
  pub rising-put_if : (k : Bytes) (o : Option X) (m : Map X) → T (is_rising m) → T (is_rising (put_if k o m))
  rising-put_if k None m rising = rising-without k m rising
  rising-put_if k (Some x) m rising = rising-with_value k x m rising

  -- the name has what it got, and another name what it had
  pub value_at-put_if : (p k : Bytes) (o : Option X) (m : Map X) → value_at p (put_if k o m) ≡ cond (is_same p k) o (value_at p m)
  value_at-put_if p k None m = value_at-without p k m ∙ ap (λ b. cond b None (value_at p m)) (is_same-turned k p)
  value_at-put_if p k (Some x) m = value_at-with_value p k x m

  -- a choice shows what the row that is chosen shows
  chosen : (b : Bool) (r : Row) (o : Option Row) → option_and_then f (cond b (Some r) o) ≡ cond b (f r) (option_and_then f o)
  chosen true r o = refl
  chosen false r o = refl

  -- and if it is of no row, nothing
  chosen_none : (b : Bool) (o : Option Row) → option_and_then f (cond b None o) ≡ cond b None (option_and_then f o)
  chosen_none true o = refl
  chosen_none false o = refl

  -- what is shown once a name got a row
  pub shown-with_value : (k : Bytes) (r : Row) (m : Map Row) → T (is_rising m) → shown (with_value k r m) ≡ put_if k (f r) (shown m)
  shown-with_value k r m rising =
      let more = rising-with_value k r m rising in
      same_maps (shown (with_value k r m)) (put_if k (f r) (shown m)) (rising-shown (with_value k r m) more) (rising-put_if k (f r) (shown m) (rising-shown m rising)) (λ p.
      value_at-shown p (with_value k r m) more ∙ ap (option_and_then f) (value_at-with_value p k r m) ∙ chosen (is_same p k) r (value_at p m)
      ∙ ap (cond (is_same p k) (f r)) (sym (value_at-shown p m rising)) ∙ sym (value_at-put_if p k (f r) (shown m)))

  -- and once it lost its row
  pub shown-without : (k : Bytes) (m : Map Row) → T (is_rising m) → shown (without k m) ≡ without k (shown m)
  shown-without k m rising =
      let fewer = rising-without k m rising in
      same_maps (shown (without k m)) (without k (shown m)) (rising-shown (without k m) fewer) (rising-without k (shown m) (rising-shown m rising)) (λ p.
      value_at-shown p (without k m) fewer ∙ ap (option_and_then f) (value_at-without p k m) ∙ chosen_none (is_same k p) (value_at p m)
      ∙ ap (cond (is_same k p) None) (sym (value_at-shown p m rising)) ∙ sym (value_at-without p k (shown m)))

-- ---- the queues that are there
-- the queue that a row shows
abbrev pub queue_shown : Row → Option Queue
queue_shown row = if is_there row.items then Some row.items else None

-- the queues that are there are what the rows show as queues
pub queues_of-shown : (rows : Map Row) → queues_of rows ≡ shown queue_shown rows
queues_of-shown [] = refl
queues_of-shown (e ∷ es) = by (is_there e.1.items) (queues_of-shown es)
  where
    by : (b : Bool) → queues_of es ≡ shown queue_shown es → (if b then (e.0, e.1.items) ∷ queues_of es else queues_of es) ≡ one_more queue_shown e.0 (if b then Some e.1.items else None) (shown queue_shown es)
    by true rest = ap (λ m. (e.0, e.1.items) ∷ m) rest
    by false rest = rest

-- a name without a queue is absent, one with a queue has its items
pub queues_of-with_value : (q : Bytes) (row : Row) (rows : Map Row) → T (is_rising rows) → queues_of (with_value q row rows) ≡ put_if queue_shown q (queue_shown row) (queues_of rows)
queues_of-with_value q row rows rising =
    queues_of-shown (with_value q row rows) ∙ shown-with_value queue_shown q row rows rising ∙ ap (put_if queue_shown q (queue_shown row)) (sym (queues_of-shown rows))

-- once a name has lost its row, its queue is gone
pub queues_of-without : (q : Bytes) (rows : Map Row) → T (is_rising rows) → queues_of (without q rows) ≡ without q (queues_of rows)
queues_of-without q rows rising = queues_of-shown (without q rows) ∙ shown-without queue_shown q rows rising ∙ ap (without q) (sym (queues_of-shown rows))

-- the names of the queues rise if those of the rows do
pub rising-queues_of : (rows : Map Row) → T (is_rising rows) → T (is_rising (queues_of rows))
rising-queues_of rows rising = subst (λ m. T (is_rising m)) (sym (queues_of-shown rows)) (rising-shown queue_shown rows rising)

-- the queue of a name, read off the queues that are there
pub queue_at-queues_of : (q : Bytes) (rows : Map Row) → T (is_rising rows) → unwrap_or (value_at q (queues_of rows)) [] ≡ queue_at q rows
queue_at-queues_of q rows rising =
    ap (λ m. unwrap_or (value_at q m) []) (queues_of-shown rows) ∙ ap (λ o. unwrap_or o []) (value_at-shown queue_shown q rows rising) ∙ by (value_at q rows)
  where
    items : (xs : Queue) → unwrap_or (if is_there xs then Some xs else None) [] ≡ xs
    items [] = refl
    items (x ∷ xs) = refl

    by : (o : Option Row) → unwrap_or (option_and_then queue_shown o) [] ≡ (unwrap_or {T = Row} o empty_row).items
    by None = refl
    by (Some row) = items row.items

-- ---- the NEXT places
-- the NEXT cursor that a row shows
abbrev pub place_shown : Row → Option ℕ
place_shown row = if nat_lt 0 (place_of row) then Some (place_of row) else None

-- the cursors that aren't 0 are what the rows show as cursors
pub places_of-shown : (rows : Map Row) → places_of rows ≡ shown place_shown rows
places_of-shown [] = refl
places_of-shown (e ∷ es) = by (nat_lt 0 (place_of e.1)) (places_of-shown es)
  where
    by : (b : Bool) → places_of es ≡ shown place_shown es → (if b then (e.0, place_of e.1) ∷ places_of es else places_of es) ≡ one_more place_shown e.0 (if b then Some (place_of e.1) else None) (shown place_shown es)
    by true rest = ap (λ m. (e.0, place_of e.1) ∷ m) rest
    by false rest = rest

-- a name whose cursor is 0 is absent, another has its cursor
pub places_of-with_value : (q : Bytes) (row : Row) (rows : Map Row) → T (is_rising rows) → places_of (with_value q row rows) ≡ put_if place_shown q (place_shown row) (places_of rows)
places_of-with_value q row rows rising =
    places_of-shown (with_value q row rows) ∙ shown-with_value place_shown q row rows rising ∙ ap (put_if place_shown q (place_shown row)) (sym (places_of-shown rows))

-- once a name has lost its row, its cursor is gone
pub places_of-without : (q : Bytes) (rows : Map Row) → T (is_rising rows) → places_of (without q rows) ≡ without q (places_of rows)
places_of-without q rows rising = places_of-shown (without q rows) ∙ shown-without place_shown q rows rising ∙ ap (without q) (sym (places_of-shown rows))

-- the names of the cursors rise if those of the rows do
pub rising-places_of : (rows : Map Row) → T (is_rising rows) → T (is_rising (places_of rows))
rising-places_of rows rising = subst (λ m. T (is_rising m)) (sym (places_of-shown rows)) (rising-shown place_shown rows rising)

-- the NEXT cursor of a name, read off those that aren't 0
pub next_place-places_of : (q : Bytes) (rows : Map Row) → T (is_rising rows) → unwrap_or (value_at q (places_of rows)) 0 ≡ next_place q rows
next_place-places_of q rows rising =
    ap (λ m. unwrap_or (value_at q m) 0) (places_of-shown rows) ∙ ap (λ o. unwrap_or o 0) (value_at-shown place_shown q rows rising) ∙ by (value_at q rows)
  where
    place : (n : ℕ) → unwrap_or (if nat_lt 0 n then Some n else None) 0 ≡ n
    place zero = refl
    place (suc n) = ap (λ b. unwrap_or (if b then Some (suc n) else None) 0) (lt-ltb 0 (suc n) (omega arith))

    by : (o : Option Row) → unwrap_or (option_and_then place_shown o) 0 ≡ place_of (unwrap_or {T = Row} o empty_row)
    by None = refl
    by (Some row) = place (place_of row)

-- ---- a sweep shows nothing
-- a queue that is absent shows neither
no_queue_shown : (row : Row) → is_there row.items ≡ false → queue_shown row ≡ None
no_queue_shown row none = ap (λ b. if b then Some row.items else None) none

-- nor a cursor
no_place_shown : (row : Row) → is_there row.items ≡ false → place_shown row ≡ None
no_place_shown row none = ap (λ b. if nat_lt 0 (if b then row.next else 0) then Some (if b then row.next else 0) else None) none

module _ (rows : Map Row) (rising : T (is_rising rows)) (q : Bytes) where
  -- if absent queues show nothing, the rows show after a sweep what they showed before
  swept : {X : Type 0} (f : Row → Option X) → ((row : Row) → is_there row.items ≡ false → f row ≡ None) → (b : Bool) → is_there (queue_at q rows) ≡ b →
      shown f (if b then rows else without q rows) ≡ shown f rows
  swept f hidden true there = refl
  swept f hidden false none =
      shown-without f q rows rising ∙ without-absent q (shown f rows) (value_at-shown f q rows rising ∙ by (value_at q rows) refl)
    where
      by : (o : Option Row) → value_at q rows ≡ o → option_and_then f o ≡ None
      by None at = refl
      by (Some row) at = hidden row (ap (λ o. is_there (unwrap_or {T = Row} o empty_row).items) (sym at) ∙ none)

  -- a sweep leaves the queues that are there
  pub queues_of-swept : queues_of (ts_swept rows q) ≡ queues_of rows
  queues_of-swept = queues_of-shown (ts_swept rows q) ∙ swept queue_shown no_queue_shown (is_there (queue_at q rows)) refl ∙ sym (queues_of-shown rows)

  -- and the NEXT cursors
  pub places_of-swept : places_of (ts_swept rows q) ≡ places_of rows
  places_of-swept = places_of-shown (ts_swept rows q) ∙ swept place_shown no_place_shown (is_there (queue_at q rows)) refl ∙ sym (places_of-shown rows)
