-- The NEXT cursors by name after each change of the rows, and after a unit of work has ended.
use Rattle.std.proofs.Common.{◌≡◌, ◌≢◌, ◌-◌, ℕ, Bool, true, false, ◌&&◌, cond, T, List, [], ◌∷◌, ◌++◌, length, fold, slice_set, Option, Some, None, is_some, nat_lt, nat_le, inl, inr, refl, sym, ap, subst, ◌∙◌}
use Rattle.std.specs.Prelude.{unwrap_or, if◌then◌else◌, filter}
use Rattle.std.specs.Option.{option_and_then}
use Rattle.std.specs.FinMap.Entries.{below_all}
use Rattle.std.specs.Ordering.{is_lt}
use Rattle.cics_names.specs.Keyed.{Bytes, Map, bytes_cmp, is_same, value_at, has_key, with_value, without, is_rising}
use Rattle.cics_names.specs.KeyedLaws.{is_same-self, is_same-eq, is_same-other, value_at-with_value, value_at-without}
use Rattle.cics_names.specs.RisingLaws.{same_maps, without-absent}
use Rattle.cics_images.specs.Cells.{all_swept, is_other, is_unnamed}
use Rattle.cics_tempstor.specs.declared.images.TsImage.{TsImage}
use Rattle.cics_tempstor.specs.declared.queue_rows.Row.{Row}
use Rattle.cics_tempstor.specs.Queues.{Queue, is_there, has_item, row_at, queue_at, queues_of, place_of, next_place, places_of, empty_row, most_items, ts_written, ts_rewritten, ts_deleted, ts_swept, after_read_item}
use Rattle.cics_tempstor.specs.Undo.{undone, row_undone, name_of_image}
use Rattle.cics_tempstor.specs.UndoLaws.{there_more, is_there-set, has_item-there, both_true, other_name, same_or_other, is_other_from, queue_at-with_value_other, queue_at-swept}
use Rattle.cics_tempstor.specs.Shown.{queue_shown, place_shown, put_if, places_of-shown, queues_of-shown, value_at-shown, value_at-put_if, places_of-with_value, places_of-without, queues_of-swept, places_of-swept, left_of, right_of, both_of}
use Rattle.cics_tempstor.specs.Shown.{rising-put_if, rising-places_of, rising_written, rising_rewritten, rising_deleted, rising_read, rising_swept, rising_all_swept, rising_all_undone}

-- ---- what the places are, name by name
-- a cursor that isn't 0
abbrev pub some_place : ℕ → Option ℕ
some_place n = if nat_lt 0 n then Some n else None

-- a name is among the cursors with its NEXT cursor, if that isn't 0
pub value_at-places_of : (q : Bytes) (rows : Map Row) → T (is_rising rows) → value_at q (places_of rows) ≡ some_place (next_place q rows)
value_at-places_of q rows rising = ap (value_at q) (places_of-shown rows) ∙ value_at-shown place_shown q rows rising ∙ by (value_at q rows)
  where
    by : (o : Option Row) → option_and_then place_shown o ≡ some_place (place_of (unwrap_or {T = Row} o empty_row))
    by None = refl
    by (Some row) = refl

-- a queue is shown if it is there
pub has_key-queues_of : (q : Bytes) (rows : Map Row) → T (is_rising rows) → has_key q (queues_of rows) ≡ is_there (queue_at q rows)
has_key-queues_of q rows rising = ap (has_key q) (queues_of-shown rows) ∙ ap is_some (value_at-shown queue_shown q rows rising) ∙ by (value_at q rows)
  where
    shown_or_not : (items : Queue) (b : Bool) → is_some (if b then Some items else None) ≡ b
    shown_or_not items true = refl
    shown_or_not items false = refl

    by : (o : Option Row) → is_some (option_and_then queue_shown o) ≡ is_there (unwrap_or {T = Row} o empty_row).items
    by None = refl
    by (Some row) = shown_or_not row.items (is_there row.items)

-- ---- the places after each change
module _ (rows : Map Row) (rising : T (is_rising rows)) (q : Bytes) where
  -- a name that gets the cursor that it has
  put_again : put_if place_shown q (place_shown (row_at q rows)) (places_of rows) ≡ places_of rows
  put_again =
      same_maps (put_if place_shown q (place_shown (row_at q rows)) (places_of rows)) (places_of rows)
      (rising-put_if place_shown q (place_shown (row_at q rows)) (places_of rows) (rising-places_of rows rising)) (rising-places_of rows rising) (λ p.
      value_at-put_if place_shown p q (place_shown (row_at q rows)) (places_of rows) ∙ by p (is_same p q) refl)
    where
      by : (p : Bytes) (b : Bool) → is_same p q ≡ b → cond b (place_shown (row_at q rows)) (value_at p (places_of rows)) ≡ value_at p (places_of rows)
      by p false e = refl
      by p true e = sym (ap (λ k. value_at k (places_of rows)) (is_same-eq p q e) ∙ value_at-places_of q rows rising)

  -- a row that gets another with the same cursor
  kept_at : (row : Row) → place_of row ≡ place_of (row_at q rows) → places_of (with_value q row rows) ≡ places_of rows
  kept_at row same = places_of-with_value q row rows rising ∙ ap (λ n. put_if place_shown q (some_place n) (places_of rows)) same ∙ put_again

  -- WRITEQ TS changes no cursor: a queue that it makes has the cursor 0, as the absent one had
  pub places_of-written : (d : Bytes) → places_of (ts_written rows q d) ≡ places_of rows
  places_of-written d = by (nat_lt (length (queue_at q rows)) most_items)
    where
      by : (b : Bool) → places_of (if b then with_value q (if b then record { items = queue_at q rows ++ d ∷ []; next = place_of (row_at q rows) } else row_at q rows) rows else rows) ≡ places_of rows
      by false = refl
      by true = kept_at (record { items = queue_at q rows ++ d ∷ []; next = place_of (row_at q rows) }) (ap (λ b. if b then place_of (row_at q rows) else 0) (there_more (queue_at q rows) d))

  -- so removing the cursor of an absent queue changes nothing
  pub without-absent_queue : is_there (queue_at q rows) ≡ false → without q (places_of rows) ≡ places_of rows
  without-absent_queue none = without-absent q (places_of rows) (value_at-places_of q rows rising ∙ ap (λ b. some_place (if b then (row_at q rows).next else 0)) none)

  -- WRITEQ TS REWRITE changes no cursor
  pub places_of-rewritten : (n : ℕ) (d : Bytes) → places_of (ts_rewritten rows q n d) ≡ places_of rows
  places_of-rewritten n d = by (has_item (queue_at q rows) n)
    where
      by : (b : Bool) → places_of (if b then with_value q (if b then record { items = slice_set (queue_at q rows) (n - 1) d; next = (row_at q rows).next } else row_at q rows) rows else rows) ≡ places_of rows
      by false = refl
      by true = kept_at (record { items = slice_set (queue_at q rows) (n - 1) d; next = (row_at q rows).next }) (ap (λ b. if b then (row_at q rows).next else 0) (is_there-set (queue_at q rows) (n - 1) d))

  -- DELETEQ TS removes the cursor of its queue
  pub places_of-deleted : (keep : Bool) → places_of (ts_deleted keep rows q) ≡ (if is_there (queue_at q rows) then without q (places_of rows) else places_of rows)
  places_of-deleted keep = by (is_there (queue_at q rows)) keep
    where
      by : (b k : Bool) → places_of (if b then (if k then with_value q empty_row rows else without q rows) else rows) ≡ (if b then without q (places_of rows) else places_of rows)
      by false k = refl
      by true true = places_of-with_value q empty_row rows rising
      by true false = places_of-without q rows rising

  -- READQ TS that is answered an item sets the cursor to its number
  pub places_of-read : (n : ℕ) → places_of (after_read_item rows q n) ≡ (if has_item (queue_at q rows) n then with_value q n (places_of rows) else places_of rows)
  places_of-read n = by (has_item (queue_at q rows) n) refl
    where
      by : (b : Bool) → has_item (queue_at q rows) n ≡ b →
          places_of (if b then with_value q (if b then record { items = queue_at q rows; next = n } else row_at q rows) rows else rows) ≡ (if b then with_value q n (places_of rows) else places_of rows)
      by false has = refl
      by true has =
          places_of-with_value q (record { items = queue_at q rows; next = n }) rows rising
          ∙ ap (λ b. put_if place_shown q (some_place (if b then n else 0)) (places_of rows)) (has_item-there (queue_at q rows) n has)
          ∙ ap (λ b. put_if place_shown q (if b then Some n else None) (places_of rows)) (both_true (nat_lt 0 n) (nat_le n (length (queue_at q rows))) has).0

-- ---- no place is hidden
-- a row without an item has the cursor 0: a queue that comes back by an undo brings no other cursor
-- with it
abbrev pub IsUnplacedIfEmpty : Row → Type 0
IsUnplacedIfEmpty row = is_there row.items ≡ false → row.next ≡ 0

-- so it is of each row
abbrev pub HidesNoPlace : Map Row → Type 0
HidesNoPlace rows = (q : Bytes) → IsUnplacedIfEmpty (row_at q rows)

-- a row at one name
row_at-with_value : (p q : Bytes) (row : Row) (rows : Map Row) → row_at p (with_value q row rows) ≡ cond (is_same p q) row (row_at p rows)
row_at-with_value p q row rows = ap (λ o. unwrap_or {T = Row} o empty_row) (value_at-with_value p q row rows) ∙ by (is_same p q) (value_at p rows)
  where
    by : (b : Bool) (o : Option Row) → unwrap_or {T = Row} (cond b (Some row) o) empty_row ≡ cond b row (unwrap_or {T = Row} o empty_row)
    by true o = refl
    by false o = refl

-- and once one name has lost its row
row_at-without : (p q : Bytes) (rows : Map Row) → row_at p (without q rows) ≡ cond (is_same q p) empty_row (row_at p rows)
row_at-without p q rows = ap (λ o. unwrap_or {T = Row} o empty_row) (value_at-without p q rows) ∙ by (is_same q p) (value_at p rows)
  where
    by : (b : Bool) (o : Option Row) → unwrap_or {T = Row} (cond b None o) empty_row ≡ cond b empty_row (unwrap_or {T = Row} o empty_row)
    by true o = refl
    by false o = refl

-- of two rows without a cursor if they are empty, each has none
one_of : (b : Bool) (x y : Row) → IsUnplacedIfEmpty x → IsUnplacedIfEmpty y → IsUnplacedIfEmpty (cond b x y)
one_of true x y h k = h
one_of false x y h k = k

-- of two that hide no cursor, each hides none
either : (b : Bool) (f g : Map Row) → HidesNoPlace f → HidesNoPlace g → HidesNoPlace (if b then f else g)
either true f g h k = h
either false f g h k = k

module _ (rows : Map Row) (hides : HidesNoPlace rows) (q : Bytes) where
  -- rows with one more such row hide no cursor
  hides-with_value : (row : Row) → IsUnplacedIfEmpty row → HidesNoPlace (with_value q row rows)
  hides-with_value row h p = subst IsUnplacedIfEmpty (sym (row_at-with_value p q row rows)) (one_of (is_same p q) row (row_at p rows) h (hides p))

  -- nor do rows with one less
  hides-without : HidesNoPlace (without q rows)
  hides-without p = subst IsUnplacedIfEmpty (sym (row_at-without p q rows)) (one_of (is_same q p) empty_row (row_at p rows) (λ e. refl) (hides p))

  -- WRITEQ TS hides no cursor: its queue is there
  pub hides_written : (d : Bytes) → HidesNoPlace (ts_written rows q d)
  hides_written d = by (nat_lt (length (queue_at q rows)) most_items)
    where
      by : (b : Bool) → HidesNoPlace (if b then with_value q (if b then record { items = queue_at q rows ++ d ∷ []; next = place_of (row_at q rows) } else row_at q rows) rows else rows)
      by false = hides
      by true = hides-with_value (record { items = queue_at q rows ++ d ∷ []; next = place_of (row_at q rows) }) (λ none. let wrong : true ≡ false = sym (there_more (queue_at q rows) d) ∙ none in cc)

  -- WRITEQ TS REWRITE hides none: it leaves the NEXT cursor, and whether the queue is there
  pub hides_rewritten : (n : ℕ) (d : Bytes) → HidesNoPlace (ts_rewritten rows q n d)
  hides_rewritten n d = by (has_item (queue_at q rows) n)
    where
      by : (b : Bool) → HidesNoPlace (if b then with_value q (if b then record { items = slice_set (queue_at q rows) (n - 1) d; next = (row_at q rows).next } else row_at q rows) rows else rows)
      by false = hides
      by true = hides-with_value (record { items = slice_set (queue_at q rows) (n - 1) d; next = (row_at q rows).next }) (λ none. hides q (sym (is_there-set (queue_at q rows) (n - 1) d) ∙ none))

  -- DELETEQ TS hides none: its empty row has the cursor 0
  pub hides_deleted : (keep : Bool) → HidesNoPlace (ts_deleted keep rows q)
  hides_deleted keep = either (is_there (queue_at q rows)) (if keep then with_value q empty_row rows else without q rows) rows
      (either keep (with_value q empty_row rows) (without q rows) (hides-with_value empty_row (λ e. refl)) hides-without) hides

  -- READQ TS hides none: only a queue that is there has an item to read
  pub hides_read : (n : ℕ) → HidesNoPlace (after_read_item rows q n)
  hides_read n = by (has_item (queue_at q rows) n) refl
    where
      by : (b : Bool) → has_item (queue_at q rows) n ≡ b → HidesNoPlace (if b then with_value q (if b then record { items = queue_at q rows; next = n } else row_at q rows) rows else rows)
      by false has = hides
      by true has = hides-with_value (record { items = queue_at q rows; next = n }) (λ none. let wrong : true ≡ false = sym (has_item-there (queue_at q rows) n has) ∙ none in cc)

  -- a sweep hides none: it only removes a row
  pub hides_swept : HidesNoPlace (ts_swept rows q)
  hides_swept = either (is_there (queue_at q rows)) rows (without q rows) hides hides-without

-- the names of the rows rise, and no row hides a cursor
pub record AreInOrder (rows : Map Row) : Type 0 where
  pub rising : T (is_rising rows)
  pub hides : HidesNoPlace rows

module _ (rows : Map Row) (ordered : AreInOrder rows) (q : Bytes) where
  -- WRITEQ TS leaves the rows in order
  pub in_order_written : (d : Bytes) → AreInOrder (ts_written rows q d)
  in_order_written d = record { rising = rising_written rows ordered.rising q d; hides = hides_written rows ordered.hides q d }

  -- WRITEQ TS REWRITE leaves them in order
  pub in_order_rewritten : (n : ℕ) (d : Bytes) → AreInOrder (ts_rewritten rows q n d)
  in_order_rewritten n d = record { rising = rising_rewritten rows ordered.rising q n d; hides = hides_rewritten rows ordered.hides q n d }

  -- DELETEQ TS leaves them in order
  pub in_order_deleted : (keep : Bool) → AreInOrder (ts_deleted keep rows q)
  in_order_deleted keep = record { rising = rising_deleted rows ordered.rising q keep; hides = hides_deleted rows ordered.hides q keep }

  -- READQ TS leaves them in order
  pub in_order_read : (n : ℕ) → AreInOrder (after_read_item rows q n)
  in_order_read n = record { rising = rising_read rows ordered.rising q n; hides = hides_read rows ordered.hides q n }

-- ---- the end of a unit of work
-- the rows after a backout: the images are undone, the newest first, and then their names are swept
abbrev pub backed_out : Map Row → List TsImage → Map Row
backed_out rows images = all_swept ts_swept name_of_image (fold undone rows images) images

-- the rows after a commit: the names of the images are swept
abbrev pub committed : Map Row → List TsImage → Map Row
committed rows images = all_swept ts_swept name_of_image rows images

-- a commit leaves every queue
pub queue_at-committed : (q : Bytes) (rows : Map Row) (images : List TsImage) → queue_at q (committed rows images) ≡ queue_at q rows
queue_at-committed q rows [] = refl
queue_at-committed q rows (i ∷ is) = queue_at-committed q (ts_swept rows i.name) is ∙ queue_at-swept rows i.name q

-- and so all the queues that are there
pub queues_of-committed : (rows : Map Row) (images : List TsImage) → T (is_rising rows) → queues_of (committed rows images) ≡ queues_of rows
queues_of-committed rows [] rising = refl
queues_of-committed rows (i ∷ is) rising = queues_of-committed (ts_swept rows i.name) is (rising_swept rows rising i.name) ∙ queues_of-swept rows rising i.name

-- if the names of images are swept, an absent queue that one of them names has no row any more
unplaced_swept : (q : Bytes) (rows : Map Row) (images : List TsImage) → is_there (queue_at q rows) ≡ false →
    (is_unnamed name_of_image images q ≡ true → (row_at q rows).next ≡ 0) → (row_at q (committed rows images)).next ≡ 0
unplaced_swept q rows [] none unnamed = unnamed refl
unplaced_swept q rows (i ∷ is) none unnamed =
    unplaced_swept q (ts_swept rows i.name) is (ap is_there (queue_at-swept rows i.name q) ∙ none) (λ others. elim (same_or_other q i.name) [
      | inl same ↦ subst (λ s. (row_at q (ts_swept rows s)).next ≡ 0) same here
      | inr apart ↦ ap (λ r. r.next) (left apart (is_there (queue_at i.name rows))) ∙ unnamed (ap (λ b. b && is_unnamed name_of_image is q) (is_other_from i.name q apart) ∙ others)
    ])
  where
    here : (row_at q (ts_swept rows q)).next ≡ 0
    here = ap (λ b. (row_at q (if b then rows else without q rows)).next) none ∙ ap (λ r. r.next) (row_at-without q q rows ∙ ap (λ b. cond b empty_row (row_at q rows)) (is_same-self q))

    left : q ≢ i.name → (b : Bool) → row_at q (if b then rows else without i.name rows) ≡ row_at q rows
    left apart true = refl
    left apart false = row_at-without q i.name rows ∙ ap (λ b. cond b empty_row (row_at q rows)) (is_same-other i.name q (λ e. apart (sym e)))

-- an undo leaves the cursor of its row, and every other row
next_undone : (q : Bytes) (rows : Map Row) (i : TsImage) → (row_at q (undone rows i)).next ≡ (row_at q rows).next
next_undone q rows i = ap (λ r. r.next) (row_at-with_value q i.name (row_undone i.before (row_at i.name rows)) rows) ∙ by (is_same q i.name) refl
  where
    by : (b : Bool) → is_same q i.name ≡ b → (cond b (row_undone i.before (row_at i.name rows)) (row_at q rows)).next ≡ (row_at q rows).next
    by true same = ap (λ k. (row_at k rows).next) (sym (is_same-eq q i.name same))
    by false other = refl

-- undoing several leaves the cursor of each row
next_all_undone : (q : Bytes) (rows : Map Row) (images : List TsImage) → (row_at q (fold undone rows images)).next ≡ (row_at q rows).next
next_all_undone q rows [] = refl
next_all_undone q rows (i ∷ is) = next_all_undone q (undone rows i) is ∙ next_undone q rows i

-- and the queue of each name that none of them has
unnamed_undone : (q : Bytes) (rows : Map Row) (images : List TsImage) → is_unnamed name_of_image images q ≡ true → queue_at q (fold undone rows images) ≡ queue_at q rows
unnamed_undone q rows [] unnamed = refl
unnamed_undone q rows (i ∷ is) unnamed =
    let parts = both_true (is_other i.name q) (is_unnamed name_of_image is q) unnamed in
    unnamed_undone q (undone rows i) is parts.1 ∙ queue_at-with_value_other q i.name (row_undone i.before (row_at i.name rows)) rows (other_name i.name q parts.0)

-- after a commit and after a backout the rows are in order
pub in_order_committed : (rows : Map Row) (images : List TsImage) → AreInOrder rows → AreInOrder (committed rows images)
in_order_committed rows [] ordered = ordered
in_order_committed rows (i ∷ is) ordered =
    in_order_committed (ts_swept rows i.name) is (record { rising = rising_swept rows ordered.rising i.name; hides = hides_swept rows ordered.hides i.name })

-- after a backout too: the undone rows are swept, and so none of an absent queue is left
pub in_order_backed_out : (rows : Map Row) (images : List TsImage) → AreInOrder rows → AreInOrder (backed_out rows images)
in_order_backed_out rows images ordered =
    let undone_all : Map Row = fold undone rows images in
    record {
      rising = rising_all_swept undone_all images (rising_all_undone rows images ordered.rising);
      hides = λ q none.
          let absent : is_there (queue_at q undone_all) ≡ false = sym (ap is_there (queue_at-committed q undone_all images)) ∙ none in
          unplaced_swept q undone_all images absent
          (λ unnamed. next_all_undone q rows images ∙ ordered.hides q (sym (ap is_there (unnamed_undone q rows images unnamed)) ∙ absent));
    }

-- ---- the places after the end of a unit of work
-- the cursors of the queues that are there
abbrev pub places_there : Map Queue → Map ℕ → Map ℕ
places_there queues places = filter (λ e. has_key e.0 queues) places

module _ (f : Bytes → Bool) where
  -- the entries whose names pass
  abbrev passing : Map ℕ → Map ℕ
  passing m = filter (λ e. f e.0) m

  -- a name below all names is below those that pass
  below-passing : (k : Bytes) (m : Map ℕ) → T (below_all bytes_cmp k m) → T (below_all bytes_cmp k (passing m))
  below-passing k [] below = tt
  below-passing k (e ∷ es) below = by (f e.0) (below-passing k es (right_of (is_lt (bytes_cmp k e.0)) (below_all bytes_cmp k es) below))
    where
      by : (b : Bool) → T (below_all bytes_cmp k (passing es)) → T (below_all bytes_cmp k (cond b (e ∷ passing es) (passing es)))
      by false rest = rest
      by true rest = both_of (is_lt (bytes_cmp k e.0)) (below_all bytes_cmp k (passing es)) (left_of (is_lt (bytes_cmp k e.0)) (below_all bytes_cmp k es) below) rest

  -- the names that pass rise if all do
  rising-passing : (m : Map ℕ) → T (is_rising m) → T (is_rising (passing m))
  rising-passing [] rising = tt
  rising-passing (e ∷ es) rising = by (f e.0) (rising-passing es (right_of (below_all bytes_cmp e.0 es) (is_rising es) rising))
    where
      by : (b : Bool) → T (is_rising (passing es)) → T (is_rising (cond b (e ∷ passing es) (passing es)))
      by false rest = rest
      by true rest = both_of (below_all bytes_cmp e.0 (passing es)) (is_rising (passing es)) (below-passing e.0 es (left_of (below_all bytes_cmp e.0 es) (is_rising es) rising)) rest

  -- nothing stays nothing, whether its name passes or not
  either_none : (b : Bool) (o : Option ℕ) → o ≡ None → o ≡ cond b o None
  either_none true o none = refl
  either_none false o none = none

  -- a name that passes has what it had
  value_at-passing : (q : Bytes) (m : Map ℕ) → value_at q (passing m) ≡ cond (f q) (value_at q m) None
  value_at-passing q [] = either_none (f q) None refl
  value_at-passing q (e ∷ es) = by (f e.0) (is_same q e.0) refl refl (value_at-passing q es)
    where
      by : (b s : Bool) → f e.0 ≡ b → is_same q e.0 ≡ s → value_at q (passing es) ≡ cond (f q) (value_at q es) None →
          value_at q (cond b (e ∷ passing es) (passing es)) ≡ cond (f q) (cond s (Some e.1) (value_at q es)) None
      by true true passes same rest = ap (λ s. cond s (Some e.1) (value_at q (passing es))) same ∙ sym (ap (λ b. cond b (Some e.1) None) (ap f (is_same-eq q e.0 same) ∙ passes))
      by true false passes same rest = ap (λ s. cond s (Some e.1) (value_at q (passing es))) same ∙ rest
      by false true passes same rest =
          let fails : f q ≡ false = ap f (is_same-eq q e.0 same) ∙ passes in
          rest ∙ ap (λ b. cond b (value_at q es) None) fails ∙ sym (ap (λ b. cond b (Some e.1) None) fails)
      by false false passes same rest = rest

-- two rows that show the same cursors, of the queues that are there in the second
same_places : (old new : Map Row) → T (is_rising old) → T (is_rising new) → ((q : Bytes) → next_place q new ≡ (if is_there (queue_at q new) then next_place q old else 0)) →
    places_of new ≡ places_there (queues_of new) (places_of old)
same_places old new before after same =
    let there : Bytes → Bool = λ q. has_key q (queues_of new) in
    same_maps (places_of new) (passing there (places_of old)) (rising-places_of new after) (rising-passing there (places_of old) (rising-places_of old before)) (λ q.
    value_at-places_of q new after ∙ ap some_place (same q) ∙ by (is_there (queue_at q new)) (next_place q old)
    ∙ (λ j. cond (sym (has_key-queues_of q new after) j) (sym (value_at-places_of q old before) j) None) ∙ sym (value_at-passing there q (places_of old)))
  where
    by : (b : Bool) (n : ℕ) → some_place (if b then n else 0) ≡ cond b (some_place n) None
    by true n = refl
    by false n = refl

-- a commit leaves all cursors
pub places_of-committed : (rows : Map Row) (images : List TsImage) → T (is_rising rows) → places_of (committed rows images) ≡ places_of rows
places_of-committed rows [] rising = refl
places_of-committed rows (i ∷ is) rising = places_of-committed (ts_swept rows i.name) is (rising_swept rows rising i.name) ∙ places_of-swept rows rising i.name

-- which are those of queues that are there
pub places_of-there : (rows : Map Row) → T (is_rising rows) → places_of rows ≡ places_there (queues_of rows) (places_of rows)
places_of-there rows rising = same_places rows rows rising rising (λ q. by (is_there (queue_at q rows)) (row_at q rows).next)
  where
    by : (b : Bool) (n : ℕ) → (if b then n else 0) ≡ (if b then (if b then n else 0) else 0)
    by true n = refl
    by false n = refl

-- a backout leaves the cursors of the queues that are there after it, and no other
pub places_of-backed_out : (rows : Map Row) (images : List TsImage) → AreInOrder rows →
    places_of (backed_out rows images) ≡ places_there (queues_of (backed_out rows images)) (places_of rows)
places_of-backed_out rows images ordered =
    let rising = ordered.rising in
    let undone_all : Map Row = fold undone rows images in
    let new : Map Row = backed_out rows images in
    let rising_undone_all : T (is_rising undone_all) = rising_all_undone rows images rising in
    let swept : places_of new ≡ places_of undone_all = places_of-committed undone_all images rising_undone_all in
    let same_queues : queues_of undone_all ≡ queues_of new = sym (queues_of-committed undone_all images rising_undone_all) in
    swept ∙ same_places rows undone_all rising rising_undone_all (λ q.
    ap (λ n. if is_there (queue_at q undone_all) then n else 0) (next_all_undone q rows images ∙ shown_place (is_there (queue_at q rows)) (row_at q rows).next (ordered.hides q)))
    ∙ ap (λ queues. places_there queues (places_of rows)) same_queues
  where
    shown_place : (b : Bool) (n : ℕ) → (b ≡ false → n ≡ 0) → n ≡ (if b then n else 0)
    shown_place true n h = refl
    shown_place false n h = h refl
