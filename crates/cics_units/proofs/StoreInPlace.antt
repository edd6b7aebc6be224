-- The beginning, a commit and a backout keep files, temporary storage, transient data and the
-- images in place.
use Rattle.std.proofs.Math.Seq.{take-length, drop-length}
use Rattle.std.proofs.lemmas.List.{append-nil}
use Rattle.std.proofs.Common.{arith, ◌-◌, take, drop, length, ◌++◌, ◌≡◌, ◌≢◌, ℕ, Bool, true, false, ◌&&◌, not, cond, T, Option, Some, None, List, [], ◌∷◌, refl, ap, sym, subst, ◌∙◌, eqb, inl, inr}
use Rattle.std.specs.Prelude.{is_some, option_map, unwrap_or, slice_set}
use Rattle.std.specs.List.{list_any}
use Rattle.std.specs.Option.{option_and_then}
use Rattle.std.proofs.lemmas.Bool.{true≢false, false≢true, cases_Bool, eqb-true, eqb-false, eq-eqb, and_parts, false_from_ne_true, true_from_ne_false}
use Rattle.cics_names.specs.Keyed.{Bytes, Map, value_at, is_rising}
use Rattle.cics_images.specs.Cells.{Kept, is_unnamed, AreOf, AreReadyInTurn}
use Rattle.cics_images.specs.Cells as images
use Rattle.cics_images.specs.NamedValues.{cell_of as value_cell, NamedKeep, IsNamedReady, named_undone}
use Rattle.cics_images.specs.NamedLaws as named
use Rattle.cics_images.specs.NamedLaws.{split_cell}
use Rattle.cics_images.specs.StoreLaws as store
use Rattle.cics_images.specs.Turns.{in_turn_kept}
use Rattle.cics_ksds.specs.Files.{FileValue}
use Rattle.cics_tempstor.specs.declared.queue_rows.Row.{Row}
use Rattle.cics_tempstor.specs.Queues.{Queue, is_there, empty_row}
use Rattle.cics_tempstor.specs.Undo.{content_of, name_of_image, IsReadyImage as IsQueueReady, undone as rows_undone, KeepsQueues}
use Rattle.cics_tempstor.specs.UndoLaws as rows
use Rattle.cics_tempstor.specs.Shown.{queue_shown, queues_of-shown, value_at-shown}
use Rattle.cics_transdata.specs.Trans.{TransState, queue_of}
use Rattle.cics_transdata.specs.Undo.{end_of, IsReadyImage as IsEndReady, undone as queue_undone, KeepsEnds}
use Rattle.cics_transdata.specs.UndoLaws as queue
use Rattle.cics_history.specs.State.{OpeningState, queue_logical, initial_store, UnitsState, initial_units}
use Rattle.cics_history.specs.Headline.{outcome_of, is_open}
use Rattle.cics_history.specs.Holding.{store_of}
use Rattle.cics_history.specs.Execution.{after_end}
use Rattle.cics_history.specs.declared.ops.UnitState.{UnitState}
use Rattle.cics_history.specs.Cells.{Cell, Key, Ts, Td, content, listed, record_in, End, Reading, Writing, recovers}
use Rattle.cics_history.specs.Isolation.{used, IsSound}
use Rattle.cics_history.specs.Undo.{Image, Cells, names, is_plain, IsPlaceOf, without_images}
use Rattle.cics_history.specs.Marks.{Queues, shown as shown_marks}
use Rattle.cics_history.specs.Ends.{AreMarksOf, marks_opened, mark_images_without}
use Rattle.cics_history.proofs.States.{one_at_each_end}
use Rattle.cics_history.proofs.Stores.{value_at_each}
use Rattle.cics_history.proofs.Outcomes.{outcome_of-set}
use Rattle.cics_history.proofs.Places.{initial_units-IsPlaceOf}
use Rattle.cics_history.proofs.InPlace.{initial_units-AreMarksOf, shows_of}
use Rattle.cics_history.proofs.MarkedParts.{queue_of-shown}
use Rattle.cics_units.specs.Opening.FilesImages.{cell_of_image, content_in, IsReadyFor, files_undone, FilesKeep, definitions_of}
use Rattle.cics_units.specs.FilesImagesLaws as files
use Rattle.cics_units.specs.FilesImagesLaws.{content_of_cell}
use Rattle.cics_units.specs.ImageRows.{kept_by}
use Rattle.cics_units.specs.Opening.StoreMatching.{StoreValue, AnyImage, shown_store, shown_records, end_cell, bytes_of, cell_of_any, any_content, IsAnyReady, any_undone, AnyKeep, AreImagesOf}
use Rattle.cics_units.specs.StoreInPlace.{HasMarks, IsUnmarked, AreInPlace, holds_end, is_free_end, is_free_split, is_free}
use Rattle.cics_units.proofs.StoreMatched.{is_of_end, none_of_end, each_passes, unnamed_kept, unmarked_kept}

-- ---- what the store in place shows of a cell
-- of a key
pub shown_key : (m : StoreValue) (f k : Bytes) → shown_records (content (shown_store m) (Key f k)) ≡ any_content m (bytes_of (Key f k))
shown_key m f k = ap (λ o. shown_records (record_in k o)) (value_at_each (λ x. x.records) f m.files) ∙ by (value_at f m.files) ∙ sym (content_of_cell m.files f k)
  where
    record_shown : (o : Option Bytes) → shown_records (Some (listed o)) ≡ option_map (λ r. r ∷ []) o
    record_shown None = refl
    record_shown (Some r) = refl

    by : (o : Option FileValue) → shown_records (record_in k (option_map (λ x. x.records) o)) ≡ content_in o k
    by None = refl
    by (Some x) = record_shown (value_at k x.records)

-- of a temporary storage queue
pub shown_ts : (m : StoreValue) → T (is_rising m.temp_storage) → (q : Bytes) → shown_records (content (shown_store m) (Ts q)) ≡ any_content m (bytes_of (Ts q))
shown_ts m rising q =
    ap (λ o. shown_records (Some (unwrap_or {T = Queue} o []))) (ap (value_at q) (queues_of-shown m.temp_storage)
    ∙ value_at-shown queue_shown q m.temp_storage rising)
    ∙ by (value_at q m.temp_storage)
  where
    items_shown : (items : Queue) → shown_records (Some (unwrap_or {T = Queue} (cond (is_there items) (Some items) None) [])) ≡ content_of items
    items_shown [] = refl
    items_shown (x ∷ xs) = refl

    by : (o : Option Row) → shown_records (Some (unwrap_or {T = Queue} (option_and_then queue_shown o) [])) ≡ content_of (unwrap_or {T = Row} o empty_row).items
    by None = refl
    by (Some row) = items_shown row.items

-- of a transient data queue
pub shown_td : (m : StoreValue) (q : Bytes) → content (shown_store m) (Td q) ≡ option_map queue_of (value_at q m.trans_data)
shown_td m q = value_at_each queue_of q m.trans_data

-- a file is there in both or in neither
pub file_there : (m n : StoreValue) → definitions_of n.files ≡ definitions_of m.files → (f k : Bytes) →
    is_some (content (shown_store m) (Key f k)) ≡ is_some (content (shown_store n) (Key f k))
file_there m n fixed f k = defined m ∙ ap (λ d. is_some (d f)) (sym fixed) ∙ sym (defined n)
  where
    by : (o : Option FileValue) → is_some (record_in k (option_map (λ x. x.records) o)) ≡ is_some (option_map (λ x. x.definition) o)
    by None = refl
    by (Some x) = refl

    defined : (m : StoreValue) → is_some (content (shown_store m) (Key f k)) ≡ is_some (definitions_of m.files f)
    defined m = ap (λ o. is_some (record_in k o)) (value_at_each (λ x. x.records) f m.files) ∙ by (value_at f m.files)

-- ---- images stay ready
-- each image is ready when its turn comes
abbrev pub AreReady : StoreValue → List AnyImage → Type 0
AreReady m is = AreReadyInTurn IsAnyReady any_undone m is

-- at the cells that pass, the second queues have what the first have, and what an undo there needs
abbrev QueuesKeep : (images.Cell → Bool) → Map TransState → Map TransState → Type 0
QueuesKeep p s n = NamedKeep KeepsEnds p s n

-- images stay ready if their cells are kept
pub ready_where : (p : images.Cell → Bool) (m n : StoreValue) (is : List AnyImage) → AnyKeep p m n → AreOf cell_of_any p is → AreReady m is → AreReady n is
ready_where p m n is keeps own ready = in_turn_kept cell_of_any IsAnyReady any_undone AnyKeep
    (store.keeps_ready FilesKeep KeepsQueues QueuesKeep cell_of_image name_of_image (λ i. value_cell i.name (end_of i.image))
    IsReadyFor IsQueueReady (λ s i. IsNamedReady IsEndReady s i)
    files.keeps_ready rows.keeps_ready (named.keeps_ready KeepsEnds end_of IsEndReady queue.keeps_ready))
    (store.keeps_undone FilesKeep KeepsQueues QueuesKeep cell_of_image name_of_image (λ i. value_cell i.name (end_of i.image))
    IsReadyFor IsQueueReady (λ s i. IsNamedReady IsEndReady s i)
    files_undone rows_undone (λ s i. named_undone queue_undone s i)
    files.keeps_undone rows.keeps_undone (named.keeps_undone KeepsEnds end_of IsEndReady queue.keeps_ready queue_undone queue.keeps_undone))
    p m n is keeps own ready

-- ---- what an open unit keeps images of is its own
module _ (s : UnitsState) (m : StoreValue) (images : List (Kept AnyImage)) (sound : IsSound s) (place : AreInPlace s m images) where
  -- a cell that a change names
  named_used : (u : ℕ) (x : Cell) → names x (place.changes u) ≡ true → (recovers s.opening x ≡ true) × (used s.trace u x Writing ≡ true)
  named_used u x t = and_parts _ _ (true_from_ne_false (recovers s.opening x && used s.trace u x Writing) (λ n. true≢false (sym t ∙ place.place.named x u n)))

  -- an end of a queue that a mark is of
  pub marked_used : (u : ℕ) → is_open (outcome_of s.outcomes u) ≡ true → (q : Bytes) (end : End) → list_any (is_of_end q end) (place.marks.images u) ≡ true →
      (queue_logical s.opening q ≡ true) × (used s.trace u (Td q) end ≡ true)
  marked_used u on q end t = elim (cases_Bool (queue_logical s.opening q)) [
    | inl l ↦ (l, true_from_ne_false (used s.trace u (Td q) end) (λ n. true≢false (sym t ∙ none end l n)))
    | inr plain ↦ absurd (true≢false (sym t ∙ none_of_end q end (place.marks.images u) (place.ends.bare q plain u)))
  ]
    where
      none : (end : End) → queue_logical s.opening q ≡ true → used s.trace u (Td q) end ≡ false → list_any (is_of_end q end) (place.marks.images u) ≡ false
      none Reading l n = (place.ends.images q l u on).none_of_reading n
      none Writing l n = (place.ends.images q l u on).none_of_writing n

  -- two open units that used one end of something recoverable are one
  one_at : (u w : ℕ) (x : Cell) (end : End) → is_open (outcome_of s.outcomes u) ≡ true → is_open (outcome_of s.outcomes w) ≡ true →
      recovers s.opening x ≡ true → used s.trace u x end ≡ true → used s.trace w x end ≡ true → u ≡ w
  one_at u w x end on also r a b = one_at_each_end s sound.one x r end u w on also a b

  -- the images of another open unit are of no cell that this unit's images name
  pub others_unnamed : (v w : ℕ) → w ≢ v → is_open (outcome_of s.outcomes v) ≡ true → is_open (outcome_of s.outcomes w) ≡ true →
      AreOf cell_of_any (is_unnamed cell_of_any (kept_by images v)) (kept_by images w)
  others_unnamed v w other on also = each_passes (is_unnamed cell_of_any (kept_by images v)) (place.changes w) (place.marks.images w) (kept_by images w)
      (place.kept w)
      (λ x t. unnamed_kept (place.changes v) (place.marks.images v) (kept_by images v) (place.kept v) x
      (false_from_ne_true (names x (place.changes v)) (λ y. other (one_at w v x Writing also on (named_used w x t).0 (named_used w x t).1
      (named_used v x y).1))))
      (λ q end t. unmarked_kept (place.changes v) (place.marks.images v) (kept_by images v) (place.kept v) q end
      (false_from_ne_true (list_any (is_of_end q end) (place.marks.images v))
      (λ y. other (one_at w v (Td q) end also on (marked_used w also q end t).0 (marked_used w also q end t).1 (marked_used v on q end y).1))))

  -- and of no end that this unit owns
  pub others_free : (v w : ℕ) → w ≢ v → is_open (outcome_of s.outcomes v) ≡ true → is_open (outcome_of s.outcomes w) ≡ true → AreOf cell_of_any
      (is_free s v) (kept_by images w)
  others_free v w other on also = each_passes (is_free s v) (place.changes w) (place.marks.images w) (kept_by images w) (place.kept w) (λ x t. plain_free x)
      (λ q end t. ap (is_free_split s v) (split_cell q (end_cell end)) ∙ end_free q end ∙ ap not (false_from_ne_true (holds_end s v q end)
      (λ y. other (one_at w v (Td q) end also on (marked_used w also q end t).0 (marked_used w also q end t).1 (and_parts (queue_logical s.opening q)
      (used s.trace v (Td q) end) y).1))))
    where
      plain_free : (x : Cell) → is_free s v (bytes_of x) ≡ true
      plain_free (Key f k) = refl
      plain_free (Ts q) = refl
      plain_free (Td q) = ap (is_free_split s v) (split_cell q [])

      end_free : (q : Bytes) (end : End) → is_free_end s v q (end_cell end) ≡ not (holds_end s v q end)
      end_free q Reading = refl
      end_free q Writing = refl

-- a place is told by its plain cells
pub place_by : (s : UnitsState) (cells others : Cells) (kept_images : ℕ → List Image) → ((x : Cell) → is_plain s.opening x ≡ true → cells x ≡ others x) →
    IsPlaceOf s (record { cells = cells; images = kept_images }) → IsPlaceOf s (record { cells = others; images = kept_images })
place_by s cells others kept_images same h = record {
  in_place = λ x plain. sym (same x plain) ∙ h.in_place x plain;
  leads = h.leads;
  named = h.named;
  bare = h.bare;
}

-- ---- the end of a unit
module _ (s : UnitsState) (m n : StoreValue) (images after_images : List (Kept AnyImage)) (v : ℕ) (outcome : UnitState) (place : AreInPlace s m images)
    (gone : kept_by after_images v ≡ []) (apart : (w : ℕ) → w ≢ v → kept_by after_images w ≡ kept_by images w)
    (ready : (w : ℕ) → w ≢ v → is_open (outcome_of s.outcomes w) ≡ true → AreReady n (kept_by images w)) where
  -- the images of every other unit are ready still
  still_ready : (w : ℕ) → w ≢ v → AreReady n (kept_by images w)
  still_ready w other = elim (cases_Bool (is_open (outcome_of s.outcomes w))) [
    | inr shut ↦ subst (AreReady n) (sym (place.over w shut)) tt
    | inl on ↦ ready w other on
  ]

  -- a unit that has ended keeps none still
  over_still : (w : ℕ) → w ≢ v → is_open (outcome_of (slice_set s.outcomes v outcome) w) ≡ false → kept_by images w ≡ []
  over_still w other shut = place.over w (ap is_open (sym (outcome_of-set s.outcomes v w outcome other)) ∙ shut)

  -- what holds of the unit and of every other holds of each
  each_unit : (P : ℕ → Type 0) → P v → ((w : ℕ) → w ≢ v → P w) → (w : ℕ) → P w
  each_unit P own others w = elim (cases_Bool (eqb w v)) [ inl t ↦ subst P (sym (eqb-true w v t)) own | inr t ↦ others w (eqb-false w v t) ]

  -- all is in place after the unit's end, if the cells and the queues are
  pub ended_in_place : (queues : Queues) →
      IsPlaceOf (after_end s v outcome) (record { cells = content (shown_store n); images = without_images place.changes v }) →
      AreMarksOf (after_end s v outcome) (record { queues = queues; images = mark_images_without place.marks.images v }) →
      ((q : Bytes) → queue_logical s.opening q ≡ true → (t : TransState) × (value_at q n.trans_data ≡ Some t) × HasMarks (queues q) t) →
      AreInPlace (after_end s v outcome) n after_images
  ended_in_place queues there ends logical = record {
    changes = without_images place.changes v;
    marks = record { queues = queues; images = mark_images_without place.marks.images v };
    place = there;
    ends = ends;
    queues = logical;
    kept = each_unit (λ w. AreImagesOf (without_images place.changes v w) (mark_images_without place.marks.images v w) (kept_by after_images w)) (rw
        (eq-eqb v v refl, gone) (refl, refl))
        (λ w other. rw (false_from_ne_true (eqb w v) (λ t. other (eqb-true w v t)), apart w other) (place.kept w));
    ready = each_unit (λ w. AreReady n (kept_by after_images w)) (rw gone tt) (λ w other. rw (apart w other) (still_ready w other));
    over = each_unit (λ w. is_open (outcome_of (slice_set s.outcomes v outcome) w) ≡ false → kept_by after_images w ≡ []) (λ shut. gone)
        (λ w other shut. apart w other ∙ over_still w other shut);
  }

-- what isn't so isn't
pub not_so : (b : Bool) → not b ≡ true → b ≡ false
not_so true t = absurd (false≢true t)
not_so false t = refl

-- a queue without a mark that shows what a queue without a mark shows is that queue
unmarked_has : (settled : List Bytes) (t : TransState) → IsUnmarked t → queue_of t ≡ settled ++ [] → HasMarks
    (record { settled = settled; fresh = []; taken = 0 }) t
unmarked_has settled t none shows =
    let placed : t.placed ≡ settled = sym (ap (λ r. drop r t.placed) none.read) ∙ shows ∙ append-nil settled in
    let all : length t.placed - t.written ≡ length t.placed = omega (arith, none.written) in
    let front : settled ≡ take (length t.placed - t.written) t.placed = sym placed ∙ sym (ap (λ k. take k t.placed) all ∙ take-length t.placed) in
    let back : [] ≡ drop (length t.placed - t.written) t.placed = sym (ap (λ k. drop k t.placed) all ∙ drop-length t.placed) in
    record {
      logical = none.logical;
      within = record {
        read = omega (arith, none.read);
        written = omega (arith, none.written);
        unmarked = λ plain. absurd (true≢false (sym none.logical
            ∙ plain));
      };
      marks = λ i. record { settled = front i; fresh = back i; taken = sym none.read i };
    }

-- if the store in place shows what the opening has, each LOGICAL queue stands there with the marks
-- that it opens with, none
opened_marks : (o : OpeningState) (m : StoreValue) → shown_store m ≡ initial_store o →
    ((q : Bytes) (t : TransState) → queue_logical o q ≡ true → value_at q m.trans_data ≡ Some t → IsUnmarked t) →
    (q : Bytes) → queue_logical o q ≡ true → (t : TransState) × (value_at q m.trans_data ≡ Some t) × HasMarks ((marks_opened o).queues q) t
opened_marks o m same loaded q l =
    by (value_at q m.trans_data) refl (sym (shown_td m q) ∙ ap (λ t. content t (Td q)) same ∙ shows_of (initial_units o) (marks_opened o)
    (initial_units-AreMarksOf o) q l)
  where
    by : (p : Option TransState) → value_at q m.trans_data ≡ p → option_map queue_of p ≡ Some (shown_marks ((marks_opened o).queues q)) →
        (t : TransState) × (value_at q m.trans_data ≡ Some t) × HasMarks ((marks_opened o).queues q) t
    by None is shows = absurd (false≢true (ap is_some shows))
    by (Some t) is shows = (
      t,
      is,
      unmarked_has ((marks_opened o).queues q).settled t (loaded q t l is) (ap (λ (p : Option
          (List Bytes)). unwrap_or p []) shows),
    )

-- at the beginning nothing was changed, and no queue is marked
pub beginning_in_place : (o : OpeningState) (m : StoreValue) → shown_store m ≡ initial_store o →
    ((q : Bytes) (t : TransState) → queue_logical o q ≡ true → value_at q m.trans_data ≡ Some t → IsUnmarked t) → AreInPlace (initial_units o) m []
beginning_in_place o m same loaded = record {
  changes = λ u. [];
  marks = marks_opened o;
  place = subst (λ t. IsPlaceOf (initial_units o) (record { cells = content t; images = λ u. [] })) (sym same) (initial_units-IsPlaceOf o);
  ends = initial_units-AreMarksOf o;
  queues = opened_marks o m same loaded;
  kept = λ u. (refl, refl);
  ready = λ u. tt;
  over = λ u shut. refl;
}

-- if all is in place, each cell holds what the history gives
pub shows_history : (s : UnitsState) (m : StoreValue) (images : List (Kept AnyImage)) → AreInPlace s m images → (x : Cell) → content
    (shown_store m) x ≡ content (store_of s) x
shows_history s m images place x = elim (cases_Bool (is_plain s.opening x)) [
  | inl plain ↦ place.place.in_place x plain
  | inr marked ↦ logical x marked
]
  where
    is_so : (b : Bool) → not b ≡ false → b ≡ true
    is_so true e = refl
    is_so false e = absurd (true≢false e)

    logical : (x : Cell) → is_plain s.opening x ≡ false → content (shown_store m) x ≡ content (store_of s) x
    logical (Td q) e =
        let l = is_so (queue_logical s.opening q) e in
        let queue = place.queues q l in
        shown_td m q ∙ ap (option_map queue_of) queue.1 ∙ ap Some (queue_of-shown queue.0)
        ∙ ap (λ k. Some (shown_marks k)) (sym queue.2.marks) ∙ sym (shows_of s place.marks place.ends q l)
    logical _ e = absurd (true≢false e)
