-- What the end of a unit leaves of files, temporary storage and transient data. A backout and a
-- commit each have one record of all that it keeps. It comes from what is told of undoing the unit's
-- images, or of giving them up.
use Rattle.std.proofs.Common.{◌≡◌, ◌≢◌, ℕ, true, List, [], refl, ap, sym, subst, ◌∙◌, T, Some, inl, inr, ◌≤◌, Bool, false, ◌&&◌, Option, None, ◌++◌, length}
use Rattle.std.specs.Prelude.{fold, filter, option_map, unwrap_or, is_some, slice_set}
use Rattle.cics_names.specs.Keyed.{value_at, has_key, Bytes, is_rising}
use Rattle.cics_images.specs.Cells.{Kept, is_unnamed, LeadBack, images_of, all_swept, Cell as ImageCell, Content as Shown}
use Rattle.cics_tempstor.specs.Queues.{queues_of, places_of}
use Rattle.cics_tempstor.specs.Places.{AreInOrder, places_there, in_order_committed, in_order_backed_out, places_of-committed, places_of-there, places_of-backed_out}
use Rattle.cics_history.specs.Openings.{IsOpeningInOrder}
use Rattle.cics_history.specs.State.{queue_logical, initial_store, Store, UnitsState}
use Rattle.cics_history.specs.Headline.{kept, outcome_of, is_open}
use Rattle.cics_history.specs.Holding.{store_of}
use Rattle.cics_history.specs.Execution.{after_end}
use Rattle.cics_transdata.specs.Trans.{queue_of, TransState, IsApart}
use Rattle.cics_history.specs.Cells.{Cell, Key, Ts, Td, content, IsCanonical, Reading, Writing, recovers}
use Rattle.cics_history.specs.Events.{is_live}
use Rattle.cics_history.specs.Isolation.{IsSound, used}
use Rattle.cics_history.specs.declared.ops.UnitState.{UnitState}
use Rattle.cics_history.specs.declared.ops.UnitState.TheVariants.{Committed, BackedOut}
use Rattle.cics_history.proofs.Stores.{same_store, replay-canonical, initial-canonical}
use Rattle.cics_units.specs.ImageRows.{kept_none, kept_by, AreOthersKept, AreHeldForImages}
use Rattle.cics_units.specs.Opening.FilesImages.{definitions_of, FilesKeep}
use Rattle.cics_units.specs.Opening.StoreMatching.{StoreValue, AnyImage, shown_store, bytes_of, cell_of_any, AnyLeads, any_content, any_undone, any_swept, AnyKeep, any_holds, shown_records}
use Rattle.cics_units.specs.StoreInPlace.{AreInPlace, HasMarks, holds_end, ends_committed, committed_at, is_free_split, is_free}
use Rattle.cics_units.specs.StoreEnds.{ts_images, any_fixed, ends_settled, IsEnded}
use Rattle.cics_units.proofs.StoreMatched.{told_by_shown, led_back}
use Rattle.cics_units.proofs.StoreQueues.{all_swept_queue, undone_elsewhere, undone_marks, committed_marks, apart_by_marks, committed_keeps}
use Rattle.cics_units.proofs.StoreInPlace.{shown_key, shown_ts, shown_td, file_there, shows_history, ready_where, others_unnamed, place_by, ended_in_place, not_so, others_free}
use Rattle.cics_units.proofs.StoreEnds.{rows_backed_out, rows_committed, queues_rise, canonical_backed_out, canonical_committed}
use Rattle.cics_units.proofs.StoreSettled.{ends_files, ends_rows, ends_kinds, ends_shown, ends_held, settled_as_held}
use Rattle.std.proofs.lemmas.Iterator.Adapters.{option_map_id}
use Rattle.std.proofs.lemmas.Bool.{cases_Bool, and_parts, and_left, true≢false}
use Rattle.cics_images.specs.StoreLaws as store
use Rattle.cics_images.specs.Turns.{one_before}
use Rattle.cics_ksds.specs.Undo.{Leads as FileLeads}
use Rattle.cics_ksds.specs.UndoLaws as file
use Rattle.cics_tempstor.specs.Undo.{Leads as QueueLeads, KeepsQueues}
use Rattle.cics_tempstor.specs.UndoLaws as rows
use Rattle.cics_transdata.specs.Undo.{Leads as EndLeads, reading_end, writing_end, KeepsEnds}
use Rattle.cics_transdata.specs.UndoLaws as queue
use Rattle.cics_history.specs.Undo.{Cells, Leads, is_plain, without_images, undone}
use Rattle.cics_history.specs.Marks.{queue_backed_out, MarkedQueue, queues_committed, writer_settled}
use Rattle.cics_history.specs.MarkImages.{marks_undone}
use Rattle.cics_history.proofs.Replays.{replay-there}
use Rattle.cics_history.proofs.Undoing.{Leads-none, undone-at}
use Rattle.cics_history.proofs.MarkLists.{HasEnds-unmarks, marks_undone-at}
use Rattle.cics_history.proofs.Places.{back_out-IsPlaceOf, leads_back, commit-IsPlaceOf}
use Rattle.cics_history.proofs.InPlace.{back_out-AreMarksOf, commit-AreMarksOf}
use Rattle.cics_images.specs.NamedValues.{cell_of as value_cell, KeepsIn}
use Rattle.cics_images.specs.NamedLaws.{split_cell}
use Rattle.cics_images.specs.StoreCells.{file_cell, temp_cell, trans_cell}
use Rattle.cics_history.proofs.States.{one_at_each_end}
use Rattle.cics_units.specs.FilesImagesLaws as files

-- ---- A commit: the images are given up, and then the ends are settled, the writing end before the
-- reading end
-- two queues that stand at one name are one
same_queue : (t u : TransState) (o : Option TransState) → o ≡ Some t → o ≡ Some u → t ≡ u
same_queue t u o a b = ap (λ x. unwrap_or x t) (sym a ∙ b)

-- what its writer leaves unsettled the reader hasn't read
room_left : (w : Bool) (m : MarkedQueue) → (w ≡ false → m.taken ≤ length m.settled) → m.taken ≤ length (m.settled ++ m.fresh) →
    (writer_settled w m).taken ≤ length (writer_settled w m).settled
room_left false m apart within = apart refl
room_left true m apart within = within

-- a queue that isn't LOGICAL stays as it is
stays : (s : UnitsState) (v : ℕ) (q : Bytes) → queue_logical s.opening q ≡ false → (o : Option TransState) → committed_at s v q o ≡ o
stays s v q plain o =
    ap (λ b. option_map (ends_committed (b && used s.trace v (Td q) Reading) (b && used s.trace v (Td q) Writing)) o) plain ∙ option_map_id o

module _ (s : UnitsState) (m mid n : StoreValue) (images after_images : List (Kept AnyImage)) (v : ℕ)
    (sound : IsSound s) (place : AreInPlace s m images) (live : is_live s v ≡ true)
    (rising_before : T (is_rising m.temp_storage)) (rising_mid : T (is_rising mid.temp_storage))
    (fixed : definitions_of mid.files ≡ definitions_of m.files) (contents : (c : ImageCell) → any_content mid c ≡ any_content m c)
    (keeps : AnyKeep (is_unnamed cell_of_any (kept_by images v)) m mid)
    (whole : mid ≡ all_swept any_swept cell_of_any m (kept_by images v))
    (same_files : n.files ≡ mid.files) (same_rows : n.temp_storage ≡ mid.temp_storage)
    (settled : (q : Bytes) → value_at q n.trans_data ≡ committed_at s v q (value_at q mid.trans_data))
    (gone : kept_by after_images v ≡ []) (apart : (w : ℕ) → w ≢ v → kept_by after_images w ≡ kept_by images w) where
  -- the unit is open
  open_then : is_open (outcome_of s.outcomes v) ≡ true
  open_then = (and_parts _ _ live).1

  -- to give the images up leaves each queue
  queue_mid : (q : Bytes) → value_at q mid.trans_data ≡ value_at q m.trans_data
  queue_mid q = ap (λ (x : StoreValue). value_at q x.trans_data) whole ∙ all_swept_queue m (kept_by images v) q

  -- what the unit has read isn't marked as written, if it isn't the writer itself
  room : (q : Bytes) → queue_logical s.opening q ≡ true → used s.trace v (Td q) Reading ≡ true → used s.trace v (Td q) Writing ≡ false →
      (place.marks.queues q).taken ≤ length (place.marks.queues q).settled
  room q l reads writes = (place.ends.queues q l).apart (λ u on a b.
      let same : u ≡ v = one_at_each_end s sound.one (Td q) l Reading u v on open_then a reads in
      true≢false (sym (subst (λ x. used s.trace x (Td q) Writing ≡ true) same b) ∙ writes))

  -- so no record of a queue of which it owns the reading end alone has both marks
  apart_at : (q : Bytes) (t : TransState) → value_at q mid.trans_data ≡ Some t → holds_end s v q Reading ≡ true → holds_end s v q Writing ≡ false → IsApart t
  apart_at q t is reads writes =
      let parts = and_parts (queue_logical s.opening q) (used s.trace v (Td q) Reading) reads in
      let queue = place.queues q parts.0 in
      subst IsApart (same_queue queue.0 t (value_at q mid.trans_data) (queue_mid q ∙ queue.1) is)
      (apart_by_marks (place.marks.queues q) queue.0 queue.2 (room q parts.0 parts.1 (ap (λ b. b && used s.trace v (Td q) Writing) (sym parts.0) ∙ writes)))

  -- the ends that the unit doesn't own are kept
  free_kept : AnyKeep (is_free s v) mid n
  free_kept = record {
    files = subst (FilesKeep (λ c. is_free s v (file_cell c)) mid.files) (sym same_files) (files.keeps_itself (λ c. is_free s v (file_cell c)) mid.files);
    temp_storage = subst (KeepsQueues (λ c. is_free s v (temp_cell c)) mid.temp_storage) (sym same_rows) (rows.keeps_itself (λ c. is_free s v
        (temp_cell c)) mid.temp_storage);
    trans_data = λ q. subst (KeepsIn KeepsEnds (λ c. is_free s v (trans_cell (value_cell q c))) (value_at q mid.trans_data)) (sym (settled q)) (by q
        (value_at q mid.trans_data) refl);
  }
    where
      by : (q : Bytes) (o : Option TransState) → value_at q mid.trans_data ≡ o → KeepsIn KeepsEnds (λ c. is_free s v (trans_cell (value_cell q c))) o
          (committed_at s v q o)
      by q None is = tt
      by q (Some t) is = committed_keeps (λ c. is_free s v (trans_cell (value_cell q c))) (holds_end s v q Reading) (holds_end s v q Writing) t
          (ap (is_free_split s v) (split_cell q reading_end)) (ap (is_free_split s v) (split_cell q writing_end)) (apart_at q t is)

  -- each LOGICAL queue has the marks that the commit leaves
  marks_settled : (q : Bytes) → queue_logical s.opening q ≡ true →
      (t : TransState) × (value_at q n.trans_data ≡ Some t) × HasMarks (queues_committed s place.marks.queues v q) t
  marks_settled q l =
      let queue = place.queues q l in
      let reads = used s.trace v (Td q) Reading in
      let writes = used s.trace v (Td q) Writing in (
        ends_committed (holds_end s v q Reading) (holds_end s v q Writing) queue.0,
        settled q ∙ ap (committed_at s v q) (queue_mid q ∙ queue.1),
        subst (λ (b : Bool). HasMarks (queues_committed s place.marks.queues v q) (ends_committed (b && reads) (b && writes) queue.0)) (sym l)
            (committed_marks reads writes (place.marks.queues q) queue.0 queue.2
            (λ r. room_left writes (place.marks.queues q) (λ w. room q l r w) (place.ends.queues q l).within)),
      )

  -- each plain cell holds what it held
  same_plain : (x : Cell) → is_plain s.opening x ≡ true → content (shown_store m) x ≡ content (shown_store n) x
  same_plain (Key f k) plain =
      told_by_shown (content (shown_store m) (Key f k)) (content (shown_store mid) (Key f k)) (file_there m mid fixed f k)
      (shown_key m f k ∙ sym (contents (bytes_of (Key f k))) ∙ sym (shown_key mid f k))
      ∙ ap (λ x. content (shown_store (record mid { files = x })) (Key f k)) (sym same_files)
  same_plain (Ts q) plain =
      told_by_shown (content (shown_store m) (Ts q)) (content (shown_store mid) (Ts q)) refl
      (shown_ts m rising_before q ∙ sym (contents (bytes_of (Ts q))) ∙ sym (shown_ts mid rising_mid q))
      ∙ ap (λ x. content (shown_store (record mid { temp_storage = x })) (Ts q)) (sym same_rows)
  same_plain (Td q) plain =
      shown_td m q ∙ ap (option_map queue_of) (sym (queue_mid q) ∙ sym (stays s v q (not_so (queue_logical s.opening q) plain) (value_at q mid.trans_data))
      ∙ sym (settled q)) ∙ sym (shown_td n q)

  -- COMMIT: the images are given up, and the ends settled
  pub committed_in_place : AreInPlace (after_end s v Committed) n after_images
  committed_in_place = ended_in_place s m n images after_images v Committed place gone apart
      (λ w other on. ready_where (is_free s v) mid n (kept_by images w) free_kept (others_free s m images sound place v w other open_then on)
      (ready_where (is_unnamed cell_of_any (kept_by images v)) m mid (kept_by images w) keeps
      (others_unnamed s m images sound place v w other open_then on) (place.ready w)))
      (queues_committed s place.marks.queues v)
      (place_by (after_end s v Committed) (content (shown_store m)) (content (shown_store n)) (without_images place.changes v) same_plain
      (commit-IsPlaceOf s (record { cells = content (shown_store m); images = place.changes }) v place.place live))
      (commit-AreMarksOf s place.marks v sound place.ends live)
      marks_settled

-- ---- A backout: the images are undone, the newest first, and then their cells are swept
-- what an image of the store in place leads back to is one content
determined : (i : AnyImage) (after x y : Shown) → AnyLeads i after x → AnyLeads i after y → x ≡ y
determined = store.determined (λ i. FileLeads i.image) QueueLeads (λ i. EndLeads i.image) (λ i. file.determined i.image) rows.determined
    (λ i. queue.determined i.image)

module _ (s : UnitsState) (m n : StoreValue) (images after_images : List (Kept AnyImage)) (v : ℕ)
    (sound : IsSound s) (place : AreInPlace s m images) (live : is_live s v ≡ true)
    (rising_before : T (is_rising m.temp_storage)) (rising_after : T (is_rising n.temp_storage))
    (fixed : definitions_of n.files ≡ definitions_of m.files)
    (led : (c : ImageCell) → LeadBack AnyLeads (images_of cell_of_any c (kept_by images v)) (any_content m c) (any_content n c))
    (keeps : AnyKeep (is_unnamed cell_of_any (kept_by images v)) m n)
    (whole : n ≡ all_swept any_swept cell_of_any (fold any_undone m (kept_by images v)) (kept_by images v))
    (gone : kept_by after_images v ≡ []) (apart : (w : ℕ) → w ≢ v → kept_by after_images w ≡ kept_by images w) where
  -- what each cell holds before
  abbrev standing : Cells
  standing = content (shown_store m)

  -- the unit is open
  open_before : is_open (outcome_of s.outcomes v) ≡ true
  open_before = (and_parts _ _ live).1

  -- sweeping changes no queue
  queue_then : (q : Bytes) → value_at q n.trans_data ≡ value_at q (fold any_undone m (kept_by images v)).trans_data
  queue_then q = ap (λ (x : StoreValue). value_at q x.trans_data) whole ∙ all_swept_queue (fold any_undone m (kept_by images v)) (kept_by images v) q

  -- each LOGICAL queue has the marks that undoing leaves
  marks_then : (q : Bytes) → queue_logical s.opening q ≡ true →
      (t : TransState) × (value_at q n.trans_data ≡ Some t) × HasMarks (marks_undone place.marks.queues (place.marks.images v) q) t
  marks_then q l =
      let before = place.queues q l in
      let to = queue_backed_out (used s.trace v (Td q) Reading) (used s.trace v (Td q) Writing) (place.marks.queues q) in
      let unmarks = HasEnds-unmarks (used s.trace v (Td q) Reading) (used s.trace v (Td q) Writing) (place.marks.images v) q (place.marks.queues q)
      (place.ends.images q l v open_before) in
      let then = undone_marks q (place.changes v) (place.marks.images v) (kept_by images v) (place.kept v) m before.0 before.1
      (place.marks.queues q) to before.2 unmarks in
      (then.0, queue_then q ∙ then.1, subst (λ k. HasMarks k then.0) (sym (marks_undone-at (place.marks.images v) q place.marks.queues to unmarks)) then.2)

  -- what the images lead a cell back to is what stands there, if the cell is there in both or in
  -- neither
  led_to : (x : Cell) → shown_records (content (shown_store m) x) ≡ any_content m (bytes_of x) → shown_records (content (shown_store n) x) ≡ any_content n (bytes_of x) →
      (to : Store) → is_some (content to x) ≡ is_some (content (shown_store n) x) → Leads (place.changes v) x (standing x) (content to x) →
      content to x ≡ content (shown_store n) x
  led_to x before now to there leads =
      let is = images_of cell_of_any (bytes_of x) (kept_by images v) in
      told_by_shown (content to x) (content (shown_store n) x) there
      (one_before AnyLeads determined is (shown_records (standing x)) (shown_records (content to x)) (shown_records (content (shown_store n) x))
      (led_back (place.changes v) (place.marks.images v) (kept_by images v) (place.kept v) x (standing x) (content to x) leads)
      (subst (λ a. LeadBack AnyLeads is a (shown_records (content (shown_store n) x))) (sym before)
      (subst (LeadBack AnyLeads is (any_content m (bytes_of x))) (sym now) (led (bytes_of x)))))

  -- a key and a temporary storage queue hold what undoing the changes gives, recoverable or not
  undone_by : (x : Cell) → is_plain s.opening x ≡ true → shown_records (content (shown_store m) x) ≡ any_content m (bytes_of x) → shown_records (content
      (shown_store n) x) ≡ any_content n (bytes_of x) →
      is_some (standing x) ≡ is_some (content (shown_store n) x) → undone standing (place.changes v) x ≡ content (shown_store n) x
  undone_by x plain before now there = elim (cases_Bool (recovers s.opening x)) [
    | inl r ↦
        let to = store_of (after_end s v BackedOut) in
        let leads : Leads (place.changes v) x (standing x) (content to x) = leads_back s
        (record { cells = standing; images = place.changes }) v x place.place live plain r in
        undone-at (place.changes v) x standing _ leads
        ∙ led_to x before now to (replay-there x (initial_store s.opening) (kept s.opening s.trace (slice_set s.outcomes v BackedOut)) ∙ sym (replay-there x
        (initial_store s.opening) (kept s.opening s.trace s.outcomes)) ∙ ap is_some (sym (place.place.in_place x plain)) ∙ there) leads
    | inr r ↦
        let leads : Leads (place.changes v) x (standing x) (standing x) = Leads-none (place.changes v) x _ _ (place.place.named x v (and_left _
        (used s.trace v x Writing) r)) refl in
        undone-at (place.changes v) x standing _ leads ∙ led_to x before now (shown_store m) there leads
  ]

  -- each plain cell holds what undoing the changes gives
  undone_to : (x : Cell) → is_plain s.opening x ≡ true → undone standing (place.changes v) x ≡ content (shown_store n) x
  undone_to (Key f k) plain = undone_by (Key f k) plain (shown_key m f k) (shown_key n f k) (file_there m n fixed f k)
  undone_to (Ts q) plain = undone_by (Ts q) plain (shown_ts m rising_before q) (shown_ts n rising_after q) refl
  undone_to (Td q) plain =
      let not_logical = not_so (queue_logical s.opening q) plain in
      let leads : Leads (place.changes v) (Td q) (standing (Td q)) (standing (Td q)) = Leads-none (place.changes v) (Td q) _ _ (place.place.named (Td q) v
      (and_left _ (used s.trace v (Td q) Writing) not_logical)) refl in
      undone-at (place.changes v) (Td q) standing _ leads ∙ shown_td m q
      ∙ ap (option_map queue_of) (sym (undone_elsewhere q (place.changes v) (place.marks.images v) (kept_by images v) (place.kept v)
      (place.ends.bare q not_logical v) m) ∙ sym (queue_then q)) ∙ sym (shown_td n q)

  -- the images are undone, and all is as without the unit
  pub backed_out_in_place : AreInPlace (after_end s v BackedOut) n after_images
  backed_out_in_place = ended_in_place s m n images after_images v BackedOut place gone apart
      (λ w other on. ready_where (is_unnamed cell_of_any (kept_by images v)) m n (kept_by images w) keeps
      (others_unnamed s m images sound place v w other open_before on) (place.ready w))
      (marks_undone place.marks.queues (place.marks.images v))
      (place_by (after_end s v BackedOut) (undone standing (place.changes v)) (content (shown_store n)) (without_images place.changes v) undone_to
      (back_out-IsPlaceOf s (record { cells = standing; images = place.changes }) v place.place live))
      (back_out-AreMarksOf s place.marks v sound place.ends live)
      marks_then

-- ---- Either end
-- if all is in place and in order, the store in place shows what the history gives
pub shows_store : (s : UnitsState) (m : StoreValue) (images : List (Kept AnyImage)) → IsOpeningInOrder s.opening → AreInPlace s m images →
    IsCanonical (shown_store m) → shown_store m ≡ store_of s
shows_store s m images in_order place canonical = same_store (shown_store m) (store_of s) canonical
    (replay-canonical (initial_store s.opening) (kept s.opening s.trace s.outcomes) (initial-canonical s.opening in_order))
    (shows_history s m images place)

-- every other unit keeps what it kept
pub others_apart : (images after_images : List (Kept AnyImage)) (v : ℕ) → AreOthersKept images after_images v →
    (w : ℕ) → w ≢ v → kept_by after_images w ≡ kept_by images w
others_apart images after_images v others w other = ap (λ o. (unwrap_or o kept_none).newest_first) (others.rows w other)

-- the NEXT cursors after a unit's end are those of the queues that are shown then
next_after_end : (s : UnitsState) (m n : StoreValue) (v : ℕ) (outcome : UnitState) → shown_store n ≡ store_of (after_end s v outcome) →
    places_of n.temp_storage ≡ places_there (queues_of n.temp_storage) (places_of m.temp_storage) →
    s.next ≡ places_of m.temp_storage → (after_end s v outcome).next ≡ places_of n.temp_storage
next_after_end s m n v outcome shows places next =
    ap (λ store. filter (λ e. has_key e.0 store.ts) s.next) (sym shows) ∙ ap (places_there (queues_of n.temp_storage)) next ∙ sym places

-- ---- a backout
module _ (s : UnitsState) (m n : StoreValue) (images after_images : List (Kept AnyImage)) (v : ℕ)
    (in_order : IsOpeningInOrder s.opening) (sound : IsSound s) (live : is_live s v ≡ true)
    (place : AreInPlace s m images) (canonical : IsCanonical (shown_store m)) (rows : AreInOrder m.temp_storage)
    (gone : kept_by after_images v ≡ []) (others : AreOthersKept images after_images v)
    (led : (c : ImageCell) → LeadBack AnyLeads (images_of cell_of_any c (kept_by images v)) (any_content m c) (any_content n c))
    (keeps : AnyKeep (is_unnamed cell_of_any (kept_by images v)) m n)
    (fixed : any_fixed n ≡ any_fixed m)
    (held : AreHeldForImages any_holds cell_of_any m images → AreHeldForImages any_holds cell_of_any n after_images)
    (whole : n ≡ all_swept any_swept cell_of_any (fold any_undone m (kept_by images v)) (kept_by images v)) where
  -- the rows stay in order
  rows_then : AreInOrder n.temp_storage
  rows_then = subst AreInOrder (sym (rows_backed_out m n (kept_by images v) whole))
      (in_order_backed_out m.temp_storage (ts_images (kept_by images v)) rows)

  -- the NEXT cursors are those of the queues that are there
  pub places_then : places_of n.temp_storage ≡ places_there (queues_of n.temp_storage) (places_of m.temp_storage)
  places_then = subst (λ r. places_of r ≡ places_there (queues_of r) (places_of m.temp_storage)) (sym (rows_backed_out m n (kept_by images v) whole))
      (places_of-backed_out m.temp_storage (ts_images (kept_by images v)) rows)

  -- BACKOUT: the unit's images are undone, and all is as without the unit
  pub backed_out_ended : IsEnded s m n images after_images v BackedOut
  backed_out_ended =
      let canonical_then = canonical_backed_out m canonical rows n (kept_by images v) whole in
      let place_then = backed_out_in_place s m n images after_images v sound place live rows.rising rows_then.rising
      (ap (λ f. f.files) fixed) led keeps whole gone (others_apart images after_images v others) in
      let shows_then = shows_store (after_end s v BackedOut) n after_images in_order place_then canonical_then in
      record {
        place = place_then;
        canonical = canonical_then;
        shows = shows_then;
        rows = rows_then;
        next = next_after_end s m n v BackedOut shows_then places_then;
        definitions = ap (λ f. f.files) fixed;
        kinds = λ q. ap (λ f. f.trans_data q) fixed;
        held = held;
      }

-- ---- a commit
module _ (s : UnitsState) (m mid : StoreValue) (images after_images : List (Kept AnyImage)) (v : ℕ)
    (in_order : IsOpeningInOrder s.opening) (sound : IsSound s) (live : is_live s v ≡ true)
    (place : AreInPlace s m images) (canonical : IsCanonical (shown_store m)) (rows : AreInOrder m.temp_storage)
    (gone : kept_by after_images v ≡ []) (others : AreOthersKept images after_images v)
    (contents : (c : ImageCell) → any_content mid c ≡ any_content m c)
    (keeps : AnyKeep (is_unnamed cell_of_any (kept_by images v)) m mid)
    (fixed : any_fixed mid ≡ any_fixed m)
    (held : AreHeldForImages any_holds cell_of_any m images → AreHeldForImages any_holds cell_of_any mid after_images)
    (whole : mid ≡ all_swept any_swept cell_of_any m (kept_by images v)) where
  -- the store in place once the ends are settled
  abbrev committed_store : StoreValue
  committed_store = ends_settled mid (kept_by images v)

  -- the rows stay in order once the images are given up
  rows_mid : AreInOrder mid.temp_storage
  rows_mid = subst AreInOrder (sym (rows_committed m mid (kept_by images v) whole))
      (in_order_committed m.temp_storage (ts_images (kept_by images v)) rows)

  -- and are those of the end
  rows_settled : committed_store.temp_storage ≡ mid.temp_storage
  rows_settled = ends_rows mid (kept_by images v)

  -- so they are in order in the end
  rows_ended : AreInOrder committed_store.temp_storage
  rows_ended = subst AreInOrder (sym rows_settled) rows_mid

  -- no NEXT cursor changes
  pub places_kept : places_of committed_store.temp_storage ≡ places_of m.temp_storage
  places_kept = ap places_of (rows_settled ∙ rows_committed m mid (kept_by images v) whole)
      ∙ places_of-committed m.temp_storage (ts_images (kept_by images v)) rows.rising

  -- and each is of a queue that is there
  places_settled : places_of committed_store.temp_storage ≡ places_there (queues_of committed_store.temp_storage) (places_of m.temp_storage)
  places_settled = places_of-there committed_store.temp_storage rows_ended.rising
      ∙ ap (places_there (queues_of committed_store.temp_storage)) places_kept

  -- what is shown is in order once the images are given up
  canonical_mid : IsCanonical (shown_store mid)
  canonical_mid = canonical_committed m canonical rows mid (kept_by images v) whole

  -- to settle the ends shows nothing
  shown_settled : shown_store committed_store ≡ shown_store mid
  shown_settled = ends_shown mid (kept_by images v) (queues_rise mid canonical_mid)

  -- nor does it show anything to give the images up
  shown_mid : shown_store mid ≡ shown_store m
  shown_mid = same_store (shown_store mid) (shown_store m) canonical_mid canonical same
    where
      same : (x : Cell) → content (shown_store mid) x ≡ content (shown_store m) x
      same (Key f k) = sym (told_by_shown (content (shown_store m) (Key f k)) (content (shown_store mid) (Key f k))
          (file_there m mid (ap (λ f. f.files) fixed) f k) (shown_key m f k ∙ sym (contents (bytes_of (Key f k))) ∙ sym (shown_key mid f k)))
      same (Ts q) = sym (told_by_shown (content (shown_store m) (Ts q)) (content (shown_store mid) (Ts q)) refl
          (shown_ts m rows.rising q ∙ sym (contents (bytes_of (Ts q))) ∙ sym (shown_ts mid rows_mid.rising q)))
      same (Td q) = shown_td mid q ∙ ap (option_map queue_of) (ap (λ (x : StoreValue). value_at q x.trans_data) whole
          ∙ all_swept_queue m (kept_by images v) q) ∙ sym (shown_td m q)

  -- so a commit shows what was shown
  pub committed_shows : (n : StoreValue) → n ≡ committed_store → shown_store n ≡ shown_store m
  committed_shows n settled = ap shown_store settled ∙ shown_settled ∙ shown_mid

  -- all that holds once the ends are settled
  all_settled : IsEnded s m committed_store images after_images v Committed
  all_settled =
      let canonical_then = subst IsCanonical (sym shown_settled) canonical_mid in
      let place_then = committed_in_place s m mid committed_store images after_images v sound place live rows.rising rows_mid.rising
      (ap (λ f. f.files) fixed) contents keeps whole (ends_files mid (kept_by images v)) rows_settled
      (settled_as_held s m mid images v place live whole) gone (others_apart images after_images v others) in
      let shows_then = shows_store (after_end s v Committed) committed_store after_images in_order place_then canonical_then in
      record {
        place = place_then;
        canonical = canonical_then;
        shows = shows_then;
        rows = rows_ended;
        next = next_after_end s m committed_store v Committed shows_then places_settled;
        definitions = ap definitions_of (ends_files mid (kept_by images v)) ∙ ap (λ f. f.files) fixed;
        kinds = λ q. ends_kinds mid (kept_by images v) q ∙ ap (λ f. f.trans_data q) fixed;
        held = λ before c has. held before c (sym (ends_held mid (kept_by images v) c) ∙ has);
      }

  -- COMMIT: the unit's images are given up, and the ends that they are of settled
  pub committed_ended : (n : StoreValue) → n ≡ committed_store → IsEnded s m n images after_images v Committed
  committed_ended n settled = subst (λ x. IsEnded s m x images after_images v Committed) (sym settled) all_settled
