-- READQ TS keeps the units: a NEXT cursor changes, and nothing else.
use Rattle.std.proofs.Common.{◌≡◌, ℕ, ◌+◌, ◌≤◌, Bool, true, false, T, Option, Some, None, List, length, refl, ap, sym, subst, ◌∙◌, []}
use Rattle.std.specs.Prelude.{if◌then◌else◌, unwrap_or}
use Rattle.std.specs.Option.{option_and_then}
use Rattle.cics_names.specs.Keyed.{Bytes, Map, value_at, with_value, is_rising}
use Rattle.cics_names.specs.RisingLaws.{same_maps}
use Rattle.cics_images.specs.StoreCells.{with_temp_storage}
use Rattle.cics_enqueue.specs.Table.{Table}
use Rattle.cics_tempstor.specs.declared.answers.TsRead.{TsRead}
use Rattle.cics_tempstor.specs.declared.queue_rows.Row.{Row}
use Rattle.cics_tempstor.specs.Queues.{is_there, has_item, queue_at, queues_of, empty_row, places_of, row_answer, read_item, after_read_item}
use Rattle.cics_tempstor.specs.Shown.{queue_shown, queues_of-shown, rising-queues_of, rising_read, value_at-shown, queue_at-queues_of, next_place-places_of}
use Rattle.cics_tempstor.specs.Undo.{KeepsQueues}
use Rattle.cics_history.specs.State.{OpeningState, queue_logical, Store, UnitsState}
use Rattle.cics_history.specs.Openings.{HasLawfulKeys, IsOpeningInOrder}
use Rattle.cics_history.specs.Store.{ts_queue}
use Rattle.cics_history.specs.Holding.{store_of}
use Rattle.cics_history.specs.Execution.{place_at, item_asked, ts_reading, after_ts_reading}
use Rattle.cics_history.specs.Cells.{IsCanonical, Cell, Ts, content}
use Rattle.cics_history.specs.declared.ops.Answer.{Answer}
use Rattle.cics_history.specs.declared.ops.Entry.{Entry}
use Rattle.cics_history.specs.declared.ops.UnitState.{UnitState}
use Rattle.cics_history.proofs.SameHistory.{ts_reading-same}
use Rattle.cics_history.proofs.States.{ts_reading-IsSound}
use Rattle.cics_history.proofs.SerialRuns.{ts_reading-IsInOrder}
use Rattle.cics_units.specs.Opening.StoreMatching.{StoreWithImages, shown_store, StoreValue, AnyImage, AnyKeep}
use Rattle.cics_units.specs.StorePlaces.{HavePlaces, number_asked}
use Rattle.cics_units.specs.TableInPlace.{IsTableOf}
use Rattle.cics_units.specs.Parts.{CoreValue}
use Rattle.cics_units.specs.KeptUnits.{state_shown, AreValid, AreAsDefined}
use Rattle.cics_units.proofs.StorePlaces.{read_places}
use Rattle.cics_units.proofs.QueuesHeld.{read_held}
use Rattle.cics_units.proofs.KeptUnits.{store_is}
use Rattle.cics_images.specs.Cells.{Kept}
use Rattle.cics_images.specs.NamedLaws as named
use Rattle.cics_transdata.specs.Trans.{TransState}
use Rattle.cics_transdata.specs.Undo.{KeepsEnds}
use Rattle.cics_transdata.specs.UndoLaws as queue
use Rattle.cics_history.specs.Headline.{is_open}
use Rattle.cics_history.proofs.Places.{ts_reading-IsPlaceOf}
use Rattle.cics_history.proofs.InPlace.{ts_reading-AreMarksOf}
use Rattle.cics_units.specs.FilesImagesLaws as files
use Rattle.cics_units.specs.ImageRows.{kept_by}
use Rattle.cics_units.specs.StoreInPlace.{HasMarks, AreInPlace}
use Rattle.cics_units.proofs.StoreInPlace.{ready_where, place_by}
use Rattle.cics_units.proofs.StoreExecuted.{all_of}

module _ (s : UnitsState) (m : StoreValue) (images : List (Kept AnyImage)) (place : AreInPlace s m images) where
  -- READQ TS changes a NEXT cursor alone
  module _ (new : List (Bytes × Row)) (kept : KeepsQueues (λ q. true) m.temp_storage new)
      (rising_before : T (is_rising m.temp_storage)) (rising_after : T (is_rising new)) where
    -- the store in place after it
    abbrev n : StoreValue
    n = with_temp_storage m new

    -- each cell holds what it held
    same_cells : (x : Cell) → content (shown_store m) x ≡ content (shown_store n) x
    same_cells (Ts q) =
        ap Some (queue_at-queues_of q m.temp_storage rising_before ∙ sym (kept.queues q refl) ∙ sym (queue_at-queues_of q new rising_after))
    same_cells _ = refl

    -- and nothing that an undo needs is gone
    all_kept : AnyKeep (λ c. true) m n
    all_kept = record {
      files = files.keeps_itself (λ c. true) m.files;
      temp_storage = kept;
      trans_data = named.keeps_itself KeepsEnds queue.keeps_itself (λ c. true) m.trans_data;
    }

    pub read_in_place : (q : Bytes) (item : ℕ) → AreInPlace (after_ts_reading s q item) n images
    read_in_place q item = record {
      changes = place.changes;
      marks = place.marks;
      place = place_by (after_ts_reading s q item) (content (shown_store m)) (content (shown_store n)) place.changes (λ x plain. same_cells x)
          (ts_reading-IsPlaceOf s (record { cells = content (shown_store m); images = place.changes }) q item place.place);
      ends = ts_reading-AreMarksOf s place.marks q item place.ends;
      queues = ts_reading-same
          (λ o es out. (q : Bytes) → queue_logical o q ≡ true → (t : TransState) × (value_at q n.trans_data ≡ Some t) × HasMarks (place.marks.queues q) t) s
          place.queues q item;
      kept = place.kept;
      ready = λ w. ready_where (λ c. true) m n (kept_by images w) all_kept (all_of (kept_by images w)) (place.ready w);
      over = ts_reading-same (λ o es out. (w : ℕ) → is_open (out w) ≡ false → kept_by images w ≡ []) s place.over q item;
    }

-- rows with the same queues show the same queues
queues_same : (rows new : Map Row) → T (is_rising rows) → T (is_rising new) → KeepsQueues (λ q. true) rows new → queues_of new ≡ queues_of rows
queues_same rows new rising_before rising_after kept =
    same_maps (queues_of new) (queues_of rows) (rising-queues_of new rising_after) (rising-queues_of rows rising_before)
    (λ q. queue_read q new rising_after ∙ ap (λ items. if is_there items then Some items else None) (kept.queues q refl) ∙ sym (queue_read q rows rising_before))
  where
    queue_read : (q : Bytes) (m : Map Row) → T (is_rising m) → value_at q (queues_of m) ≡ (if is_there (queue_at q m) then Some (queue_at q m) else None)
    queue_read q m rising = ap (value_at q) (queues_of-shown m) ∙ value_at-shown queue_shown q m rising ∙ by (value_at q m)
      where
        by : (o : Option Row) → option_and_then queue_shown o
            ≡ (if is_there (unwrap_or {T = Row} o empty_row).items then Some (unwrap_or {T = Row} o empty_row).items else None)
        by None = refl
        by (Some row) = refl

-- the units with other NEXT cursors alone
next_alone : (s : UnitsState) (b : Bool) (next later : Map ℕ) → next ≡ (if b then record s { next = later } else s).next →
    record s { next = next } ≡ (if b then record s { next = later } else s)
next_alone s true next later same = λ i. record s { next = same i }
next_alone s false next later same = λ i. record s { next = same i }

module _ (s : UnitsState) (st : StoreWithImages) (t : Table) (is : AreValid s st t) where
  -- the NEXT cursor that the rows tell is that of the units
  pub place_told : (q : Bytes) → place_at s q ≡ unwrap_or (value_at q (places_of st.store.temp_storage)) 0
  place_told q = ap (λ m. unwrap_or (value_at q m) 0) is.places

  -- and so is the item that is asked for
  pub asked_told : (q : Bytes) (item : Option ℕ) → number_asked st.store.temp_storage q item ≡ item_asked s q item
  asked_told q None = ap (λ n. n + 1) (sym (place_told q ∙ next_place-places_of q st.store.temp_storage is.rows.rising))
  asked_told q (Some n) = refl

  -- the items of a queue are those that the history gives
  items_told : (q : Bytes) → queue_at q st.store.temp_storage ≡ ts_queue (store_of s) q
  items_told q = sym (queue_at-queues_of q st.store.temp_storage is.rows.rising) ∙ ap (λ m. ts_queue m q) (store_is s st t is)

  -- what READQ TS answers is what the history gives
  abbrev as_answer : TsRead → Answer
  as_answer read = record { condition = read.condition; content = read.content; number = read.number }

  pub reading_told : (q : Bytes) (n : ℕ) (read : TsRead) → read ≡ read_item st.store.temp_storage q n → as_answer read ≡ ts_reading s q n
  reading_told q n read told = ap as_answer (told ∙ ap (λ items. row_answer items n) (items_told q))

  module _ (q : Bytes) (n : ℕ) (kept : KeepsQueues (λ q. true) st.store.temp_storage (after_read_item st.store.temp_storage q n)) where
    -- the rows after the read
    abbrev new : Map Row
    new = after_read_item st.store.temp_storage q n

    abbrev after : StoreWithImages
    after = record st { store = with_temp_storage st.store new }

    rising_after : T (is_rising new)
    rising_after = rising_read st.store.temp_storage is.rows.rising q n

    pub read_shown : shown_store after.store ≡ shown_store st.store
    read_shown = λ i. record (shown_store st.store) { ts = queues_same st.store.temp_storage new is.rows.rising rising_after kept i }

    read_table : IsTableOf (after_ts_reading s q n) t
    read_table = elim (has_item (ts_queue (store_of s) q) n) as (λ b. IsTableOf (if b then record s { next = with_value q n s.next } else s) t) [
      | true ↦ record {
        holders = is.table.holders;
        single = is.table.single;
        in_order = is.table.in_order;
        counts = is.table.counts;
        once = is.table.once;
        keys = is.table.keys;
      }
      | false ↦ is.table
    ]

    read_begun : length (after_ts_reading s q n).outcomes ≤ length st.images
    read_begun = elim (has_item (ts_queue (store_of s) q) n) as (λ b. length (if b then record s { next = with_value q n s.next } else s).outcomes ≤ length st.images) [
      | true ↦ is.begun
      | false ↦ is.begun
    ]

    -- the NEXT cursors are those of the units
    pub places_then : HavePlaces (after_ts_reading s q n) new
    places_then = read_places s st.store.temp_storage (record { in_order = is.rows; places = sym is.places }) q n (ap (λ (m : Store). m.ts) (sym (store_is s st t is)))

    -- READQ TS keeps all
    pub kept_read : AreValid (after_ts_reading s q n) after t
    kept_read = record {
      in_order = ts_reading-same (λ o es out. IsOpeningInOrder o) s is.in_order q n;
      lawful_keys = ts_reading-same (λ o es out. HasLawfulKeys o) s is.lawful_keys q n;
      sound = ts_reading-IsSound s q n is.sound;
      order = ts_reading-IsInOrder s is.order q n;
      canonical = subst IsCanonical (sym read_shown) is.canonical;
      place = read_in_place s st.store st.images is.place new kept is.rows.rising rising_after q n;
      defined = ts_reading-same (λ o es out. AreAsDefined o after.store) s (record { files = is.defined.files; queues = is.defined.queues }) q n;
      rows = places_then.in_order;
      places = sym places_then.places;
      table = read_table;
      held = λ c has. is.held c (read_held st.store q n c has);
      begun = read_begun;
    }

module _ (o : OpeningState) (trace : List Entry) (outcomes : List UnitState) (commits : List ℕ) (p : CoreValue) (is : AreValid (state_shown o trace outcomes commits p) p.stores p.table)
    (q : Bytes) (n : ℕ) (rows : Map Row) (value : rows ≡ after_read_item p.stores.store.temp_storage q n) (keeps : KeepsQueues (λ q. true) p.stores.store.temp_storage rows) where
  abbrev before : UnitsState
  before = state_shown o trace outcomes commits p

  -- the core with these rows
  abbrev with_rows : Map Row → CoreValue
  with_rows rows = record p { stores = record { store = with_temp_storage p.stores.store rows; images = p.stores.images } }

  kept : KeepsQueues (λ q. true) p.stores.store.temp_storage (after_read_item p.stores.store.temp_storage q n)
  kept = subst (KeepsQueues (λ q. true) p.stores.store.temp_storage) value keeps

  -- the units show what the read leaves
  pub read_state : state_shown o trace outcomes commits (with_rows rows) ≡ after_ts_reading before q n
  read_state = ap (λ r. state_shown o trace outcomes commits (with_rows r)) value
      ∙ next_alone before (has_item (ts_queue (store_of before) q) n) (places_of (after_read_item p.stores.store.temp_storage q n)) (with_value q n before.next)
      (places_then before p.stores p.table is q n kept).places

  pub read_kept : AreValid (state_shown o trace outcomes commits (with_rows rows)) (with_rows rows).stores p.table
  read_kept = subst (λ s. AreValid s (with_rows rows).stores p.table) (sym read_state)
      (subst (λ r. AreValid (after_ts_reading before q n) (with_rows r).stores p.table) (sym value) (kept_read before p.stores p.table is q n kept))

  -- and the store that was there
  pub read_store : shown_store (with_rows rows).stores.store ≡ shown_store p.stores.store
  read_store = ap (λ r. shown_store (with_rows r).stores.store) value ∙ read_shown before p.stores p.table is q n kept
