-- Each call keeps the units: what their state says, what the files, the queues and the images hold,
-- and what the table tells.
use Rattle.std.proofs.Common.{◌≡◌, ℕ, ◌<◌, ◌≤◌, Bool, true, false, Option, Some, None, List, [], ◌∷◌, length, length-append, zero, suc, refl, ap, sym, subst, ◌∙◌, arith}
use Rattle.std.specs.Prelude.{is_some, IsSome, map, option_map, IsTrue, fold}
use Rattle.std.proofs.lemmas.Bool.{false≢true, true≢false, and_parts}
use Rattle.std.proofs.lemmas.List.{length-set}
use Rattle.cics_names.specs.Keyed.{Bytes, Map, value_at, has_key, is_same, is_key_in}
use Rattle.cics_names.specs.KeyedLaws.{is_same-eq}
use Rattle.cics_images.specs.Cells.{AreReadyInTurn, LeadBack, images_of, is_unnamed, all_swept}
use Rattle.cics_images.specs.NamedValues.{split, of_value, of_split}
use Rattle.cics_ksds.specs.Files.{FileValue, key_of as file_key_of, fits_file}
use Rattle.cics_enqueue.specs.Table.{Table, released}
use Rattle.cics_tempstor.specs.Queues.{places_of}
use Rattle.cics_tempstor.specs.Places.{AreInOrder}
use Rattle.cics_transdata.specs.Trans.{TransState, is_logical, queue_of}
use Rattle.cics_history.specs.State.{OpeningState, FileOpening, QueueOpening, file_recoverable, queue_logical, initial_store, UnitsState, UpdateRead, EnqCount, initial_units}
use Rattle.cics_history.specs.Openings.{HasLawfulKeys, IsOpeningInOrder}
use Rattle.cics_history.specs.Store.{apply}
use Rattle.cics_history.specs.Headline.{is_open, kept, IsHeadline}
use Rattle.cics_history.specs.Holding.{store_of, awaited}
use Rattle.cics_history.proofs.Alone.{left_no_trace}
use Rattle.cics_history.proofs.Ready.{ready_short}
use Rattle.cics_history.specs.Execution.{unit_or_next, outcomes_with, entered, state_of, after_execution, after_unlock, after_end, read_at, is_fit_for, is_ready_op}
use Rattle.cics_history.specs.Cells.{IsCanonical}
use Rattle.cics_history.specs.Events.{may_act, is_live}
use Rattle.cics_history.specs.Isolation.{IsSound}
use Rattle.cics_history.specs.Serial.{IsSerializable, IsInOrder}
use Rattle.cics_history.specs.declared.ops.Op.{Op}
use Rattle.cics_history.specs.declared.ops.Op.TheVariants.{Write, Rewrite, Delete, DeleteGeneric, ReadUpdate, TdWrite, TdRead, TdDelete}
use Rattle.cics_history.specs.declared.ops.Answer.{Answer}
use Rattle.cics_history.specs.declared.ops.UnitState.{UnitState}
use Rattle.cics_history.specs.declared.ops.UnitState.TheVariants.{Open, Committed, BackedOut}
use Rattle.cics_units.specs.Opening.RegionFiles.{IsThere, opened_files, file_of as file_of_opening}
use Rattle.cics_units.specs.Opening.FilesImages.{files_hold}
use Rattle.cics_units.specs.Opening.StoreMatching.{StoreValue, StoreWithImages, shown_store, cell_of_any, AnyLeads, any_content, IsAnyReady, any_undone, any_swept, any_holds, AnyKeep, AreImagesOf as KeptChanges}
use Rattle.cics_units.specs.StoreInPlace.{IsUnmarked, AreInPlace}
use Rattle.cics_units.specs.StoreEnds.{any_fixed, ends_settled, IsEnded}
use Rattle.cics_units.specs.ImageRows.{kept_by, AreOthersKept, AreHeldForImages}
use Rattle.cics_units.specs.ImageRowsLaws.{held_after_change}
use Rattle.cics_units.specs.TableInPlace.{IsTableOf, table_executed, table_unlocked}
use Rattle.cics_units.specs.Parts.{is_recoverable_in, IsRecordOf, IsFitOp}
use Rattle.cics_units.specs.StorePlaces.{HavePlaces}
use Rattle.cics_units.specs.Awaiting.{is_logical_in}
use Rattle.cics_units.specs.Opening.RegionQueues.{opened_queue, opened_queues}
use Rattle.cics_units.specs.KeptUnits.{AreValid, AreAsDefined, opened_store}
use Rattle.cics_history.proofs.Stores.{same_store, apply-canonical, replay-canonical, initial-canonical, value_at_each}
use Rattle.cics_history.proofs.States.{initial_units-IsSound, execution-IsSound, unlock-IsSound, end-IsSound, agrees_of}
use Rattle.cics_history.proofs.SerialRuns.{initial_units-IsInOrder, execution-IsInOrder, commit-IsInOrder, backout-IsInOrder, unlock-IsInOrder, serializable_of}
use Rattle.cics_units.proofs.StoreInPlace.{shows_history, beginning_in_place}
use Rattle.cics_units.proofs.StoreEnded.{backed_out_ended}
use Rattle.cics_units.proofs.EndsFirst.{ends_first_ended, ends_first_shows}
use Rattle.cics_units.proofs.TableInPlace.{table_begins, table_entered, table_unlocked_of, table_ended_of}

-- nothing is not something
none_some : {A : Type 0} {x : A} → None ≡ Some x → ⊥
none_some e = cc

-- ---- What is held back
-- with more room the units keep the same images of the same store
pub roomier_held : (st new : StoreWithImages) → AreHeldForImages any_holds cell_of_any st.store st.images → new.store ≡ st.store →
    ((w : ℕ) → kept_by new.images w ≡ kept_by st.images w) → AreHeldForImages any_holds cell_of_any new.store new.images
roomier_held st new held store same c has =
    let before = held c (sym (ap (λ m. any_holds m c) store) ∙ has) in
    (before.0, ap (λ is. is_unnamed cell_of_any is c) (same before.0) ∙ before.1)

-- the files of an opening have no empty place
none_held : (files : Map FileOpening) (c : List ℕ) → files_hold (opened_files files) c ≡ false
none_held files c = by (split c)
  where
    by : (e : Option (Bytes × List ℕ)) → of_split false (λ (f : FileValue) (k : List ℕ). is_key_in k f.empties) (opened_files files) e ≡ false
    by None = refl
    by (Some e) = ap (of_value false (λ (f : FileValue). is_key_in e.1 f.empties)) (value_at_each file_of_opening e.0 files) ∙ opened (value_at e.0 files)
      where
        opened : (o : Option FileOpening) → of_value false (λ (f : FileValue). is_key_in e.1 f.empties) (option_map file_of_opening o) ≡ false
        opened None = refl
        opened (Some x) = refl

-- nothing is held back in what a region begins with
opened_holds : (o : OpeningState) (c : List ℕ) → any_holds (opened_store o) c ≡ false
opened_holds o [] = refl
opened_holds o (zero ∷ c) = none_held o.files c
opened_holds o (suc zero ∷ c) = refl
opened_holds o (suc (suc zero) ∷ c) = refl
opened_holds o (suc (suc (suc n)) ∷ c) = refl

module _ (s : UnitsState) (st : StoreWithImages) (t : Table) (is : AreValid s st t) where
  -- ---- What the files are to the opening
  -- each file stands there as it was defined
  same_definition : (f : Bytes) → option_map (λ x. x.definition) (value_at f st.store.files) ≡ option_map (λ file. file.definition) (value_at f s.opening.files)
  same_definition f = is.defined.files f

  -- a file is there just if it is defined, and is recoverable just if its definition is
  pub recoverable_alike : (f : Bytes) → is_recoverable_in (value_at f st.store.files) ≡ file_recoverable s.opening f
  recoverable_alike f = by (value_at f st.store.files) (value_at f s.opening.files) (same_definition f) ∙ sym (defined_recoverable (value_at f s.opening.files) refl)
    where
      is_recoverable_def : Option FileOpening → Bool
      is_recoverable_def None = false
      is_recoverable_def (Some y) = y.definition.recoverable

      defined_recoverable : (b : Option FileOpening) → value_at f s.opening.files ≡ b → file_recoverable s.opening f ≡ is_recoverable_def b
      defined_recoverable None e = rw e refl
      defined_recoverable (Some y) e = rw e refl

      by : (a : Option FileValue) (b : Option FileOpening) → option_map (λ x. x.definition) a ≡ option_map (λ x. x.definition) b → is_recoverable_in a ≡ is_recoverable_def b
      by None None e = refl
      by None (Some y) e = absurd (none_some e)
      by (Some x) None e = absurd (none_some (sym e))
      by (Some x) (Some y) e = let d : x.definition ≡ y.definition = cc in ap (λ z. z.recoverable) d

  -- it is LOGICAL just if it is defined so
  pub logical_alike : (q : Bytes) → queue_logical s.opening q ≡ is_logical_in (value_at q st.store.trans_data)
  logical_alike q = by (value_at q s.opening.queues) refl (value_at q st.store.trans_data) (is.defined.queues q)
    where
      by : (b : Option QueueOpening) → value_at q s.opening.queues ≡ b → (a : Option TransState) →
          option_map (λ t. t.kind) a ≡ option_map (λ queue. queue.recovery) b → queue_logical s.opening q ≡ is_logical_in a
      by None e None same = rw e refl
      by None e (Some x) same = absurd (none_some (sym same))
      by (Some y) e None same = absurd (none_some same)
      by (Some y) e (Some x) same = let kind : x.kind ≡ y.recovery = cc in sym (ap is_logical kind ∙ sym (rw e refl))

  -- a file that is defined is there
  defined_there : (f : Bytes) → has_key f s.opening.files ≡ true → IsThere (value_at f st.store.files)
  defined_there f has = by (value_at f st.store.files) (value_at f s.opening.files) (same_definition f) has
    where
      by : (a : Option FileValue) (b : Option FileOpening) → option_map (λ x. x.definition) a ≡ option_map (λ x. x.definition) b → is_some b ≡ true → IsThere a
      by None None e has = absurd (false≢true has)
      by None (Some y) e has = absurd (none_some e)
      by (Some x) b e has = tt

  -- a record that fits the definition fits the file
  record_of_defined : (f k r : Bytes) → is_fit_for (value_at f s.opening.files) k r ≡ true → IsRecordOf (value_at f st.store.files) k r
  record_of_defined f k r fits = by (value_at f st.store.files) (value_at f s.opening.files) (same_definition f) fits
    where
      by : (a : Option FileValue) (b : Option FileOpening) → option_map (λ x. x.definition) a ≡ option_map (λ x. x.definition) b → is_fit_for b k r ≡ true → IsRecordOf a k r
      by None None e fits = absurd (false≢true fits)
      by None (Some y) e fits = absurd (none_some e)
      by (Some x) None e fits = absurd (false≢true fits)
      by (Some x) (Some y) e fits =
          let d : x.definition ≡ y.definition = cc in
          let both = and_parts (fits_file y.definition r) (is_same (file_key_of y.definition r) k) fits in
          subst (λ z. IsTrue (fits_file z r) × (file_key_of z r ≡ k)) (sym d) (both.0, is_same-eq (file_key_of y.definition r) k both.1)

  -- a queue that is defined is there
  defined_queue : (q : Bytes) → has_key q s.opening.queues ≡ true → IsSome (value_at q st.store.trans_data)
  defined_queue q has = by (value_at q st.store.trans_data) (value_at q s.opening.queues) (is.defined.queues q) has
    where
      by : (a : Option TransState) (b : Option QueueOpening) → option_map (λ t. t.kind) a ≡ option_map (λ queue. queue.recovery) b → is_some b ≡ true → IsSome a
      by None None e has = absurd (false≢true has)
      by None (Some y) e has = absurd (none_some e)
      by (Some x) b e has = refl

  -- a command that is ready can be executed on the files and queues
  pub ready_fits : (u : Option ℕ) (op : Op) → is_ready_op s u op ≡ true → IsFitOp st.store op
  ready_fits u (Write f k r) ready = record_of_defined f k r ready
  ready_fits u (Rewrite f k r) ready = record_of_defined f k r (and_parts (is_fit_for (value_at f s.opening.files) k r) _ ready).0
  ready_fits u (Delete f k) ready = defined_there f (and_parts (has_key f s.opening.files) _ ready).0
  ready_fits u (DeleteGeneric f p) ready = defined_there f (and_parts (has_key f s.opening.files) _ ready).0
  ready_fits u (ReadUpdate f k) ready = defined_there f (and_parts (has_key f s.opening.files) _ (and_parts _ _ ready).0).0
  ready_fits u (TdWrite q d) ready = defined_queue q (and_parts (has_key q s.opening.queues) _ ready).0
  ready_fits u (TdRead q) ready = defined_queue q ready
  ready_fits u (TdDelete q) ready = defined_queue q ready
  ready_fits u _ ready = tt

  -- ---- The store is the replay
  -- what the files and queues show is what the kept history gives
  pub store_is : shown_store st.store ≡ store_of s
  store_is = same_store (shown_store st.store) (store_of s) is.canonical
      (replay-canonical (initial_store s.opening) (kept s.opening s.trace s.outcomes) (initial-canonical s.opening is.in_order))
      (shows_history s st.store st.images is.place)

  -- and the history's answers are those that were given
  pub kept_headline : IsHeadline (record { state = s; store = shown_store st.store })
  kept_headline = record {
    store = store_is;
    agrees = agrees_of s is.sound;
    alone = left_no_trace (record { state = s; store = shown_store st.store }) is.in_order store_is;
  }

  -- and the units that committed are serializable
  pub kept_serializable : IsSerializable (record { state = s; store = shown_store st.store })
  kept_serializable = serializable_of (record { state = s; store = shown_store st.store }) is.order is.sound.known (initial-canonical s.opening is.in_order) store_is

  -- ---- Room for more images
  -- images in longer lists that keep the same
  pub kept_roomier : (new : StoreWithImages) → new.store ≡ st.store → ((w : ℕ) → kept_by new.images w ≡ kept_by st.images w) → length st.images ≤ length new.images → AreValid s new t
  kept_roomier new store same longer = record {
    in_order = is.in_order;
    lawful_keys = is.lawful_keys;
    sound = is.sound;
    order = is.order;
    canonical = subst (λ m. IsCanonical (shown_store m)) (sym store) is.canonical;
    place = subst (λ m. AreInPlace s m new.images) (sym store) (record {
      changes = is.place.changes;
      marks = is.place.marks;
      place = is.place.place;
      ends = is.place.ends;
      queues = is.place.queues;
      kept = λ w. subst (KeptChanges (is.place.changes w) (is.place.marks.images w)) (sym (same w)) (is.place.kept w);
      ready = λ w. subst (AreReadyInTurn IsAnyReady any_undone st.store) (sym (same w)) (is.place.ready w);
      over = λ w shut. same w ∙ is.place.over w shut;
    });
    defined = subst (AreAsDefined s.opening) (sym store) is.defined;
    rows = subst (λ (m : StoreValue). AreInOrder m.temp_storage) (sym store) is.rows;
    places = is.places ∙ ap (λ (m : StoreValue). places_of m.temp_storage) (sym store);
    table = is.table;
    held = roomier_held st new is.held store same;
    begun = omega (arith, is.begun, longer);
  }

-- ---- The beginning
module _ (o : OpeningState) (in_order : IsOpeningInOrder o) (lawful_keys : HasLawfulKeys o) where
  -- the files show what was loaded
  loaded_files : (es : Map FileOpening) → map {B = Bytes × Map Bytes} (λ e. (e.0, e.1.records)) (opened_files es) ≡ map (λ e. (e.0, e.1.records)) es
  loaded_files [] = refl
  loaded_files (e ∷ es) = ap (λ l. (e.0, e.1.records) ∷ l) (loaded_files es)

  -- and so do the queues
  loaded_queues : (es : Map QueueOpening) → map {B = Bytes × List Bytes} (λ e. (e.0, queue_of e.1)) (opened_queues es) ≡ map (λ e. (e.0, e.1.records)) es
  loaded_queues [] = refl
  loaded_queues (e ∷ es) = ap (λ l. (e.0, e.1.records) ∷ l) (loaded_queues es)

  -- so the store is that of the opening
  opened_shown : shown_store (opened_store o) ≡ initial_store o
  opened_shown = λ i. record { files = loaded_files o.files i; ts = []; td = loaded_queues o.queues i }

  -- no record of a queue is marked
  unmarked : (q : Bytes) (t : TransState) → queue_logical o q ≡ true → value_at q (opened_queues o.queues) ≡ Some t → IsUnmarked t
  unmarked q t l at = by (value_at q o.queues) refl (sym (value_at_each opened_queue q o.queues) ∙ at)
    where
      by : (b : Option QueueOpening) → value_at q o.queues ≡ b → option_map opened_queue b ≡ Some t → IsUnmarked t
      by None e same = absurd (none_some same)
      by (Some y) e same =
          let is : opened_queue y ≡ t = cc in
          subst IsUnmarked is (record { logical = rw e at l; read = refl; written = refl })

  -- each file has its definition, and each queue its recovery
  opened_defined : AreAsDefined o (opened_store o)
  opened_defined = record {
    files = λ f. ap (option_map (λ x. x.definition)) (value_at_each file_of_opening f o.files) ∙ of_file (value_at f o.files);
    queues = λ q. ap (option_map (λ t. t.kind)) (value_at_each opened_queue q o.queues) ∙ of_queue (value_at q o.queues);
  }
    where
      of_file : (b : Option FileOpening) → option_map (λ x. x.definition) (option_map file_of_opening b) ≡ option_map (λ file. file.definition) b
      of_file None = refl
      of_file (Some y) = refl

      of_queue : (b : Option QueueOpening) → option_map (λ t. t.kind) (option_map opened_queue b) ≡ option_map (λ queue. queue.recovery) b
      of_queue None = refl
      of_queue (Some y) = refl

  -- so the opened store is kept at the beginning
  opened_kept : AreValid (initial_units o) (record { store = opened_store o; images = [] }) []
  opened_kept = record {
    in_order = in_order;
    lawful_keys = lawful_keys;
    sound = initial_units-IsSound o in_order;
    order = initial_units-IsInOrder o in_order;
    canonical = subst IsCanonical (sym opened_shown) (initial-canonical o in_order);
    place = beginning_in_place o (opened_store o) opened_shown unmarked;
    defined = opened_defined;
    rows = record { rising = tt; hides = λ q none. refl };
    places = refl;
    table = table_begins o;
    held = λ c has. absurd (true≢false (sym has ∙ opened_holds o c));
    begun = omega arith;
  }

  -- a region that begins with what its opening gives keeps it
  pub kept_begins : (m : StoreValue) → m ≡ opened_store o → AreValid (initial_units o) (record { store = m; images = [] }) []
  kept_begins m opened = subst (λ x. AreValid (initial_units o) (record { store = x; images = [] }) []) (sym opened) opened_kept

-- ---- A command

module _ (s : UnitsState) (st new : StoreWithImages) (t : Table) (is : AreValid s st t) (u : Option ℕ) (op : Op) (acts : may_act s u ≡ true)
    (free : awaited s u op ≡ None) where
  -- what the command answers
  abbrev answer : Answer
  answer = (apply (store_of s) op).answer

  -- it need not wait, and is entered with its answer
  pub is_entered : after_execution s u op ≡ entered s u op answer
  is_entered = ap (state_of s u op) free

  module _ (ready : is_ready_op s u op ≡ true) (room : unit_or_next u s.outcomes < length st.images) where
    -- a command that leaves all in place keeps all
    pub kept_left : AreInPlace (after_execution s u op) new.store new.images → shown_store new.store ≡ (apply (shown_store st.store) op).store → AreAsDefined s.opening new.store →
        HavePlaces (entered s u op answer) new.store.temp_storage → AreOthersKept st.images new.images (unit_or_next u s.outcomes) →
        ((c : List ℕ) → is_unnamed cell_of_any (kept_by new.images (unit_or_next u s.outcomes)) c ≡ true → any_holds new.store c ≡ true → any_holds st.store c ≡ true) →
        ((c : List ℕ) → is_unnamed cell_of_any (kept_by st.images (unit_or_next u s.outcomes)) c ≡ false →
        is_unnamed cell_of_any (kept_by new.images (unit_or_next u s.outcomes)) c ≡ false) →
        AreValid (entered s u op answer) new (table_executed s.opening (unit_or_next u s.outcomes) op answer.condition s.reads t)
    kept_left place shown defined places apart held more = record {
      in_order = is.in_order;
      lawful_keys = is.lawful_keys;
      sound = subst IsSound is_entered (execution-IsSound s u op is.sound acts);
      order = subst IsInOrder is_entered (execution-IsInOrder s u op is.sound is.order acts);
      canonical = subst IsCanonical (sym shown) (apply-canonical (shown_store st.store) op is.canonical);
      place = subst (λ n. AreInPlace n new.store new.images) is_entered place;
      defined = defined;
      rows = places.in_order;
      places = sym places.places;
      table = table_entered s t u op answer is.sound is.table acts free ready (ready_short s u op is.lawful_keys ready);
      held = held_after_change any_holds cell_of_any st.store new.store st.images new.images (unit_or_next u s.outcomes) apart held more is.held;
      begun = begun_by u room;
    }
      where
        begun_by : (u : Option ℕ) → unit_or_next u s.outcomes < length st.images → length (outcomes_with u s.outcomes) ≤ length new.images
        begun_by None room = omega (arith, length-append s.outcomes (Open ∷ []), apart.count, room)
        begun_by (Some v) room = omega (arith, is.begun, apart.count)

-- ---- Other update reads and counts
module _ (s : UnitsState) (st : StoreWithImages) (t left : Table) (is : AreValid s st t) (reads : List UpdateRead) (counts : List EnqCount) where
  abbrev changed : UnitsState
  changed = record s { reads = reads; counts = counts }

  -- the units keep all with other reads and counts that leave them apart and in order, and that the
  -- table has
  pub kept_with : IsSound changed → IsInOrder changed → IsTableOf changed left → AreValid changed st left
  kept_with sound order table = record {
    in_order = is.in_order;
    lawful_keys = is.lawful_keys;
    sound = sound;
    order = order;
    canonical = is.canonical;
    place = record {
      changes = is.place.changes;
      marks = is.place.marks;
      place = is.place.place;
      ends = is.place.ends;
      queues = is.place.queues;
      kept = is.place.kept;
      ready = is.place.ready;
      over = is.place.over;
    };
    defined = is.defined;
    rows = is.rows;
    places = is.places;
    table = table;
    held = is.held;
    begun = is.begun;
  }

-- UNLOCK changes neither the store nor what holds of it
pub kept_unlocked : (s : UnitsState) (st : StoreWithImages) (t : Table) → AreValid s st t → (u : ℕ) (f : Bytes) → is_live s u ≡ true →
    AreValid (after_unlock s u f) st (table_unlocked s.opening u f (read_at s.reads u f) t)
kept_unlocked s st t is u f live = kept_with s st t (table_unlocked s.opening u f (read_at s.reads u f) t) is (after_unlock s u f).reads s.counts
    (unlock-IsSound s u f is.sound) (unlock-IsInOrder s is.order u f) (table_unlocked_of s t u f is.sound is.table live)

-- ---- The end of a unit
-- what the end of a unit leaves is kept
pub kept_ended : (s : UnitsState) (st new : StoreWithImages) (t : Table) → AreValid s st t → (u : ℕ) → is_live s u ≡ true → (outcome : UnitState) → is_open outcome ≡ false →
    AreOthersKept st.images new.images u → IsEnded s st.store new.store st.images new.images u outcome → AreValid (after_end s u outcome) new (released t u)
kept_ended s st new t is u live outcome shut others end = record {
  in_order = is.in_order;
  lawful_keys = is.lawful_keys;
  sound = end-IsSound s u outcome is.sound live;
  order = in_order outcome shut;
  canonical = end.canonical;
  place = end.place;
  defined = record {
    files = λ f. ap (λ d. d f) end.definitions ∙ is.defined.files f;
    queues = λ q. end.kinds q ∙ is.defined.queues q;
  };
  rows = end.rows;
  places = end.next is.places;
  table = table_ended_of s t u outcome is.sound is.table live shut;
  held = end.held is.held;
  begun = omega (arith, is.begun, others.count, length-set s.outcomes u outcome);
}
  where
    in_order : (outcome : UnitState) → is_open outcome ≡ false → IsInOrder (after_end s u outcome)
    in_order Committed shut = commit-IsInOrder s u live is.order
    in_order BackedOut shut = backout-IsInOrder s u live is.order
    in_order Open shut = absurd (true≢false shut)

module _ (s : UnitsState) (st new : StoreWithImages) (t : Table) (is : AreValid s st t) (u : ℕ) (live : is_live s u ≡ true)
    (gone : kept_by new.images u ≡ []) (others : AreOthersKept st.images new.images u) where
  -- BACKOUT: the unit's images are undone, the newest first, and then their cells are swept
  pub kept_backed_out : ((c : List ℕ) → LeadBack AnyLeads (images_of cell_of_any c (kept_by st.images u)) (any_content st.store c) (any_content new.store c)) →
      AnyKeep (is_unnamed cell_of_any (kept_by st.images u)) st.store new.store → any_fixed new.store ≡ any_fixed st.store →
      (AreHeldForImages any_holds cell_of_any st.store st.images → AreHeldForImages any_holds cell_of_any new.store new.images) →
      new.store ≡ all_swept any_swept cell_of_any (fold any_undone st.store (kept_by st.images u)) (kept_by st.images u) →
      AreValid (after_end s u BackedOut) new (released t u)
  kept_backed_out led keeps fixed held whole = kept_ended s st new t is u live BackedOut refl others
      (backed_out_ended s st.store new.store st.images new.images u is.in_order is.sound live is.place is.canonical is.rows gone others led keeps fixed held whole)

  -- the store in place once the ends are settled that the unit's images are of
  abbrev settled : StoreValue
  settled = ends_settled st.store (kept_by st.images u)

  -- COMMIT: then its images are given up
  module _ (contents : (c : List ℕ) → any_content new.store c ≡ any_content settled c)
      (keeps : AnyKeep (is_unnamed cell_of_any (kept_by st.images u)) settled new.store) (fixed : any_fixed new.store ≡ any_fixed settled)
      (held : AreHeldForImages any_holds cell_of_any settled st.images → AreHeldForImages any_holds cell_of_any new.store new.images)
      (whole : new.store ≡ all_swept any_swept cell_of_any settled (kept_by st.images u)) where
    -- so all is kept without the unit
    pub kept_committed : AreValid (after_end s u Committed) new (released t u)
    kept_committed = kept_ended s st new t is u live Committed refl others
        (ends_first_ended s st.store settled new.store st.images new.images u is.in_order is.sound live is.place is.canonical is.rows refl gone others contents keeps fixed held whole)

    -- a commit leaves the store
    pub committed_store : shown_store new.store ≡ shown_store st.store
    committed_store = ends_first_shows s st.store settled new.store st.images new.images u is.in_order is.sound live is.place is.canonical is.rows refl gone others contents keeps
        fixed held whole
