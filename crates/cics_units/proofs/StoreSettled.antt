-- A commit settles the ends that the images of its unit are of, which come to all that the unit
-- owns: an end that it owns without an image has no mark.
use Rattle.std.proofs.Common.{arith, ◌≡◌, ◌≤◌, ℕ, zero, suc, Bool, true, false, ◌&&◌, ◌||◌, if◌then◌else◌, Option, Some, None, List, [], ◌∷◌, length, length-drop, drop, refl, ap, sym, subst, ◌∙◌, inl, inr}
use Rattle.std.specs.Prelude.{fold, option_map, min}
use Rattle.std.specs.List.{list_any}
use Rattle.std.proofs.lemmas.Bool.{true≢false, false≢true, cases_Bool, and_parts, or_parts}
use Rattle.std.proofs.lemmas.Iterator.Adapters.{option_map_id}
use Rattle.cics_names.specs.Keyed.{Bytes, value_at, is_same, is_rising}
use Rattle.cics_names.specs.KeyedLaws.{is_same-self, is_same-other}
use Rattle.cics_images.specs.Cells.{Kept, all_swept}
use Rattle.cics_images.specs.Cells as images
use Rattle.cics_images.specs.NamedValues.{changed_at}
use Rattle.cics_images.specs.NamedLaws.{each_name}
use Rattle.cics_images.specs.StoreCells.{with_trans_data}
use Rattle.cics_images.specs.declared.stores.StoreImage.TheVariants.{File, TempStorage, TransData}
use Rattle.cics_transdata.specs.declared.images.TdImage.{TdImage}
use Rattle.cics_transdata.specs.declared.images.TdImage.TheVariants.{Taken, Written}
use Rattle.cics_transdata.specs.Trans.{TransState, queue_of, reader_committed, writer_committed}
use Rattle.cics_history.specs.State.{queue_logical, UnitsState}
use Rattle.cics_history.specs.Headline.{outcome_of, is_open}
use Rattle.cics_history.specs.Cells.{Td, End, Reading, Writing}
use Rattle.cics_history.specs.Events.{is_live}
use Rattle.cics_history.specs.Isolation.{used}
use Rattle.cics_history.specs.Undo.{Image}
use Rattle.cics_history.specs.Marks.{unwritten}
use Rattle.cics_history.specs.MarkImages.{MarkImage, OfReading, OfWriting, queue_of as queue_of_mark}
use Rattle.cics_history.specs.Ends.{is_of_reading, is_of_writing, LeadsTaken, LeadsFresh, HasEnds}
use Rattle.cics_history.specs.Carried.{Carries}
use Rattle.cics_history.proofs.Maps.{same_map}
use Rattle.cics_units.specs.ImageRows.{kept_by}
use Rattle.cics_units.specs.Opening.StoreMatching.{StoreValue, AnyImage, QueuesImage, shown_store, cell_of_any, any_swept, AreImagesOf, any_holds}
use Rattle.cics_units.specs.StoreInPlace.{HasMarks, AreInPlace, writer_ended, reader_ended, committed_at}
use Rattle.cics_units.specs.StoreEnds.{kind_at, end_committed, is_at_end, end_settled, writers_settled, ends_settled, has_end}
use Rattle.cics_units.proofs.OfOpening.Opened.{value_at-each, rising-each}
use Rattle.cics_units.proofs.StoreMatched.{is_of_end, none_of_end}
use Rattle.cics_units.proofs.StoreQueues.{all_swept_queue}
use Rattle.cics_units.proofs.StoreEnds.{rising-changed}

-- ---- one end of the queues
-- the queue after the unit at this end commits, or as it is
abbrev end_ended : End → Bool → TransState → TransState
end_ended end ends t = if ends then end_committed end t else t

-- an end that is committed twice is as after the first time
committed_again : (end : End) (t : TransState) → end_committed end (end_committed end t) ≡ end_committed end t
committed_again Writing t = refl
committed_again Reading t =
    let same : min (min t.written (length (queue_of t))) (length (queue_of t)) ≡ min t.written (length (queue_of t)) = omega arith in
    λ i. record { kind = t.kind; placed = queue_of t; read = 0; written = same i }

-- a queue that is committed twice, or not, is committed if it is once
ended_twice : (end : End) (first second : Bool) (o : Option TransState) →
    option_map (end_ended end second) (option_map (end_ended end first) o) ≡ option_map (end_ended end (first || second)) o
ended_twice end first second None = refl
ended_twice end false second (Some t) = refl
ended_twice end true false (Some t) = refl
ended_twice end true true (Some t) = ap Some (committed_again end t)

-- what a commit of each end leaves, the commit of both or of one leaves
ends_leave : {A : Type 0} (f : TransState → A) → ((t : TransState) → f (reader_committed t) ≡ f t) → ((t : TransState) → f (writer_committed t) ≡ f t) →
    (reads writes : Bool) (o : Option TransState) → option_map f (option_map (reader_ended reads) (option_map (writer_ended writes) o)) ≡ option_map f o
ends_leave f reader writer reads writes None = refl
ends_leave f reader writer false false (Some t) = refl
ends_leave f reader writer false true (Some t) = ap Some (writer t)
ends_leave f reader writer true false (Some t) = ap Some (reader t)
ends_leave f reader writer true true (Some t) = ap Some (reader (writer_committed t) ∙ writer t)

module _ (end : End) where
  -- the store in place after this end is settled if the images are of it
  abbrev settled : StoreValue → List AnyImage → StoreValue
  settled m is = fold (λ s i. end_settled end s i) m is

  -- one image of a queue commits the queue of its name if it is of the end
  one_settled : (s : StoreValue) (i : QueuesImage) (q : Bytes) →
      value_at q (end_settled end s (TransData i)).trans_data
      ≡ option_map (end_ended end (is_at_end end i.image && is_same i.name q)) (value_at q s.trans_data)
  one_settled s i q = by (is_at_end end i.image)
    where
      by : (b : Bool) → value_at q (if b then with_trans_data s (changed_at (λ t. end_committed end t) i.name s.trans_data) else s).trans_data
          ≡ option_map (end_ended end (b && is_same i.name q)) (value_at q s.trans_data)
      by false = sym (option_map_id (value_at q s.trans_data))
      by true = each_name (λ t. end_committed end t) i.name s.trans_data (λ q o r. r ≡ option_map (end_ended end (is_same i.name q)) o)
          (ap (λ b. option_map (end_ended end b) (value_at i.name s.trans_data)) (sym (is_same-self i.name)))
          (λ q apart. sym (option_map_id (value_at q s.trans_data))
          ∙ ap (λ b. option_map (end_ended end b) (value_at q s.trans_data)) (sym (is_same-other i.name q (λ e. apart (sym e))))) q

  -- the images commit the end of a queue if one of them is of it
  settled_at : (is : List AnyImage) (m : StoreValue) (q : Bytes) →
      value_at q (settled m is).trans_data ≡ option_map (end_ended end (has_end q end is)) (value_at q m.trans_data)
  settled_at [] m q = sym (option_map_id (value_at q m.trans_data))
  settled_at (File i ∷ is) m q = settled_at is m q
  settled_at (TempStorage i ∷ is) m q = settled_at is m q
  settled_at (TransData i ∷ is) m q =
      settled_at is (end_settled end m (TransData i)) q ∙ ap (option_map (end_ended end (has_end q end is))) (one_settled m i q)
      ∙ ended_twice end (is_at_end end i.image && is_same i.name q) (has_end q end is) (value_at q m.trans_data)

  -- what each commit of a queue's end keeps, all of them keep
  settled_keeps : (P : StoreValue → Type 0) → ((s : StoreValue) (q : Bytes) → P s →
      P (with_trans_data s (changed_at (λ t. end_committed end t) q s.trans_data))) → (is : List AnyImage) (m : StoreValue) → P m → P (settled m is)
  settled_keeps P keeps [] m h = h
  settled_keeps P keeps (File i ∷ is) m h = settled_keeps P keeps is m h
  settled_keeps P keeps (TempStorage i ∷ is) m h = settled_keeps P keeps is m h
  settled_keeps P keeps (TransData i ∷ is) m h = settled_keeps P keeps is (end_settled end m (TransData i)) (by (is_at_end end i.image))
    where
      by : (b : Bool) → P (if b then with_trans_data m (changed_at (λ t. end_committed end t) i.name m.trans_data) else m)
      by true = keeps m i.name h
      by false = h

-- ---- both ends
module _ (m : StoreValue) (is : List AnyImage) where
  -- what each commit of an end of a queue keeps, both keep
  ends_keep : (P : StoreValue → Type 0) → ((end : End) (s : StoreValue) (q : Bytes) → P s →
      P (with_trans_data s (changed_at (λ t. end_committed end t) q s.trans_data))) → P m → P (ends_settled m is)
  ends_keep P keeps h = settled_keeps Reading P (keeps Reading) is (writers_settled m is) (settled_keeps Writing P (keeps Writing) is m h)

  -- the files stay
  pub ends_files : (ends_settled m is).files ≡ m.files
  ends_files = ends_keep (λ s. s.files ≡ m.files) (λ end s q h. h) refl

  -- the rows of temporary storage stay
  pub ends_rows : (ends_settled m is).temp_storage ≡ m.temp_storage
  ends_rows = ends_keep (λ s. s.temp_storage ≡ m.temp_storage) (λ end s q h. h) refl

  -- the names of the queues go on rising
  pub ends_rising : is_rising m.trans_data ≡ true → is_rising (ends_settled m is).trans_data ≡ true
  ends_rising = ends_keep (λ s. is_rising s.trans_data ≡ true) (λ end s q rising. rising-changed (λ t. end_committed end t) q s.trans_data rising)

  -- each queue has the ends committed that the images are of
  pub ends_at : (q : Bytes) → value_at q (ends_settled m is).trans_data
      ≡ option_map (reader_ended (has_end q Reading is)) (option_map (writer_ended (has_end q Writing is)) (value_at q m.trans_data))
  ends_at q = settled_at Reading is (writers_settled m is) q ∙ ap (option_map (reader_ended (has_end q Reading is))) (settled_at Writing is m q)

  -- each queue keeps its recovery
  pub ends_kinds : (q : Bytes) → kind_at (ends_settled m is) q ≡ kind_at m q
  ends_kinds q = ap (option_map (λ t. t.kind)) (ends_at q)
      ∙ ends_leave (λ t. t.kind) (λ t. refl) (λ t. refl) (has_end q Reading is) (has_end q Writing is) (value_at q m.trans_data)

  -- and shows what it showed, so that the store in place does
  pub ends_shown : is_rising m.trans_data ≡ true → shown_store (ends_settled m is) ≡ shown_store m
  ends_shown rising = λ i. record {
    files = ap (λ files. (shown_store (record m { files = files })).files) ends_files i;
    ts = ap (λ rows. (shown_store (record m { temp_storage = rows })).ts) ends_rows i;
    td = queues i;
  }
    where
      queues : (shown_store (ends_settled m is)).td ≡ (shown_store m).td
      queues = same_map (shown_store (ends_settled m is)).td (shown_store m).td
          (rising-each queue_of (ends_settled m is).trans_data ∙ ends_rising rising) (rising-each queue_of m.trans_data ∙ rising) (λ q.
          value_at-each queue_of q (ends_settled m is).trans_data ∙ ap (option_map queue_of) (ends_at q)
          ∙ ends_leave queue_of (λ t. refl) (λ t. refl) (has_end q Reading is) (has_end q Writing is) (value_at q m.trans_data)
          ∙ sym (value_at-each queue_of q m.trans_data))

  -- nothing is held back for a mark, so what is held back stays
  pub ends_held : (c : images.Cell) → any_holds (ends_settled m is) c ≡ any_holds m c
  ends_held [] = refl
  ends_held (zero ∷ c) = ap (λ files. any_holds (record m { files = files }) (0 ∷ c)) ends_files
  ends_held (suc zero ∷ c) = ap (λ rows. any_holds (record m { temp_storage = rows }) (1 ∷ c)) ends_rows
  ends_held (suc (suc zero) ∷ c) = refl
  ends_held (suc (suc (suc n)) ∷ c) = refl

-- ---- the ends that the unit owns
-- the images that are kept are of the ends that the marks are of
kept_ends : (q : Bytes) (end : End) (cs : List Image) (ms : List MarkImage) (is : List AnyImage) → AreImagesOf cs ms is →
    has_end q end is ≡ list_any (is_of_end q end) ms
kept_ends q end cs ms [] kept = ap (λ l. list_any (is_of_end q end) l) (sym kept.1)
kept_ends q end [] ms (File i ∷ is) kept = absurd kept
kept_ends q end (c ∷ cs) ms (File i ∷ is) kept = kept_ends q end cs ms is kept.1
kept_ends q end [] ms (TempStorage i ∷ is) kept = absurd kept
kept_ends q end (c ∷ cs) ms (TempStorage i ∷ is) kept = kept_ends q end cs ms is kept.1
kept_ends q end cs [] (TransData i ∷ is) kept = absurd kept
kept_ends q end cs (m ∷ ms) (TransData i ∷ is) kept =
    ap (λ b. b || has_end q end is) (by i.image m end kept.0.carries kept.0.queue) ∙ ap (λ b. is_of_end q end m || b) (kept_ends q end cs ms is kept.1)
  where
    by : (image : TdImage) (m : MarkImage) (end : End) → Carries image m → i.name ≡ queue_of_mark m →
        (is_at_end end image && is_same i.name q) ≡ is_of_end q end m
    by (Taken n) (OfReading r before made) Reading carries named = ap (λ x. is_same x q) named
    by (Taken n) (OfReading r before made) Writing carries named = refl
    by Written (OfWriting r before made) Reading carries named = refl
    by Written (OfWriting r before made) Writing carries named = ap (λ x. is_same x q) named
    by (Taken n) (OfWriting r before made) end carries named = absurd carries
    by Written (OfReading r before made) end carries named = absurd carries

-- if no image is of the reading end, the images lead from no number of marks to another
taken_stays : (is : List MarkImage) (q : Bytes) (t to : ℕ) → list_any (is_of_reading q) is ≡ false → LeadsTaken is q t to → t ≡ to
taken_stays [] q t to none h = h
taken_stays (OfReading r before made ∷ is) q t to none h =
    let parts = or_parts (is_same r q) (list_any (is_of_reading q) is) none in taken_stays is q t to parts.1 (rw parts.0 at h)
taken_stays (OfWriting r before made ∷ is) q t to none h = taken_stays is q t to none h

-- and if none is of the writing end, from no written records to others
fresh_stays : (is : List MarkImage) (q : Bytes) (f to : List Bytes) → list_any (is_of_writing q) is ≡ false → LeadsFresh is q f to → f ≡ to
fresh_stays [] q f to none h = h
fresh_stays (OfWriting r before made ∷ is) q f to none h =
    let parts = or_parts (is_same r q) (list_any (is_of_writing q) is) none in fresh_stays is q f to parts.1 (rw parts.0 at h)
fresh_stays (OfReading r before made ∷ is) q f to none h = fresh_stays is q f to none h

-- to commit a writing end without a mark changes nothing
writer_alike : (named held : Bool) (t : TransState) → (named ≡ true → held ≡ true) → (held ≡ true → named ≡ false → t.written ≡ 0) →
    writer_ended named t ≡ writer_ended held t
writer_alike true true t holds none = refl
writer_alike false false t holds none = refl
writer_alike true false t holds none = absurd (false≢true (holds refl))
writer_alike false true t holds none = λ i. record { kind = t.kind; placed = t.placed; read = t.read; written = none refl refl i }

-- nor does it to commit such a reading end
reader_alike : (named held : Bool) (t : TransState) → t.written ≤ length t.placed → (named ≡ true → held ≡ true) →
    (held ≡ true → named ≡ false → t.read ≡ 0) → reader_ended named t ≡ reader_ended held t
reader_alike true true t within holds none = refl
reader_alike false false t within holds none = refl
reader_alike true false t within holds none = absurd (false≢true (holds refl))
reader_alike false true t within holds none =
    let unread : t.read ≡ 0 = none refl refl in
    let whole : t.placed ≡ queue_of t = sym (ap (λ n. drop n t.placed) unread) in
    let written : t.written ≡ min t.written (length (queue_of t)) = let rest = length-drop t.read t.placed in omega (arith, within, unread, rest) in
    λ i. record { kind = t.kind; placed = whole i; read = unread i; written = written i }

-- the writer's commit leaves what is marked as read
writer_reads : (b : Bool) (t : TransState) → (writer_ended b t).read ≡ t.read
writer_reads true t = refl
writer_reads false t = refl

-- and no more marks than records
writer_within : (b : Bool) (t : TransState) → t.written ≤ length t.placed → (writer_ended b t).written ≤ length (writer_ended b t).placed
writer_within true t within = omega arith
writer_within false t within = within

-- a queue that may be there, after both
both_ended : (r w : Bool) (o : Option TransState) → option_map (reader_ended r) (option_map (writer_ended w) o) ≡ option_map (λ t. reader_ended r (writer_ended w t)) o
both_ended r w None = refl
both_ended r w (Some t) = refl

module _ (s : UnitsState) (m mid : StoreValue) (images : List (Kept AnyImage)) (v : ℕ) (place : AreInPlace s m images) (live : is_live s v ≡ true)
    (whole : mid ≡ all_swept any_swept cell_of_any m (kept_by images v)) where
  -- the unit is open
  open_before : is_open (outcome_of s.outcomes v) ≡ true
  open_before = (and_parts _ _ live).1

  -- a queue that isn't LOGICAL has no image
  plain_settled : (q : Bytes) → queue_logical s.opening q ≡ false → (o : Option TransState) →
      option_map (λ t. reader_ended (has_end q Reading (kept_by images v)) (writer_ended (has_end q Writing (kept_by images v)) t)) o ≡ committed_at s v q o
  plain_settled q plain o =
      (λ j. option_map (λ t. reader_ended (none Reading j) (writer_ended (none Writing j) t)) o)
      ∙ sym (ap (λ b. option_map (λ t. reader_ended (b && used s.trace v (Td q) Reading) (writer_ended (b && used s.trace v (Td q) Writing) t)) o) plain)
    where
      none : (end : End) → has_end q end (kept_by images v) ≡ false
      none end = kept_ends q end (place.changes v) (place.marks.images v) (kept_by images v) (place.kept v)
          ∙ none_of_end q end (place.marks.images v) (place.ends.bare q plain v)

  -- of a LOGICAL queue the unit has images of ends that it owns, and an end that it owns without an
  -- image has no mark
  logical_settled : (q : Bytes) → queue_logical s.opening q ≡ true → (t : TransState) → HasMarks (place.marks.queues q) t →
      reader_ended (has_end q Reading (kept_by images v)) (writer_ended (has_end q Writing (kept_by images v)) t)
      ≡ reader_ended (used s.trace v (Td q) Reading) (writer_ended (used s.trace v (Td q) Writing) t)
  logical_settled q l t has =
      ap (reader_ended (has_end q Reading (kept_by images v)))
      (writer_alike (has_end q Writing (kept_by images v)) (used s.trace v (Td q) Writing) t (holds Writing) unwritten_end)
      ∙ reader_alike (has_end q Reading (kept_by images v)) (used s.trace v (Td q) Reading) (writer_ended (used s.trace v (Td q) Writing) t)
      (writer_within (used s.trace v (Td q) Writing) t has.within.written) (holds Reading)
      (λ reads none. writer_reads (used s.trace v (Td q) Writing) t ∙ unread_end reads none)
    where
      ends : HasEnds (used s.trace v (Td q) Reading) (used s.trace v (Td q) Writing) (place.marks.images v) q (place.marks.queues q)
      ends = place.ends.images q l v open_before

      marked : (end : End) → has_end q end (kept_by images v) ≡ list_any (is_of_end q end) (place.marks.images v)
      marked end = kept_ends q end (place.changes v) (place.marks.images v) (kept_by images v) (place.kept v)

      unheld : (end : End) → used s.trace v (Td q) end ≡ false → list_any (is_of_end q end) (place.marks.images v) ≡ false
      unheld Reading n = ends.none_of_reading n
      unheld Writing n = ends.none_of_writing n

      holds : (end : End) → has_end q end (kept_by images v) ≡ true → used s.trace v (Td q) end ≡ true
      holds end t = elim (cases_Bool (used s.trace v (Td q) end)) [
        | inl y ↦ y
        | inr n ↦ absurd (true≢false (sym t ∙ marked end ∙ unheld end n))
      ]

      unread_end : used s.trace v (Td q) Reading ≡ true → has_end q Reading (kept_by images v) ≡ false → t.read ≡ 0
      unread_end reads none = sym (ap (λ k. k.taken) has.marks)
          ∙ taken_stays (place.marks.images v) q (place.marks.queues q).taken 0 (sym (marked Reading) ∙ none)
          (subst (λ (b : Bool). LeadsTaken (place.marks.images v) q (place.marks.queues q).taken (if b then 0 else (place.marks.queues q).taken)) reads ends.taken)

      unwritten_end : used s.trace v (Td q) Writing ≡ true → has_end q Writing (kept_by images v) ≡ false → t.written ≡ 0
      unwritten_end writes none =
          let empty : drop (unwritten t) t.placed ≡ [] = sym (ap (λ k. k.fresh) has.marks)
          ∙ fresh_stays (place.marks.images v) q (place.marks.queues q).fresh [] (sym (marked Writing) ∙ none)
          (subst (λ (b : Bool). LeadsFresh (place.marks.images v) q (place.marks.queues q).fresh (if b then [] else (place.marks.queues q).fresh)) writes ends.fresh) in
          let rest = length-drop (unwritten t) t.placed in
          let short : length (drop (unwritten t) t.placed) ≡ 0 = ap length empty in
          omega (arith, rest, short, has.within.written)

  -- so each queue's ends are settled as the commit has to
  pub settled_as_held : (q : Bytes) → value_at q (ends_settled mid (kept_by images v)).trans_data ≡ committed_at s v q (value_at q mid.trans_data)
  settled_as_held q =
      ends_at mid (kept_by images v) q
      ∙ both_ended (has_end q Reading (kept_by images v)) (has_end q Writing (kept_by images v)) (value_at q mid.trans_data)
      ∙ elim (cases_Bool (queue_logical s.opening q)) [
        | inl l ↦ logical q l
        | inr plain ↦ plain_settled q plain (value_at q mid.trans_data)
      ]
    where
      queue_mid : (q : Bytes) → value_at q mid.trans_data ≡ value_at q m.trans_data
      queue_mid q = ap (λ (x : StoreValue). value_at q x.trans_data) whole ∙ all_swept_queue m (kept_by images v) q

      logical : (q : Bytes) → queue_logical s.opening q ≡ true →
          option_map (λ t. reader_ended (has_end q Reading (kept_by images v)) (writer_ended (has_end q Writing (kept_by images v)) t)) (value_at q mid.trans_data)
          ≡ committed_at s v q (value_at q mid.trans_data)
      logical q l =
          let queue = place.queues q l in
          subst (λ (o : Option TransState). option_map (λ t. reader_ended (has_end q Reading (kept_by images v)) (writer_ended
          (has_end q Writing (kept_by images v)) t)) o ≡ committed_at s v q o) (sym (queue_mid q ∙ queue.1))
          (ap Some (logical_settled q l queue.0 queue.2)
          ∙ ap (λ b. Some (reader_ended (b && used s.trace v (Td q) Reading) (writer_ended (b && used s.trace v (Td q) Writing) queue.0))) (sym l))
