-- The files of an opening: each has loaded records alone, and they are the files that a region
-- begins with.
use Rattle.std.specs.Prelude.{◌≡◌, ◌+◌, Bool, true, false, not, cond, if◌then◌else◌, ◌&&◌, T, IsTrue, IfSome, All, Option, Some, None, is_some, option_map, option_copied, List, [], ◌∷◌, ◌++◌, length, map, refl}
use Rattle.std.proofs.Common.{Bor, sym, ap, ◌∙◌, subst}
use Rattle.std.proofs.lemmas.List.Elements.{All-cons, All-nil, All-head, All-tail}
use Rattle.std.proofs.lemmas.Map.Entries.{All-lookup}
use Rattle.std.specs.BTreeMap.{is_at}
use Rattle.std.specs.declared.cmp.Ordering.TheVariants.{Less, Equal, Greater}
use Rattle.std.specs.Ordering.{is_lt}
use Rattle.std.specs.FinMap.Entries.{by_order, below_all}
use Rattle.cics_names.specs.Keyed.{Bytes, Map, bytes_cmp, is_same, value_at, has_key, with_value, is_rising, without_key}
use Rattle.cics_names.specs.KeyedLaws.{same_bytes}
use Rattle.cics_names.specs.RisingLaws.{rising-with_value}
use Rattle.cics_ksds.specs.Files.{FileValue, key_of, fits_file, written, filled}
use Rattle.cics_ksds.specs.declared.definition.FileDef.{FileDef}
use Rattle.cics_images.specs.NamedValues.{changed_at, changed_where}
use Rattle.cics_transdata.specs.declared.queues.Recovery.{Recovery}
use Rattle.cics_transdata.specs.Trans.{TransState, is_logical, holding, trans_written, writer_committed}
use Rattle.cics_history.specs.State.{OpeningState, FileOpening, QueueOpening, file_recoverable, queue_logical}
use Rattle.cics_history.specs.Openings.{with_record, with_queue, with_td_record, loaded_file, is_record_size, is_key, is_in_order, HasLawfulKeys, IsOpeningInOrder}
use Rattle.cics_units.specs.Opening.Faults.{file_fault, load_fault, load_td_fault}
use Rattle.cics_units.specs.declared.opening.opening.DefineFault.{DefineFault}
use Rattle.cics_units.specs.declared.opening.opening.DefineFault.TheVariants.{Duplicate, BadKey, BadLength, NotThere}
use Rattle.cics_units.specs.Opening.Opened.{opened_with}
use Rattle.cics_units.specs.Opening.RegionFiles.{opening_of, openings_of, opened_files, IsLoaded, AreLoaded}
use Rattle.cics_units.specs.Opening.RegionQueues.{loaded_with, queue_opening, queue_openings, opened_queue, opened_queues, IsLoadedQueue, AreLoadedQueues}
use Rattle.cics_history.proofs.Entries.{lookup-value_at}

-- ---- maps by name, each value seen in another way
module _ {X Y : Type 0} (v : X → Y) where
  abbrev pub each : Map X → Map Y
  each m = map (λ e. (e.0, v e.1)) m

  pub value_at-each : (k : Bytes) (m : Map X) → value_at k (each m) ≡ option_map v (value_at k m)
  value_at-each k [] = refl
  value_at-each k (e ∷ m) =
      elim (is_same k e.0) as (λ b. cond b (Some (v e.1)) (value_at k (each m)) ≡ option_map v (cond b (Some e.1) (value_at k m))) [
        | true ↦ refl
        | false ↦ value_at-each k m
      ]

  pub has_key-each : (k : Bytes) (m : Map X) → has_key k (each m) ≡ has_key k m
  has_key-each k m = ap is_some (value_at-each k m) ∙ kept (value_at k m)
    where
      kept : (o : Option X) → is_some (option_map v o) ≡ is_some o
      kept None = refl
      kept (Some x) = refl

  pub with_value-each : (k : Bytes) (x : X) (m : Map X) → each (with_value k x m) ≡ with_value k (v x) (each m)
  with_value-each k x [] = refl
  with_value-each k x (e ∷ m) =
      elim (bytes_cmp k e.0) as (λ o. each (by_order o ((k, x) ∷ e ∷ m) ((e.0, x) ∷ m) (e ∷ with_value k x m)) ≡ by_order o ((k, v x) ∷ (e.0, v e.1) ∷ each m) ((e.0, v x) ∷ each m) ((e.0, v e.1) ∷ with_value k (v x) (each m))) [
        | Less ↦ refl
        | Equal ↦ refl
        | Greater ↦ ap (λ r. (e.0, v e.1) ∷ r) (with_value-each k x m)
      ]

  below-each : (k : Bytes) (m : Map X) → below_all bytes_cmp k (each m) ≡ below_all bytes_cmp k m
  below-each k [] = refl
  below-each k (e ∷ m) = ap (λ b. is_lt (bytes_cmp k e.0) && b) (below-each k m)

  pub rising-each : (m : Map X) → is_rising (each m) ≡ is_rising m
  rising-each [] = refl
  rising-each (e ∷ m) = ap (λ b. b && is_rising (each m)) (below-each e.0 m) ∙ ap (λ b. below_all bytes_cmp e.0 m && b) (rising-each m)

-- ---- what holds of each entry of a map
module _ {X : Type 0} (P : Bytes × X → Type 0) where
  pub All-with_value : (k : Bytes) (x : X) (m : Map X) → P (k, x) → All P m → All P (with_value k x m)
  All-with_value k x [] here all = All-cons P (k, x) [] here all
  All-with_value k x (e ∷ m) here all =
      elim (bytes_cmp k e.0) as (λ o. bytes_cmp k e.0 ≡ o → All P (by_order o ((k, x) ∷ e ∷ m) ((e.0, x) ∷ m) (e ∷ with_value k x m))) [
        | Less ↦ λ is. All-cons P (k, x) (e ∷ m) here all
        | Equal ↦ λ is. All-cons P (e.0, x) m (subst (λ l. P (l, x)) (same_bytes k e.0 is) here) (All-tail P e m all)
        | Greater ↦ λ is. All-cons P e (with_value k x m) (All-head P e m all) (All-with_value k x m here (All-tail P e m all))
      ] refl

pub All-value_at : {X : Type 0} (P : X → Type 0) (k : Bytes) (m : Map X) (x : X) → All (λ e. P e.1) m → value_at k m ≡ Some x → P x
All-value_at P k m x all there = subst (λ o. IfSome o P) (lookup-value_at k m ∙ there) (All-lookup P (is_at (bytes_cmp k)) m all)

-- ---- the files of an opening

pub IsLoaded-new : (d : FileDef) → is_key d ≡ true → IsLoaded (record { definition = d; records = []; empties = [] })
IsLoaded-new d lawful = record { lawful = lawful; content = record { rising = tt; keyed = All-nil (λ e. (e.0 ≡ key_of d e.1) × IsTrue (fits_file d e.1)) }; empties = refl }

pub IsLoaded-written : (f : FileValue) (r : Bytes) → IsTrue (fits_file f.definition r) → IsLoaded f → IsLoaded (written f r)
IsLoaded-written f r fits loaded =
    let key = key_of f.definition r in
    elim (has_key key f.records) as (λ b. IsLoaded (if b then f else filled f key r)) [
      | true ↦ loaded
      | false ↦ record {
        lawful = loaded.lawful;
        content = record {
          rising = rising-with_value key r f.records loaded.content.rising;
          keyed = All-with_value (λ e. (e.0 ≡ key_of f.definition e.1) × IsTrue (fits_file f.definition e.1)) key r f.records (refl, fits) loaded.content.keyed;
        };
        empties = ap (without_key key) loaded.empties;
      }
    ]

module _ (m : Map FileValue) (are : AreLoaded m) where
  pub AreLoaded-defined : (name : Bytes) (d : FileDef) → is_key d ≡ true → AreLoaded (with_value name (record { definition = d; records = []; empties = [] }) m)
  AreLoaded-defined name d lawful = record {
    rising = rising-with_value name (record { definition = d; records = []; empties = [] }) m are.rising;
    loaded = All-with_value (λ e. IsLoaded e.1) name (record { definition = d; records = []; empties = [] }) m (IsLoaded-new d lawful) are.loaded;
  }

  pub AreLoaded-written : (name r : Bytes) (f : FileValue) → value_at name m ≡ Some f → IsTrue (fits_file f.definition r) → AreLoaded (with_value name (written f r) m)
  AreLoaded-written name r f there fits = record {
    rising = rising-with_value name (written f r) m are.rising;
    loaded = All-with_value (λ e. IsLoaded e.1) name (written f r) m (IsLoaded-written f r fits (All-value_at IsLoaded name m f are.loaded there)) are.loaded;
  }

  pub HasLawfulKeys-with : (ps : List Bytes) (qs : Map TransState) → HasLawfulKeys (opened_with m ps qs)
  HasLawfulKeys-with ps qs name file found = by (value_at name m) refl (sym (value_at-each opening_of name m) ∙ found)
    where
      by : (o : Option FileValue) → value_at name m ≡ o → option_map opening_of o ≡ Some file → is_key file.definition ≡ true
      by None at is = absurd (none_some is)
        where
          none_some : None ≡ Some file → ⊥
          none_some e = cc
      by (Some f) at is = let same : opening_of f ≡ file = cc in ap (λ x. is_key x.definition) (sym same) ∙ (All-value_at IsLoaded name m f are.loaded at).lawful

  pub IsOpeningInOrder-with : (ps : List Bytes) (qs : Map TransState) → T (is_rising qs) → IsOpeningInOrder (opened_with m ps qs)
  IsOpeningInOrder-with ps qs rising_queues = record {
    files = rising-each opening_of m ∙ is_true (is_rising m) are.rising;
    records = λ f. ap (λ o. is_in_order (option_map (λ e. e.records) o)) (value_at-each opening_of f m) ∙ in_order (value_at f m) (λ x. All-value_at IsLoaded f m x are.loaded);
    queues = rising-each queue_opening qs ∙ is_true (is_rising qs) rising_queues;
  }
    where
      is_true : (b : Bool) → T b → b ≡ true
      is_true true t = refl
      is_true false t = absurd t

      in_order : (o : Option FileValue) → ((x : FileValue) → o ≡ Some x → IsLoaded x) → is_in_order (option_map (λ e. e.records) (option_map opening_of o)) ≡ true
      in_order None loaded = refl
      in_order (Some x) loaded = is_true (is_rising x.records) (loaded x refl).content.rising

pub opened_files-openings_of : (m : Map FileValue) → All (λ e. IsLoaded e.1) m → opened_files (openings_of m) ≡ m
opened_files-openings_of [] all = refl
opened_files-openings_of (e ∷ m) all =
    ap (λ p. (e.0, record { definition = e.1.definition; records = e.1.records; empties = p }) ∷ opened_files (openings_of m)) (sym (All-head (λ e. IsLoaded e.1) e m all).empties)
    ∙ ap (λ r. e ∷ r) (opened_files-openings_of m (All-tail (λ e. IsLoaded e.1) e m all))

-- ---- the faults, by what was tested
abbrev define_fault : Bool → Bool → Bool → Option DefineFault
define_fault there sized keyed = if there then Some Duplicate else if not sized then Some BadLength else if not keyed then Some BadKey else None

pub file_fault-tested : (m : Map FileValue) (ps : List Bytes) (qs : Map TransState) (o : OpeningState) (name : Bytes) (d : FileDef) (there sized keyed : Bool) → opened_with m ps qs ≡ o →
    there ≡ has_key name m → sized ≡ is_record_size d.record_size → keyed ≡ is_key d → define_fault there sized keyed ≡ file_fault o name d
file_fault-tested m ps qs o name d there sized keyed is t s k =
    ap (λ b. define_fault b sized keyed) (t ∙ sym (has_key-each opening_of name m))
    ∙ ap (λ b. define_fault (has_key name (openings_of m)) b keyed) s
    ∙ ap (λ b. define_fault (has_key name (openings_of m)) (is_record_size d.record_size) b) k
    ∙ ap (λ p. file_fault p name d) is

abbrev record_fault : Bool → Bool → Option DefineFault
record_fault fits there = if not fits then Some BadLength else if there then Some Duplicate else None

module _ (m : Map FileValue) (ps : List Bytes) (qs : Map TransState) (o : OpeningState) (name r : Bytes) (is : opened_with m ps qs ≡ o) where
  pub load_fault-absent : value_at name m ≡ None → load_fault (value_at name o.files) r ≡ Some NotThere
  load_fault-absent absent =
      ap (λ p. load_fault (value_at name p.files) r) (sym is) ∙ ap (λ f. load_fault f r) (value_at-each opening_of name m ∙ ap (option_map opening_of) absent)

  pub load_fault-tested : (f : FileValue) (fits there : Bool) → value_at name m ≡ Some f → fits ≡ fits_file f.definition r → there ≡ has_key (key_of f.definition r) f.records →
      load_fault (value_at name o.files) r ≡ record_fault fits there
  load_fault-tested f fits there found t h =
      ap (λ p. load_fault (value_at name p.files) r) (sym is) ∙ ap (λ x. load_fault x r) (value_at-each opening_of name m ∙ ap (option_map opening_of) found)
      ∙ ap (λ b. record_fault b (has_key (key_of f.definition r) f.records)) (sym t) ∙ ap (record_fault fits) (sym h)

  -- the same, by what the calls that tested it have answered
  module _ (f : FileValue) (d : FileDef) (b k : Bytes) (found : Option (Bor Bytes)) (there : Bool) (d_is : d ≡ f.definition) (b_is : b ≡ r) (k_is : k ≡ key_of d b)
      (h : there ≡ is_some found) (read : option_copied found ≡ value_at k f.records) where
    copied : (x : Option (Bor Bytes)) → is_some x ≡ is_some (option_copied x)
    copied None = refl
    copied (Some y) = refl

    pub has_key-read : there ≡ has_key (key_of f.definition r) f.records
    has_key-read = h ∙ copied found ∙ ap is_some read ∙ ap (λ x. has_key x f.records) (k_is ∙ ap (λ x. key_of x b) d_is ∙ ap (key_of f.definition) b_is)

    pub load_fault-read : value_at name m ≡ Some f → (fits : Bool) → fits ≡ fits_file d b → load_fault (value_at name o.files) r ≡ record_fault fits there
    load_fault-read file fits t = load_fault-tested f fits there file (t ∙ ap (λ x. fits_file x b) d_is ∙ ap (fits_file f.definition) b_is) has_key-read

with_record-found : (o : OpeningState) (name r : Bytes) (f : FileOpening) → value_at name o.files ≡ Some f →
    with_record o name r ≡ record { files = with_value name (loaded_file f r) o.files; prefixes = o.prefixes; queues = o.queues }
with_record-found o name r f found = rw found refl

-- a record that is written to a file is loaded into it, if its key is new
pub opened_with-written : (m : Map FileValue) (ps : List Bytes) (qs : Map TransState) (name r : Bytes) (f : FileValue) → value_at name m ≡ Some f →
    has_key (key_of f.definition r) f.records ≡ false → opened_with (with_value name (written f r) m) ps qs ≡ with_record (opened_with m ps qs) name r
opened_with-written m ps qs name r f found new =
    ap (λ b. opened_with (with_value name (if b then f else filled f (key_of f.definition r) r) m) ps qs) new
    ∙ ap (λ files. record { files = files; prefixes = ps; queues = queue_openings qs }) (with_value-each opening_of name (filled f (key_of f.definition r) r) m)
    ∙ sym (with_record-found (opened_with m ps qs) name r (opening_of f) (value_at-each opening_of name m ∙ ap (option_map opening_of) found))

-- ---- the transient data queues of an opening
-- a record that is written and whose writer commits is one more without a mark
pub loaded_with-committed : (d : Bytes) (q : TransState) → writer_committed (trans_written q d) ≡ loaded_with q d
loaded_with-committed d q = elim (is_logical q.kind) as (λ b. writer_committed (if b then record { kind = q.kind; placed = q.placed ++ d ∷ []; read = q.read; written = q.written + 1 } else record { kind = q.kind; placed = q.placed ++ d ∷ []; read = q.read; written = q.written }) ≡ loaded_with q d) [
  | true ↦ refl
  | false ↦ refl
]

-- a queue that has loaded records alone is the one that its opening gives
opened_queue-again : (q : TransState) → IsLoadedQueue q → opened_queue (queue_opening q) ≡ q
opened_queue-again q is = λ i. record { kind = q.kind; placed = q.placed; read = sym is.read i; written = sym is.written i }

pub opened_queues-queue_openings : (qs : Map TransState) → All (λ e. IsLoadedQueue e.1) qs → opened_queues (queue_openings qs) ≡ qs
opened_queues-queue_openings [] all = refl
opened_queues-queue_openings (e ∷ qs) all =
    ap (λ q. (e.0, q) ∷ opened_queues (queue_openings qs)) (opened_queue-again e.1 (All-head (λ e. IsLoadedQueue e.1) e qs all))
    ∙ ap (λ r. e ∷ r) (opened_queues-queue_openings qs (All-tail (λ e. IsLoadedQueue e.1) e qs all))

module _ (qs : Map TransState) (are : AreLoadedQueues qs) where
  -- so they are with one more that has loaded records alone
  pub AreLoadedQueues-with : (name : Bytes) (q : TransState) → IsLoadedQueue q → AreLoadedQueues (with_value name q qs)
  AreLoadedQueues-with name q is = record {
    rising = rising-with_value name q qs are.rising;
    loaded = All-with_value (λ e. IsLoadedQueue e.1) name q qs is are.loaded;
  }

  -- and if a record is loaded into one of them
  pub AreLoadedQueues-loaded : (name d : Bytes) → AreLoadedQueues (changed_at (λ q. loaded_with q d) name qs)
  AreLoadedQueues-loaded name d = by (value_at name qs) refl
    where
      by : (o : Option TransState) → value_at name qs ≡ o → AreLoadedQueues (changed_where (λ q. loaded_with q d) name o qs)
      by None is = are
      by (Some q) is = AreLoadedQueues-with name (loaded_with q d) (record { read = (All-value_at IsLoadedQueue name qs q are.loaded is).read; written = refl })

module _ (m : Map FileValue) (ps : List Bytes) (qs : Map TransState) where
  -- a queue that is defined
  pub opened_with-queue : (name : Bytes) (recovery : Recovery) → opened_with m ps (with_value name (holding recovery []) qs) ≡ with_queue (opened_with m ps qs) name recovery
  opened_with-queue name recovery = ap (λ queues. record { files = openings_of m; prefixes = ps; queues = queues }) (with_value-each queue_opening name (holding recovery []) qs)

  with_td_record-found : (o : OpeningState) (name r : Bytes) (q : QueueOpening) → value_at name o.queues ≡ Some q →
      with_td_record o name r ≡ record { files = o.files; prefixes = o.prefixes; queues = with_value name (record { recovery = q.recovery; records = q.records ++ r ∷ [] }) o.queues }
  with_td_record-found o name r q found = rw found refl

  with_td_record-absent : (o : OpeningState) (name r : Bytes) → value_at name o.queues ≡ None → with_td_record o name r ≡ o
  with_td_record-absent o name r absent = rw absent refl

  -- a record that is loaded into a queue
  pub opened_with-loaded : (name d : Bytes) → opened_with m ps (changed_at (λ q. loaded_with q d) name qs) ≡ with_td_record (opened_with m ps qs) name d
  opened_with-loaded name d = by (value_at name qs) refl
    where
      seen : (o : Option TransState) → value_at name qs ≡ o → value_at name (queue_openings qs) ≡ option_map queue_opening o
      seen o is = value_at-each queue_opening name qs ∙ ap (option_map queue_opening) is

      by : (o : Option TransState) → value_at name qs ≡ o → opened_with m ps (changed_where (λ q. loaded_with q d) name o qs) ≡ with_td_record (opened_with m ps qs) name d
      by None is = sym (with_td_record-absent (opened_with m ps qs) name d (seen None is))
      by (Some q) is = ap (λ queues. record { files = openings_of m; prefixes = ps; queues = queues }) (with_value-each queue_opening name (loaded_with q d) qs)
          ∙ sym (with_td_record-found (opened_with m ps qs) name d (queue_opening q) (seen (Some q) is))

  module _ (o : OpeningState) (is : opened_with m ps qs ≡ o) where
    -- whether a queue is defined already
    pub defined_already : (name : Bytes) → has_key name qs ≡ has_key name o.queues
    defined_already name = sym (has_key-each queue_opening name qs) ∙ ap (λ p. has_key name p.queues) is

    -- the fault of a record to be loaded, by what was tested
    pub load_td_fault-tested : (name r : Bytes) (there sized : Bool) → there ≡ has_key name qs → sized ≡ is_record_size (length r) →
        (if there then (if sized then None else Some BadLength) else Some NotThere) ≡ load_td_fault (value_at name o.queues) r
    load_td_fault-tested name r there sized t s = ap (λ b. if b then (if sized then None else Some BadLength) else Some NotThere) (t ∙ defined_already name)
        ∙ ap (λ b. if has_key name o.queues then (if b then None else Some BadLength) else Some NotThere) s
        ∙ by (value_at name o.queues)
      where
        by : (q : Option QueueOpening) → (if is_some q then (if is_record_size (length r) then None else Some BadLength) else Some NotThere) ≡ load_td_fault q r
        by None = refl
        by (Some q) = refl

-- ---- what is recoverable
recoverable_of : (o : OpeningState) (name : Bytes) (f : FileOpening) → value_at name o.files ≡ Some f → f.definition.recoverable ≡ file_recoverable o name
recoverable_of o name f found = rw found refl

unrecoverable : (o : OpeningState) (name : Bytes) → value_at name o.files ≡ None → false ≡ file_recoverable o name
unrecoverable o name found = rw found refl

logical_of : (o : OpeningState) (name : Bytes) (q : QueueOpening) → value_at name o.queues ≡ Some q → is_logical q.recovery ≡ queue_logical o name
logical_of o name q found = rw found refl

unlogical : (o : OpeningState) (name : Bytes) → value_at name o.queues ≡ None → false ≡ queue_logical o name
unlogical o name found = rw found refl

module _ (m : Map FileValue) (ps : List Bytes) (qs : Map TransState) (o : OpeningState) (is : opened_with m ps qs ≡ o) (name : Bytes) where
  file_seen : (f : Option FileValue) → f ≡ value_at name m → value_at name o.files ≡ option_map opening_of f
  file_seen f there = ap (λ p. value_at name p.files) (sym is) ∙ value_at-each opening_of name m ∙ ap (option_map opening_of) (sym there)

  -- what an opening has of a queue's name
  pub queue_seen : (q : Option TransState) → q ≡ value_at name qs → value_at name o.queues ≡ option_map queue_opening q
  queue_seen q there = ap (λ p. value_at name p.queues) (sym is) ∙ value_at-each queue_opening name qs ∙ ap (option_map queue_opening) (sym there)

  -- a file is recoverable if its definition says so, and one that isn't there is not
  pub recoverable_there : (f : FileValue) → Some f ≡ value_at name m → f.definition.recoverable ≡ file_recoverable o name
  recoverable_there f there = recoverable_of o name (opening_of f) (file_seen (Some f) there)

  pub recoverable_nowhere : None ≡ value_at name m → false ≡ file_recoverable o name
  recoverable_nowhere gone = unrecoverable o name (file_seen None gone)

  -- a queue is recoverable if it is LOGICAL, and one that isn't there is not
  pub logical_there : (q : TransState) → Some q ≡ value_at name qs → is_logical q.kind ≡ queue_logical o name
  logical_there q there = logical_of o name (queue_opening q) (queue_seen (Some q) there)

  pub logical_nowhere : None ≡ value_at name qs → false ≡ queue_logical o name
  logical_nowhere gone = unlogical o name (queue_seen None gone)
