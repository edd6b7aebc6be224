-- A command on a transient data queue where it stands: what the queue shows then, its marks and its
-- image, and that the store and the answer are those of the command.
use Rattle.std.proofs.Common.{arith, ◌≡◌, ℕ, zero, suc, ◌+◌, ◌≤◌, ◌<◌, Bool, true, false, not, T, Option, Some, None, List, [], ◌∷◌, ◌++◌, length, drop, take, refl, ap, sym, subst, ◌∙◌, inl, inr}
use Rattle.std.specs.Prelude.{if◌then◌else◌, slice_get, nat_lt, option_map}
use Rattle.std.proofs.Math.Seq.{drop-length}
use Rattle.std.proofs.lemmas.Bool.{true≢false, false≢true, cases_Bool, ltb-true}
use Rattle.std.proofs.lemmas.List.{drop-append-le, drop-drop, length-append}
use Rattle.cics_names.specs.Keyed.{Bytes, value_at, with_value, is_rising}
use Rattle.cics_names.specs.KeyedLaws.{value_at-with_value_same, value_at-with_value_other}
use Rattle.cics_names.specs.RisingLaws.{rising-with_value, same_maps}
use Rattle.cics_images.specs.NamedLaws.{same_or_other}
use Rattle.cics_images.specs.StoreCells.{with_trans_data}
use Rattle.cics_transdata.specs.Trans.{TransState, IsMarked, is_logical, queue_of as records_of, first_of, seen_count, read_condition, trans_written, trans_taken, trans_read, trans_deleted}
use Rattle.cics_transdata.specs.Undo.{taken_image}
use Rattle.cics_history.specs.Store.{apply, apply_td_write, apply_td_read, apply_td_delete, with_td, with_content, is_recoverable}
use Rattle.cics_history.specs.State.{OpeningState, queue_logical}
use Rattle.cics_history.specs.Holding.{is_nothing}
use Rattle.cics_history.specs.Records.{is_file_op}
use Rattle.cics_history.specs.declared.ops.Op.{Op}
use Rattle.cics_history.specs.declared.ops.Op.TheVariants.{TdWrite, TdRead, TdDelete}
use Rattle.cics_history.specs.Cells.{Td, cell_of as cell_of_op, is_generic}
use Rattle.cics_history.specs.Marks.{MarkedQueue, Queues, seen, shown, marked, unwritten, marks_of}
use Rattle.cics_history.specs.MarkImages.{MarkImage, mark_images}
use Rattle.cics_history.specs.MarkImages as marks
use Rattle.cics_history.specs.Carried.{CarriesIfAny}
use Rattle.cics_history.proofs.MarkedParts.{queue_of-shown, marks_of-written, marks_of-read, marks_of-deleted, first_of-seen}
use Rattle.cics_history.proofs.CarriedImages.{carried_written, carried_read, carried_deleted}
use Rattle.cics_units.specs.Opening.StoreMatching.{StoreValue, shown_store}
use Rattle.cics_units.specs.QueueChanges.{is_trans, queue_of, trans_after, trans_image, trans_answer}
use Rattle.cics_units.proofs.OfOpening.Opened.{value_at-each, with_value-each}

-- what a command is told of a transient data queue is enough: its reader sees a record exactly if
-- the queue shows one
abbrev pub IsToldEnough : Op → Bool → MarkedQueue → Type 0
IsToldEnough (TdRead q) own m = is_nothing (seen false (not own) m) ≡ is_nothing (shown m)
IsToldEnough _ own m = Unit {0}

-- ---- the queue itself
-- of a choice both parts have the recovery
chosen_kind : (b : Bool) (r t : TransState) (k : _) → r.kind ≡ k → t.kind ≡ k → (if b then r else t).kind ≡ k
chosen_kind true r t k a b = a
chosen_kind false r t k a b = b

taken_kind : (t : TransState) (o : Option Bytes) → (trans_taken t o).kind ≡ t.kind
taken_kind t None = refl
taken_kind t (Some d) = chosen_kind (is_logical t.kind) _ _ t.kind refl refl

-- no command changes the recovery
pub kind_after : (op : Op) (own : Bool) (t : TransState) → (trans_after op own t).kind ≡ t.kind
kind_after (TdWrite q d) own t = chosen_kind (is_logical t.kind) _ _ t.kind refl refl
kind_after (TdRead q) own t = taken_kind t (first_of t own)
kind_after (TdDelete q) own t = chosen_kind (is_logical t.kind) _ _ t.kind refl refl
kind_after _ own t = refl

-- READQ TD leaves no more marks than records
fits_taken : (t : TransState) (o : Option Bytes) → IsMarked t → is_logical t.kind ≡ true → t.read < length t.placed → IsMarked (trans_taken t o)
fits_taken t None fits l some = fits
fits_taken t (Some d) fits l some =
    subst (λ b. IsMarked (if b then record { kind = t.kind; placed = t.placed; read = t.read + 1; written = t.written } else record {
      kind = t.kind;
      placed = drop 1 t.placed;
      read = t.read;
      written = t.written;
    })) (sym l)
    (record { read = omega (arith, some); written = fits.written; unmarked = λ plain. absurd (true≢false (sym l ∙ plain)) })

-- the reader sees no more records than there are
seen_within : (t : TransState) (own : Bool) → seen_count t own ≤ length t.placed
seen_within t true = omega arith
seen_within t false = omega arith

-- a LOGICAL queue has no more marks than records after a command either
pub fits_after : (op : Op) (own : Bool) (t : TransState) → IsMarked t → is_logical t.kind ≡ true → IsMarked (trans_after op own t)
fits_after (TdWrite q d) own t fits l =
    let longer = length-append t.placed (d ∷ []) in
    subst (λ b. IsMarked (if b then record { kind = t.kind; placed = t.placed ++ d ∷ []; read = t.read; written = t.written + 1 } else record {
      kind = t.kind;
      placed = t.placed ++ d ∷ [];
      read = t.read;
      written = t.written;
    })) (sym l)
    (record {
      read = omega (arith, longer, fits.read);
      written = omega (arith, longer, fits.written);
      unmarked = λ plain. absurd (true≢false (sym l ∙ plain));
    })
fits_after (TdRead q) own t fits l = elim (cases_Bool (nat_lt t.read (seen_count t own))) [
  | inl some ↦
      subst (λ b. IsMarked (trans_taken t (if b then slice_get t.placed t.read else None))) (sym some)
      (fits_taken t (slice_get t.placed t.read) fits l (let within = ltb-true t.read (seen_count t own) some in omega (arith, within, seen_within t own)))
  | inr none ↦ subst (λ b. IsMarked (trans_taken t (if b then slice_get t.placed t.read else None))) (sym none) fits
]
fits_after (TdDelete q) own t fits l =
    subst (λ b. IsMarked (if b then record { kind = t.kind; placed = t.placed; read = length t.placed; written = t.written } else record {
      kind = t.kind;
      placed = [];
      read = 0;
      written = 0;
    })) (sym l)
    (record { read = omega arith; written = fits.written; unmarked = λ plain. absurd (true≢false (sym l ∙ plain)) })
fits_after _ own t fits l = fits

-- ---- what a reader is given
-- a list without an element begins with none
nothing_first : (xs : List Bytes) → is_nothing xs ≡ true → slice_get xs 0 ≡ None
nothing_first [] e = refl
nothing_first (x ∷ xs) e = absurd (false≢true e)

-- if a list is empty exactly if it is with more behind it, it begins as that does
same_first : (n : ℕ) (xs ys : List Bytes) → is_nothing (drop n (xs ++ [])) ≡ is_nothing (drop n (xs ++ ys)) →
    slice_get (drop n (xs ++ [])) 0 ≡ slice_get (drop n (xs ++ ys)) 0
same_first zero [] ys e = sym (nothing_first ys (sym e))
same_first zero (x ∷ xs) ys e = refl
same_first (suc n) [] ys e = sym (nothing_first (drop (suc n) ys) (sym e))
same_first (suc n) (x ∷ xs) ys e = same_first n xs ys e

-- the reader is given the first record of the queue, or finds none if the queue shows none
pub first_shown : (q : Bytes) (own : Bool) (t : TransState) → IsToldEnough (TdRead q) own (marks_of t) → first_of t own ≡ slice_get (records_of t) 0
first_shown q own t told = first_of-seen t own ∙ by own told ∙ ap (λ c. slice_get c 0) (sym (queue_of-shown t))
  where
    by : (own : Bool) → is_nothing (seen false (not own) (marks_of t)) ≡ is_nothing (shown (marks_of t)) →
        slice_get (seen false (not own) (marks_of t)) 0 ≡ slice_get (shown (marks_of t)) 0
    by true told = refl
    by false told = same_first t.read (take (unwritten t) t.placed) (drop (unwritten t) t.placed) told

-- a queue without a record that is marked as written shows all to every reader
pub told_unwritten : (op : Op) (own : Bool) (t : TransState) → t.written ≡ 0 → IsToldEnough op own (marks_of t)
told_unwritten (TdRead q) true t none = refl
told_unwritten (TdRead q) false t none =
    let all : unwritten t ≡ length t.placed = omega (arith, none) in
    let fresh : drop (unwritten t) t.placed ≡ [] = ap (λ n. drop n t.placed) all ∙ drop-length t.placed in
    ap (λ f. is_nothing (drop t.read (take (unwritten t) t.placed ++ f))) (sym fresh)
told_unwritten _ own t none = tt

-- ---- the records
-- READQ TD takes the first record away
taken_records : (t : TransState) (c : List Bytes) → records_of t ≡ c → records_of (trans_taken t (slice_get c 0)) ≡ drop 1 c
taken_records t [] e = e
taken_records t (x ∷ xs) e = by (is_logical t.kind) ∙ ap (drop 1) e
  where
    by : (b : Bool) → records_of (if b then record { kind = t.kind; placed = t.placed; read = t.read + 1; written = t.written } else record {
      kind = t.kind;
      placed = drop 1 t.placed;
      read = t.read;
      written = t.written;
    }) ≡ drop 1 (records_of t)
    by true = sym (drop-drop 1 t.read t.placed)
    by false =
        let next : 1 + t.read ≡ t.read + 1 = omega arith in
        drop-drop t.read 1 t.placed ∙ ap (λ n. drop n t.placed) next ∙ sym (drop-drop 1 t.read t.placed)

read_records : (q : Bytes) (own : Bool) (t : TransState) → IsToldEnough (TdRead q) own (marks_of t) → records_of (trans_read t own) ≡ drop 1 (records_of t)
read_records q own t told = ap (λ f. records_of (trans_taken t f)) (first_shown q own t told) ∙ taken_records t (records_of t) refl

-- WRITEQ TD puts its record behind all
written_records : (t : TransState) (d : Bytes) → IsMarked t → records_of (trans_written t d) ≡ records_of t ++ d ∷ []
written_records t d fits = by (is_logical t.kind)
  where
    by : (b : Bool) → records_of (if b then record { kind = t.kind; placed = t.placed ++ d ∷ []; read = t.read; written = t.written + 1 } else record {
      kind = t.kind;
      placed = t.placed ++ d ∷ [];
      read = t.read;
      written = t.written;
    }) ≡ records_of t ++ d ∷ []
    by true = drop-append-le t.read t.placed (d ∷ []) fits.read
    by false = drop-append-le t.read t.placed (d ∷ []) fits.read

-- DELETEQ TD leaves none
deleted_records : (t : TransState) → records_of (trans_deleted t) ≡ []
deleted_records t = by (is_logical t.kind)
  where
    by : (b : Bool) → records_of (if b then record { kind = t.kind; placed = t.placed; read = length t.placed; written = t.written } else record {
      kind = t.kind;
      placed = [];
      read = 0;
      written = 0;
    }) ≡ []
    by true = drop-length t.placed
    by false = refl

-- ---- the store and the answer
module _ (m : StoreValue) (q : Bytes) (t : TransState) (there : value_at q m.trans_data ≡ Some t) where
  -- the queue shows its records
  records_there : value_at q (shown_store m).td ≡ Some (records_of t)
  records_there = value_at-each records_of q m.trans_data ∙ ap (option_map records_of) there

  -- the store with the queue changed
  changed_store : (new : TransState) → shown_store (with_trans_data m (with_value q new m.trans_data)) ≡ with_td (shown_store m) q (records_of new)
  changed_store new = ap (λ td. record (shown_store m) { td = td }) (with_value-each records_of q new m.trans_data)

  -- what is put back where it stands changes nothing
  pub put_back : T (is_rising m.trans_data) → with_value q t m.trans_data ≡ m.trans_data
  put_back rising = same_maps (with_value q t m.trans_data) m.trans_data (rising-with_value q t m.trans_data rising) rising (λ r.
      elim (same_or_other r q) [
        | inl same ↦ subst (λ x. value_at x (with_value q t m.trans_data) ≡ value_at x m.trans_data) (sym same) (value_at-with_value_same q t m.trans_data ∙ sym there)
        | inr apart ↦ value_at-with_value_other r q t m.trans_data apart
      ])

  kept_store : T (is_rising m.trans_data) → with_td (shown_store m) q (records_of t) ≡ shown_store m
  kept_store rising = sym (changed_store t) ∙ ap (λ td. shown_store (with_trans_data m td)) (put_back rising)

  write_stored : (d : Bytes) → IsMarked t → shown_store (with_trans_data m (with_value q (trans_written t d) m.trans_data)) ≡ (apply (shown_store m) (TdWrite q d)).store
  write_stored d fits =
      changed_store (trans_written t d) ∙ ap (with_td (shown_store m) q) (written_records t d fits)
      ∙ sym (ap (λ o. (apply_td_write (shown_store m) q d o).store) records_there)

  read_stored : (own : Bool) → T (is_rising m.trans_data) → IsToldEnough (TdRead q) own (marks_of t) →
      shown_store (with_trans_data m (with_value q (trans_read t own) m.trans_data)) ≡ (apply (shown_store m) (TdRead q)).store
  read_stored own rising told =
      changed_store (trans_read t own) ∙ ap (with_td (shown_store m) q) (read_records q own t told)
      ∙ by (records_of t) refl
      ∙ sym (ap (λ o. (apply_td_read (shown_store m) q o).store) records_there)
    where
      by : (c : List Bytes) → records_of t ≡ c → with_td (shown_store m) q (drop 1 c) ≡ (apply_td_read (shown_store m) q (Some c)).store
      by [] none = ap (with_td (shown_store m) q) (sym none) ∙ kept_store rising
      by (d ∷ ds) some = refl

  delete_stored : shown_store (with_trans_data m (with_value q (trans_deleted t) m.trans_data)) ≡ (apply (shown_store m) (TdDelete q)).store
  delete_stored =
      changed_store (trans_deleted t) ∙ ap (with_td (shown_store m) q) (deleted_records t)
      ∙ sym (ap (λ o. (apply_td_delete (shown_store m) q o).store) records_there)

  read_answered : (own : Bool) → IsToldEnough (TdRead q) own (marks_of t) →
      (apply (shown_store m) (TdRead q)).answer ≡ with_content (read_condition (first_of t own)) (first_of t own)
  read_answered own told =
      ap (λ o. (apply_td_read (shown_store m) q o).answer) records_there ∙ by (records_of t)
      ∙ ap (λ f. with_content (read_condition f) f) (sym (first_shown q own t told))
    where
      by : (c : List Bytes) → (apply_td_read (shown_store m) q (Some c)).answer ≡ with_content (read_condition (slice_get c 0)) (slice_get c 0)
      by [] = refl
      by (d ∷ ds) = refl

-- the store with the queue changed is what the command leaves
pub trans_stored : (op : Op) (own : Bool) (m : StoreValue) (t : TransState) → is_trans op ≡ true → value_at (queue_of op) m.trans_data ≡ Some t →
    T (is_rising m.trans_data) → IsMarked t → IsToldEnough op own (marks_of t) →
    shown_store (with_trans_data m (with_value (queue_of op) (trans_after op own t) m.trans_data)) ≡ (apply (shown_store m) op).store
trans_stored (TdWrite q d) own m t is there rising fits told = write_stored m q t there d fits
trans_stored (TdRead q) own m t is there rising fits told = read_stored m q t there own rising told
trans_stored (TdDelete q) own m t is there rising fits told = delete_stored m q t there
trans_stored _ own m t is there rising fits told = absurd (false≢true is)

-- and the answer is what the command gives
pub trans_answered : (op : Op) (own : Bool) (m : StoreValue) (t : TransState) → is_trans op ≡ true → value_at (queue_of op) m.trans_data ≡ Some t →
    IsToldEnough op own (marks_of t) → (apply (shown_store m) op).answer ≡ trans_answer op own t
trans_answered (TdWrite q d) own m t is there told = ap (λ o. (apply_td_write (shown_store m) q d o).answer) (records_there m q t there)
trans_answered (TdRead q) own m t is there told = read_answered m q t there own told
trans_answered (TdDelete q) own m t is there told = ap (λ o. (apply_td_delete (shown_store m) q o).answer) (records_there m q t there)
trans_answered _ own m t is there told = absurd (false≢true is)

-- ---- the marks and their image
-- the marks of the queue after a command are those that the command leaves
pub marks_after : (op : Op) (own : Bool) (t : TransState) → is_trans op ≡ true → IsMarked t → is_logical t.kind ≡ true → IsToldEnough op own (marks_of t) →
    marks_of (trans_after op own t) ≡ marked op (marks_of t)
marks_after (TdWrite q d) own t is fits l told = marks_of-written t q d fits l
marks_after (TdRead q) own t is fits l told = marks_of-read t q own l told
marks_after (TdDelete q) own t is fits l told = marks_of-deleted t q l
marks_after _ own t is fits l told = absurd (false≢true is)

-- and its image is that of the marks
pub carried_after : (op : Op) (own : Bool) (t : TransState) (queues : Queues) → is_trans op ≡ true → IsMarked t → is_logical t.kind ≡ true →
    queues (queue_of op) ≡ marks_of t → IsToldEnough op own (marks_of t) → CarriesIfAny (trans_image op own t) (mark_images op queues)
carried_after (TdWrite q d) own t queues is fits l same told = carried_written t queues q d l
carried_after (TdRead q) own t queues is fits l same told = carried_read t queues q own same l told
carried_after (TdDelete q) own t queues is fits l same told = carried_deleted t queues q fits same l
carried_after _ own t queues is fits l same told = absurd (false≢true is)

-- each of these images is of the queue
abbrev pub AreOfQueue : Bytes → List MarkImage → Type 0
AreOfQueue q [] = Unit {0}
AreOfQueue q (i ∷ is) = (marks.queue_of i ≡ q) × AreOfQueue q is

-- the images of a command's marks are of its queue
pub marks_of_queue : (op : Op) (queues : Queues) → AreOfQueue (queue_of op) (mark_images op queues)
marks_of_queue (TdWrite q d) queues = (refl, tt)
marks_of_queue (TdRead q) queues = by (is_nothing (shown (queues q)))
  where
    by : (b : Bool) → AreOfQueue q (if b then [] else marks.OfReading q (queues q).taken ((queues q).taken + 1) ∷ [])
    by true = tt
    by false = (refl, tt)
marks_of_queue (TdDelete q) queues = (refl, tt)
marks_of_queue _ queues = tt

-- a queue that isn't LOGICAL gives no image
pub plain_image : (op : Op) (own : Bool) (t : TransState) → is_logical t.kind ≡ false → trans_image op own t ≡ None
plain_image (TdWrite q d) own t plain = rw plain refl
plain_image (TdRead q) own t plain = by (first_of t own)
  where
    by : (o : Option Bytes) → taken_image t o ≡ None
    by None = refl
    by (Some d) = rw plain refl
plain_image (TdDelete q) own t plain = rw plain refl
plain_image _ own t plain = refl

-- ---- the command and its queue
-- what holds for each of the three commands holds for all
trans_each : (P : Op → Type 0) → ((q d : Bytes) → P (TdWrite q d)) → ((q : Bytes) → P (TdRead q)) → ((q : Bytes) → P (TdDelete q)) →
    (op : Op) → is_trans op ≡ true → P op
trans_each P write read delete (TdWrite q d) is = write q d
trans_each P write read delete (TdRead q) is = read q
trans_each P write read delete (TdDelete q) is = delete q
trans_each P write read delete _ is = absurd (false≢true is)

-- it is on no file
pub trans_no_file : (op : Op) → is_trans op ≡ true → is_file_op op ≡ false
trans_no_file = trans_each (λ op. is_file_op op ≡ false) (λ q d. refl) (λ q. refl) (λ q. refl)

-- it names the queue
pub trans_cell_of : (op : Op) → is_trans op ≡ true → cell_of_op op ≡ Td (queue_of op)
trans_cell_of = trans_each (λ op. cell_of_op op ≡ Td (queue_of op)) (λ q d. refl) (λ q. refl) (λ q. refl)

-- it acts on it alone
pub trans_single : (op : Op) → is_trans op ≡ true → is_generic op ≡ false
trans_single = trans_each (λ op. is_generic op ≡ false) (λ q d. refl) (λ q. refl) (λ q. refl)

-- and is recoverable if the queue is LOGICAL
pub trans_recoverable : (o : OpeningState) (op : Op) → is_trans op ≡ true → is_recoverable o op ≡ queue_logical o (queue_of op)
trans_recoverable o = trans_each (λ op. is_recoverable o op ≡ queue_logical o (queue_of op)) (λ q d. refl) (λ q. refl) (λ q. refl)
