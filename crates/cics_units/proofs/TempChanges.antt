-- A command on a temporary storage queue where it stands: its rows rise, it gives an image exactly
-- if it changes something recoverable, and the store and the answer are those of the command.
use Rattle.std.proofs.Common.{◌≡◌, ℕ, Bool, true, false, T, Option, Some, None, [], ◌∷◌, ◌++◌, length, refl, ap, sym, ◌∙◌, inl, inr}
use Rattle.std.specs.Prelude.{if◌then◌else◌, nat_lt, slice_set, ◌-◌}
use Rattle.std.proofs.lemmas.Bool.{true≢false, false≢true, cases_Bool}
use Rattle.cics_names.specs.Keyed.{Bytes, Map, with_value, without, is_rising}
use Rattle.cics_names.specs.declared.conditions.Condition.TheVariants.{Itemerr, Qiderr}
use Rattle.cics_images.specs.StoreCells.{with_temp_storage}
use Rattle.cics_tempstor.specs.declared.images.TsImage.{TsImage}
use Rattle.cics_tempstor.specs.declared.images.Before.TheVariants.{Added, Replaced, Taken}
use Rattle.cics_tempstor.specs.declared.queue_rows.Row.{Row}
use Rattle.cics_tempstor.specs.Queues.{Queue, most_items, is_there, has_item, row_at, queue_at, empty_row, place_of, write_condition, item_condition, delete_condition, ts_written, ts_rewritten, ts_deleted}
use Rattle.cics_tempstor.specs.Undo.{item_at}
use Rattle.cics_tempstor.specs.Shown.{rising_written, rising_rewritten, rising_deleted, queue_shown, put_if, queues_of-with_value, queues_of-without, queue_at-queues_of}
use Rattle.cics_history.specs.Store.{apply, apply_ts_write, apply_ts_rewrite, apply_ts_delete, with_ts, ts_queue, is_normal}
use Rattle.cics_history.specs.Records.{is_file_op}
use Rattle.cics_history.specs.declared.ops.Op.{Op}
use Rattle.cics_history.specs.declared.ops.Op.TheVariants.{TsWrite, TsRewrite, TsDelete}
use Rattle.cics_history.specs.Cells.{Ts, cell_of as cell_of_op, content, is_generic, Writing, uses}
use Rattle.cics_history.specs.Undo.{changes}
use Rattle.cics_units.specs.Opening.StoreMatching.{StoreValue, shown_store}
use Rattle.cics_units.specs.QueueChanges.{is_trans, queue_of, rows_after, rows_image, rows_answer}
use Rattle.cics_units.specs.Opening.Prefixed.{is_temp}

-- ---- the command and its queue
-- what holds for each of the three commands holds for all
temp_each : (P : Op → Type 0) → ((q d : Bytes) → P (TsWrite q d)) → ((q : Bytes) (n : ℕ) (d : Bytes) → P (TsRewrite q n d)) → ((q : Bytes) → P (TsDelete q)) →
    (op : Op) → is_temp op ≡ true → P op
temp_each P write rewrite delete (TsWrite q d) is = write q d
temp_each P write rewrite delete (TsRewrite q n d) is = rewrite q n d
temp_each P write rewrite delete (TsDelete q) is = delete q
temp_each P write rewrite delete _ is = absurd (false≢true is)

-- it names the queue
pub temp_cell_of : (op : Op) → is_temp op ≡ true → cell_of_op op ≡ Ts (queue_of op)
temp_cell_of = temp_each (λ op. cell_of_op op ≡ Ts (queue_of op)) (λ q d. refl) (λ q n d. refl) (λ q. refl)

-- it acts on it alone
pub temp_single : (op : Op) → is_temp op ≡ true → is_generic op ≡ false
temp_single = temp_each (λ op. is_generic op ≡ false) (λ q d. refl) (λ q n d. refl) (λ q. refl)

-- it is on no file, nor on a transient data queue
pub temp_no_file : (op : Op) → is_temp op ≡ true → is_file_op op ≡ false
temp_no_file = temp_each (λ op. is_file_op op ≡ false) (λ q d. refl) (λ q n d. refl) (λ q. refl)

pub temp_no_trans : (op : Op) → is_temp op ≡ true → is_trans op ≡ false
temp_no_trans = temp_each (λ op. is_trans op ≡ false) (λ q d. refl) (λ q n d. refl) (λ q. refl)

-- and uses it whole
pub temp_uses : (op : Op) → is_temp op ≡ true → uses op Writing ≡ true
temp_uses = temp_each (λ op. uses op Writing ≡ true) (λ q d. refl) (λ q n d. refl) (λ q. refl)

-- ---- the rows
-- whether a command is answered NORMAL
abbrev pub is_done : Op → Map Row → Bool
is_done op rows = is_normal (rows_answer op rows).condition

-- the names of the rows go on rising
pub rows_rise : (op : Op) (keep : Bool) (rows : Map Row) → T (is_rising rows) → T (is_rising (rows_after op keep rows))
rows_rise (TsWrite q d) keep rows rising = rising_written rows rising q d
rows_rise (TsRewrite q n d) keep rows rising = rising_rewritten rows rising q n d
rows_rise (TsDelete q) keep rows rising = rising_deleted rows rising q keep
rows_rise _ keep rows rising = rising

-- if it isn't answered NORMAL the rows stay, and there is no image
pub rows_stay : (op : Op) (keep : Bool) (rows : Map Row) → is_temp op ≡ true → is_done op rows ≡ false →
    (rows_after op keep rows ≡ rows) × (rows_image op keep rows ≡ None)
rows_stay (TsWrite q d) keep rows is none = elim (cases_Bool (nat_lt (length (queue_at q rows)) most_items)) [
  | inl room ↦ absurd (true≢false (sym (rw room refl) ∙ none))
  | inr full ↦ rw full (refl, refl)
]
rows_stay (TsRewrite q n d) keep rows is none = elim (cases_Bool (has_item (queue_at q rows) n)) [
  | inl there ↦ absurd (true≢false (sym (rw there refl) ∙ none))
  | inr absent ↦ rw absent (refl, refl)
]
rows_stay (TsDelete q) keep rows is none = elim (cases_Bool (is_there (queue_at q rows))) [
  | inl there ↦ absurd (true≢false (sym (rw there refl) ∙ none))
  | inr absent ↦ rw absent (refl, refl)
]
rows_stay _ keep rows is none = absurd (false≢true is)

-- a choice between a thing and itself is no choice
no_choice : (o : Option TsImage) (b : Bool) → (if b then o else o) ≡ o
no_choice o true = refl
no_choice o false = refl

-- a queue that isn't recoverable gives no image
pub rows_plain : (op : Op) (rows : Map Row) → rows_image op false rows ≡ None
rows_plain (TsWrite q d) rows = no_choice None (nat_lt (length (queue_at q rows)) most_items)
rows_plain (TsRewrite q n d) rows = no_choice None (has_item (queue_at q rows) n)
rows_plain (TsDelete q) rows = no_choice None (is_there (queue_at q rows))
rows_plain _ rows = refl

-- neither refusal is NORMAL
refused : (b : Bool) → is_normal (if b then Itemerr else Qiderr) ≡ false
refused true = refl
refused false = refl

-- and a recoverable one does if the command is answered NORMAL
pub rows_imaged : (op : Op) (rows : Map Row) → is_temp op ≡ true → is_done op rows ≡ true → (i : TsImage) × (rows_image op true rows ≡ Some i)
rows_imaged (TsWrite q d) rows is done = elim (cases_Bool (nat_lt (length (queue_at q rows)) most_items)) [
  | inl room ↦ (record { name = q; before = Added }, rw room refl)
  | inr full ↦ absurd (false≢true (sym (rw full refl) ∙ done))
]
rows_imaged (TsRewrite q n d) rows is done = elim (cases_Bool (has_item (queue_at q rows) n)) [
  | inl there ↦ (record { name = q; before = Replaced n (item_at (queue_at q rows) n) }, rw there refl)
  | inr absent ↦ absurd (false≢true (sym (not_found absent) ∙ done))
]
  where
    not_found : has_item (queue_at q rows) n ≡ false → is_normal (item_condition (queue_at q rows) n) ≡ false
    not_found absent = rw absent (refused (is_there (queue_at q rows)))
rows_imaged (TsDelete q) rows is done = elim (cases_Bool (is_there (queue_at q rows))) [
  | inl there ↦ (record { name = q; before = Taken (queue_at q rows) }, rw there refl)
  | inr absent ↦ absurd (false≢true (sym (rw absent refl) ∙ done))
]
rows_imaged _ rows is done = absurd (false≢true is)

-- ---- the store and the answer
module _ (m : StoreValue) (rising : T (is_rising m.temp_storage)) (q : Bytes) where
  -- the queue shows its items
  items_there : ts_queue (shown_store m) q ≡ queue_at q m.temp_storage
  items_there = queue_at-queues_of q m.temp_storage rising

  -- with no item a queue is absent
  put_items : (items : Queue) → record (shown_store m) { ts = put_if queue_shown q (if is_there items then Some items else None) (shown_store m).ts } ≡ with_ts
      (shown_store m) q items
  put_items [] = refl
  put_items (x ∷ xs) = refl

  -- the store once the queue got a row
  row_stored : (row : Row) → shown_store (with_temp_storage m (with_value q row m.temp_storage)) ≡ with_ts (shown_store m) q row.items
  row_stored row = ap (λ t. record (shown_store m) { ts = t }) (queues_of-with_value q row m.temp_storage rising) ∙ put_items row.items

  -- and once it lost its row
  none_stored : shown_store (with_temp_storage m (without q m.temp_storage)) ≡ with_ts (shown_store m) q []
  none_stored = ap (λ t. record (shown_store m) { ts = t }) (queues_of-without q m.temp_storage rising)

  write_stored : (d : Bytes) → shown_store (with_temp_storage m (ts_written m.temp_storage q d)) ≡ (apply (shown_store m) (TsWrite q d)).store
  write_stored d = by ∙ sym (ap (λ c. (apply_ts_write (shown_store m) q d c).store) items_there)
    where
      by : shown_store (with_temp_storage m (ts_written m.temp_storage q d)) ≡ (apply_ts_write (shown_store m) q d (queue_at q m.temp_storage)).store
      by = elim (cases_Bool (nat_lt (length (queue_at q m.temp_storage)) most_items)) [
        | inl room ↦ rw room (row_stored (record { items = queue_at q m.temp_storage ++ d ∷ []; next = place_of (row_at q m.temp_storage) }))
        | inr full ↦ rw full refl
      ]

  rewrite_stored : (n : ℕ) (d : Bytes) → shown_store (with_temp_storage m (ts_rewritten m.temp_storage q n d)) ≡ (apply (shown_store m) (TsRewrite q n d)).store
  rewrite_stored n d = by ∙ sym (ap (λ c. (apply_ts_rewrite (shown_store m) q n d c).store) items_there)
    where
      by : shown_store (with_temp_storage m (ts_rewritten m.temp_storage q n d)) ≡ (apply_ts_rewrite (shown_store m) q n d (queue_at q m.temp_storage)).store
      by = elim (cases_Bool (has_item (queue_at q m.temp_storage) n)) [
        | inl there ↦ rw there (row_stored (record { items = slice_set (queue_at q m.temp_storage) (n - 1) d; next = (row_at q m.temp_storage).next }))
        | inr absent ↦
            rw absent (ap (λ b. if b then with_ts (shown_store m) q (queue_at q m.temp_storage) else shown_store m)
            (sym (refused (is_there (queue_at q m.temp_storage)))))
      ]

  delete_stored : (keep : Bool) → shown_store (with_temp_storage m (ts_deleted keep m.temp_storage q)) ≡ (apply (shown_store m) (TsDelete q)).store
  delete_stored keep = by keep ∙ sym (ap (λ c. (apply_ts_delete (shown_store m) q c).store) items_there)
    where
      by : (keep : Bool) → shown_store (with_temp_storage m (ts_deleted keep m.temp_storage q)) ≡ (apply_ts_delete (shown_store m) q (queue_at q m.temp_storage)).store
      by true = elim (cases_Bool (is_there (queue_at q m.temp_storage))) [ inl there ↦ rw there (row_stored empty_row) | inr absent ↦ rw absent refl ]
      by false = elim (cases_Bool (is_there (queue_at q m.temp_storage))) [ inl there ↦ rw there none_stored | inr absent ↦ rw absent refl ]

-- the store with the rows changed is what the command leaves
pub temp_stored : (op : Op) (keep : Bool) (m : StoreValue) → is_temp op ≡ true → T (is_rising m.temp_storage) →
    shown_store (with_temp_storage m (rows_after op keep m.temp_storage)) ≡ (apply (shown_store m) op).store
temp_stored (TsWrite q d) keep m is rising = write_stored m rising q d
temp_stored (TsRewrite q n d) keep m is rising = rewrite_stored m rising q n d
temp_stored (TsDelete q) keep m is rising = delete_stored m rising q keep
temp_stored _ keep m is rising = absurd (false≢true is)

-- and the answer is what the command gives
pub temp_answered : (op : Op) (m : StoreValue) → is_temp op ≡ true → T (is_rising m.temp_storage) →
    (apply (shown_store m) op).answer ≡ rows_answer op m.temp_storage
temp_answered (TsWrite q d) m is rising = ap (λ c. (apply_ts_write (shown_store m) q d c).answer) (items_there m rising q)
temp_answered (TsRewrite q n d) m is rising = ap (λ c. (apply_ts_rewrite (shown_store m) q n d c).answer) (items_there m rising q)
temp_answered (TsDelete q) m is rising = ap (λ c. (apply_ts_delete (shown_store m) q c).answer) (items_there m rising q)
temp_answered _ m is rising = absurd (false≢true is)

-- it changes its cell if it is answered NORMAL
pub temp_changes : (op : Op) (m : StoreValue) → is_temp op ≡ true → T (is_rising m.temp_storage) →
    changes op (content (shown_store m) (cell_of_op op)) ≡ is_done op m.temp_storage
temp_changes (TsWrite q d) m is rising = ap (λ c. is_normal (write_condition c)) (items_there m rising q)
temp_changes (TsRewrite q n d) m is rising = ap (λ c. is_normal (item_condition c n)) (items_there m rising q)
temp_changes (TsDelete q) m is rising = ap (λ c. is_normal (delete_condition c)) (items_there m rising q)
temp_changes _ m is rising = absurd (false≢true is)
