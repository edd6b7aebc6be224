-- A command that is applied keeps the invariant of units: by its one contract, whatever it acts on.
use Rattle.std.proofs.Common.{◌≡◌, ◌≢◌, ℕ, Bool, true, false, ◌&&◌, Option, Some, None, List, [], ◌∷◌, ◌++◌, length, refl, ap, sym, subst, ◌∙◌, inl, inr, ◌<◌}
use Rattle.std.specs.Prelude.{unwrap_or, IfSome}
use Rattle.std.proofs.lemmas.Bool.{false≢true, cases_Bool}
use Rattle.cics_names.specs.Keyed.{value_at, Map}
use Rattle.cics_images.specs.Cells.{is_other, is_unnamed}
use Rattle.cics_images.specs.StoreCells.{file_cell}
use Rattle.cics_enqueue.specs.Table.{Table}
use Rattle.cics_transdata.specs.Trans.{TransState, IsMarked, is_logical}
use Rattle.cics_history.specs.State.{queue_logical, Store, UnitsState}
use Rattle.cics_history.specs.Store.{apply, is_recoverable, apply_write, apply_rewrite, apply_delete, apply_delete_generic, counted_answer}
use Rattle.cics_history.specs.Holding.{awaited, store_of}
use Rattle.cics_history.specs.Execution.{unit_or_next, after_execution, entered, is_ready_op}
use Rattle.cics_history.specs.Isolation.{used}
use Rattle.cics_history.specs.Cells.{Td, Writing}
use Rattle.cics_history.specs.Events.{may_act}
use Rattle.cics_history.specs.Marks.{marks_of}
use Rattle.cics_history.specs.declared.ops.Answer.{Answer}
use Rattle.cics_history.specs.declared.ops.Op.{Op}
use Rattle.cics_history.specs.declared.ops.Op.TheVariants.{ReadUpdate, TdWrite, TdRead, TdDelete, Write, Rewrite, Delete, DeleteGeneric, TsWrite, TsRewrite, TsDelete}
use Rattle.cics_history.proofs.States.{acting_open}
use Rattle.cics_units.specs.ImageRows.{kept_none, kept_by, AreOthersKept}
use Rattle.cics_units.specs.Opening.StoreMatching.{StoreValue, StoreWithImages, AnyImage, cell_of_any, shown_store}
use Rattle.cics_units.specs.StoreInPlace.{AreInPlace}
use Rattle.cics_units.specs.StorePlaces.{HavePlaces}
use Rattle.cics_units.specs.KeptUnits.{AreValid}
use Rattle.cics_units.specs.TableInPlace.{table_executed}
use Rattle.cics_units.specs.Awaiting.{is_writer, IsOwn}
use Rattle.cics_units.specs.QueueChanges.{is_trans, queue_of, rows_after, trans_answer, rows_answer}
use Rattle.cics_units.specs.Opening.Prefixed.{is_temp}
use Rattle.cics_units.specs.Applied.{IsApplied, IsBound, IsFileBound, IsQueueBound, IsSeen, IsSeenIn, spares}
use Rattle.cics_units.specs.Parts.{is_recoverable_in, given_record, first_in}
use Rattle.cics_history.specs.Records.{file_of, is_file_op}
use Rattle.cics_units.proofs.HeldSums.{recoverable_op}
use Rattle.cics_units.proofs.TempChanges.{temp_no_file, temp_answered}
use Rattle.cics_units.proofs.AppliedInPlace.{plain_applied, trans_applied_in_place, no_trans_of}
use Rattle.cics_units.proofs.FileChanges.{kept_definitions}
use Rattle.cics_units.proofs.KeptUnits.{kept_left, is_entered, store_is, recoverable_alike}
use Rattle.cics_units.proofs.QueueClauses.{end_by_table}
use Rattle.cics_units.proofs.Recoveries.{kept_recoveries, logical_as_defined}
use Rattle.cics_units.proofs.StorePlaces.{executed_places}
use Rattle.cics_units.proofs.StoreQueueExecuted.{told_by_use}
use Rattle.cics_units.proofs.TransChanges.{IsToldEnough, trans_answered, trans_recoverable}
use Rattle.cics_units.proofs.Applied.{read_told}
use Rattle.cics_ksds.specs.Prefixes.{under}
use Rattle.cics_tempstor.specs.declared.queue_rows.Row.{Row}

-- ---- The record of an answer is the one that was looked up before
-- the count of what lies under a prefix is no record
counted_none : {X : Type 0} (xs : List X) → (counted_answer xs).content ≡ None
counted_none [] = refl
counted_none (x ∷ xs) = refl

-- of the commands on files READ UPDATE alone gives a record
pub file_content : (s : StoreValue) (own : Bool) (op : Op) → is_file_op op ≡ true → (apply (shown_store s) op).answer.content ≡ given_record s own op
file_content s own (ReadUpdate f k) file = refl
file_content s own (Write f k r) file =
    elim (value_at f (shown_store s).files) as (λ o. (apply_write (shown_store s) f k r o).answer.content ≡ None) [ None ↦ refl | Some records ↦ refl ]
file_content s own (Rewrite f k r) file =
    elim (value_at f (shown_store s).files) as (λ o. (apply_rewrite (shown_store s) f k r o).answer.content ≡ None) [ None ↦ refl | Some records ↦ refl ]
file_content s own (Delete f k) file =
    elim (value_at f (shown_store s).files) as (λ o. (apply_delete (shown_store s) f k o).answer.content ≡ None) [ None ↦ refl | Some records ↦ refl ]
file_content s own (DeleteGeneric f p) file =
    elim (value_at f (shown_store s).files) as (λ o. (apply_delete_generic (shown_store s) f p o).answer.content ≡ None) [
      | None ↦ refl
      | Some records ↦ counted_none (under p records)
    ]
file_content s own _ file = absurd (false≢true file)

-- of those on transient data queues READQ TD alone
pub trans_content : (s : StoreValue) (own : Bool) (op : Op) (before : TransState) → is_trans op ≡ true → value_at (queue_of op) s.trans_data ≡ Some before →
    (trans_answer op own before).content ≡ given_record s own op
trans_content s own (TdRead q) before trans there = sym (ap (λ o. first_in o own) there)
trans_content s own (TdWrite q d) before trans there = refl
trans_content s own (TdDelete q) before trans there = refl
trans_content s own _ before trans there = absurd (false≢true trans)

-- and of those on temporary storage queues none
pub temp_content : (s : StoreValue) (own : Bool) (op : Op) (rows : Map Row) → is_file_op op ≡ false → is_trans op ≡ false → (rows_answer op rows).content ≡ given_record s own op
temp_content s own (TsWrite q d) rows file trans = refl
temp_content s own (TsRewrite q n d) rows file trans = refl
temp_content s own (TsDelete q) rows file trans = refl
temp_content s own (TdWrite q d) rows file trans = absurd (false≢true (sym trans))
temp_content s own (TdRead q) rows file trans = absurd (false≢true (sym trans))
temp_content s own (TdDelete q) rows file trans = absurd (false≢true (sym trans))
temp_content s own _ rows file trans = absurd (false≢true (sym file))

-- what a command sees is what it is told
seen_told : (op : Op) (own : Bool) (m : StoreValue) (x : TransState) → is_trans op ≡ true → value_at (queue_of op) m.trans_data ≡ Some x → IsMarked x → IsSeen m op own →
    IsToldEnough op own (marks_of x)
seen_told (TdWrite q d) own m x is there marked seen = tt
seen_told (TdRead q) own m x is there marked seen = read_told q own x marked (subst (λ o. IfSome o (λ t. is_logical t.kind ≡ true → IsSeenIn own (marks_of t))) there seen)
seen_told (TdDelete q) own m x is there marked seen = tt
seen_told _ own m x is there marked seen = absurd (false≢true is)

-- what is told of the table is told by whatever says the same
pub seen_own : (op : Op) (own w : Bool) (m : StoreValue) → IsOwn op w own → IsSeen m op w → IsSeen m op own
seen_own (TdRead q) own w m same seen = subst (IsSeen m (TdRead q)) (sym same) seen
seen_own _ own w m same seen = tt

-- and so is the record that a command is given
pub given_own : (op : Op) (own w : Bool) (m : StoreValue) → IsOwn op w own → given_record m own op ≡ given_record m w op
given_own (TdRead q) own w m same = ap (λ b. given_record m b (TdRead q)) same
given_own (ReadUpdate f k) own w m same = refl
given_own _ own w m same = refl

-- a command on a transient data queue is bound to it
queue_bound : (op : Op) (m : StoreValue) (keep : Bool) → is_trans op ≡ true → IsBound m op keep → IsQueueBound m (queue_of op) keep
queue_bound (TdWrite q d) m keep is bound = bound
queue_bound (TdRead q) m keep is bound = bound
queue_bound (TdDelete q) m keep is bound = bound
queue_bound _ m keep is bound = absurd (false≢true is)

-- what a command is bound to is as recoverable as the opening has it
pub bound_as_opened : (s : UnitsState) (st : StoreWithImages) (t : Table) → AreValid s st t → (op : Op) (keep : Bool) → IsBound st.store op keep →
    (is_temp op ≡ true → keep ≡ is_recoverable s.opening op) → keep ≡ is_recoverable s.opening op
bound_as_opened s st t is op keep bound temp = elim (cases_Bool (is_trans op)) [
  | inl trans ↦
      let b = queue_bound op st.store keep trans bound in
      b.logical ∙ logical_as_defined s.opening st.store (queue_of op) b.queue is.defined.queues b.there ∙ sym (trans_recoverable s.opening op trans)
  | inr other ↦ elim (no_trans_of op other) [
    | inr on_temp ↦ temp on_temp
    | inl file ↦
        let b : IsFileBound st.store (file_of op) keep = rw file at bound in
        b.recoverable ∙ sym (ap is_recoverable_in b.there) ∙ recoverable_alike s st t is (file_of op) ∙ sym (recoverable_op s.opening op file)
  ]
]

-- with more images a list names what it named
more_named : (made before : List AnyImage) (c : List ℕ) → is_unnamed cell_of_any before c ≡ false → is_unnamed cell_of_any (made ++ before) c ≡ false
more_named [] before c named = named
more_named (i ∷ is) before c named = either (is_other (cell_of_any i) c) (more_named is before c named)
  where
    either : (a : Bool) {b : Bool} → b ≡ false → (a && b) ≡ false
    either true h = h
    either false h = refl

module _ (s : UnitsState) (st new : StoreWithImages) (t : Table) (is : AreValid s st t) (u : Option ℕ) (op : Op) (acts : may_act s u ≡ true)
    (free : awaited s u op ≡ None) where
  abbrev unit : ℕ
  unit = unit_or_next u s.outcomes

  -- a command sees enough, as nobody is awaited: what a unit that owns the writing end may read is
  -- told by the table as by the history
  pub op_seen : (op : Op) → awaited s u op ≡ None → IsSeen st.store op (is_writer t unit (queue_of op))
  op_seen (TdRead q) free = by (value_at q st.store.trans_data) refl
    where
      by : (o : Option TransState) → value_at q st.store.trans_data ≡ o → IfSome o (λ x. is_logical x.kind ≡ true → IsSeenIn (is_writer t unit q) (marks_of x))
      by None e = tt
      by (Some x) e = λ logical.
          let l : queue_logical s.opening q ≡ true = sym (logical_as_defined s.opening st.store q x is.defined.queues e) ∙ logical in
          let queue = is.place.queues q l in
          let same : Some queue.0 ≡ Some x = sym queue.1 ∙ e in
          let one : queue.0 ≡ x = cc in
          let held = end_by_table s t is.table unit (acting_open s u acts) q Writing in
          subst (λ b. IsSeenIn b (marks_of x)) (sym (held ∙ ap (λ b. b && used s.trace unit (Td q) Writing) l))
          (subst (IsSeenIn (used s.trace unit (Td q) Writing)) (queue.2.marks ∙ ap marks_of one)
          (told_by_use s st.store st.images u (TdRead q) is.sound is.place free l))
  op_seen _ free = tt

  module _ (ready : is_ready_op s u op ≡ true) (room : unit < length st.images) (own : Bool) (given : Answer)
      (own_is : IsOwn op (is_writer t unit (queue_of op)) own)
      (bound : IsBound st.store op (is_recoverable s.opening op))
      (done : IsApplied st.store new.store (kept_by st.images unit) (kept_by new.images unit) op (is_recoverable s.opening op) own given)
      (others : AreOthersKept st.images new.images unit) where
    seen : IsSeen st.store op own
    seen = seen_own op own (is_writer t unit (queue_of op)) st.store own_is (op_seen op free)

    apart : (w : ℕ) → w ≢ unit → kept_by new.images w ≡ kept_by st.images w
    apart w other = ap (λ o. (unwrap_or o kept_none).newest_first) (others.rows w other)

    place_then : AreInPlace (after_execution s u op) new.store new.images
    place_then = elim (cases_Bool (is_trans op)) [
      | inl trans ↦
          let b = queue_bound op st.store (is_recoverable s.opening op) trans bound in
          trans_applied_in_place s st.store new.store st.images new.images u op own given is.sound is.place is.canonical.records acts free done apart trans
          b.queue b.there (logical_as_defined s.opening st.store (queue_of op) b.queue is.defined.queues b.there) (subst (λ w. IsOwn op w own) (end_by_table s t is.table unit (acting_open s u acts) (queue_of op) Writing) own_is)
          (seen_told op own st.store b.queue trans b.there b.marked seen)
      | inr other ↦
          plain_applied s st.store new.store st.images new.images u op own given is.sound is.place is.canonical.records acts free done apart other
    ]

    -- so it keeps all
    pub kept_applied : AreValid (entered s u op (apply (store_of s) op).answer) new (table_executed s.opening unit op (apply (store_of s) op).answer.condition s.reads t)
    kept_applied = kept_left s st new t is u op acts free ready room place_then done.shown (record {
      files = λ f. ap (λ d. d f) (kept_definitions (λ c. spares op own (file_cell c)) st.store.files new.store.files done.others.files) ∙ is.defined.files f;
      queues = kept_recoveries (spares op own) s.opening st.store new.store done.others is.defined.queues;
    })
        (subst (HavePlaces (entered s u op (apply (store_of s) op).answer)) (sym done.rows)
        (subst (λ n. HavePlaces n (rows_after op (is_recoverable s.opening op) st.store.temp_storage)) (is_entered s st new t is u op acts free)
        (executed_places s st.store.temp_storage (record { in_order = is.rows; places = sym is.places }) u op (is_recoverable s.opening op)
        (ap (λ (m : Store). m.ts) (sym (store_is s st t is))) free)))
        others done.held
        (λ c named. ap (λ l. is_unnamed cell_of_any l c) done.newest ∙ more_named done.made (kept_by st.images unit) c named)

    -- and is answered as the history has it
    pub applied_answer : given ≡ (apply (store_of s) op).answer
    applied_answer = done.answered ∙ ap (λ m. (apply m op).answer) (store_is s st t is)

    -- with the record that was looked up
    pub applied_content : given.content ≡ given_record st.store (is_writer t unit (queue_of op)) op
    applied_content = ap (λ (a : Answer). a.content) done.answered ∙ elim (cases_Bool (is_trans op)) [
      | inl trans ↦
          let b = queue_bound op st.store (is_recoverable s.opening op) trans bound in
          ap (λ (a : Answer). a.content) (trans_answered op (is_writer t unit (queue_of op)) st.store b.queue trans b.there
          (seen_told op (is_writer t unit (queue_of op)) st.store b.queue trans b.there b.marked (op_seen op free)))
          ∙ trans_content st.store (is_writer t unit (queue_of op)) op b.queue trans b.there
      | inr other ↦ elim (no_trans_of op other) [
        | inl file ↦ file_content st.store (is_writer t unit (queue_of op)) op file
        | inr temp ↦
            ap (λ (a : Answer). a.content) (temp_answered op st.store temp is.rows.rising)
            ∙ temp_content st.store (is_writer t unit (queue_of op)) op st.store.temp_storage (temp_no_file op temp) other
      ]
    ]
