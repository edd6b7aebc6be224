-- An executed command on a transient data queue keeps files, temporary storage, transient data and
-- the images in place.
use Rattle.std.proofs.Common.{◌≡◌, ℕ, Bool, true, false, ◌&&◌, Option, Some, None, List, [], ◌∷◌, ◌++◌, refl, ap, sym, subst, ◌∙◌, inl, inr, ◌⊎◌}
use Rattle.std.specs.Prelude.{if◌then◌else◌, option_map, IfSome, IfNone}
use Rattle.std.proofs.lemmas.Bool.{true≢false, cases_Bool}
use Rattle.cics_names.specs.Keyed.{Bytes, value_at, with_value, is_same}
use Rattle.cics_names.specs.KeyedLaws.{is_same-self, is_same-eq}
use Rattle.cics_images.specs.Cells.{Kept}
use Rattle.cics_images.specs.Cells as images
use Rattle.cics_images.specs.NamedChanges as among
use Rattle.cics_images.specs.NamedLaws as named
use Rattle.cics_images.specs.NamedLaws.{split_cell}
use Rattle.cics_images.specs.NamedValues.{cell_of as value_cell, changed_where, named_content, named_cell, IsNamedReady, named_undone, KeepsIn, NamedKeep}
use Rattle.cics_images.specs.StoreCells.{file_cell, temp_cell, trans_cell, with_trans_data}
use Rattle.cics_images.specs.StoreChanges.{trans_data_image}
use Rattle.cics_ksds.specs.Undo.{Leads as FileLeads}
use Rattle.cics_tempstor.specs.Undo.{content_at as queue_content, name_of_image, Leads as QueueLeads, IsReadyImage as IsQueueReady, undone as rows_undone, KeepsQueues}
use Rattle.cics_tempstor.specs.UndoLaws as rows
use Rattle.cics_transdata.specs.declared.images.TdImage.{TdImage}
use Rattle.cics_transdata.specs.Trans.{TransState}
use Rattle.cics_transdata.specs.Undo.{end_of as end_of_image, content_at as end_content, Leads as EndLeads, IsReadyImage as IsEndReady, undone as queue_undone, KeepsEnds, IsTransImage}
use Rattle.cics_transdata.specs.UndoLaws as queue
use Rattle.cics_history.specs.State.{queue_logical, UnitsState}
use Rattle.cics_history.specs.Holding.{awaited}
use Rattle.cics_history.specs.Execution.{unit_or_next}
use Rattle.cics_history.specs.declared.ops.Op.{Op}
use Rattle.cics_history.specs.declared.ops.Op.TheVariants.{TdWrite, TdRead}
use Rattle.cics_history.specs.Cells.{Cell, Td, End, Reading, Writing, uses}
use Rattle.cics_history.specs.Isolation.{used, IsSound}
use Rattle.cics_history.specs.Undo.{Image}
use Rattle.cics_history.specs.MarkImages.{MarkImage}
use Rattle.cics_history.specs.Carried.{CarriesIfAny}
use Rattle.cics_history.proofs.InPlace.{sees_where_shown}
use Rattle.cics_units.specs.Opening.FilesImages.{cell_of_image, files_content, IsReadyFor, files_undone, FilesKeep}
use Rattle.cics_units.specs.FilesImagesLaws as files
use Rattle.cics_units.specs.Opening.StoreMatching.{StoreValue, AnyImage, end_cell, bytes_of, bytes_of_end, any_undone, AnyKeep, AreImagesOf}
use Rattle.cics_units.specs.StoreInPlace.{AreInPlace}
use Rattle.cics_units.specs.Awaiting.{IsOwn}
use Rattle.cics_units.specs.QueueChanges.{queue_of, leaves_end, is_left_end, is_left_split, is_left, with_image, in_queue}
use Rattle.cics_units.proofs.StoreInPlace.{AreReady, ready_where}
use Rattle.cics_units.proofs.StoreExecuted.{IsAnyImage, all_of}
use Rattle.cics_units.proofs.TransChanges.{IsToldEnough, AreOfQueue}

-- ---- a changed queue among the store in place
module _ (m : StoreValue) (q : Bytes) (t new : TransState) (there : value_at q m.trans_data ≡ Some t) where
  -- the store in place with the queue changed
  abbrev changed_in : StoreValue
  changed_in = with_trans_data m (with_value q new m.trans_data)

  -- what the queue keeps at the cells that pass, all queues do
  queues_keep : (p : images.Cell → Bool) → KeepsEnds (λ c. p (value_cell q c)) t new → NamedKeep KeepsEnds p m.trans_data (with_value q new m.trans_data)
  queues_keep p kept = subst (λ o. NamedKeep KeepsEnds p m.trans_data (changed_where (λ _. new) q o m.trans_data)) there
      (named.each_name (λ _. new) q m.trans_data (λ r. KeepsIn KeepsEnds (λ c. p (value_cell r c)))
      (subst (λ o. KeepsIn KeepsEnds (λ c. p (value_cell q c)) o (option_map (λ _. new) o)) (sym there) kept)
      (λ r apart. named.keeps_itself_in KeepsEnds queue.keeps_itself (λ c. p (value_cell r c)) (value_at r m.trans_data)))

  -- and so does the store in place
  pub trans_keeps : (p : images.Cell → Bool) → KeepsEnds (λ c. p (trans_cell (value_cell q c))) t new → AnyKeep p m changed_in
  trans_keeps p kept = record {
    files = files.keeps_itself (λ c. p (file_cell c)) m.files;
    temp_storage = rows.keeps_itself (λ c. p (temp_cell c)) m.temp_storage;
    trans_data = queues_keep (λ c. p (trans_cell c)) kept;
  }

  -- an image of the change of an end is one of the store in place
  pub trans_any_image : (end : images.Cell) (i : TdImage) → IsTransImage t new end i → IsAnyImage m changed_in (trans_cell (value_cell q end)) (in_queue q i)
  trans_any_image end i is = trans_data_image files_content queue_content (λ s c. named_content end_content s c)
      cell_of_image name_of_image (λ i. named_cell end_of_image i)
      (λ i. FileLeads i.image) QueueLeads (λ i. EndLeads i.image)
      IsReadyFor IsQueueReady (λ s i. IsNamedReady IsEndReady s i)
      files_undone rows_undone (λ s i. named_undone queue_undone s i)
      FilesKeep KeepsQueues (λ p s n. NamedKeep KeepsEnds p s n)
      files.keeps_itself rows.keeps_itself (named.keeps_itself KeepsEnds queue.keeps_itself)
      m (with_value q new m.trans_data) (value_cell q end) (record { name = q; image = i })
      (among.image_among q t new m.trans_data there KeepsEnds queue.keeps_itself queue.keeps_fewer end_content end_of_image EndLeads IsEndReady queue_undone end i is)

-- ---- the image that is kept for a mark
-- one image more is kept for one mark more
pub kept_with : (q : Bytes) (cs : List Image) (ms : List MarkImage) (is : List AnyImage) (o : Option TdImage) (new : List MarkImage) → CarriesIfAny o new →
    AreOfQueue q new → AreImagesOf cs ms is → AreImagesOf cs (new ++ ms) (with_image (option_map (in_queue q) o) is)
kept_with q cs ms is None [] carries own kept = kept
kept_with q cs ms is None (x ∷ xs) carries own kept = absurd carries
kept_with q cs ms is (Some i) [] carries own kept = absurd carries
kept_with q cs ms is (Some i) (x ∷ []) carries own kept = (record { queue = sym own.0; carries = carries }, kept)
kept_with q cs ms is (Some i) (x ∷ y ∷ ys) carries own kept = absurd carries

-- without an image all cells are kept, with one the newest is ready and leads back
pub ready_with : (m n : StoreValue) (q : Bytes) (end : images.Cell) (o : Option TdImage) (is : List AnyImage) → AreReady m is →
    IfSome o (λ i. IsAnyImage m n end (in_queue q i)) → IfNone o (AnyKeep (λ c. true) m n) → AreReady n (with_image (option_map (in_queue q) o) is)
ready_with m n q end None is ready undoes kept = ready_where (λ c. true) m n is kept (all_of is) ready
ready_with m n q end (Some i) is ready undoes kept =
    (undoes.ready, ready_where (λ c. true) m (any_undone n (in_queue q i)) is undoes.back (all_of is) ready)

-- ---- the ends that a command leaves
-- a command that changes an end uses it, or the unit owns it
pub uses_or_own : (op : Op) (own writer : Bool) (end : End) → IsOwn op writer own → leaves_end op own end ≡ false → (uses op end ≡ true) ⊎ ((end ≡ Writing) × (writer ≡ true))
uses_or_own (TdWrite q d) own writer Reading is changed = absurd (true≢false changed)
uses_or_own (TdRead q) true writer Writing is changed = inr (refl, sym is)
uses_or_own (TdRead q) false writer Writing is changed = absurd (true≢false changed)
uses_or_own (TdWrite q d) own writer Writing is changed = inl refl
uses_or_own (TdRead q) own writer Reading is changed = inl refl
uses_or_own op own writer end is changed = inl refl

-- an end that is left passes
left_end : (op : Op) (own : Bool) (end : End) → is_left_end op own (end_cell end) ≡ leaves_end op own end
left_end op own Reading = refl
left_end op own Writing = refl

-- a cell of the queue, among the cells of the store in place
pub left_here : (op : Op) (own : Bool) (c : images.Cell) → is_left op own (trans_cell (value_cell (queue_of op) c)) ≡ is_left_end op own c
left_here op own c =
    ap (is_left_split op own) (split_cell (queue_of op) c) ∙ ap (λ b. if b then is_left_end op own c else true) (is_same-self (queue_of op))

-- no key, no temporary storage queue and no queue as a whole is an end
pub left_plain : (op : Op) (own : Bool) (x : Cell) → is_left op own (bytes_of x) ≡ true
left_plain op own (Td r) = ap (is_left_split op own) (split_cell r []) ∙ by (is_same r (queue_of op))
  where
    by : (b : Bool) → (if b then true else true) ≡ true
    by true = refl
    by false = refl
left_plain op own _ = refl

-- an end of another queue passes, and one of the queue which the command leaves
pub left_marked : (op : Op) (own : Bool) (r : Bytes) (end : End) → (r ≡ queue_of op → leaves_end op own end ≡ true) → is_left op own (bytes_of_end r end) ≡ true
left_marked op own r end left = ap (is_left_split op own) (split_cell r (end_cell end)) ∙ elim (cases_Bool (is_same r (queue_of op))) [
  | inl same ↦ rw same (left_end op own end ∙ left (is_same-eq r (queue_of op) same))
  | inr other ↦ rw other refl
]

-- what a unit does to something that isn't recoverable gives no image
pub no_more : {X : Type 0} (b : Bool) (more rest : X) → (if b && false then more else rest) ≡ rest
no_more true more rest = refl
no_more false more rest = refl

-- a task that need not wait for its command is told enough by the ends that its unit owns
pub told_by_use : (s : UnitsState) (m : StoreValue) (images : List (Kept AnyImage)) (u : Option ℕ) (op : Op) → IsSound s → (place : AreInPlace s m images) →
    awaited s u op ≡ None → queue_logical s.opening (queue_of op) ≡ true →
    IsToldEnough op (used s.trace (unit_or_next u s.outcomes) (Td (queue_of op)) Writing) (place.marks.queues (queue_of op))
told_by_use s m images u (TdRead q) sound place free l = sees_where_shown s u place.marks q sound place.ends l free
told_by_use s m images u _ sound place free l = tt
