-- A command that is applied to the store in place leaves what its definition says, and its images
-- undo it: from what each call of a file or a queue promises.
use Rattle.std.specs.Prelude.{◌≡◌, ◌+◌, ◌≤◌, IfNone, zero, suc, Bool, true, false, List, [], ◌∷◌, ◌++◌, length, option_map, refl, Option, Some, None, T, IfSome}
use Rattle.std.proofs.Common.{sym, ap, ◌∙◌, subst, arith, inl, inr}
use Rattle.std.proofs.lemmas.Bool.{cases_Bool, and_parts, and_from, false≢true}
use Rattle.cics_names.specs.Keyed.{Bytes, Map, value_at, with_value, is_rising}
use Rattle.cics_images.specs.Cells.{Cell, Kept, is_other, is_unnamed}
use Rattle.cics_images.specs.declared.stores.StoreImage.TheVariants.{File, TempStorage}
use Rattle.cics_ksds.specs.Prefixes.{prefix_images, under, without_prefix}
use Rattle.cics_ksds.specs.Undo.{ImageValue, KeepsKeys, IsFileImage, written_image, rewritten_image, deleted_image, Leads as FileLeads}
use Rattle.cics_images.specs.StoreCells.{file_cell, temp_cell, with_files, with_temp_storage, with_trans_data}
use Rattle.cics_ksds.specs.Files.{FileValue, IsContent, key_of, written, rewritten, deleted, write_condition, change_condition}
use Rattle.cics_tempstor.specs.declared.queue_rows.Row.{Row}
use Rattle.cics_tempstor.specs.declared.images.TsImage.{TsImage}
use Rattle.cics_tempstor.specs.Undo.{IsTsImage, content_at as queue_content, name_of_image, Leads as QueueLeads, IsReadyImage as IsQueueReady, undone as rows_undone, KeepsQueues}
use Rattle.cics_transdata.specs.Trans.{TransState, IsMarked, is_logical}
use Rattle.cics_transdata.specs.declared.images.TdImage.{TdImage}
use Rattle.cics_transdata.specs.Undo.{KeepsEnds, IsTransImage, end_of as end_of_image, content_at as end_content, Leads as EndLeads, IsReadyImage as IsEndReady, undone as queue_undone}
use Rattle.cics_images.specs.NamedValues.{changed_where, named_content, named_cell, IsNamedReady, named_undone, NamedKeep}
use Rattle.cics_history.specs.Marks.{marks_of}
use Rattle.cics_history.specs.MarkImages.{mark_images}
use Rattle.cics_history.specs.Carried.{CarriesIfAny}
use Rattle.std.proofs.lemmas.List.{append-nil}
use Rattle.cics_history.specs.Store.{apply, only, counted_answer, found_condition, with_content}
use Rattle.cics_history.specs.Cells.{content, Ts, cell_of as cell_of_op}
use Rattle.cics_history.specs.Undo.{changes, images_by}
use Rattle.cics_history.specs.Records.{is_file_op, file_of}
use Rattle.cics_history.specs.declared.ops.Answer.{Answer}
use Rattle.cics_history.specs.declared.ops.Op.{Op}
use Rattle.cics_history.specs.declared.ops.Op.TheVariants.{Write, Rewrite, Delete, DeleteGeneric, ReadUpdate, TdWrite, TdRead, TdDelete}
use Rattle.cics_units.specs.Opening.FilesImages.{FilesImage, cell_of, cell_of_image, files_content, IsReadyFor, files_undone, FilesKeep}
use Rattle.cics_units.specs.Opening.StoreMatching.{StoreValue, AnyImage, AnyLeads, end_cell, bytes_of_end, shown_store, shown_records, bytes_of, any_content, any_undone, cell_of_any, any_holds, AnyKeep, IsImageOfChange, AreImagesOf}
use Rattle.cics_units.specs.Parts.{is_recoverable_in, leaves, leaves_any, of_files, with_stored, image_if}
use Rattle.cics_units.specs.FilesChanges.{IsFilesImage, others_kept, image_among as file_image_among}
use Rattle.cics_units.specs.QueueChanges.{is_trans, queue_of, end_of, is_left, trans_after, trans_answer, rows_after, rows_image, rows_answer, IsTempChange, IsTransChange, with_image, in_queue}
use Rattle.cics_units.specs.Opening.Prefixed.{is_temp}
use Rattle.cics_units.specs.Applied.{IsSeenIn, spares, AreImagesMade, IsApplied, IsFileBound, IsQueueBound, marks_in, marks_if, read_given, counted_as}
use Rattle.cics_units.proofs.StoreInPlace.{AreReady, ready_where, shown_ts}
use Rattle.cics_units.proofs.TempChanges.{temp_cell_of, temp_single, temp_no_file, temp_no_trans, is_done, rows_rise, rows_stay, rows_plain, rows_imaged, temp_stored, temp_answered, temp_changes}
use Rattle.cics_units.proofs.StoreExecuted.{all_of, IsAnyImage}
use Rattle.cics_units.proofs.StoreQueueExecuted.{kept_with, ready_with, left_here, trans_keeps, trans_any_image}
use Rattle.cics_units.proofs.TransChanges.{IsToldEnough, trans_no_file, told_unwritten, trans_stored, trans_answered, carried_after, marks_of_queue, plain_image}
use Rattle.cics_units.proofs.QueuesHeld.{temp_held, trans_held}
use Rattle.cics_units.proofs.MadeImages.{files_kept, ready_in_turn, with_image as change_imaged, without_image}
use Rattle.cics_units.proofs.FilesChanged.{AreFileImagesAfter, AreFilesChanged}
use Rattle.cics_units.proofs.FileChanges.{read_answer, write_changed, write_answer, rewrite_changed, rewrite_answer, delete_changed, delete_answer, generic_answer}
use Rattle.cics_units.proofs.DeletedUnder.{generic_changed}
use Rattle.cics_history.proofs.Joining.{read_only}
use Rattle.cics_units.specs.FilesImagesLaws as files
use Rattle.cics_images.specs.Cells as images
use Rattle.cics_images.specs.NamedLaws as named
use Rattle.cics_images.specs.StoreChanges.{temp_storage_image}
use Rattle.cics_images.specs.StoreLaws.{temp_storage_keeps}
use Rattle.cics_tempstor.specs.UndoLaws as rows
use Rattle.cics_transdata.specs.UndoLaws as queue

-- ---- Temporary storage
-- an image of the change of a temporary storage queue is one of the store in place
pub temp_any_image : (m : StoreValue) (new : Map Row) (q : images.Cell) (i : TsImage) → IsTsImage m.temp_storage new q i →
    IsAnyImage m (with_temp_storage m new) (temp_cell q) (TempStorage i)
temp_any_image m new q i is = temp_storage_image files_content queue_content (λ s c. named_content end_content s c)
    cell_of_image name_of_image (λ i. named_cell end_of_image i)
    (λ i. FileLeads i.image) QueueLeads (λ i. EndLeads i.image)
    IsReadyFor IsQueueReady (λ s i. IsNamedReady IsEndReady s i)
    files_undone rows_undone (λ s i. named_undone queue_undone s i)
    FilesKeep KeepsQueues (λ p s n. NamedKeep KeepsEnds p s n)
    files.keeps_itself rows.keeps_itself (named.keeps_itself KeepsEnds queue.keeps_itself) m new q i is

-- and what the change leaves of temporary storage is left of the store in place
pub temp_keeps : (m : StoreValue) (new : Map Row) (q : images.Cell) → KeepsQueues (images.is_other q) m.temp_storage new →
    AnyKeep (images.is_other (temp_cell q)) m (with_temp_storage m new)
temp_keeps m new q kept = temp_storage_keeps FilesKeep KeepsQueues (λ p s n. NamedKeep KeepsEnds p s n)
    files.keeps_itself rows.keeps_itself (named.keeps_itself KeepsEnds queue.keeps_itself) q m new kept

-- ---- the answer of DELETE GENERIC
pub counted_is : {X : Type 0} (xs : List X) → counted_answer xs ≡ counted_as (length xs)
counted_is [] = refl
counted_is (x ∷ xs) = refl

-- ---- images of a file that are stored one after another
-- what is stored on images lies before them
front : (f : Bytes) (more : List ImageValue) (is : List FilesImage) (kept : List AnyImage) →
    of_files (with_stored f more is) ++ kept ≡ of_files (with_stored f more []) ++ (of_files is ++ kept)
front f [] is kept = refl
front f (i ∷ more) is kept =
    front f more (record { name = f; image = i } ∷ is) kept ∙ sym (front f more (record { name = f; image = i } ∷ []) (of_files is ++ kept))

-- some images are stored: with those that are left they are all
pub record AreStoredOn (start now : Kept AnyImage) (f : Bytes) (all left : List ImageValue) : Type 0 where
  pub room : length left ≤ now.room
  pub whole : of_files (with_stored f left []) ++ now.newest_first ≡ of_files (with_stored f all []) ++ start.newest_first

-- one more is stored
pub stored_on : (start now next : Kept AnyImage) (f : Bytes) (all : List ImageValue) (i : ImageValue) (left : List ImageValue) → AreStoredOn start now f all (i ∷ left) →
    next.newest_first ≡ File (record { name = f; image = i }) ∷ now.newest_first → next.room + 1 ≡ now.room → AreStoredOn start next f all left
stored_on start now next f all i left a kept room = record {
  room = let before = a.room in omega arith;
  whole = ap (λ l. of_files (with_stored f left []) ++ l) kept ∙ sym (front f left (record { name = f; image = i } ∷ []) now.newest_first) ∙ a.whole;
}

-- ---- files
-- a command on a file is on no transient data queue
no_queue : (op : Op) → is_file_op op ≡ true → is_trans op ≡ false
no_queue (Write f k r) on = refl
no_queue (Rewrite f k r) on = refl
no_queue (Delete f k) on = refl
no_queue (DeleteGeneric f p) on = refl
no_queue (ReadUpdate f k) on = refl
no_queue _ on = absurd (false≢true on)

-- and leaves the rows of temporary storage
same_rows : (op : Op) (keep : Bool) (rows : Map Row) → is_file_op op ≡ true → rows ≡ rows_after op keep rows
same_rows (Write f k r) keep rows on = refl
same_rows (Rewrite f k r) keep rows on = refl
same_rows (Delete f k) keep rows on = refl
same_rows (DeleteGeneric f p) keep rows on = refl
same_rows (ReadUpdate f k) keep rows on = refl
same_rows _ keep rows on = absurd (false≢true on)

-- a key that no image of the store in place is of, none of those of files is of
unnamed_files : (is : List FilesImage) (kept : List AnyImage) (c : Cell) → is_unnamed cell_of_any (of_files is ++ kept) (file_cell c) ≡ true →
    is_unnamed cell_of_image is c ≡ true
unnamed_files [] kept c unnamed = refl
unnamed_files (i ∷ is) kept c unnamed =
    let parts = and_parts (is_other (file_cell (cell_of_image i)) (file_cell c)) (is_unnamed cell_of_any (of_files is ++ kept) (file_cell c)) unnamed in
    and_from (is_other (cell_of_image i) c) (is_unnamed cell_of_image is c) parts.0 (unnamed_files is kept c parts.1)

module _ (old new : StoreValue) (op : Op) (keep own : Bool) (answer : Answer) (before after : List AnyImage) (n : Map FileValue) (is : List FilesImage)
    (on : is_file_op op ≡ true) (changed : AreFilesChanged old n op is) (recoverable : keep ≡ is_recoverable_in (value_at (file_of op) old.files))
    (store : new ≡ with_files old n) (newest : after ≡ of_files is ++ before) where
  stand_then : (b : Bool) → AreFileImagesAfter old n op is b → AreImagesMade old op b (of_files is)
  stand_then false none = ap of_files none
  stand_then true images = rw (no_queue op on) images.made

  ready_then : (b : Bool) → AreFileImagesAfter old n op is b → b ≡ true → AreReady old before → AreReady (with_files old n) (of_files is ++ before)
  ready_then true images kept ready = ready_in_turn old n is before images.in_turn ready
  ready_then false none kept ready = absurd (false≢true kept)

  spares_at : (c : Cell) → spares op own c ≡ leaves_any op c
  spares_at c = rw on refl

  spares_then : spares op own ≡ leaves_any op
  spares_then = λ i c. spares_at c i

  held_then : (c : Cell) → is_unnamed cell_of_any (of_files is ++ before) c ≡ true → any_holds (with_files old n) c ≡ true → any_holds old c ≡ true
  held_then [] unnamed has = has
  held_then (zero ∷ c) unnamed has = changed.held c (unnamed_files is before c unnamed) has
  held_then (suc zero ∷ c) unnamed has = has
  held_then (suc (suc zero) ∷ c) unnamed has = has
  held_then (suc (suc (suc k)) ∷ c) unnamed has = has

  -- a command on a file is applied, if the files are changed as it asks and its images are the
  -- newest
  pub files_applied : answer ≡ (apply (shown_store old) op).answer → IsApplied old new before after op keep own answer
  files_applied answered = record {
    answered = answered;
    shown = ap shown_store store ∙ changed.shown;
    made = of_files is;
    newest = newest;
    stand = subst (λ b. AreImagesMade old op b (of_files is)) (sym recoverable) (stand_then _ changed.images);
    ready = λ kept ready. subst (λ s. AreReady s after) (sym store) (subst (AreReady (with_files old n)) (sym newest)
        (ready_then _ changed.images (sym recoverable ∙ kept) ready));
    others = subst (λ p. AnyKeep p old new) (sym spares_then)
        (subst (AnyKeep (leaves_any op) old) (sym store) (files_kept (leaves_any op) old n changed.others));
    held = λ c unnamed has. held_then c (ap (λ l. is_unnamed cell_of_any l c) (sym newest) ∙ unnamed) (ap (λ s. any_holds s c) (sym store) ∙ has);
    rows = ap (λ s. s.temp_storage) store ∙ same_rows op keep old.temp_storage on;
    queues = rw (no_queue op on) (ap (λ s. s.trans_data) store);
  }

-- the file of a name is the one that is bound
pub same_file : (s : StoreValue) (name : Bytes) (keep : Bool) (b : IsFileBound s name keep) (f : FileValue) → value_at name s.files ≡ Some f → b.file ≡ f
same_file s name keep b f there = let same : Some b.file ≡ Some f = sym b.there ∙ there in cc

abbrev pub bound_here : (s : StoreValue) (name : Bytes) (keep : Bool) → IsFileBound s name keep → (f : FileValue) → value_at name s.files ≡ Some f → IsFileBound s name keep
bound_here s name keep b f there = record {
  file = f;
  there = there;
  recoverable = b.recoverable ∙ ap (λ x. x.definition.recoverable) (same_file s name keep b f there);
  rising = b.rising;
  content = subst (λ x. IsContent x.definition x.records) (same_file s name keep b f there) b.content;
}

-- a file that is bound was changed by a command, which is answered
module _ (old : StoreValue) (name : Bytes) (keep own : Bool) (b : IsFileBound old name keep) (g : FileValue) (image : Option ImageValue) (answer : Answer)
    (before after : List AnyImage) (newest : after ≡ of_files (image_if name image) ++ before) where
  abbrev then_files : Map FileValue
  then_files = with_value name g old.files

  abbrev then_applied : Op → Type 0
  then_applied op = IsApplied old (with_files old then_files) before after op keep own answer

  -- its image is one among the files
  among_files : (k : Bytes) (o : Option ImageValue) → IfSome o (IsFileImage b.file g k) → IfSome o (λ i. IsFilesImage old.files then_files (cell_of name k) (record { name = name; image = i }))
  among_files k None is = tt
  among_files k (Some i) is = file_image_among name b.file g old.files b.there k i is

  -- WRITE
  pub write_applied : (k r : Bytes) → key_of b.file.definition r ≡ k → g ≡ written b.file r → image ≡ written_image keep b.file r →
      IfSome image (IsFileImage b.file g (key_of b.file.definition r)) → KeepsKeys (is_other (key_of b.file.definition r)) b.file g →
      answer ≡ only (write_condition b.file.records (key_of b.file.definition r)) → then_applied (Write name k r)
  write_applied k r key value given undoes others answered =
      let here = key_of b.file.definition r in
      subst (λ k. then_applied (Write name k r)) key (files_applied old (with_files old then_files) (Write name here r) keep own answer before after then_files (image_if name image) refl
      (write_changed old name b.file b.there b.rising then_files image r (ap (λ x. with_value name x old.files) value) (given ∙ ap (λ x. written_image x b.file r) b.recoverable)
      (among_files here image undoes) (others_kept name b.file g old.files b.there here others))
      (b.recoverable ∙ sym (ap is_recoverable_in b.there)) refl newest (answered ∙ sym (write_answer old name b.file b.there here r)))

  -- REWRITE
  pub rewrite_applied : (k r : Bytes) → key_of b.file.definition r ≡ k → g ≡ rewritten b.file r → image ≡ rewritten_image keep b.file r →
      IfSome image (IsFileImage b.file g (key_of b.file.definition r)) → KeepsKeys (is_other (key_of b.file.definition r)) b.file g →
      answer ≡ only (change_condition b.file.records (key_of b.file.definition r)) → then_applied (Rewrite name k r)
  rewrite_applied k r key value given undoes others answered =
      let here = key_of b.file.definition r in
      subst (λ k. then_applied (Rewrite name k r)) key (files_applied old (with_files old then_files) (Rewrite name here r) keep own answer before after then_files (image_if name image) refl
      (rewrite_changed old name b.file b.there b.rising then_files image r (ap (λ x. with_value name x old.files) value) (given ∙ ap (λ x. rewritten_image x b.file r) b.recoverable)
      (among_files here image undoes) (others_kept name b.file g old.files b.there here others))
      (b.recoverable ∙ sym (ap is_recoverable_in b.there)) refl newest (answered ∙ sym (rewrite_answer old name b.file b.there here r)))

  -- DELETE
  pub delete_applied : (k : Bytes) → g ≡ deleted keep b.file k → image ≡ deleted_image keep b.file k → IfSome image (IsFileImage b.file g k) → KeepsKeys (is_other k) b.file g →
      answer ≡ only (change_condition b.file.records k) → then_applied (Delete name k)
  delete_applied k value given undoes others answered =
      files_applied old (with_files old then_files) (Delete name k) keep own answer before after then_files (image_if name image) refl
      (delete_changed old name b.file b.there b.rising then_files image k (ap (λ x. with_value name x old.files) (value ∙ ap (λ x. deleted x b.file k) b.recoverable))
      (given ∙ ap (λ x. deleted_image x b.file k) b.recoverable) (among_files k image undoes) (others_kept name b.file g old.files b.there k others))
      (b.recoverable ∙ sym (ap is_recoverable_in b.there)) refl newest (answered ∙ sym (delete_answer old name b.file b.there k))

-- DELETE GENERIC, which may have more images than one
pub generic_applied : (old : StoreValue) (name : Bytes) (keep own : Bool) (b : IsFileBound old name keep) (g : FileValue) (images : List ImageValue) (answer : Answer)
    (before after : List AnyImage) → after ≡ of_files (with_stored name images []) ++ before → (p : Bytes) → g ≡ without_prefix keep b.file p → images ≡ prefix_images keep b.file p →
    answer ≡ counted_as (length (under p b.file.records)) → IsApplied old (with_files old (with_value name g old.files)) before after (DeleteGeneric name p) keep own answer
generic_applied old name keep own b g images answer before after newest p value given answered =
    let n = with_value name g old.files in
    files_applied old (with_files old n) (DeleteGeneric name p) keep own answer before after n (with_stored name images []) refl
    (generic_changed old name b.file b.there b.rising b.content p images n (ap (λ x. with_value name x old.files) (value ∙ ap (λ x. without_prefix x b.file p) b.recoverable))
    (given ∙ ap (λ x. prefix_images x b.file p) b.recoverable))
    (b.recoverable ∙ sym (ap is_recoverable_in b.there)) refl newest (answered ∙ sym (counted_is (under p b.file.records)) ∙ sym (generic_answer old name b.file b.there p))

-- READ UPDATE changes nothing
read_changed : (s : StoreValue) (f k : Bytes) → AreFilesChanged s s.files (ReadUpdate f k) []
read_changed s f k = record {
  shown = sym (read_only (shown_store s) f k);
  others = files.keeps_itself (leaves (ReadUpdate f k)) s.files;
  images = by (is_recoverable_in (value_at f s.files));
  held = λ c unnamed has. has;
}
  where
    by : (b : Bool) → AreFileImagesAfter s s.files (ReadUpdate f k) [] b
    by false = refl
    by true = record { made = (refl, refl); in_turn = refl }

-- so it is applied, if it is answered with the record that was looked up
pub read_applied : (s : StoreValue) (kept : List AnyImage) (f k : Bytes) (keep own : Bool) (given : Option Bytes) → IsFileBound s f keep →
    given ≡ read_given s (ReadUpdate f k) → IsApplied s s kept kept (ReadUpdate f k) keep own (with_content (found_condition given) given)
read_applied s kept f k keep own given b is =
    files_applied s s (ReadUpdate f k) keep own (with_content (found_condition given) given) kept kept s.files [] refl (read_changed s f k)
    (b.recoverable ∙ sym (ap is_recoverable_in b.there)) refl refl
    (ap (λ o. with_content (found_condition o) o) (is ∙ ap (λ a. a.content) (read_answer s f b.file b.there k)) ∙ sym (read_answer s f b.file b.there k))

-- ---- temporary storage
-- an image more lies before the others
with_front : (o : Option AnyImage) (is : List AnyImage) → with_image o is ≡ with_image o [] ++ is
with_front None is = refl
with_front (Some i) is = refl

module _ (old : StoreValue) (op : Op) (keep own : Bool) (before : List AnyImage) (rows : Map Row) (image : Option TsImage)
    (is : is_temp op ≡ true) (change : IsTempChange op keep old.temp_storage rows image) where
  abbrev n : StoreValue
  n = with_temp_storage old rows

  abbrev q : Bytes
  q = queue_of op

  shown_then : shown_store n ≡ (apply (shown_store old) op).store
  shown_then = ap (λ x. shown_store (with_temp_storage old x)) change.value ∙ temp_stored op keep old is change.rising

  -- it changes its queue if it is answered NORMAL
  changes_if : (b : Bool) → is_done op old.temp_storage ≡ b → changes op (content (shown_store old) (cell_of_op op)) ≡ b
  changes_if b done = temp_changes op old is change.rising ∙ done

  -- the image stands for its change
  stands : (i : TsImage) → IsTsImage old.temp_storage rows q i →
      IsImageOfChange (record { cell = Ts q; before = content (shown_store old) (Ts q); made = content (shown_store n) (Ts q) }) (TempStorage i)
  stands i undoes = record {
    cell = ap temp_cell undoes.named;
    leads = subst (λ a. AnyLeads (TempStorage i) a (shown_records (content (shown_store old) (Ts q)))) (sym (shown_ts n (subst (λ x. T (is_rising x)) (sym change.value) (rows_rise op keep old.temp_storage change.rising)) q))
        (subst (AnyLeads (TempStorage i) (any_content n (bytes_of (Ts q)))) (sym (shown_ts old change.rising q)) undoes.leads_back);
  }

  stand_if : (k done : Bool) (o : Option TsImage) → keep ≡ k → is_done op old.temp_storage ≡ done → image ≡ o → AreImagesMade old op k (with_image (option_map TempStorage o) [])
  stand_if false done o plain is_so given = ap (λ x. with_image (option_map TempStorage x) [])
      (sym given ∙ change.given ∙ ap (λ b. rows_image op b old.temp_storage) plain ∙ rows_plain op old.temp_storage)
  stand_if true false o kept is_so given = rw (temp_no_trans op is) in_none
    where
      in_none : AreImagesOf (images_by (shown_store old) op (content (shown_store old))) [] (with_image (option_map TempStorage o) [])
      in_none = subst (λ x. AreImagesOf (images_by (shown_store old) op (content (shown_store old))) [] (with_image (option_map TempStorage x) []))
          (sym (rows_stay op keep old.temp_storage is is_so).1 ∙ sym change.given ∙ given)
          (without_image old op (temp_single op is) (changes_if false is_so))
  stand_if true true o kept is_so given = rw (temp_no_trans op is) in_some
    where
      some : (i : TsImage) × (rows_image op true old.temp_storage ≡ Some i)
      some = rows_imaged op old.temp_storage is is_so

      this : image ≡ Some some.0
      this = change.given ∙ ap (λ b. rows_image op b old.temp_storage) kept ∙ some.1

      in_some : AreImagesOf (images_by (shown_store old) op (content (shown_store old))) [] (with_image (option_map TempStorage o) [])
      in_some = subst (λ x. AreImagesOf (images_by (shown_store old) op (content (shown_store old))) [] (with_image (option_map TempStorage x) [])) (sym this ∙ given)
          (change_imaged old op (temp_single op is) n shown_then (Ts q) (temp_cell_of op is) (changes_if true is_so) (TempStorage some.0)
          (stands some.0 (subst (λ x. IfSome x (IsTsImage old.temp_storage rows q)) this change.undoable)) (λ c own. (own, (refl, refl))))

  ready_if : (o : Option TsImage) → image ≡ o → keep ≡ true → AreReady old before → AreReady n (with_image (option_map TempStorage o) before)
  ready_if None none kept ready = subst (λ x. AreReady (with_temp_storage old x) before) (sym (stays (is_done op old.temp_storage) refl)) ready
    where
      stays : (b : Bool) → is_done op old.temp_storage ≡ b → rows ≡ old.temp_storage
      stays false e = change.value ∙ (rows_stay op keep old.temp_storage is e).0
      stays true e =
          let some = rows_imaged op old.temp_storage is e in
          let wrong : None ≡ Some some.0 = sym none ∙ change.given ∙ ap (λ b. rows_image op b old.temp_storage) kept ∙ some.1 in cc
  ready_if (Some i) some kept ready =
      let undoes = temp_any_image old rows q i (subst (λ x. IfSome x (IsTsImage old.temp_storage rows q)) some change.undoable) in
      (undoes.ready, ready_where (λ x. true) old (any_undone n (TempStorage i)) before undoes.back (all_of before) ready)

  spares_row : (c : Cell) → spares op own c ≡ is_other (temp_cell q) c
  spares_row c = rw (temp_no_file op is, temp_no_trans op is) refl

  -- the command is applied, if its image is the newest
  pub temp_applied : (answer : Answer) → answer ≡ rows_answer op old.temp_storage → (after : List AnyImage) → after ≡ with_image (option_map TempStorage image) before →
      IsApplied old n before after op keep own answer
  temp_applied answer answered after newest = record {
    answered = answered ∙ sym (temp_answered op old is change.rising);
    shown = shown_then;
    made = with_image (option_map TempStorage image) [];
    newest = newest ∙ with_front (option_map TempStorage image) before;
    stand = stand_if keep (is_done op old.temp_storage) image refl refl refl;
    ready = λ kept ready. subst (AreReady n) (sym newest) (ready_if image refl kept ready);
    others = subst (λ p. AnyKeep p old n) (λ i c. sym (spares_row c) i) (temp_keeps old rows q change.others);
    held = λ c unnamed has. temp_held old op keep before c
        (ap (λ o. is_unnamed cell_of_any (with_image (option_map TempStorage o) before) c) (sym change.given) ∙ ap (λ l. is_unnamed cell_of_any l c) (sym newest) ∙ unnamed)
        (ap (λ r. any_holds (with_temp_storage old r) c) (sym change.value) ∙ has);
    rows = change.value;
    queues = rw (temp_no_trans op is) refl;
  }

-- ---- transient data
-- a command on a transient data queue leaves the rows of temporary storage
trans_rows : (op : Op) (keep : Bool) (rows : Map Row) → is_trans op ≡ true → rows ≡ rows_after op keep rows
trans_rows (TdWrite q d) keep rows is = refl
trans_rows (TdRead q) keep rows is = refl
trans_rows (TdDelete q) keep rows is = refl
trans_rows _ keep rows is = absurd (false≢true is)

-- a read of a queue is told enough by what it sees: of one that isn't LOGICAL no record is marked
pub read_told : (q : Bytes) (own : Bool) (t : TransState) → IsMarked t → (is_logical t.kind ≡ true → IsSeenIn own (marks_of t)) → IsToldEnough (TdRead q) own (marks_of t)
read_told q own t marked seen = elim (cases_Bool (is_logical t.kind)) [
  | inl logical ↦ seen logical
  | inr plain ↦ told_unwritten (TdRead q) own t (marked.unmarked plain).1
]

-- the queue of a name is the one that is bound
pub same_queue : (s : StoreValue) (name : Bytes) (keep : Bool) (b : IsQueueBound s name keep) (t : TransState) → value_at name s.trans_data ≡ Some t → b.queue ≡ t
same_queue s name keep b t there = let same : Some b.queue ≡ Some t = sym b.there ∙ there in cc

abbrev pub queue_here : (s : StoreValue) (name : Bytes) (keep : Bool) → IsQueueBound s name keep → (t : TransState) → value_at name s.trans_data ≡ Some t → IsQueueBound s name keep
queue_here s name keep b t there = record {
  queue = t;
  there = there;
  logical = b.logical ∙ ap (λ x. is_logical x.kind) (same_queue s name keep b t there);
  marked = subst IsMarked (same_queue s name keep b t there) b.marked;
}

-- a queue that is bound was changed by a command
module _ (old : StoreValue) (op : Op) (keep own : Bool) (is : is_trans op ≡ true) (b : IsQueueBound old (queue_of op) keep) (rising : T (is_rising old.trans_data))
    (new : TransState) (image : Option TdImage) (change : IsTransChange op own b.queue new image) (told : IsToldEnough op own (marks_of b.queue)) (before : List AnyImage) where
  abbrev tq : Bytes
  tq = queue_of op

  abbrev tn : StoreValue
  tn = with_trans_data old (with_value tq new old.trans_data)

  trans_shown : shown_store tn ≡ (apply (shown_store old) op).store
  trans_shown = ap (λ t. shown_store (with_trans_data old (with_value tq t old.trans_data))) change.value ∙ trans_stored op own old b.queue is b.there rising b.marked told

  -- the images
  abbrev trans_made : List AnyImage
  trans_made = with_image (option_map (in_queue tq) image) []

  trans_stand : (k : Bool) → keep ≡ k → AreImagesMade old op k trans_made
  trans_stand true kept = rw is (subst (λ ms. AreImagesOf [] ms trans_made) (append-nil (mark_images op (marks_in old)))
      (kept_with tq [] [] [] image (mark_images op (marks_in old))
      (subst (λ o. CarriesIfAny o (mark_images op (marks_in old))) (sym change.given)
      (carried_after op own b.queue (marks_in old) is b.marked (sym b.logical ∙ kept) (ap marks_if b.there) told))
      (marks_of_queue op (marks_in old)) (refl, refl)))
  trans_stand false plain = ap (λ o. with_image (option_map (in_queue tq) o) []) (change.given ∙ plain_image op own b.queue (sym b.logical ∙ plain))

  trans_ready : AreReady old before → AreReady tn (with_image (option_map (in_queue tq) image) before)
  trans_ready ready = ready_with old tn tq (bytes_of_end tq (end_of op)) image before ready (undoes image change.undoable) (keeps image change.without_image)
    where
      undoes : (o : Option TdImage) → IfSome o (IsTransImage b.queue new (end_cell (end_of op))) →
          IfSome o (λ i. IsAnyImage old tn (bytes_of_end tq (end_of op)) (in_queue tq i))
      undoes None is_so = tt
      undoes (Some i) is_so = trans_any_image old tq b.queue new b.there (end_cell (end_of op)) i is_so

      keeps : (o : Option TdImage) → IfNone o (KeepsEnds (λ c. true) b.queue new) → IfNone o (AnyKeep (λ c. true) old tn)
      keeps None is_so = trans_keeps old tq b.queue new b.there (λ c. true) is_so
      keeps (Some i) is_so = tt

  spares_end : (c : Cell) → spares op own c ≡ is_left op own c
  spares_end c = rw (trans_no_file op is, is) refl

  trans_others : AnyKeep (spares op own) old tn
  trans_others = subst (λ p. AnyKeep p old tn) (λ i c. sym (spares_end c) i)
      (trans_keeps old tq b.queue new b.there (is_left op own) (subst (λ p. KeepsEnds p b.queue new) (λ i c. sym (left_here op own c) i) change.others))

  -- the command is applied, if its image is the newest
  pub trans_applied : (answer : Answer) → answer ≡ trans_answer op own b.queue → (after : List AnyImage) → after ≡ with_image (option_map (in_queue tq) image) before →
      IsApplied old tn before after op keep own answer
  trans_applied answer answered after newest = record {
    answered = answered ∙ sym (trans_answered op own old b.queue is b.there told);
    shown = trans_shown;
    made = trans_made;
    newest = newest ∙ with_front (option_map (in_queue tq) image) before;
    stand = trans_stand keep refl;
    ready = λ kept ready. subst (AreReady tn) (sym newest) (trans_ready ready);
    others = trans_others;
    held = λ c unnamed has. trans_held old (with_value tq new old.trans_data) c has;
    rows = trans_rows op keep old.temp_storage is;
    queues = rw is (ap (λ t. with_value tq t old.trans_data) change.value ∙ ap (λ o. changed_where (λ t. trans_after op own t) tq o old.trans_data) (sym b.there));
  }
