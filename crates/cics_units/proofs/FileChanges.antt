-- What an executed command on a file makes of the files, and the image that it gives.
use Rattle.std.specs.Prelude.{◌≡◌, ℕ, Bool, true, false, if◌then◌else◌, T, Option, Some, None, is_some, option_map, IfSome, List, refl}
use Rattle.std.proofs.Common.{sym, ap, ◌∙◌, subst}
use Rattle.std.proofs.lemmas.Bool.{true≢false, false≢true}
use Rattle.cics_names.specs.Keyed.{Bytes, Map, value_at, has_key, with_value, without, is_rising}
use Rattle.cics_names.specs.declared.conditions.Condition.TheVariants.{Normal, Duprec, Notfnd}
use Rattle.cics_images.specs.Cells.{is_other, is_unnamed}
use Rattle.cics_images.specs.StoreCells.{with_files}
use Rattle.cics_images.specs.declared.stores.StoreImage.TheVariants.{File}
use Rattle.cics_ksds.specs.Files.{FileValue, key_of, written, rewritten, deleted, filled, emptied, dropped, write_condition, change_condition}
use Rattle.cics_ksds.specs.Prefixes.{under}
use Rattle.cics_ksds.specs.Undo.{ImageValue, written_image, rewritten_image, deleted_image}
use Rattle.cics_history.specs.Store.{apply, apply_write, apply_rewrite, apply_delete, apply_delete_generic, apply_read, answered, counted_answer, only, with_file, with_content, found_condition}
use Rattle.cics_history.specs.Cells.{Key, content, is_generic, cell_of as cell_of_op, listed, record_in}
use Rattle.cics_history.specs.Undo.{changes}
use Rattle.cics_history.specs.declared.ops.Op.{Op}
use Rattle.cics_history.specs.declared.ops.Op.TheVariants.{Write, Rewrite, Delete, DeleteGeneric, ReadUpdate}
use Rattle.cics_units.specs.Opening.FilesImages.{FilesImage, cell_of, cell_of_image, files_hold, FilesKeep, KeepsIn, definitions_of}
use Rattle.cics_units.proofs.HeldPlaces.{written_held, rewritten_held, deleted_held}
use Rattle.cics_units.specs.FilesChanges.{IsFilesImage, held_among}
use Rattle.cics_units.specs.Opening.StoreMatching.{StoreValue, shown_store}
use Rattle.cics_units.specs.Parts.{is_recoverable_in, image_if}
use Rattle.cics_history.proofs.Entries.{with_value-same}
use Rattle.cics_units.proofs.MadeImages.{stands_for, with_image, without_image}
use Rattle.cics_units.proofs.FilesChanged.{HasFileImages, AreFileImagesAfter, AreFilesChanged}
use Rattle.cics_units.proofs.OfOpening.Opened.{with_value-each}
use Rattle.cics_history.proofs.Stores.{value_at_each}

-- what one of the files has of a record's key, and what a command on it is answered
module _ (s : StoreValue) (name : Bytes) (f : FileValue) (there : value_at name s.files ≡ Some f) where
  pub records_there : value_at name (shown_store s).files ≡ Some f.records
  records_there = value_at_each (λ x. x.records) name s.files ∙ ap (option_map (λ x. x.records)) there

  pub cell_there : (k : Bytes) → content (shown_store s) (Key name k) ≡ Some (listed (value_at k f.records))
  cell_there k = ap (record_in k) records_there

  pub write_answer : (k r : Bytes) → (apply (shown_store s) (Write name k r)).answer ≡ only (write_condition f.records k)
  write_answer k r = ap (λ o. (apply_write (shown_store s) name k r o).answer) records_there

  pub rewrite_answer : (k r : Bytes) → (apply (shown_store s) (Rewrite name k r)).answer ≡ only (change_condition f.records k)
  rewrite_answer k r = ap (λ o. (apply_rewrite (shown_store s) name k r o).answer) records_there

  pub delete_answer : (k : Bytes) → (apply (shown_store s) (Delete name k)).answer ≡ only (change_condition f.records k)
  delete_answer k = ap (λ o. (apply_delete (shown_store s) name k o).answer) records_there

  pub generic_answer : (p : Bytes) → (apply (shown_store s) (DeleteGeneric name p)).answer ≡ counted_answer (under p f.records)
  generic_answer p = ap (λ o. (apply_delete_generic (shown_store s) name p o).answer) records_there

  pub read_answer : (k : Bytes) → (apply (shown_store s) (ReadUpdate name k)).answer ≡ with_content (found_condition (value_at k f.records)) (value_at k f.records)
  read_answer k = ap (λ o. (apply_read (shown_store s) k o).answer) records_there

  module _ (rising : T (is_rising s.files)) where
    pub kept_store : shown_store (with_files s (with_value name f s.files)) ≡ shown_store s
    kept_store = ap (λ m. shown_store (with_files s m)) (with_value-same name f s.files rising there)

    pub changed_store : (g : FileValue) → shown_store (with_files s (with_value name g s.files)) ≡ with_file (shown_store s) name g.records
    changed_store g = λ i. record { files = with_value-each (λ x. x.records) name g s.files i; ts = (shown_store s).ts; td = (shown_store s).td }

    pub write_store : (r : Bytes) → shown_store (with_files s (with_value name (written f r) s.files)) ≡ (apply (shown_store s) (Write name (key_of f.definition r) r)).store
    write_store r =
        let k = key_of f.definition r in
        let t = shown_store s in
        elim (has_key k f.records) as (λ b. shown_store (with_files s (with_value name (if b then f else filled f k r) s.files))
        ≡ (answered t (only (if b then Duprec else Normal)) (with_file t name (if b then f.records else with_value k r f.records))).store) [
          | true ↦ kept_store
          | false ↦ changed_store (filled f k r)
        ]
        ∙ sym (ap (λ o. (apply_write t name k r o).store) records_there)

    pub rewrite_store : (r : Bytes) → shown_store (with_files s (with_value name (rewritten f r) s.files)) ≡ (apply (shown_store s) (Rewrite name (key_of f.definition r) r)).store
    rewrite_store r =
        let k = key_of f.definition r in
        let t = shown_store s in
        elim (has_key k f.records) as (λ b. shown_store (with_files s (with_value name (if b then filled f k r else f) s.files))
        ≡ (answered t (only (if b then Normal else Notfnd)) (with_file t name (if b then with_value k r f.records else f.records))).store) [
          | true ↦ changed_store (filled f k r)
          | false ↦ kept_store
        ]
        ∙ sym (ap (λ o. (apply_rewrite t name k r o).store) records_there)

    pub delete_store : (keep : Bool) (k : Bytes) → shown_store (with_files s (with_value name (deleted keep f k) s.files)) ≡ (apply (shown_store s) (Delete name k)).store
    delete_store keep k =
        let t = shown_store s in
        elim (has_key k f.records) as (λ b. shown_store (with_files s (with_value name (if b then if keep then emptied f k else dropped f k else f) s.files))
        ≡ (answered t (only (if b then Normal else Notfnd)) (with_file t name (without k f.records))).store) [
          | true ↦ elim keep as (λ b. shown_store (with_files s (with_value name (if b then emptied f k else dropped f k) s.files)) ≡ with_file t name (without k f.records)) [
            | true ↦ changed_store (emptied f k)
            | false ↦ changed_store (dropped f k)
          ]
          | false ↦ kept_store
        ]
        ∙ sym (ap (λ o. (apply_delete t name k o).store) records_there)

-- what leaves the other cells leaves the definitions
pub kept_definitions : (p : List ℕ → Bool) (m n : Map FileValue) → FilesKeep p m n → definitions_of n ≡ definitions_of m
kept_definitions p m n kept = λ i q. by (λ key. p (cell_of q key)) (value_at q m) (value_at q n) (kept q) i
  where
    by : (p : List ℕ → Bool) (a b : Option FileValue) → KeepsIn p a b → option_map (λ f. f.definition) b ≡ option_map (λ f. f.definition) a
    by p None None k = refl
    by p None (Some g) k = absurd k
    by p (Some f) None k = absurd k
    by p (Some f) (Some g) k = ap Some k.same_file

-- the image of a command on one record of a file that is there: one if it changes a record of a
-- recoverable file, else none
module _ (s : StoreValue) (name : Bytes) (f : FileValue) (there : value_at name s.files ≡ Some f) (n : Map FileValue) (op : Op) (one : is_generic op ≡ false) (k : Bytes)
    (on : cell_of_op op ≡ Key name k) (store : shown_store (with_files s n) ≡ (apply (shown_store s) op).store) (image : Option ImageValue)
    (undoes : IfSome image (λ i. IsFilesImage s.files n (cell_of name k) (record { name = name; image = i }))) where
  -- whether it changes the record
  abbrev changed : Bool
  changed = changes op (Some (listed (value_at k f.records)))

  changed_here : changes op (content (shown_store s) (cell_of_op op)) ≡ changed
  changed_here = ap (λ x. changes op (content (shown_store s) x)) on ∙ ap (changes op) (cell_there s name f there k)

  module _ (plain : f.definition.recoverable ≡ false → image ≡ None) (still : changed ≡ false → (image ≡ None) × (s.files ≡ n))
      (asked : f.definition.recoverable ≡ true → changed ≡ true → is_some image ≡ true) where
    image_by : (rec did : Bool) (o : Option ImageValue) → f.definition.recoverable ≡ rec → changed ≡ did → image ≡ o → AreFileImagesAfter s n op (image_if name o) rec
    image_by false did o r c is = ap (image_if name) (sym is ∙ plain r)
    image_by true false o r c is = subst (λ o. HasFileImages s n op (image_if name o)) (sym (still c).0 ∙ is) (record {
      made = without_image s op one (changed_here ∙ c);
      in_turn = (still c).1;
    })
    image_by true true None r c is = absurd (false≢true (ap is_some (sym is) ∙ asked r c))
    image_by true true (Some i) r c is =
        let this : FilesImage = record { name = name; image = i } in
        let undone : IsFilesImage s.files n (cell_of name k) this = subst (λ o. IfSome o (λ i. IsFilesImage s.files n (cell_of name k) (record { name = name; image = i }))) is undoes in
        record {
          made = with_image s op one (with_files s n) store (Key name k) on (changed_here ∙ c) (File this) (stands_for s n name k this undone) (λ c own. (own, (refl, refl)));
          in_turn = (s.files, subst (λ c. IsFilesImage s.files n c this) (sym undone.named) undone, refl);
        }

    pub image_given : AreFileImagesAfter s n op (image_if name image) (is_recoverable_in (value_at name s.files))
    image_given = subst (AreFileImagesAfter s n op (image_if name image)) (sym (ap is_recoverable_in there)) (image_by f.definition.recoverable changed image refl refl refl)

-- the images of WRITE, REWRITE and DELETE, by what the key has
module _ (name : Bytes) (m : Map FileValue) (f : FileValue) (there : value_at name m ≡ Some f) (rising : T (is_rising m)) where
  abbrev same_files : FileValue → Type 0
  same_files g = m ≡ with_value name g m

  as_it_was : same_files f
  as_it_was = sym (with_value-same name f m rising there)

  write_plain : (r : Bytes) (o : Option Bytes) → value_at (key_of f.definition r) f.records ≡ o → written_image false f r ≡ None
  write_plain r None at = rw at refl
  write_plain r (Some x) at = rw at refl

  write_still : (keep : Bool) (r : Bytes) (o : Option Bytes) → value_at (key_of f.definition r) f.records ≡ o → changes (Write name (key_of f.definition r) r) (Some (listed o)) ≡ false →
      (written_image keep f r ≡ None) × same_files (written f r)
  write_still keep r None at still = absurd (true≢false still)
  write_still keep r (Some x) at still = (rw at refl, rw at as_it_was)

  write_asked : (r : Bytes) (o : Option Bytes) → value_at (key_of f.definition r) f.records ≡ o → changes (Write name (key_of f.definition r) r) (Some (listed o)) ≡ true →
      is_some (written_image true f r) ≡ true
  write_asked r None at changed = rw at refl
  write_asked r (Some x) at changed = absurd (false≢true changed)

  rewrite_still : (keep : Bool) (r : Bytes) (o : Option Bytes) → value_at (key_of f.definition r) f.records ≡ o → changes (Rewrite name (key_of f.definition r) r) (Some (listed o)) ≡ false →
      (rewritten_image keep f r ≡ None) × same_files (rewritten f r)
  rewrite_still true r None at still = (rw at refl, rw at as_it_was)
  rewrite_still false r None at still = (refl, rw at as_it_was)
  rewrite_still keep r (Some x) at still = absurd (true≢false still)

  rewrite_asked : (r : Bytes) (o : Option Bytes) → value_at (key_of f.definition r) f.records ≡ o → changes (Rewrite name (key_of f.definition r) r) (Some (listed o)) ≡ true →
      is_some (rewritten_image true f r) ≡ true
  rewrite_asked r None at changed = absurd (false≢true changed)
  rewrite_asked r (Some x) at changed = rw at refl

  delete_still : (keep : Bool) (k : Bytes) (o : Option Bytes) → value_at k f.records ≡ o → changes (Delete name k) (Some (listed o)) ≡ false →
      (deleted_image keep f k ≡ None) × same_files (deleted keep f k)
  delete_still true k None at still = (rw at refl, rw at as_it_was)
  delete_still false k None at still = (refl, rw at as_it_was)
  delete_still keep k (Some x) at still = absurd (true≢false still)

  delete_asked : (k : Bytes) (o : Option Bytes) → value_at k f.records ≡ o → changes (Delete name k) (Some (listed o)) ≡ true →
      is_some (deleted_image true f k) ≡ true
  delete_asked k None at changed = absurd (false≢true changed)
  delete_asked k (Some x) at changed = rw at refl

-- ---- A command on a file that is there has changed the files
module _ (s : StoreValue) (name : Bytes) (f : FileValue) (there : value_at name s.files ≡ Some f) (rising : T (is_rising s.files))
    (n : Map FileValue) (image : Option ImageValue) where
  pub write_changed : (r : Bytes) → n ≡ with_value name (written f r) s.files → image ≡ written_image f.definition.recoverable f r →
      IfSome image (λ i. IsFilesImage s.files n (cell_of name (key_of f.definition r)) (record { name = name; image = i })) →
      FilesKeep (is_other (cell_of name (key_of f.definition r))) s.files n → AreFilesChanged s n (Write name (key_of f.definition r) r) (image_if name image)
  write_changed r files is undoes others =
      let k = key_of f.definition r in
      let shown : shown_store (with_files s n) ≡ (apply (shown_store s) (Write name k r)).store = ap (λ m. shown_store (with_files s m)) files ∙ write_store s name f there rising r in
      record {
        shown = shown;
        others = others;
        images = image_given s name f there n (Write name k r) refl k refl shown image undoes
            (λ plain. is ∙ ap (λ b. written_image b f r) plain ∙ write_plain name s.files f there rising r (value_at k f.records) refl)
            (λ still. let w = write_still name s.files f there rising f.definition.recoverable r (value_at k f.records) refl still in (is ∙ w.0, w.1 ∙ sym files))
            (λ rec changed. ap is_some (is ∙ ap (λ b. written_image b f r) rec) ∙ write_asked name s.files f there rising r (value_at k f.records) refl changed);
        held = λ c unnamed has. held_among name f (written f r) s.files there (λ c. true) (λ q pass. written_held f q r) c refl (sym (ap (λ m. files_hold m c) files) ∙ has);
      }

  pub rewrite_changed : (r : Bytes) → n ≡ with_value name (rewritten f r) s.files → image ≡ rewritten_image f.definition.recoverable f r →
      IfSome image (λ i. IsFilesImage s.files n (cell_of name (key_of f.definition r)) (record { name = name; image = i })) →
      FilesKeep (is_other (cell_of name (key_of f.definition r))) s.files n → AreFilesChanged s n (Rewrite name (key_of f.definition r) r) (image_if name image)
  rewrite_changed r files is undoes others =
      let k = key_of f.definition r in
      let shown : shown_store (with_files s n) ≡ (apply (shown_store s) (Rewrite name k r)).store = ap (λ m. shown_store (with_files s m)) files ∙ rewrite_store s name f there rising r in
      record {
        shown = shown;
        others = others;
        images = image_given s name f there n (Rewrite name k r) refl k refl shown image undoes
            (λ plain. is ∙ ap (λ b. rewritten_image b f r) plain)
            (λ still. let w = rewrite_still name s.files f there rising f.definition.recoverable r (value_at k f.records) refl still in (is ∙ w.0, w.1 ∙ sym files))
            (λ rec changed. ap is_some (is ∙ ap (λ b. rewritten_image b f r) rec) ∙ rewrite_asked name s.files f there rising r (value_at k f.records) refl changed);
        held = λ c unnamed has. held_among name f (rewritten f r) s.files there (λ c. true) (λ q pass. rewritten_held f q r) c refl (sym (ap (λ m. files_hold m c) files) ∙ has);
      }

  each_named : (k : Bytes) (o : Option ImageValue) → IfSome o (λ i. IsFilesImage s.files n (cell_of name k) (record { name = name; image = i })) →
      IfSome o (λ i. cell_of_image (record { name = name; image = i }) ≡ cell_of name k)
  each_named k None undoes = tt
  each_named k (Some i) undoes = undoes.named

  pub delete_changed : (k : Bytes) → n ≡ with_value name (deleted f.definition.recoverable f k) s.files → image ≡ deleted_image f.definition.recoverable f k →
      IfSome image (λ i. IsFilesImage s.files n (cell_of name k) (record { name = name; image = i })) →
      FilesKeep (is_other (cell_of name k)) s.files n → AreFilesChanged s n (Delete name k) (image_if name image)
  delete_changed k files is undoes others =
      let shown : shown_store (with_files s n) ≡ (apply (shown_store s) (Delete name k)).store = ap (λ m. shown_store (with_files s m)) files ∙ delete_store s name f there rising f.definition.recoverable k in
      record {
        shown = shown;
        others = others;
        images = image_given s name f there n (Delete name k) refl k refl shown image undoes
            (λ plain. is ∙ ap (λ b. deleted_image b f k) plain)
            (λ still. let w = delete_still name s.files f there rising f.definition.recoverable k (value_at k f.records) refl still in (is ∙ w.0, w.1 ∙ sym files))
            (λ rec changed. ap is_some (is ∙ ap (λ b. deleted_image b f k) rec) ∙ delete_asked name s.files f there rising k (value_at k f.records) refl changed);
        held = λ c unnamed has. held_among name f (deleted f.definition.recoverable f k) s.files there (is_unnamed cell_of_image (image_if name image))
            (λ q pass. deleted_held name f k q f.definition.recoverable image is (each_named k image undoes) pass)
            c unnamed (sym (ap (λ m. files_hold m c) files) ∙ has);
      }
