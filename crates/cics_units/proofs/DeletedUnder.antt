-- What DELETE GENERIC makes of the files, and the images that it gives.
use Rattle.std.proofs.Common.{◌≡◌, ℕ, Bool, true, false, ◌&&◌, ◌||◌, not, T, Some, List, [], ◌∷◌, ◌++◌, refl, ap, sym, subst, ◌∙◌, inl, inr, ◌⊎◌}
use Rattle.std.specs.Prelude.{if◌then◌else◌, map, unwrap_or}
use Rattle.std.proofs.lemmas.Bool.{true≢false, and_parts, or_right, false_from_ne_true}
use Rattle.std.proofs.lemmas.List.{append_assoc, append-nil}
use Rattle.cics_names.specs.Keyed.{Bytes, Map, value_at, has_key, with_value, is_rising, is_same, is_key_in}
use Rattle.cics_names.specs.KeyedLaws.{is_same-self, is_same-eq, value_at-with_value_same, value_at-with_value_other}
use Rattle.cics_names.specs.RisingLaws.{rising-with_value, same_maps, is_key_in-with_key, is_key_in-without_key}
use Rattle.cics_images.specs.Cells.{is_other, is_unnamed}
use Rattle.cics_images.specs.StoreCells.{file_cell, with_files}
use Rattle.cics_images.specs.NamedLaws.{split_cell, same_or_other}
use Rattle.cics_ksds.specs.Files.{FileValue, IsContent, key_of, emptied, dropped, deleted}
use Rattle.cics_ksds.specs.Undo.{ImageValue, key_of_image, KeepsKeys}
use Rattle.cics_ksds.specs.Prefixes.{has_prefix, under, outside, keys_under, all_deleted, without_prefix, removed_entry, prefix_images, AreFileImages}
use Rattle.cics_ksds.specs.PrefixLaws.{AreThere, under_there, prefix_made, prefix_keeps}
use Rattle.cics_ksds.specs.PrefixRecords.{without_prefix_records}
use Rattle.cics_history.specs.Store.{apply, apply_delete_generic, answered, counted_answer, with_file}
use Rattle.cics_history.specs.Cells.{Key, content, listed}
use Rattle.cics_history.specs.Undo.{Image, Cells, image_at, images_under, images_by}
use Rattle.cics_history.specs.declared.ops.Op.{Op}
use Rattle.cics_history.specs.declared.ops.Op.TheVariants.{DeleteGeneric}
use Rattle.cics_history.proofs.Entries.{with_value-same}
use Rattle.cics_units.specs.Opening.FilesImages.{FilesImage, cell_of, cell_of_image, files_hold, FilesKeep, KeepsIn}
use Rattle.cics_units.specs.FilesImagesLaws as files
use Rattle.cics_units.specs.FilesImagesLaws.{same_bytes-eq}
use Rattle.cics_units.specs.FilesChanges.{image_among, held_among}
use Rattle.cics_units.specs.Opening.StoreMatching.{StoreValue, shown_store, AreImagesOf}
use Rattle.cics_units.specs.Parts.{is_recoverable_in, with_stored, leaves, is_below_prefix, of_files}
use Rattle.cics_units.proofs.MadeImages.{AreMadeInTurn}
use Rattle.cics_units.proofs.FilesChanged.{AreFileImagesAfter, AreFilesChanged}
use Rattle.cics_units.proofs.FileChanges.{records_there, cell_there, kept_store, changed_store}

-- a file that takes the place of another takes that of what took it before
twice : (name : Bytes) (g h : FileValue) (m : Map FileValue) → T (is_rising m) → with_value name h (with_value name g m) ≡ with_value name h m
twice name g h m rising =
    same_maps _ _ (rising-with_value name h (with_value name g m) (rising-with_value name g m rising)) (rising-with_value name h m rising) (λ q.
    elim (same_or_other q name) [
      | inl same ↦ subst (λ x. value_at x (with_value name h (with_value name g m)) ≡ value_at x (with_value name h m)) (sym same)
          (value_at-with_value_same name h (with_value name g m) ∙ sym (value_at-with_value_same name h m))
      | inr apart ↦ value_at-with_value_other q name h (with_value name g m) apart ∙ value_at-with_value_other q name g m apart
          ∙ sym (value_at-with_value_other q name h m apart)
    ])

-- the images of changes made one after another lead back in turn, the last the first
made_along : (name : Bytes) (images : List ImageValue) (f g : FileValue) (start m : Map FileValue) → T (is_rising m) → value_at name m ≡ Some f →
    AreFileImages f g images → (is : List FilesImage) → AreMadeInTurn start m is → AreMadeInTurn start (with_value name g m) (with_stored name images is)
made_along name [] f g start m rising there same is made =
    subst (λ x. AreMadeInTurn start (with_value name x m) is) (sym same) (subst (λ x. AreMadeInTurn start x is) (sym (with_value-same name f m rising there)) made)
made_along name (i ∷ more) f g start m rising there chain is made =
    let mid = chain.0 in
    let next = with_value name mid m in
    let image : FilesImage = record { name = name; image = i } in
    subst (λ x. AreMadeInTurn start x (with_stored name more (image ∷ is))) (twice name mid g m rising)
    (made_along name more mid g start next (rising-with_value name mid m rising) (value_at-with_value_same name mid m) chain.2 (image ∷ is)
    (m, image_among name f mid m there (key_of_image i) i chain.1, made))

module _ (s : StoreValue) (name p : Bytes) (f : FileValue) (there : value_at name s.files ≡ Some f) where
  abbrev cells : Cells
  cells = content (shown_store s)

  abbrev op : Op
  op = DeleteGeneric name p

  abbrev image_of_entry : Bytes × Bytes → FilesImage
  image_of_entry e = record { name = name; image = removed_entry f.definition e }

  -- the image of an entry stands for the change of its key
  entry_kept : (e : Bytes × Bytes) → value_at e.0 f.records ≡ Some e.1 → key_of f.definition e.1 ≡ e.0 → (cs : List Image) (is : List FilesImage) → AreImagesOf cs [] (of_files is) →
      AreImagesOf (image_at op (Key name e.0) (cells (Key name e.0)) ++ cs) [] (of_files (image_of_entry e ∷ is))
  entry_kept e at own cs is kept =
      subst (λ c. AreImagesOf (image_at op (Key name e.0) c ++ cs) [] (of_files (image_of_entry e ∷ is))) (sym (cell_there s name f there e.0 ∙ ap (λ o. Some (listed o)) at))
      (record { cell = ap (λ k. file_cell (cell_of name k)) own; leads = (refl, refl) }, kept)

  -- and those of entries for the changes of theirs
  entries_kept : (es : Map Bytes) → AreThere f es → (cs : List Image) (is : List FilesImage) → AreImagesOf cs [] (of_files is) →
      AreImagesOf (images_under op name cells es ++ cs) [] (of_files (with_stored name (map (removed_entry f.definition) es) is))
  entries_kept [] entries cs is kept = kept
  entries_kept (e ∷ es) entries cs is kept =
      subst (λ l. AreImagesOf l [] (of_files (with_stored name (map (removed_entry f.definition) es) (image_of_entry e ∷ is))))
      (sym (append_assoc (images_under op name cells es) (image_at op (Key name e.0) (cells (Key name e.0))) cs))
      (entries_kept es entries.3 (image_at op (Key name e.0) (cells (Key name e.0)) ++ cs) (image_of_entry e ∷ is) (entry_kept e entries.0 entries.1 cs is kept))

  -- those of the command stand for its changes
  all_kept : IsContent f.definition f.records → AreImagesOf (images_by (shown_store s) op cells) [] (of_files (with_stored name (prefix_images true f p) []))
  all_kept content_is =
      subst (λ l. AreImagesOf l [] (of_files (with_stored name (prefix_images true f p) [])))
      (append-nil (images_under op name cells (under p f.records)) ∙ ap (λ o. images_under op name cells (under p (unwrap_or o []))) (sym (records_there s name f there)))
      (entries_kept (under p f.records) (under_there f p content_is) [] [] (refl, refl))

-- ---- What is held back

-- an empty place more is that of a key that was deleted
held_more : (keep : Bool) (keys : List Bytes) (f : FileValue) (k : Bytes) → is_key_in k (all_deleted keep f keys).empties ≡ true →
    (is_key_in k f.empties ≡ true) ⊎ ((keep ≡ true) × (is_key_in k keys ≡ true))
held_more keep [] f k has = inl has
held_more keep (q ∷ keys) f k has =
    elim (held_more keep keys (deleted keep f q) k has) [
      | inr more ↦ inr (more.0, or_right (is_same k q) (is_key_in k keys) more.1)
      | inl here ↦ one (has_key q f.records) keep refl here
    ]
  where
    one : (b kept : Bool) → keep ≡ kept → is_key_in k (if b then if kept then emptied f q else dropped f q else f).empties ≡ true →
        (is_key_in k f.empties ≡ true) ⊎ ((keep ≡ true) × ((is_same k q || is_key_in k keys) ≡ true))
    one false kept e here = inl here
    one true false e here = inl ((and_parts (not (is_same k q)) (is_key_in k f.empties) (sym (is_key_in-without_key k q f.empties) ∙ here)).1)
    one true true e here = by (is_same k q) (sym (is_key_in-with_key k q f.empties) ∙ here)
      where
        by : (b : Bool) → (b || is_key_in k f.empties) ≡ true → (is_key_in k f.empties ≡ true) ⊎ ((keep ≡ true) × ((b || is_key_in k keys) ≡ true))
        by true g = inr (e, refl)
        by false g = inl g

-- what no image of the later ones names none of the earlier names
unnamed_before : (name : Bytes) (more : List ImageValue) (is : List FilesImage) (c : List ℕ) →
    is_unnamed cell_of_image (with_stored name more is) c ≡ true → is_unnamed cell_of_image is c ≡ true
unnamed_before name [] is c h = h
unnamed_before name (i ∷ more) is c h =
    (and_parts (is_other (cell_of_image (record { name = name; image = i })) c) (is_unnamed cell_of_image is c)
    (unnamed_before name more (record { name = name; image = i } ∷ is) c h)).1

-- if no image names a key it is none that was deleted
unnamed_apart : (name : Bytes) (f : FileValue) (es : Map Bytes) → AreThere f es → (is : List FilesImage) (k : Bytes) →
    is_unnamed cell_of_image (with_stored name (map (removed_entry f.definition) es) is) (cell_of name k) ≡ true → is_key_in k (map (λ e. e.0) es) ≡ false
unnamed_apart name f [] entries is k h = refl
unnamed_apart name f (e ∷ es) entries is k h = λ i. here i || unnamed_apart name f es entries.3 (image ∷ is) k h i
  where
    image : FilesImage
    image = record { name = name; image = removed_entry f.definition e }

    free : is_other (cell_of name (key_of f.definition e.1)) (cell_of name k) ≡ true
    free = (and_parts (is_other (cell_of name (key_of f.definition e.1)) (cell_of name k)) (is_unnamed cell_of_image is (cell_of name k))
        (unnamed_before name (map (removed_entry f.definition) es) (image ∷ is) (cell_of name k) h)).0

    here : is_same k e.0 ≡ false
    here = false_from_ne_true (is_same k e.0) (λ same.
        true≢false (sym free ∙ ap not (same_bytes-eq (cell_of name k) (cell_of name (key_of f.definition e.1))
        (ap (cell_of name) (is_same-eq k e.0 same ∙ sym entries.1)))))

-- ---- The command

module _ (s : StoreValue) (name : Bytes) (f : FileValue) (there : value_at name s.files ≡ Some f) (rising : T (is_rising s.files))
    (content_is : IsContent f.definition f.records) (p : Bytes) (images : List ImageValue) where
  abbrev after : FileValue
  after = without_prefix f.definition.recoverable f p

  shown_then : shown_store (with_files s (with_value name after s.files)) ≡ (apply (shown_store s) (DeleteGeneric name p)).store
  shown_then =
      by (under p f.records) refl
      ∙ sym (ap (λ o. (apply_delete_generic (shown_store s) name p o).store) (records_there s name f there))
    where
      by : (es : Map Bytes) → under p f.records ≡ es → shown_store (with_files s (with_value name after s.files))
          ≡ (answered (shown_store s) (counted_answer es) (with_file (shown_store s) name (outside p f.records))).store
      by [] none =
          ap (λ es. shown_store (with_files s (with_value name (all_deleted f.definition.recoverable f (map (λ e. e.0) es)) s.files))) none
          ∙ kept_store s name f there rising
      by (e ∷ es) some =
          changed_store s name f there rising after
          ∙ ap (with_file (shown_store s) name) (without_prefix_records f.definition.recoverable f p content_is)

  -- of its own file it leaves the keys that are not under the prefix
  left_here : (k : List ℕ) → leaves (DeleteGeneric name p) (cell_of name k) ≡ not (has_prefix p k)
  left_here k = ap (λ e. not (is_below_prefix name p e)) (split_cell name k) ∙ ap (λ b. not (b && has_prefix p k)) (is_same-self name)

  others_then : FilesKeep (leaves (DeleteGeneric name p)) s.files (with_value name after s.files)
  others_then = λ q. elim (same_or_other q name) [
    | inl same ↦ subst (λ x. KeepsIn (λ c. leaves (DeleteGeneric name p) (cell_of x c)) (value_at x s.files) (value_at x (with_value name after s.files))) (sym same)
        (subst (λ o. KeepsIn (λ c. leaves (DeleteGeneric name p) (cell_of name c)) o (value_at name (with_value name after s.files))) (sym there)
        (subst (KeepsIn (λ c. leaves (DeleteGeneric name p) (cell_of name c)) (Some f)) (sym (value_at-with_value_same name after s.files))
        (subst (λ t. KeepsKeys t f after) (λ i c. sym (left_here c) i) (prefix_keeps f.definition.recoverable f p))))
    | inr apart ↦ subst (KeepsIn (λ c. leaves (DeleteGeneric name p) (cell_of q c)) (value_at q s.files)) (sym (value_at-with_value_other q name after s.files apart))
        (files.keeps_itself (leaves (DeleteGeneric name p)) s.files q)
  ]

  module _ (n : Map FileValue) (files_then : n ≡ with_value name after s.files) (given : images ≡ prefix_images f.definition.recoverable f p) where
    -- the images, if they are asked for
    asked : (b : Bool) → f.definition.recoverable ≡ b → images ≡ prefix_images b f p
    asked b is = given ∙ ap (λ b. prefix_images b f p) is

    images_then : (b : Bool) → f.definition.recoverable ≡ b → AreFileImagesAfter s n (DeleteGeneric name p) (with_stored name images []) b
    images_then false plain = ap (λ is. with_stored name is []) (asked false plain)
    images_then true rec = record {
      made = subst (λ l. AreImagesOf (images_by (shown_store s) (DeleteGeneric name p) (content (shown_store s))) [] (of_files (with_stored name l []))) (sym (asked true rec))
          (all_kept s name p f there content_is);
      in_turn = subst (λ m. AreMadeInTurn s.files m (with_stored name images [])) (sym files_then)
          (subst (λ l. AreMadeInTurn s.files (with_value name after s.files) (with_stored name l [])) (sym (asked true rec))
          (subst (λ b. AreMadeInTurn s.files (with_value name (without_prefix b f p) s.files) (with_stored name (prefix_images true f p) [])) (sym rec)
          (made_along name (prefix_images true f p) f (without_prefix true f p) s.files s.files rising there (prefix_made f p content_is) [] refl)));
    }

    held_then : (k : Bytes) → is_unnamed cell_of_image (with_stored name images []) (cell_of name k) ≡ true → is_key_in k after.empties ≡ true → is_key_in k f.empties ≡ true
    held_then k unnamed has = elim (held_more f.definition.recoverable (keys_under p f.records) f k has) [
      | inl before ↦ before
      | inr more ↦ absurd (true≢false (sym more.1 ∙ unnamed_apart name f (under p f.records) (under_there f p content_is) [] k
          (ap (λ l. is_unnamed cell_of_image (with_stored name l []) (cell_of name k)) (sym (asked true more.0)) ∙ unnamed)))
    ]

    pub generic_changed : AreFilesChanged s n (DeleteGeneric name p) (with_stored name images [])
    generic_changed = record {
      shown = ap (λ m. shown_store (with_files s m)) files_then ∙ shown_then;
      others = subst (FilesKeep (leaves (DeleteGeneric name p)) s.files) (sym files_then) others_then;
      images = images_then (is_recoverable_in (value_at name s.files)) (sym (ap is_recoverable_in there));
      held = λ c unnamed has. held_among name f after s.files there (is_unnamed cell_of_image (with_stored name images [])) held_then c unnamed (sym (ap (λ m. files_hold m c) files_then) ∙ has);
    }
