-- The end of a unit, part by part: files, temporary storage and transient data go by the images of
-- their own kind, and stay in order.
use Rattle.std.proofs.Common.{◌≡◌, true, Option, Some, None, List, [], ◌∷◌, T, refl, ap, sym, subst, ◌∙◌}
use Rattle.std.specs.Prelude.{fold, option_map}
use Rattle.std.specs.Option.{option_and_then}
use Rattle.cics_names.specs.Keyed.{Bytes, Map, value_at, is_rising}
use Rattle.cics_images.specs.Cells.{Cell, all_swept}
use Rattle.cics_images.specs.NamedValues.{changed_where, changed_at, split_swept, named_cell, named_undone, named_swept}
use Rattle.cics_images.specs.NamedLaws.{each_name, split_cell}
use Rattle.cics_images.specs.declared.named.NamedImage.{NamedImage}
use Rattle.cics_images.specs.declared.stores.StoreImage.TheVariants.{File, TempStorage, TransData}
use Rattle.cics_ksds.specs.Files.{FileValue, swept}
use Rattle.cics_ksds.specs.Undo.{ImageValue, key_of_image, undone, undone_before}
use Rattle.cics_ksds.specs.declared.images.Before.{Before}
use Rattle.cics_ksds.specs.declared.images.Before.TheVariants.{Added, Replaced, Removed}
use Rattle.cics_tempstor.specs.declared.queue_rows.Row.{Row}
use Rattle.cics_tempstor.specs.Queues.{Queue, queues_of, ts_swept}
use Rattle.cics_tempstor.specs.Shown.{queue_shown, queues_of-shown, value_at-shown, rising-queues_of}
use Rattle.cics_tempstor.specs.Undo.{name_of_image, undone as rows_undone}
use Rattle.cics_tempstor.specs.Places.{AreInOrder, backed_out, committed, in_order_committed, in_order_backed_out}
use Rattle.cics_transdata.specs.Trans.{queue_of}
use Rattle.cics_transdata.specs.Undo.{undone as queue_undone}
use Rattle.cics_history.specs.Openings.{is_in_order}
use Rattle.cics_history.specs.Cells.{IsCanonical}
use Rattle.cics_history.proofs.Maps.{of_T, rising-with_value, rising-without}
use Rattle.cics_units.specs.Opening.FilesImages.{FilesImage, cell_of_image, files_swept, files_undone}
use Rattle.cics_units.specs.Opening.StoreMatching.{StoreValue, AnyImage, shown_store, cell_of_any, any_undone, any_swept}
use Rattle.cics_units.specs.StoreEnds.{file_images, ts_images, td_images}
use Rattle.cics_units.proofs.OfOpening.Opened.{value_at-each, rising-each}

-- ---- the parts
-- the store in place with each part undone by the images of its kind
abbrev undone_of : StoreValue → List AnyImage → StoreValue
undone_of m is = record {
  files = fold files_undone m.files (file_images is);
  temp_storage = fold rows_undone m.temp_storage (ts_images is);
  trans_data = fold (λ s i. named_undone queue_undone s i) m.trans_data (td_images is);
}

-- the store in place with each part swept by the images of its kind; of transient data nothing is
-- held back
abbrev pub swept_of : StoreValue → List AnyImage → StoreValue
swept_of m is = record {
  files = all_swept files_swept cell_of_image m.files (file_images is);
  temp_storage = all_swept ts_swept name_of_image m.temp_storage (ts_images is);
  trans_data = m.trans_data;
}

-- the store in place after images are undone
undone_parts : (is : List AnyImage) (m : StoreValue) → fold any_undone m is ≡ undone_of m is
undone_parts [] m = refl
undone_parts (File i ∷ is) m = undone_parts is (any_undone m (File i))
undone_parts (TempStorage i ∷ is) m = undone_parts is (any_undone m (TempStorage i))
undone_parts (TransData i ∷ is) m = undone_parts is (any_undone m (TransData i))

-- and after the cells of images are swept
pub swept_parts : (is : List AnyImage) (m : StoreValue) → all_swept any_swept cell_of_any m is ≡ swept_of m is
swept_parts [] m = refl
swept_parts (File i ∷ is) m = swept_parts is (any_swept m (cell_of_any (File i)))
swept_parts (TempStorage i ∷ is) m = swept_parts is (any_swept m (cell_of_any (TempStorage i)))
swept_parts (TransData i ∷ is) m = swept_parts is (any_swept m (cell_of_any (TransData i)))

-- ---- after a backout
module _ (m n : StoreValue) (is : List AnyImage) (whole : n ≡ all_swept any_swept cell_of_any (fold any_undone m is) is) where
  parts_backed_out : n ≡ swept_of (undone_of m is) is
  parts_backed_out = whole ∙ ap (λ s. all_swept any_swept cell_of_any s is) (undone_parts is m) ∙ swept_parts is (undone_of m is)

  -- the rows of temporary storage
  pub rows_backed_out : n.temp_storage ≡ backed_out m.temp_storage (ts_images is)
  rows_backed_out = ap (λ (x : StoreValue). x.temp_storage) parts_backed_out

-- ---- after a commit, before its ends are settled
-- the rows of temporary storage
pub rows_committed : (m n : StoreValue) (is : List AnyImage) → n ≡ all_swept any_swept cell_of_any m is →
    n.temp_storage ≡ committed m.temp_storage (ts_images is)
rows_committed m n is whole = ap (λ (x : StoreValue). x.temp_storage) (whole ∙ swept_parts is m)

-- ---- names that rise
-- to change the value of a name leaves the names rising
pub rising-changed : {M : Type 0} (step : M → M) (name : Bytes) (m : Map M) → is_rising m ≡ true → is_rising (changed_at step name m) ≡ true
rising-changed {M} step name m rising = by (value_at name m)
  where
    by : (o : Option M) → is_rising (changed_where step name o m) ≡ true
    by None = rising
    by (Some x) = rising-with_value name (step x) m rising

-- so does sweeping the cells of images of named values
pub rising-all_swept : {M I : Type 0} (swept : M → Cell → M) (cell : I → Cell) (is : List (NamedImage I)) (m : Map M) → is_rising m ≡ true →
    is_rising (all_swept (λ s c. named_swept swept s c) (λ i. named_cell cell i) m is) ≡ true
rising-all_swept swept cell [] m rising = rising
rising-all_swept swept cell (i ∷ is) m rising = rising-all_swept swept cell is (named_swept swept m (named_cell cell i))
    (subst (λ o. is_rising (split_swept swept m o) ≡ true) (sym (split_cell i.name (cell i.image)))
    (rising-changed (λ x. swept x (cell i.image)) i.name m rising))

-- and undoing images
pub rising-all_undone : {M I : Type 0} (undone : M → I → M) (is : List (NamedImage I)) (m : Map M) → is_rising m ≡ true →
    is_rising (fold (λ s i. named_undone undone s i) m is) ≡ true
rising-all_undone undone [] m rising = rising
rising-all_undone undone (i ∷ is) m rising = rising-all_undone undone is (named_undone undone m i)
    (rising-changed (λ x. undone x i.image) i.name m rising)

-- ---- keys that rise
-- the keys of each of the files rise
abbrev pub AreKeysRising : Map FileValue → Type 0
AreKeysRising m = (f : Bytes) → is_in_order (option_map (λ x. x.records) (value_at f m)) ≡ true

-- a change of one file that leaves its keys rising
keys_changed : (step : FileValue → FileValue) → ((f : FileValue) → is_rising f.records ≡ true → is_rising (step f).records ≡ true) →
    (name : Bytes) (m : Map FileValue) → AreKeysRising m → AreKeysRising (changed_at step name m)
keys_changed step keeps name m rise q = each_name step name m
    (λ q o r. is_in_order (option_map (λ x. x.records) o) ≡ true → is_in_order (option_map (λ x. x.records) r) ≡ true)
    (by (value_at name m)) (λ q apart h. h) q (rise q)
  where
    by : (o : Option FileValue) → is_in_order (option_map (λ x. x.records) o) ≡ true →
        is_in_order (option_map (λ x. x.records) (option_map step o)) ≡ true
    by None h = refl
    by (Some f) h = keeps f h

-- an undo leaves them rising
undone_rises : (i : ImageValue) (f : FileValue) → is_rising f.records ≡ true → is_rising (undone f i).records ≡ true
undone_rises i f rises = by i.before
  where
    by : (b : Before) → is_rising (undone_before f (key_of_image i) b).records ≡ true
    by (Added k) = rising-without (key_of_image i) f.records rises
    by (Replaced old) = rising-with_value (key_of_image i) old f.records rises
    by (Removed old) = rising-with_value (key_of_image i) old f.records rises

-- so do all
keys_undone : (is : List FilesImage) (m : Map FileValue) → AreKeysRising m → AreKeysRising (fold files_undone m is)
keys_undone [] m rise = rise
keys_undone (i ∷ is) m rise = keys_undone is (files_undone m i) (keys_changed (λ f. undone f i.image) (undone_rises i.image) i.name m rise)

-- and so does sweeping
keys_swept : (is : List FilesImage) (m : Map FileValue) → AreKeysRising m → AreKeysRising (all_swept files_swept cell_of_image m is)
keys_swept [] m rise = rise
keys_swept (i ∷ is) m rise = keys_swept is (files_swept m (cell_of_image i))
    (subst (λ o. AreKeysRising (split_swept swept m o)) (sym (split_cell i.name (key_of_image i.image)))
    (keys_changed (λ f. swept f (key_of_image i.image)) (λ f rises. rises) i.name m rise))

-- ---- what is shown is in order
-- no queue of temporary storage is shown without an item
never_empty : (rows : Map Row) → T (is_rising rows) → (q : Bytes) → value_at q (queues_of rows) ≡ Some [] → ⊥
never_empty rows rising q is =
    by (value_at q rows) (sym (ap (value_at q) (queues_of-shown rows) ∙ value_at-shown queue_shown q rows rising) ∙ is)
  where
    of_items : (items : Queue) → queue_shown (record { items = items; next = 0 }) ≡ Some [] → ⊥
    of_items [] e = cc
    of_items (x ∷ xs) e = cc

    by : (o : Option Row) → option_and_then queue_shown o ≡ Some [] → ⊥
    by None e = cc
    by (Some row) e = of_items row.items e

-- if the names of each kind rise and the keys of each file, what is shown is in order
pub canonical_from : (n : StoreValue) → is_rising n.files ≡ true → AreKeysRising n.files → T (is_rising n.temp_storage) →
    is_rising n.trans_data ≡ true → IsCanonical (shown_store n)
canonical_from n files keys rows queues = record {
  files = rising-each (λ x. x.records) n.files ∙ files;
  records = λ f. ap is_in_order (value_at-each (λ x. x.records) f n.files) ∙ keys f;
  ts = of_T (is_rising (queues_of n.temp_storage)) (rising-queues_of n.temp_storage rows);
  there = never_empty n.temp_storage rows;
  td = rising-each queue_of n.trans_data ∙ queues;
}

module _ (m : StoreValue) (canonical : IsCanonical (shown_store m)) where
  -- the names of the files rise
  pub files_rise : is_rising m.files ≡ true
  files_rise = sym (rising-each (λ x. x.records) m.files) ∙ canonical.files

  -- the keys of each
  pub keys_rise : AreKeysRising m.files
  keys_rise f = sym (ap is_in_order (value_at-each (λ x. x.records) f m.files)) ∙ canonical.records f

  -- and the names of the queues
  pub queues_rise : is_rising m.trans_data ≡ true
  queues_rise = sym (rising-each queue_of m.trans_data) ∙ canonical.td

  module _ (rows : AreInOrder m.temp_storage) (n : StoreValue) (is : List AnyImage) where
    -- a backout leaves all in order
    pub canonical_backed_out : n ≡ all_swept any_swept cell_of_any (fold any_undone m is) is → IsCanonical (shown_store n)
    canonical_backed_out whole = subst (λ s. IsCanonical (shown_store s)) (sym (parts_backed_out m n is whole)) (canonical_from (swept_of (undone_of m is) is)
        (rising-all_swept swept key_of_image (file_images is) (fold files_undone m.files (file_images is))
        (rising-all_undone undone (file_images is) m.files files_rise))
        (keys_swept (file_images is) (fold files_undone m.files (file_images is)) (keys_undone (file_images is) m.files keys_rise))
        (in_order_backed_out m.temp_storage (ts_images is) rows).rising
        (rising-all_undone queue_undone (td_images is) m.trans_data queues_rise))

    -- and so does a commit
    pub canonical_committed : n ≡ all_swept any_swept cell_of_any m is → IsCanonical (shown_store n)
    canonical_committed whole = subst (λ s. IsCanonical (shown_store s)) (sym (whole ∙ swept_parts is m)) (canonical_from (swept_of m is)
        (rising-all_swept swept key_of_image (file_images is) m.files files_rise)
        (keys_swept (file_images is) m.files keys_rise)
        (in_order_committed m.temp_storage (ts_images is) rows).rising
        queues_rise)
