-- A commit may settle the ends before it gives the images up, which it still has then to go by: it
-- comes to the same.
use Rattle.std.proofs.Common.{◌≡◌, ℕ, zero, suc, true, List, [], ◌∷◌, refl, ap, sym, subst, ◌∙◌}
use Rattle.std.specs.Prelude.{Option, Some, None, option_map}
use Rattle.cics_names.specs.Keyed.{Bytes, value_at, is_rising}
use Rattle.cics_images.specs.Cells.{Kept, is_unnamed, all_swept, Cell as ImageCell}
use Rattle.cics_images.specs.NamedValues.{cell_of as value_cell, split, of_value, of_split, KeepsIn}
use Rattle.cics_images.specs.NamedLaws.{keeps_itself_in}
use Rattle.cics_images.specs.StoreCells.{file_cell, temp_cell, trans_cell}
use Rattle.cics_tempstor.specs.Places.{AreInOrder}
use Rattle.cics_tempstor.specs.Queues.{ts_swept}
use Rattle.cics_tempstor.specs.Undo.{name_of_image, KeepsQueues}
use Rattle.cics_transdata.specs.Trans.{TransState}
use Rattle.cics_transdata.specs.Undo.{content_at as end_content, KeepsEnds}
use Rattle.cics_transdata.specs.UndoLaws as queue
use Rattle.cics_history.specs.Openings.{IsOpeningInOrder}
use Rattle.cics_history.specs.State.{UnitsState}
use Rattle.cics_history.specs.Cells.{IsCanonical}
use Rattle.cics_history.specs.Events.{is_live}
use Rattle.cics_history.specs.Isolation.{IsSound}
use Rattle.cics_history.specs.declared.ops.UnitState.TheVariants.{Committed}
use Rattle.cics_history.proofs.Maps.{same_map}
use Rattle.cics_units.specs.Opening.FilesImages.{FilesKeep, cell_of_image, files_swept, definitions_of}
use Rattle.cics_units.specs.ImageRows.{kept_by, AreOthersKept, AreHeldForImages}
use Rattle.cics_units.specs.Opening.StoreMatching.{StoreValue, AnyImage, shown_store, cell_of_any, any_content, any_swept, AnyKeep, any_holds}
use Rattle.cics_units.specs.StoreInPlace.{AreInPlace}
use Rattle.cics_units.specs.StoreEnds.{file_images, ts_images, any_fixed, ends_settled, IsEnded}
use Rattle.cics_units.proofs.StoreQueues.{all_swept_queue}
use Rattle.cics_units.proofs.StoreEnds.{swept_of, swept_parts, queues_rise}
use Rattle.cics_units.proofs.StoreSettled.{ends_files, ends_rows, ends_rising, ends_at, ends_held}
use Rattle.cics_units.proofs.StoreEnded.{committed_ended, committed_shows}

-- to settle ends and then to sweep is to sweep and then to settle
pub either_first : (m : StoreValue) (is js : List AnyImage) → is_rising m.trans_data ≡ true →
    all_swept any_swept cell_of_any (ends_settled m is) js ≡ ends_settled (all_swept any_swept cell_of_any m js) is
either_first m is js rising = swept_parts js (ends_settled m is) ∙ parts ∙ ap (λ s. ends_settled s is) (sym (swept_parts js m))
  where
    queues : (ends_settled m is).trans_data ≡ (ends_settled (swept_of m js) is).trans_data
    queues = same_map (ends_settled m is).trans_data (ends_settled (swept_of m js) is).trans_data (ends_rising m is rising)
        (ends_rising (swept_of m js) is rising) (λ q. ends_at m is q ∙ sym (ends_at (swept_of m js) is q))

    parts : swept_of (ends_settled m is) js ≡ ends_settled (swept_of m js) is
    parts = λ i. record {
      files = (ap (λ files. all_swept files_swept cell_of_image files (file_images js)) (ends_files m is) ∙ sym (ends_files (swept_of m js) is)) i;
      temp_storage = (ap (λ rows. all_swept ts_swept name_of_image rows (ts_images js)) (ends_rows m is) ∙ sym (ends_rows (swept_of m js) is)) i;
      trans_data = queues i;
    }

module _ (s : UnitsState) (m n : StoreValue) (images after_images : List (Kept AnyImage)) (v : ℕ)
    (in_order : IsOpeningInOrder s.opening) (sound : IsSound s) (live : is_live s v ≡ true)
    (place : AreInPlace s m images) (canonical : IsCanonical (shown_store m)) (rows : AreInOrder m.temp_storage)
    (gone : kept_by after_images v ≡ []) (others : AreOthersKept images after_images v)
    (contents : (c : ImageCell) → any_content n c ≡ any_content (ends_settled m (kept_by images v)) c)
    (keeps : AnyKeep (is_unnamed cell_of_any (kept_by images v)) (ends_settled m (kept_by images v)) n)
    (fixed : any_fixed n ≡ any_fixed (ends_settled m (kept_by images v)))
    (held : AreHeldForImages any_holds cell_of_any (ends_settled m (kept_by images v)) images → AreHeldForImages any_holds cell_of_any n after_images)
    (whole : n ≡ all_swept any_swept cell_of_any (ends_settled m (kept_by images v)) (kept_by images v)) where
  -- the store in place with the ends settled and the images kept
  abbrev settled_first : StoreValue
  settled_first = ends_settled m (kept_by images v)

  -- the store in place with the images given up and the ends as they were
  abbrev swept_first : StoreValue
  swept_first = all_swept any_swept cell_of_any m (kept_by images v)

  -- both ways come to the same
  same_end : n ≡ ends_settled swept_first (kept_by images v)
  same_end = whole ∙ either_first m (kept_by images v) (kept_by images v) (queues_rise m canonical)

  -- the files are the same with the ends settled or not
  same_files : n.files ≡ swept_first.files
  same_files = ap (λ (x : StoreValue). x.files) same_end ∙ ends_files swept_first (kept_by images v)

  -- and the rows of temporary storage
  same_rows : n.temp_storage ≡ swept_first.temp_storage
  same_rows = ap (λ (x : StoreValue). x.temp_storage) same_end ∙ ends_rows swept_first (kept_by images v)

  -- to give the images up leaves each queue
  same_queue : (q : Bytes) → value_at q swept_first.trans_data ≡ value_at q m.trans_data
  same_queue q = all_swept_queue m (kept_by images v) q

  -- no content changes
  contents_swept : (c : ImageCell) → any_content swept_first c ≡ any_content m c
  contents_swept [] = refl
  contents_swept (zero ∷ c) = ap (λ files. any_content (record m { files = files }) (0 ∷ c)) (sym same_files) ∙ contents (0 ∷ c)
      ∙ ap (λ files. any_content (record m { files = files }) (0 ∷ c)) (ends_files m (kept_by images v))
  contents_swept (suc zero ∷ c) = ap (λ rows. any_content (record m { temp_storage = rows }) (1 ∷ c)) (sym same_rows) ∙ contents (1 ∷ c)
      ∙ ap (λ rows. any_content (record m { temp_storage = rows }) (1 ∷ c)) (ends_rows m (kept_by images v))
  contents_swept (suc (suc zero) ∷ c) = by (split c)
    where
      by : (e : Option (Bytes × ImageCell)) → of_split None end_content swept_first.trans_data e ≡ of_split None end_content m.trans_data e
      by None = refl
      by (Some e) = ap (of_value None (λ t. end_content t e.1)) (same_queue e.0)
  contents_swept (suc (suc (suc k)) ∷ c) = refl

  -- the cells of no image are kept
  keeps_swept : AnyKeep (is_unnamed cell_of_any (kept_by images v)) m swept_first
  keeps_swept = record {
    files = subst (λ files. FilesKeep (λ c. is_unnamed cell_of_any (kept_by images v) (file_cell c)) files swept_first.files) (ends_files m (kept_by images v))
        (subst (FilesKeep (λ c. is_unnamed cell_of_any (kept_by images v) (file_cell c)) settled_first.files) same_files keeps.files);
    temp_storage = subst (λ rows. KeepsQueues (λ c. is_unnamed cell_of_any (kept_by images v) (temp_cell c)) rows swept_first.temp_storage)
        (ends_rows m (kept_by images v))
        (subst (KeepsQueues (λ c. is_unnamed cell_of_any (kept_by images v) (temp_cell c)) settled_first.temp_storage) same_rows keeps.temp_storage);
    trans_data = λ q. subst (KeepsIn KeepsEnds (λ c. is_unnamed cell_of_any (kept_by images v) (trans_cell (value_cell q c))) (value_at q m.trans_data))
        (sym (same_queue q))
        (keeps_itself_in KeepsEnds queue.keeps_itself (λ c. is_unnamed cell_of_any (kept_by images v) (trans_cell (value_cell q c))) (value_at q m.trans_data));
  }

  -- what was fixed stays
  fixed_swept : any_fixed swept_first ≡ any_fixed m
  fixed_swept = λ i. record {
    files = definitions i;
    temp_storage = tt;
    trans_data = λ q. option_map (λ (t : TransState). t.kind) (same_queue q i);
  }
    where
      definitions : definitions_of swept_first.files ≡ definitions_of m.files
      definitions = ap definitions_of (sym same_files) ∙ ap (λ f. f.files) fixed ∙ ap definitions_of (ends_files m (kept_by images v))

  -- what is held back is held back for images of other units
  held_swept : AreHeldForImages any_holds cell_of_any m images → AreHeldForImages any_holds cell_of_any swept_first after_images
  held_swept before c has = held (λ c has. before c (sym (ends_held m (kept_by images v) c) ∙ has)) c
      (ap (λ x. any_holds x c) same_end ∙ ends_held swept_first (kept_by images v) c ∙ has)

  -- all that holds then
  all_swept_last : IsEnded s m n images after_images v Committed
  all_swept_last = committed_ended s m swept_first images after_images v in_order sound live place canonical rows gone others contents_swept keeps_swept
      fixed_swept held_swept refl n same_end

  -- what is shown is what was shown
  shown_last : shown_store n ≡ shown_store m
  shown_last = committed_shows s m swept_first images after_images v in_order sound live place canonical rows gone others contents_swept keeps_swept
      fixed_swept held_swept refl n same_end

-- what is told of giving the images of a unit up, from one value of the store in place to another
record AreGivenUp (k n : StoreValue) (images after_images : List (Kept AnyImage)) (v : ℕ) : Type 0 where
  contents : (c : ImageCell) → any_content n c ≡ any_content k c
  keeps : AnyKeep (is_unnamed cell_of_any (kept_by images v)) k n
  fixed : any_fixed n ≡ any_fixed k
  held : AreHeldForImages any_holds cell_of_any k images → AreHeldForImages any_holds cell_of_any n after_images
  whole : n ≡ all_swept any_swept cell_of_any k (kept_by images v)

module _ (s : UnitsState) (m k n : StoreValue) (images after_images : List (Kept AnyImage)) (v : ℕ)
    (in_order : IsOpeningInOrder s.opening) (sound : IsSound s) (live : is_live s v ≡ true)
    (place : AreInPlace s m images) (canonical : IsCanonical (shown_store m)) (rows : AreInOrder m.temp_storage)
    (settled : k ≡ ends_settled m (kept_by images v))
    (gone : kept_by after_images v ≡ []) (others : AreOthersKept images after_images v)
    (contents : (c : ImageCell) → any_content n c ≡ any_content k c)
    (keeps : AnyKeep (is_unnamed cell_of_any (kept_by images v)) k n)
    (fixed : any_fixed n ≡ any_fixed k)
    (held : AreHeldForImages any_holds cell_of_any k images → AreHeldForImages any_holds cell_of_any n after_images)
    (whole : n ≡ all_swept any_swept cell_of_any k (kept_by images v)) where
  -- the images are given up once the ends are settled
  given_up : AreGivenUp (ends_settled m (kept_by images v)) n images after_images v
  given_up = subst (λ x. AreGivenUp x n images after_images v) settled
      (record { contents = contents; keeps = keeps; fixed = fixed; held = held; whole = whole })

  -- COMMIT: the ends that the unit's images are of are settled, and then its images given up
  pub ends_first_ended : IsEnded s m n images after_images v Committed
  ends_first_ended = all_swept_last s m n images after_images v in_order sound live place canonical rows gone others
      given_up.contents given_up.keeps given_up.fixed given_up.held given_up.whole

  -- it shows what was shown
  pub ends_first_shows : shown_store n ≡ shown_store m
  ends_first_shows = shown_last s m n images after_images v in_order sound live place canonical rows gone others
      given_up.contents given_up.keeps given_up.fixed given_up.held given_up.whole
