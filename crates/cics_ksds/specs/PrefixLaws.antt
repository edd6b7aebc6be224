-- Deleting by a prefix is deleting its keys one after another, and its images lead each of them
-- back.
use Rattle.std.proofs.Common.{◌≡◌, ◌≢◌, Bool, true, false, not, ◌&&◌, cond, if◌then◌else◌, T, suc, List, [], ◌∷◌, get_or, map, Option, Some, is_some, refl, sym, ◌∙◌, ap, subst, arith}
use Rattle.std.specs.List.{All}
use Rattle.std.specs.Ordering.{is_lt}
use Rattle.std.specs.declared.cmp.Ordering.{Ordering}
use Rattle.std.specs.declared.cmp.Ordering.TheVariants.{Less, Equal, Greater}
use Rattle.std.specs.Cmp.{tied_itself}
use Rattle.std.specs.Cmp.Lexicographic.{nat_list_cmp_total}
use Rattle.std.specs.FinMap.Entries.{below_all, is_sorted-where_key}
use Rattle.std.proofs.lemmas.List.Elements.{All-cons, All-filter, filter_passes}
use Rattle.cics_names.specs.Keyed.{Bytes, Map, bytes_cmp, value_at, has_key, is_rising}
use Rattle.cics_names.specs.KeyedLaws.{value_at-without_other, is_same-self, is_same-other}
use Rattle.cics_images.specs.Cells.{AreReadyInTurn, AreOf, is_other}
use Rattle.cics_ksds.specs.Files.{FileValue, key_of, emptied, dropped, deleted, IsContent}
use Rattle.cics_ksds.specs.FileRising.{records_deleted}
use Rattle.cics_ksds.specs.Undo.{ImageValue, key_of_image, IsReadyImage, undone, KeepsKeys, IsFileImage}
use Rattle.cics_ksds.specs.UndoLaws.{removed_image, images_stored, emptied_keeps, dropped_keeps, keeps_itself, keeps_on, keeps_fewer, is_other_from}
use Rattle.cics_ksds.specs.Prefixes.{has_prefix, under, all_deleted, without_prefix, removed_entry, prefix_images, AreFileImages, stored_on}

-- ---- what the images of changes made one after another are good for
-- stored one after another they are ready in turn, newest first, before those that were ready
-- already
pub all_stored : (old new : FileValue) (kept images : List ImageValue) → AreFileImages old new images →
    AreReadyInTurn IsReadyImage undone old kept → AreReadyInTurn IsReadyImage undone new (stored_on kept images)
all_stored old new kept [] made ready = subst (λ f. AreReadyInTurn IsReadyImage undone f kept) (sym made) ready
all_stored old new kept (i ∷ is) made ready =
    all_stored made.0 new (i ∷ kept) is made.2 (images_stored old made.0 (key_of_image i) (Some i) i kept made.1 refl ready)

-- each entry is in the file under its own key, and their keys rise
abbrev pub AreThere : FileValue → Map Bytes → Type 0
AreThere f [] = Unit {0}
AreThere f (e ∷ es) = (value_at e.0 f.records ≡ Some e.1) × (key_of f.definition e.1 ≡ e.0) × T (below_all bytes_cmp e.0 es) × AreThere f es

-- ---- in the order of the keys
-- if two tests hold, the first holds
pub front : (a b : Bool) → T (a && b) → T a
front true b p = tt
front false b p = p

-- and the second
pub back : (a b : Bool) → T (a && b) → T b
back true b p = p
back false b p = absurd p

-- the one order that is less
pub less : (o : Ordering) → T (is_lt o) → o ≡ Less
less Less p = refl
less Equal p = absurd p
less Greater p = absurd p

-- a key is not below itself
apart : (k q : Bytes) → bytes_cmp k q ≡ Less → q ≢ k
apart k q below same =
    let both : Less ≡ Equal = sym below ∙ ap (bytes_cmp k) same ∙ tied_itself nat_list_cmp_total k in
    let wrong : true ≡ false = ap is_lt both in cc

-- a key below all entries is below each of them
below_each : (k : Bytes) (es : Map Bytes) → T (below_all bytes_cmp k es) → All (λ e. bytes_cmp k e.0 ≡ Less) es
below_each k [] below = λ i d lt. absurd (omega arith)
below_each k (e ∷ es) below = All-cons (λ e. bytes_cmp k e.0 ≡ Less) e es (less _ (front _ _ below)) (below_each k es (back _ _ below))

-- each entry of a rising map is found at its key
all_found : (m : Map Bytes) → T (is_rising m) → All (λ e. value_at e.0 m ≡ Some e.1) m
all_found [] rising = λ i d lt. absurd (omega arith)
all_found (e ∷ es) rising = All-cons (λ x. value_at x.0 (e ∷ es) ≡ Some x.1) e es
    (ap (λ b. cond b (Some e.1) (value_at e.0 es)) (is_same-self e.0))
    (λ i d lt. ap (λ b. cond b (Some e.1) (value_at (get_or es i d).0 es)) (is_same-other (get_or es i d).0 e.0 (apart e.0 (get_or es i d).0 (below_each e.0 es (front _ _ rising) i d lt)))
    ∙ all_found es (back _ _ rising) i d lt)

-- entries in order, each found in the file under its own key, are there
there_from : (f : FileValue) (es : Map Bytes) → T (is_rising es) → All (λ e. (value_at e.0 f.records ≡ Some e.1) × (e.0 ≡ key_of f.definition e.1)) es → AreThere f es
there_from f [] rising all = tt
there_from f (e ∷ es) rising all =
    let here = all 0 e (omega arith) in
    (here.0, sym here.1, front _ _ rising, there_from f es (back _ _ rising) (λ i d lt. all (suc i) d (omega (arith, lt))))

-- the entries under a prefix are there
pub under_there : (f : FileValue) (prefix : Bytes) → IsContent f.definition f.records → AreThere f (under prefix f.records)
under_there f prefix content =
    there_from f (under prefix f.records) (is_sorted-where_key bytes_cmp (has_prefix prefix) f.records content.rising)
    (All-filter (λ e. has_prefix prefix e.0) (λ e. (value_at e.0 f.records ≡ Some e.1) × (e.0 ≡ key_of f.definition e.1)) f.records
    (λ i d lt. (all_found f.records content.rising i d lt, (content.keyed i d lt).0)))

-- ---- one delete
-- a delete leaves the definition
pub same_deleted : (keep : Bool) (f : FileValue) (key : Bytes) → (deleted keep f key).definition ≡ f.definition
same_deleted keep f key = by (has_key key f.records) keep
  where
    by : (there keep : Bool) → (if there then if keep then emptied f key else dropped f key else f).definition ≡ f.definition
    by true true = refl
    by true false = refl
    by false keep = refl

-- a delete keeps all other keys
deleted_keeps : (keep : Bool) (f : FileValue) (key : Bytes) → KeepsKeys (is_other key) f (deleted keep f key)
deleted_keeps keep f key = by (has_key key f.records) keep
  where
    by : (there keep : Bool) → KeepsKeys (is_other key) f (if there then if keep then emptied f key else dropped f key else f)
    by true true = emptied_keeps f key
    by true false = dropped_keeps f key
    by false keep = keeps_itself (is_other key) f

-- a key that is there is emptied, or without `keep` dropped
pub emptied_there : (f : FileValue) (key r : Bytes) → value_at key f.records ≡ Some r → deleted true f key ≡ emptied f key
emptied_there f key r there = ap (λ (o : Option Bytes). if is_some o then emptied f key else f) there

-- the same without keep
pub dropped_there : (f : FileValue) (key r : Bytes) → value_at key f.records ≡ Some r → deleted false f key ≡ dropped f key
dropped_there f key r there = ap (λ (o : Option Bytes). if is_some o then dropped f key else f) there

-- entries above a key that is deleted are still there
still_there : (keep : Bool) (f : FileValue) (key : Bytes) (es : Map Bytes) → T (below_all bytes_cmp key es) → AreThere f es → AreThere (deleted keep f key) es
still_there keep f key [] below there = tt
still_there keep f key (e ∷ es) below there = (
  ap (value_at e.0) (records_deleted keep f key) ∙ value_at-without_other e.0 key f.records (apart key e.0 (less _ (front _ _ below))) ∙ there.0,
  ap (λ d. key_of d e.1) (same_deleted keep f key) ∙ there.1,
  there.2,
  still_there keep f key es (back _ _ below) there.3,
)

-- once the first entry is deleted, the others are there
pub others_there : (keep : Bool) (f : FileValue) (e : Bytes × Bytes) (es : Map Bytes) → AreThere f (e ∷ es) → AreThere (deleted keep f e.0) es
others_there keep f e es there = still_there keep f e.0 es there.2 there.3

-- ---- all of them
-- the images of the entries are those of their deletes, one after another
made : (f : FileValue) (es : Map Bytes) → AreThere f es → AreFileImages f (all_deleted true f (map (λ e. e.0) es)) (map (removed_entry f.definition) es)
made f [] there = refl
made f (e ∷ es) there =
    let key = key_of f.definition e.1 in
    let new = deleted true f e.0 in
    let is : new ≡ emptied f key = emptied_there f e.0 e.1 there.0 ∙ ap (emptied f) (sym there.1) in (
      new,
      subst (λ n. IsFileImage f n key (removed_entry f.definition e)) (sym is) (removed_image f key e.1 (ap (λ k. value_at k f.records) there.1 ∙ there.0) refl),
      subst (λ d. AreFileImages new (all_deleted true new (map (λ e. e.0) es)) (map (removed_entry d) es)) (same_deleted true f e.0) (made new es (others_there true f e es there)),
    )

-- the images of a delete by prefix are those of changes made one after another
pub prefix_made : (f : FileValue) (prefix : Bytes) → IsContent f.definition f.records → AreFileImages f (without_prefix true f prefix) (prefix_images true f prefix)
prefix_made f prefix content = made f (under prefix f.records) (under_there f prefix content)

-- the images of entries whose keys pass name keys that pass
named : (f : FileValue) (p : Bytes → Bool) (es : Map Bytes) → AreThere f es → All (λ e. p e.0 ≡ true) es → AreOf key_of_image p (map (removed_entry f.definition) es)
named f p [] there pass = tt
named f p (e ∷ es) there pass = (ap p there.1 ∙ pass 0 e (omega arith), named f p es there.3 (λ i d lt. pass (suc i) d (omega (arith, lt))))

-- no images name no other keys
none_named : (p : Bytes → Bool) → AreOf key_of_image p []
none_named p = tt

-- each names a key that begins with the prefix
pub prefix_named : (keep : Bool) (f : FileValue) (prefix : Bytes) → IsContent f.definition f.records → AreOf key_of_image (has_prefix prefix) (prefix_images keep f prefix)
prefix_named true f prefix content = named f (has_prefix prefix) (under prefix f.records) (under_there f prefix content) (filter_passes (λ e. has_prefix prefix e.0) f.records)
prefix_named false f prefix content = none_named (has_prefix prefix)

-- deleting keys that pass keeps those that don't
others_kept : (keep : Bool) (f : FileValue) (p : Bytes → Bool) (es : Map Bytes) → All (λ e. p e.0 ≡ true) es → KeepsKeys (λ key. not (p key)) f (all_deleted keep f (map (λ e. e.0) es))
others_kept keep f p [] pass = keeps_itself (λ key. not (p key)) f
others_kept keep f p (e ∷ es) pass =
    keeps_on (λ key. not (p key)) f (deleted keep f e.0) (all_deleted keep (deleted keep f e.0) (map (λ e. e.0) es))
    (keeps_fewer (is_other e.0) (λ key. not (p key)) f (deleted keep f e.0) (λ c free. is_other_from e.0 c (λ same. let wrong : false ≡ true = sym (ap not (ap p same ∙ pass 0 e (omega arith))) ∙ free in cc)) (deleted_keeps keep f e.0))
    (others_kept keep (deleted keep f e.0) p es (λ i d lt. pass (suc i) d (omega (arith, lt))))

-- a delete by prefix keeps all keys that don't begin with it
pub prefix_keeps : (keep : Bool) (f : FileValue) (prefix : Bytes) → KeepsKeys (λ key. not (has_prefix prefix key)) f (without_prefix keep f prefix)
prefix_keeps keep f prefix = others_kept keep f (has_prefix prefix) (under prefix f.records) (filter_passes (λ e. has_prefix prefix e.0) f.records)
