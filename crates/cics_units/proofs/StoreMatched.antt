-- Cells of the store are told apart by their bytes, and what is shown of a cell tells its content.
-- The images that are kept lead each cell back as the changes do that they stand for.
use Rattle.std.specs.Prelude.{◌≡◌, ℕ, Bool, true, false, not, Option, Some, None, List, [], ◌∷◌, is_some, refl}
use Rattle.std.proofs.Common.{sym, ap, ◌∙◌, subst, inl, inr}
use Rattle.std.specs.List.{list_any}
use Rattle.std.specs.Str.{bytes_eq}
use Rattle.std.specs.Bool.{Decides}
use Rattle.std.proofs.lemmas.Slice.Eq.{bytes_eq-Decides}
use Rattle.std.proofs.lemmas.Bool.{cases_Bool, false≢true, true≢false, or_parts, or_left, or_right, and_from, false_from_ne_true}
use Rattle.cics_names.specs.Keyed.{Bytes, is_same}
use Rattle.cics_names.specs.KeyedLaws.{is_same-self, is_same-eq}
use Rattle.cics_images.specs.Cells.{images_of, is_unnamed, AreOf, LeadBack}
use Rattle.cics_images.specs.Cells as images
use Rattle.cics_images.specs.NamedValues.{cell_of as value_cell, split}
use Rattle.cics_images.specs.NamedLaws.{split_cell}
use Rattle.cics_images.specs.StoreCells.{by_part, trans_cell}
use Rattle.cics_images.specs.declared.stores.StoreImage.TheVariants.{File, TempStorage, TransData}
use Rattle.cics_transdata.specs.declared.images.TdImage.{TdImage}
use Rattle.cics_transdata.specs.declared.images.TdImage.TheVariants.{Taken, Written}
use Rattle.cics_transdata.specs.Undo.{end_of}
use Rattle.cics_history.specs.Cells.{Cell, Key, Ts, Td, Content, same_cell, End, Reading, Writing}
use Rattle.cics_history.specs.Undo.{Image, Leads, names}
use Rattle.cics_history.specs.MarkImages.{MarkImage, OfReading, OfWriting, queue_of, marks_queue}
use Rattle.cics_history.specs.Ends.{is_of_reading, is_of_writing}
use Rattle.cics_history.specs.Carried.{Carries}
use Rattle.cics_history.proofs.Joining.{same_cell-true, same_cell-refl}
use Rattle.cics_history.proofs.Waiting.{any_more}
use Rattle.cics_units.specs.FilesImagesLaws.{same_bytes-eq, bytes_eq-turned}
use Rattle.cics_units.specs.Opening.StoreMatching.{AnyImage, QueuesImage, shown_records, bytes_of, end_cell, bytes_of_end, cell_of_any, AnyLeads, IsImageOfChange, IsImageOfMark, AreImagesOf}

-- two tests that pass together are one test
one_test : (a b : Bool) → (a ≡ true → b ≡ true) → (b ≡ true → a ≡ true) → a ≡ b
one_test true b there back = sym (there refl)
one_test false true there back = back refl
one_test false false there back = refl

-- bytes that are told to be equal are
told_equal : (a b : images.Cell) → bytes_eq a b ≡ true → a ≡ b
told_equal a b e = by (bytes_eq a b) (bytes_eq-Decides a b) e
  where
    by : (t : Bool) → Decides t (a ≡ b) → t ≡ true → a ≡ b
    by true d t = d.0 refl
    by false d t = absurd (false≢true t)

-- what is unequal is told so
told_other : (a b : images.Cell) → (a ≡ b → ⊥) → bytes_eq a b ≡ false
told_other a b apart = false_from_ne_true (bytes_eq a b) (λ t. apart (told_equal a b t))

-- a cell is read back from its bytes
key_from : Option (Bytes × images.Cell) → Option Cell
key_from None = None
key_from (Some e) = Some (Key e.0 e.1)

queue_from : Option (Bytes × images.Cell) → Option Cell
queue_from None = None
queue_from (Some e) = Some (Td e.0)

cell_from : images.Cell → Option Cell
cell_from c = by_part None (λ k. key_from (split k)) (λ q. Some (Ts q)) (λ q. queue_from (split q)) c

-- from the bytes of a cell the cell is read back
read_back : (x : Cell) → cell_from (bytes_of x) ≡ Some x
unfolding cell_from key_from queue_from
read_back (Key f k) = ap key_from (split_cell f k)
read_back (Ts q) = refl
read_back (Td q) = ap queue_from (split_cell q [])

-- so cells of the same bytes are one cell
pub one_cell : (x y : Cell) → bytes_of x ≡ bytes_of y → x ≡ y
one_cell x y e = let both : Some x ≡ Some y = sym (read_back x) ∙ ap cell_from e ∙ read_back y in cc

-- two cells are one exactly if their bytes are
pub same_bytes : (x y : Cell) → bytes_eq (bytes_of x) (bytes_of y) ≡ same_cell x y
same_bytes x y = one_test (bytes_eq (bytes_of x) (bytes_of y)) (same_cell x y)
    (λ t. subst (λ z. same_cell x z ≡ true) (one_cell x y (told_equal (bytes_of x) (bytes_of y) t)) (same_cell-refl x))
    (λ t. same_bytes-eq (bytes_of x) (bytes_of y) (ap bytes_of (same_cell-true x y t)))

-- a cell's content is told by what is shown of it, if the cell is there in both or in neither
pub told_by_shown : (a b : Content) → is_some a ≡ is_some b → shown_records a ≡ shown_records b → a ≡ b
told_by_shown None None there same = refl
told_by_shown None (Some b) there same = absurd (false≢true there)
told_by_shown (Some a) None there same = absurd (true≢false there)
told_by_shown (Some []) (Some []) there same = refl
told_by_shown (Some []) (Some (y ∷ ys)) there same = cc
told_by_shown (Some (x ∷ xs)) (Some []) there same = cc
told_by_shown (Some (x ∷ xs)) (Some (y ∷ ys)) there same = same

-- whether an image that is kept is of a cell, by its change
pub of_cell : (c : Image) (i : AnyImage) → IsImageOfChange c i → (x : Cell) → bytes_eq (cell_of_any i) (bytes_of x) ≡ same_cell c.cell x
of_cell c i kept x = ap (λ b. bytes_eq b (bytes_of x)) kept.cell ∙ same_bytes c.cell x

-- ---- the ends of queues
-- bytes of an end: of a queue's name with more behind it
has_more : Bytes → Bool
has_more [] = false
has_more (n ∷ e) = true

has_end : Option (Bytes × images.Cell) → Bool
has_end None = false
has_end (Some e) = has_more e.1

is_end : images.Cell → Bool
is_end c = by_part false (λ k. false) (λ q. false) (λ q. has_end (split q)) c

-- the bytes of a key, of a temporary storage queue and of a whole queue are those of no end
no_end : (x : Cell) → is_end (bytes_of x) ≡ false
unfolding is_end has_end has_more
no_end (Key f k) = refl
no_end (Ts r) = refl
no_end (Td r) = ap has_end (split_cell r [])

-- so they are not those of an end
end_apart : (x : Cell) (q e : Bytes) (n : ℕ) → bytes_of x ≡ trans_cell (value_cell q (n ∷ e)) → ⊥
unfolding is_end has_end has_more
end_apart x q e n same = false≢true (sym (no_end x) ∙ ap is_end same ∙ ap has_end (split_cell q (n ∷ e)))

-- no image of a key or of temporary storage is of an end
pub plain_apart : (x : Cell) (q : Bytes) (end : End) → bytes_eq (bytes_of x) (bytes_of_end q end) ≡ false
plain_apart x q Reading = told_other (bytes_of x) (bytes_of_end q Reading) (end_apart x q [] 0)
plain_apart x q Writing = told_other (bytes_of x) (bytes_of_end q Writing) (end_apart x q [] 1)

-- no image of a queue is of a cell of the store
pub queue_apart : (i : QueuesImage) (x : Cell) → bytes_eq (cell_of_any (TransData i)) (bytes_of x) ≡ false
queue_apart i x = bytes_eq-turned (cell_of_any (TransData i)) (bytes_of x) ∙ by i.image
  where
    by : (image : TdImage) → bytes_eq (bytes_of x) (trans_cell (value_cell i.name (end_of image))) ≡ false
    by (Taken n) = plain_apart x i.name Reading
    by Written = plain_apart x i.name Writing

-- an image of this end of the queue
abbrev pub is_of_end : Bytes → End → MarkImage → Bool
is_of_end q Reading m = is_of_reading q m
is_of_end q Writing m = is_of_writing q m

-- marks of another queue are of no end of this one
pub none_of_end : (q : Bytes) (end : End) (ms : List MarkImage) → marks_queue q ms ≡ false → list_any (is_of_end q end) ms ≡ false
none_of_end q end ms bare = false_from_ne_true (list_any (is_of_end q end) ms)
    (λ t. true≢false (sym (any_more (is_of_end q end) (λ i. is_same (queue_of i) q) (of_queue end) ms t) ∙ bare))
  where
    of_queue : (end : End) (i : MarkImage) → is_of_end q end i ≡ true → is_same (queue_of i) q ≡ true
    of_queue Reading (OfReading r before made) t = t
    of_queue Reading (OfWriting r before made) t = absurd (false≢true t)
    of_queue Writing (OfWriting r before made) t = t
    of_queue Writing (OfReading r before made) t = absurd (false≢true t)

-- the end that a mark is of
abbrev pub end_of_mark : MarkImage → End
end_of_mark (OfReading q before made) = Reading
end_of_mark (OfWriting q before made) = Writing

-- the name and the end are read back from its bytes
name_from : Option (Bytes × images.Cell) → Bytes
name_from None = []
name_from (Some e) = e.0

rest_from : Option (Bytes × images.Cell) → images.Cell
rest_from None = []
rest_from (Some e) = e.1

-- ends are one if their names and their bytes are
same_ends : (q r : Bytes) (e d : images.Cell) → trans_cell (value_cell q e) ≡ trans_cell (value_cell r d) → (q ≡ r) × (e ≡ d)
unfolding name_from rest_from
same_ends q r e d same =
    let behind : value_cell q e ≡ value_cell r d = cc in (
      ap name_from (sym (split_cell q e)) ∙ ap (λ c. name_from (split c)) behind ∙ ap name_from (split_cell r d),
      ap rest_from (sym (split_cell q e)) ∙ ap (λ c. rest_from (split c)) behind ∙ ap rest_from (split_cell r d),
    )

-- one end of a name is another exactly if the names are one
named_end : (q r : Bytes) (end : End) → bytes_eq (bytes_of_end q end) (bytes_of_end r end) ≡ is_same q r
named_end q r end = one_test (bytes_eq (bytes_of_end q end) (bytes_of_end r end)) (is_same q r)
    (λ t. subst (λ x. is_same q x ≡ true) (same_ends q r (end_cell end) (end_cell end) (told_equal (bytes_of_end q end) (bytes_of_end r end) t)).0
    (is_same-self q))
    (λ t. same_bytes-eq (bytes_of_end q end) (bytes_of_end r end) (ap (λ x. bytes_of_end x end) (is_same-eq q r t)))

-- the two ends are two
other_end : (q r : Bytes) → bytes_eq (bytes_of_end q Reading) (bytes_of_end r Writing) ≡ false
other_end q r = told_other (bytes_of_end q Reading) (bytes_of_end r Writing) (λ same. let ends : end_cell Reading ≡ end_cell Writing = (same_ends q r
    (end_cell Reading) (end_cell Writing) same).1 in absurd (true≢false (ap (λ c. bytes_eq c (end_cell Reading)) ends)))

-- an image of a queue that is kept is of the end that its mark is of
pub cell_of_mark : (m : MarkImage) (i : QueuesImage) → IsImageOfMark m i → cell_of_any (TransData i) ≡ bytes_of_end (queue_of m) (end_of_mark m)
cell_of_mark m i kept = by i.image m kept.carries kept.queue
  where
    by : (image : TdImage) (m : MarkImage) → Carries image m → i.name ≡ queue_of m → trans_cell (value_cell i.name (end_of image)) ≡ bytes_of_end
        (queue_of m) (end_of_mark m)
    by (Taken n) (OfReading q before made) carries named = ap (λ x. bytes_of_end x Reading) named
    by Written (OfWriting q before made) carries named = ap (λ x. bytes_of_end x Writing) named
    by (Taken n) (OfWriting q before made) carries named = absurd carries
    by Written (OfReading q before made) carries named = absurd carries

-- whether it is of an end, by its mark
pub of_end : (m : MarkImage) (i : QueuesImage) → IsImageOfMark m i → (q : Bytes) (end : End) → bytes_eq (cell_of_any (TransData i))
    (bytes_of_end q end) ≡ is_of_end q end m
of_end m i kept q end = ap (λ b. bytes_eq b (bytes_of_end q end)) (cell_of_mark m i kept) ∙ by m end
  where
    by : (m : MarkImage) (end : End) → bytes_eq (bytes_of_end (queue_of m) (end_of_mark m)) (bytes_of_end q end) ≡ is_of_end q end m
    by (OfReading r before made) Reading = named_end r q Reading
    by (OfReading r before made) Writing = other_end r q
    by (OfWriting r before made) Writing = named_end r q Writing
    by (OfWriting r before made) Reading = bytes_eq-turned (bytes_of_end r Writing) (bytes_of_end q Reading) ∙ other_end q r

-- ---- what the changes lead a cell back to, the images that are kept do
-- one image of a key or of temporary storage, by its change
plain_led : (c : Image) (i : AnyImage) → IsImageOfChange c i → (cs : List Image) (is : List AnyImage) (x : Cell) (from to : Content) →
    ((mid : Content) → Leads cs x mid to → LeadBack AnyLeads (images_of cell_of_any (bytes_of x) is) (shown_records mid) (shown_records to)) →
    Leads (c ∷ cs) x from to → LeadBack AnyLeads (images_of cell_of_any (bytes_of x) (i ∷ is)) (shown_records from) (shown_records to)
plain_led c i kept cs is x from to rest h = elim (cases_Bool (same_cell c.cell x)) [
  | inl t ↦ let l = rw t at h in
      rw (of_cell c i kept x ∙ t)
      (shown_records c.before, subst (λ z. AnyLeads i (shown_records z) (shown_records c.before)) (sym l.0) kept.leads, rest c.before l.1)
  | inr n ↦ rw (of_cell c i kept x ∙ n) (rest from (rw n at h))
]

-- all images
pub led_back : (cs : List Image) (ms : List MarkImage) (is : List AnyImage) → AreImagesOf cs ms is → (x : Cell) (from to : Content) → Leads cs x from to →
    LeadBack AnyLeads (images_of cell_of_any (bytes_of x) is) (shown_records from) (shown_records to)
led_back cs ms [] kept x from to h = ap shown_records (sym (subst (λ l. Leads l x from to) kept.0 h))
led_back [] ms (File i ∷ is) kept x from to h = absurd kept
led_back (c ∷ cs) ms (File i ∷ is) kept x from to h = plain_led c (File i) kept.0 cs is x from to (λ mid l. led_back cs ms is kept.1 x mid to l) h
led_back [] ms (TempStorage i ∷ is) kept x from to h = absurd kept
led_back (c ∷ cs) ms (TempStorage i ∷ is) kept x from to h = plain_led c (TempStorage i) kept.0 cs is x from to
    (λ mid l. led_back cs ms is kept.1 x mid to l) h
led_back cs [] (TransData i ∷ is) kept x from to h = absurd kept
led_back cs (m ∷ ms) (TransData i ∷ is) kept x from to h = rw (queue_apart i x) (led_back cs ms is kept.1 x from to h)

-- ---- what holds of each image that is kept
-- each image is of a cell that a change names or of an end that a mark is of
pub each_passes : (p : images.Cell → Bool) (cs : List Image) (ms : List MarkImage) (is : List AnyImage) → AreImagesOf cs ms is →
    ((x : Cell) → names x cs ≡ true → p (bytes_of x) ≡ true) →
    ((q : Bytes) (end : End) → list_any (is_of_end q end) ms ≡ true → p (bytes_of_end q end) ≡ true) → AreOf cell_of_any p is
each_passes p cs ms [] kept named marked = tt
each_passes p [] ms (File i ∷ is) kept named marked = absurd kept
each_passes p (c ∷ cs) ms (File i ∷ is) kept named marked = (
  ap p kept.0.cell ∙ named c.cell (or_left _ _ (same_cell-refl c.cell)),
  each_passes p cs ms is kept.1 (λ x t. named x (or_right (same_cell c.cell x) (names x cs) t)) marked,
)
each_passes p [] ms (TempStorage i ∷ is) kept named marked = absurd kept
each_passes p (c ∷ cs) ms (TempStorage i ∷ is) kept named marked = (
  ap p kept.0.cell ∙ named c.cell (or_left _ _ (same_cell-refl c.cell)),
  each_passes p cs ms is kept.1 (λ x t. named x (or_right (same_cell c.cell x) (names x cs) t)) marked,
)
each_passes p cs [] (TransData i ∷ is) kept named marked = absurd kept
each_passes p cs (m ∷ ms) (TransData i ∷ is) kept named marked = (
  ap p (cell_of_mark m i kept.0) ∙ marked (queue_of m) (end_of_mark m) (or_left _ _ (own m)),
  each_passes p cs ms is kept.1 named (λ q end t. marked q end (or_right (is_of_end q end m) (list_any (is_of_end q end) ms) t)),
)
  where
    own : (m : MarkImage) → is_of_end (queue_of m) (end_of_mark m) m ≡ true
    own (OfReading q before made) = is_same-self q
    own (OfWriting q before made) = is_same-self q

-- if no image that is kept is of these bytes, they are none that the images name
pub unnamed_by : (b : images.Cell) (named : Image → Bool) (marked : MarkImage → Bool) →
    ((c : Image) (i : AnyImage) → IsImageOfChange c i → bytes_eq (cell_of_any i) b ≡ named c) →
    ((m : MarkImage) (i : QueuesImage) → IsImageOfMark m i → bytes_eq (cell_of_any (TransData i)) b ≡ marked m) →
    (cs : List Image) (ms : List MarkImage) (is : List AnyImage) → AreImagesOf cs ms is → list_any named cs ≡ false → list_any marked ms ≡ false →
    is_unnamed cell_of_any is b ≡ true
unnamed_by b named marked plain ends cs ms [] kept n k = refl
unnamed_by b named marked plain ends [] ms (File i ∷ is) kept n k = absurd kept
unnamed_by b named marked plain ends (c ∷ cs) ms (File i ∷ is) kept n k =
    let parts = or_parts (named c) (list_any named cs) n in
    and_from _ _ (ap not (bytes_eq-turned b (cell_of_any (File i)) ∙ plain c (File i) kept.0 ∙ parts.0))
    (unnamed_by b named marked plain ends cs ms is kept.1 parts.1 k)
unnamed_by b named marked plain ends [] ms (TempStorage i ∷ is) kept n k = absurd kept
unnamed_by b named marked plain ends (c ∷ cs) ms (TempStorage i ∷ is) kept n k =
    let parts = or_parts (named c) (list_any named cs) n in
    and_from _ _ (ap not (bytes_eq-turned b (cell_of_any (TempStorage i)) ∙ plain c (TempStorage i) kept.0 ∙ parts.0))
    (unnamed_by b named marked plain ends cs ms is kept.1 parts.1 k)
unnamed_by b named marked plain ends cs [] (TransData i ∷ is) kept n k = absurd kept
unnamed_by b named marked plain ends cs (m ∷ ms) (TransData i ∷ is) kept n k =
    let parts = or_parts (marked m) (list_any marked ms) k in
    and_from _ _ (ap not (bytes_eq-turned b (cell_of_any (TransData i)) ∙ ends m i kept.0 ∙ parts.0))
    (unnamed_by b named marked plain ends cs ms is kept.1 n parts.1)

-- what never passes passes for none
never : {X : Type 0} (xs : List X) → list_any (λ x. false) xs ≡ false
never [] = refl
never (x ∷ xs) = never xs

-- a cell that no change names
pub unnamed_kept : (cs : List Image) (ms : List MarkImage) (is : List AnyImage) → AreImagesOf cs ms is → (x : Cell) → names x cs ≡ false →
    is_unnamed cell_of_any is (bytes_of x) ≡ true
unnamed_kept cs ms is kept x n = unnamed_by (bytes_of x) (λ c. same_cell c.cell x) (λ m. false) (λ c i k. of_cell c i k x)
    (λ m i k. queue_apart i x) cs ms is kept n (never ms)

-- an end that no mark is of
pub unmarked_kept : (cs : List Image) (ms : List MarkImage) (is : List AnyImage) → AreImagesOf cs ms is → (q : Bytes) (end : End) → list_any
    (is_of_end q end) ms ≡ false →
    is_unnamed cell_of_any is (bytes_of_end q end) ≡ true
unmarked_kept cs ms is kept q end n = unnamed_by (bytes_of_end q end) (λ c. false) (is_of_end q end)
    (λ c i k. ap (λ b. bytes_eq b (bytes_of_end q end)) k.cell ∙ plain_apart c.cell q end) (λ m i k. of_end m i k q end) cs ms is kept (never cs) n
