-- The laws of undoing, for temporary storage: what `Undoable` requires of it, and that each change
-- makes the image that it should.
use Rattle.std.proofs.Common.{◌≡◌, ◌≢◌, ◌-◌, ◌<◌, ◌≤◌, ℕ, Bool, true, false, not, ◌&&◌, ◌||◌, cond, List, [], ◌∷◌, ◌++◌, length, take, slice_get, slice_set, Option, Some, None, IfSome, is_some, nat_lt, nat_le, ◌⊎◌, inl, inr, refl, sym, ◌∙◌, ap, subst, arith, zero, suc, length-append, length-set}
use Rattle.std.specs.Prelude.{unwrap_or, if◌then◌else◌}
use Rattle.std.specs.Bool.{Decides}
use Rattle.std.specs.Str.{bytes_eq}
use Rattle.std.proofs.lemmas.Slice.Eq.{bytes_eq-Decides}
use Rattle.std.proofs.Math.Seq.{take-append_seam}
use Rattle.std.proofs.lemmas.Bool.{ltb-true, leb-true}
use Rattle.std.proofs.lemmas.Option.{slice_get-get_or}
use Rattle.cics_names.specs.Keyed.{Bytes, Map, is_same, value_at, has_key, with_value, without}
use Rattle.cics_names.specs.KeyedLaws.{is_same-self, is_same-eq, is_same-other, value_at-with_value, value_at-with_value_same, value_at-with_value_other, value_at-without, value_at-without_same, value_at-without_other}
use Rattle.cics_images.specs.Cells.{Cell, Content, AreOf, AreReadyInTurn, is_other}
use Rattle.cics_images.specs.Turns.{in_turn_kept}
use Rattle.cics_tempstor.specs.declared.images.Before.{Before}
use Rattle.cics_tempstor.specs.declared.images.Before.TheVariants.{Added, Replaced, Taken}
use Rattle.cics_tempstor.specs.declared.images.TsImage.{TsImage}
use Rattle.cics_tempstor.specs.declared.queue_rows.Row.{Row}
use Rattle.cics_tempstor.specs.Queues.{Queue, most_items, is_there, has_item, row_at, queue_at, items_after_rewrite, ts_swept, ts_written, ts_rewritten, ts_deleted, row_written, row_rewritten, row_read, after_read_item, place_of, empty_row}
use Rattle.cics_tempstor.specs.Undo.{content_of, queue_of, content_at, without_last, queue_before, StandsFor, name_of_image, Leads, IsReadyImage, row_undone, undone, holds_row, KeepsQueues, IsTsImage, image_if, written_image, item_at, rewritten_image, deleted_image}

-- ---- queues and rows after a change of the rows
-- the items in a row that may be there
abbrev items_in : Option Row → Queue
items_in o = (unwrap_or {T = Row} o empty_row).items

-- a row at one name, if it is chosen or not
unwrapped : (b : Bool) (r : Row) (o : Option Row) → items_in (cond b (Some r) o) ≡ cond b r.items (items_in o)
unwrapped true r o = refl
unwrapped false r o = refl

-- and if it is gone or not
unwrapped_none : (b : Bool) (o : Option Row) → items_in (cond b None o) ≡ cond b [] (items_in o)
unwrapped_none true o = refl
unwrapped_none false o = refl

-- with a row that is chosen there is one, else there is one if there was
there_or : (b : Bool) (r : Row) (o : Option Row) → is_some (cond b (Some r) o) ≡ (b || is_some o)
there_or true r o = refl
there_or false r o = refl

-- rows with one more have its queue there, and elsewhere what they had
pub queue_at-with_value : (c k : Bytes) (r : Row) (rows : Map Row) → queue_at c (with_value k r rows) ≡ cond (is_same c k) r.items (queue_at c rows)
queue_at-with_value c k r rows = ap items_in (value_at-with_value c k r rows) ∙ unwrapped (is_same c k) r (value_at c rows)

-- at the name itself
pub queue_at-with_value_same : (k : Bytes) (r : Row) (rows : Map Row) → queue_at k (with_value k r rows) ≡ r.items
queue_at-with_value_same k r rows = queue_at-with_value k k r rows ∙ ap (λ b. cond b r.items (queue_at k rows)) (is_same-self k)

-- at another name
pub queue_at-with_value_other : (c k : Bytes) (r : Row) (rows : Map Row) → c ≢ k → queue_at c (with_value k r rows) ≡ queue_at c rows
queue_at-with_value_other c k r rows apart = queue_at-with_value c k r rows ∙ ap (λ b. cond b r.items (queue_at c rows)) (is_same-other c k apart)

-- rows with one less have no queue there, and elsewhere what they had
pub queue_at-without : (c k : Bytes) (rows : Map Row) → queue_at c (without k rows) ≡ cond (is_same k c) [] (queue_at c rows)
queue_at-without c k rows = ap items_in (value_at-without c k rows) ∙ unwrapped_none (is_same k c) (value_at c rows)

-- at another name
pub queue_at-without_other : (c k : Bytes) (rows : Map Row) → c ≢ k → queue_at c (without k rows) ≡ queue_at c rows
queue_at-without_other c k rows apart = queue_at-without c k rows ∙ ap (λ b. cond b [] (queue_at c rows)) (is_same-other k c (λ e. apart (sym e)))

-- a name has a row once one is put there, or if it had one
has_key-with_value : (c k : Bytes) (r : Row) (rows : Map Row) → has_key c (with_value k r rows) ≡ (is_same c k || has_key c rows)
has_key-with_value c k r rows = ap is_some (value_at-with_value c k r rows) ∙ there_or (is_same c k) r (value_at c rows)

-- a name that got a row has one
has_key-with_value_same : (k : Bytes) (r : Row) (rows : Map Row) → has_key k (with_value k r rows) ≡ true
has_key-with_value_same k r rows = ap is_some (value_at-with_value_same k r rows)

-- and a name that had one still has one
has_key-with_value_kept : (c k : Bytes) (r : Row) (rows : Map Row) → has_key c rows ≡ true → has_key c (with_value k r rows) ≡ true
has_key-with_value_kept c k r rows has = has_key-with_value c k r rows ∙ ap (λ b. is_same c k || b) has ∙ or_true (is_same c k)
  where
    or_true : (b : Bool) → (b || true) ≡ true
    or_true true = refl
    or_true false = refl

-- ---- contents
-- a queue is what its content says
pub queue_of-content_of : (items : Queue) → queue_of (content_of items) ≡ items
queue_of-content_of [] = refl
queue_of-content_of (x ∷ xs) = refl

-- ---- the laws
-- an image leads back to one content
pub determined : (i : TsImage) (after x y : Content) → Leads i after x → Leads i after y → x ≡ y
determined i after x y h g = h.1 ∙ sym g.1

-- to lead from one queue to the one before the change
leads_from : (b : Before) (after before now old : Queue) → now ≡ after → StandsFor b after → before ≡ queue_before b after → (content : Content) → content ≡ content_of before →
    StandsFor b (queue_of (content_of now)) × (content ≡ content_of (queue_before b (queue_of (content_of now))))
leads_from b after before now old here stands is content same =
    let seen : queue_of (content_of now) ≡ after = queue_of-content_of now ∙ here in
    (subst (StandsFor b) (sym seen) stands, same ∙ ap content_of (is ∙ ap (queue_before b) (sym seen)))

-- undoing a ready image leads its queue back
pub undone_leads : (rows : Map Row) (i : TsImage) → IsReadyImage rows i → Leads i (content_at rows (name_of_image i)) (content_at (undone rows i) (name_of_image i))
undone_leads rows i ready =
    leads_from i.before (queue_at i.name rows) (queue_before i.before (queue_at i.name rows)) (queue_at i.name rows) [] refl ready.stands refl (content_at (undone rows i) i.name)
    (ap content_of (queue_at-with_value_same i.name (row_undone i.before (row_at i.name rows)) rows))

-- another name, as a test and as a fact
pub other_name : (k q : Cell) → is_other k q ≡ true → q ≢ k
other_name k q other same = let e : not (bytes_eq q k) ≡ false = ap not ((bytes_eq-Decides q k).1 same) in cc

-- two names that differ are other names by the test
pub is_other_from : (k q : Cell) → q ≢ k → is_other k q ≡ true
is_other_from k q apart = by (bytes_eq q k) (bytes_eq-Decides q k)
  where
    by : (t : Bool) → Decides t (q ≡ k) → not t ≡ true
    by true h = absurd (apart (h.0 refl))
    by false h = refl

-- two names are one or not
pub same_or_other : (a b : Cell) → (a ≡ b) ⊎ (a ≢ b)
same_or_other a b = by (bytes_eq a b) (bytes_eq-Decides a b)
  where
    by : (t : Bool) → Decides t (a ≡ b) → (a ≡ b) ⊎ (a ≢ b)
    by true h = inl (h.0 refl)
    by false h = inr (λ e. let wrong : false ≡ true = h.1 e in cc)

-- a change of rows at one name leaves the others
pub with_value_keeps : (rows : Map Row) (k : Bytes) (r : Row) → KeepsQueues (is_other k) rows (with_value k r rows)
with_value_keeps rows k r = record {
  queues = λ c other. queue_at-with_value_other c k r rows (other_name k c other);
  rows = λ c other has. has_key-with_value_kept c k r rows has;
}

-- and those without one name
pub without_keeps : (rows : Map Row) (k : Bytes) → KeepsQueues (is_other k) rows (without k rows)
without_keeps rows k = record {
  queues = λ c other. queue_at-without_other c k rows (other_name k c other);
  rows = λ c other has. ap is_some (value_at-without_other c k rows (other_name k c other)) ∙ has;
}

-- an undo leaves every other name
pub undone_keeps : (rows : Map Row) (i : TsImage) → IsReadyImage rows i → KeepsQueues (is_other (name_of_image i)) rows (undone rows i)
undone_keeps rows i ready = with_value_keeps rows i.name (row_undone i.before (row_at i.name rows))

-- rows stay if nothing changes
pub keeps_itself : (p : Cell → Bool) (f : Map Row) → KeepsQueues p f f
keeps_itself p f = record { queues = λ c pass. refl; rows = λ c pass has. has }

-- what stays at some names stays at fewer
pub keeps_fewer : (p q : Cell → Bool) (f g : Map Row) → ((c : Cell) → q c ≡ true → p c ≡ true) → KeepsQueues p f g → KeepsQueues q f g
keeps_fewer p q f g less kept = record { queues = λ c pass. kept.queues c (less c pass); rows = λ c pass. kept.rows c (less c pass) }

-- what stays in two steps stays
pub keeps_on : (p : Cell → Bool) (f g h : Map Row) → KeepsQueues p f g → KeepsQueues p g h → KeepsQueues p f h
keeps_on p f g h first second = record {
  queues = λ c pass. second.queues c pass ∙ first.queues c pass;
  rows = λ c pass has. second.rows c pass (first.rows c pass has);
}

-- a choice of two that both leave the names leaves them
pub either_keeps : (b : Bool) (p : Cell → Bool) (f g h : Map Row) → KeepsQueues p f g → KeepsQueues p f h → KeepsQueues p f (if b then g else h)
either_keeps true p f g h first second = first
either_keeps false p f g h first second = second

-- a sweep of a name leaves every other
pub swept_keeps : (rows : Map Row) (q : Bytes) → KeepsQueues (is_other q) rows (ts_swept rows q)
swept_keeps rows q = either_keeps (is_there (queue_at q rows)) (is_other q) rows rows (without q rows) (keeps_itself (is_other q) rows) (without_keeps rows q)

-- a queue that isn't there has no item
no_queue : (items : Queue) → is_there items ≡ false → items ≡ []
no_queue [] h = refl
no_queue (x ∷ xs) h = cc

-- and changes no queue
pub queue_at-swept : (rows : Map Row) (q c : Bytes) → queue_at c (ts_swept rows q) ≡ queue_at c rows
queue_at-swept rows q c = by (is_there (queue_at q rows)) refl
  where
    gone : (b : Bool) → is_same q c ≡ b → is_there (queue_at q rows) ≡ false → cond b [] (queue_at c rows) ≡ queue_at c rows
    gone false e none = refl
    gone true e none = sym (ap (λ k. queue_at k rows) (sym (is_same-eq q c e)) ∙ no_queue (queue_at q rows) none)

    by : (b : Bool) → is_there (queue_at q rows) ≡ b → queue_at c (if b then rows else without q rows) ≡ queue_at c rows
    by true e = refl
    by false e = queue_at-without c q rows ∙ gone (is_same q c) refl e

-- nor what any name contains
pub swept_content : (rows : Map Row) (q c : Cell) → content_at (ts_swept rows q) c ≡ content_at rows c
swept_content rows q c = ap content_of (queue_at-swept rows q c)

-- what stays has the same contents
pub keeps_content : (p : Cell → Bool) (f g : Map Row) (c : Cell) → KeepsQueues p f g → p c ≡ true → content_at g c ≡ content_at f c
keeps_content p f g c kept pass = ap content_of (kept.queues c pass)

-- and images ready
pub keeps_ready : (p : Cell → Bool) (f g : Map Row) (i : TsImage) → KeepsQueues p f g → p (name_of_image i) ≡ true → IsReadyImage f i → IsReadyImage g i
keeps_ready p f g i kept pass ready = record {
  has_row = kept.rows i.name pass ready.has_row;
  stands = subst (StandsFor i.before) (sym (kept.queues i.name pass)) ready.stands;
}

-- undoing an image of a name that stays leaves the others
pub keeps_undone : (p : Cell → Bool) (f g : Map Row) (i : TsImage) → KeepsQueues p f g → p (name_of_image i) ≡ true → IsReadyImage f i → KeepsQueues p (undone f i) (undone g i)
keeps_undone p f g i kept pass ready =
    let k = i.name in
    let r : Row = row_undone i.before (row_at k f) in
    let s : Row = row_undone i.before (row_at k g) in
    record {
      queues = λ c there. queue_at-with_value c k s g ∙ (λ j. cond (is_same c k) (queue_before i.before (kept.queues k pass j)) (kept.queues c there j)) ∙ sym (queue_at-with_value c k r f);
      rows = λ c there has. elim (same_or_other c k) [
        | inl same ↦ subst (λ q. has_key q (with_value k s g) ≡ true) (sym same) (has_key-with_value_same k s g)
        | inr apart ↦ has_key-with_value_kept c k s g (kept.rows c there (sym (ap is_some (value_at-with_value_other c k r f apart)) ∙ has))
      ];
    }

-- ---- what is held back
-- whether a row that may be there has no item
abbrev is_empty_row : Option Row → Bool
is_empty_row o = is_some o && not (is_there (items_in o))

-- undoing leaves every other name's row
pub undone_holds : (rows : Map Row) (i : TsImage) (c : Cell) → is_other (name_of_image i) c ≡ true →
    holds_row (undone rows i) c ≡ holds_row rows c
undone_holds rows i c other =
    ap is_empty_row (value_at-with_value_other c i.name (row_undone i.before (row_at i.name rows)) rows (other_name i.name c other))

-- a swept name has no empty row any more, and every other has what it had
pub swept_holds : (rows : Map Row) (s c : Cell) → holds_row (ts_swept rows s) c ≡ (holds_row rows c && is_other s c)
swept_holds rows s c = elim (same_or_other c s) [
  | inl same ↦ subst (λ q. holds_row (ts_swept rows s) q ≡ (holds_row rows q && is_other s q)) (sym same) here
  | inr apart ↦ elsewhere apart
]
  where
    and_false : (b : Bool) → (b && false) ≡ false
    and_false true = refl
    and_false false = refl

    and_true : (b : Bool) → (b && true) ≡ b
    and_true true = refl
    and_true false = refl

    gone : (b : Bool) → is_there (queue_at s rows) ≡ b → holds_row (if b then rows else without s rows) s ≡ false
    gone true there = ap (λ b. has_key s rows && not b) there ∙ and_false (has_key s rows)
    gone false none = ap is_empty_row (value_at-without_same s rows)

    here : holds_row (ts_swept rows s) s ≡ (holds_row rows s && is_other s s)
    here = gone (is_there (queue_at s rows)) refl ∙ sym (ap (λ b. holds_row rows s && not b) ((bytes_eq-Decides s s).1 refl) ∙ and_false (holds_row rows s))

    left : (b : Bool) → c ≢ s → value_at c (if b then rows else without s rows) ≡ value_at c rows
    left true apart = refl
    left false apart = value_at-without_other c s rows apart

    elsewhere : c ≢ s → holds_row (ts_swept rows s) c ≡ (holds_row rows c && is_other s c)
    elsewhere apart = ap is_empty_row (left (is_there (queue_at s rows)) apart) ∙ sym (ap (λ b. holds_row rows c && b) (is_other_from s c apart) ∙ and_true (holds_row rows c))

-- ---- the image of each change
module _ (rows : Map Row) (k : Bytes) where
  -- the image of a change of one name, if undoing it gives the queue from before
  pub image_of_change : (w : Row) (b : Before) → StandsFor b w.items → queue_before b w.items ≡ queue_at k rows → IsTsImage rows (with_value k w rows) k (record { name = k; before = b })
  image_of_change w b stands back =
      let new : Map Row = with_value k w rows in
      let now : queue_at k new ≡ w.items = queue_at-with_value_same k w rows in
      record {
        named = refl;
        leads_back = leads_from b w.items (queue_at k rows) (queue_at k new) [] now stands (sym back) (content_at rows k) refl;
        ready = record { has_row = has_key-with_value_same k w rows; stands = subst (StandsFor b) (sym now) stands };
        back = record {
          queues = λ c there. elim (same_or_other c k) [
            | inl same ↦ subst (λ q. queue_at q (undone new (record { name = k; before = b })) ≡ queue_at q rows) (sym same)
                (queue_at-with_value_same k (row_undone b (row_at k new)) new ∙ ap (queue_before b) now ∙ back)
            | inr apart ↦ queue_at-with_value_other c k (row_undone b (row_at k new)) new apart ∙ queue_at-with_value_other c k w rows apart
          ];
          rows = λ c there has. has_key-with_value_kept c k (row_undone b (row_at k new)) new (has_key-with_value_kept c k w rows has);
        };
      }

-- an image that is stored or not
if_kept : {I : Type 0} (keep : Bool) (P : I → Type 0) (i : I) → P i → IfSome (if keep then Some i else None) P
if_kept true P i h = h
if_kept false P i h = tt

-- the queue with one more item is there
pub there_more : (xs : Queue) (x : Bytes) → is_there (xs ++ x ∷ []) ≡ true
there_more [] x = refl
there_more (y ∷ ys) x = refl

-- removing the last item undoes adding it
pub without_last-added : (xs : Queue) (x : Bytes) → without_last (xs ++ x ∷ []) ≡ xs
without_last-added xs x =
    let one_less : length (xs ++ x ∷ []) - 1 ≡ length xs = omega (arith, length-append xs (x ∷ [])) in
    ap (λ n. take n (xs ++ x ∷ [])) one_less ∙ take-append_seam xs (x ∷ [])

-- putting the old item back undoes replacing it
put_back : (xs : Queue) (i : ℕ) (d old : Bytes) → slice_get xs i ≡ Some old → slice_set (slice_set xs i d) i old ≡ xs
put_back [] i d old h = refl
put_back (x ∷ xs) zero d old h = let same : x ≡ old = cc in ap (λ y. y ∷ xs) (sym same)
put_back (x ∷ xs) (suc i) d old h = ap (λ t. x ∷ t) (put_back xs i d old h)

-- nor does it make a queue, or remove one
pub is_there-set : (items : Queue) (i : ℕ) (d : Bytes) → is_there (slice_set items i d) ≡ is_there items
is_there-set [] i d = refl
is_there-set (x ∷ xs) zero d = refl
is_there-set (x ∷ xs) (suc i) d = refl

-- nor does it change which items there are
has_item-set : (items : Queue) (n i : ℕ) (d : Bytes) → has_item (slice_set items i d) n ≡ has_item items n
has_item-set items n i d = ap (λ m. nat_lt 0 n && nat_le n m) (length-set items i d)

-- what two tests say together, each says
pub both_true : (a b : Bool) → (a && b) ≡ true → (a ≡ true) × (b ≡ true)
both_true true b h = (refl, h)
both_true false b h = cc

-- the number of an item that is there is within the list
pub has_item-within : (items : Queue) (n : ℕ) → has_item items n ≡ true → (0 < n) × (n ≤ length items)
has_item-within items n has =
    let parts = both_true (nat_lt 0 n) (nat_le n (length items)) has in
    (ltb-true 0 n parts.0, leb-true n (length items) parts.1)

-- an item that is there is the one that moves into its image
there_at : (items : Queue) (n : ℕ) → has_item items n ≡ true → slice_get items (n - 1) ≡ Some (item_at items n)
there_at items n has =
    let within = has_item-within items n has in
    let above : 0 < n = within.0 in
    let below : n ≤ length items = within.1 in
    slice_get-get_or items (n - 1) [] (omega arith)

-- and its queue is there
pub has_item-there : (items : Queue) (n : ℕ) → has_item items n ≡ true → is_there items ≡ true
has_item-there (x ∷ xs) n has = refl
has_item-there [] n has =
    let within = has_item-within [] n has in
    let above : 0 < n = within.0 in
    let below : n ≤ 0 = within.1 in
    absurd (omega arith)

-- undoing a rewrite of an item that is there gives the queue from before
replaced_back : (items : Queue) (n : ℕ) (d : Bytes) → has_item items n ≡ true → items_after_rewrite (slice_set items (n - 1) d) n (item_at items n) ≡ items
replaced_back items n d has =
    ap (λ b. if b then slice_set (slice_set items (n - 1) d) (n - 1) (item_at items n) else slice_set items (n - 1) d) (has_item-set items n (n - 1) d ∙ has)
    ∙ put_back items (n - 1) d (item_at items n) (there_at items n has)

module _ (rows : Map Row) (q : Bytes) where
  -- WRITEQ TS
  pub written_undoable : (keep : Bool) (d : Bytes) → IfSome (written_image keep q (queue_at q rows)) (IsTsImage rows (ts_written rows q d) q)
  written_undoable keep d = by (nat_lt (length (queue_at q rows)) most_items)
    where
      by : (b : Bool) → IfSome (if b then image_if keep q Added else None)
          (IsTsImage rows (if b then with_value q (if b then record { items = queue_at q rows ++ d ∷ []; next = place_of (row_at q rows) } else row_at q rows) rows else rows) q)
      by false = tt
      by true =
          let w : Row = record { items = queue_at q rows ++ d ∷ []; next = place_of (row_at q rows) } in
          if_kept keep (IsTsImage rows (with_value q w rows) q) (record { name = q; before = Added })
          (image_of_change rows q w Added (there_more (queue_at q rows) d) (without_last-added (queue_at q rows) d))

  -- it leaves every other name
  pub written_keeps : (d : Bytes) → KeepsQueues (is_other q) rows (ts_written rows q d)
  written_keeps d = either_keeps (nat_lt (length (queue_at q rows)) most_items) (is_other q) rows (with_value q (row_written (row_at q rows) d) rows) rows
      (with_value_keeps rows q (row_written (row_at q rows) d)) (keeps_itself (is_other q) rows)

  -- WRITEQ TS REWRITE
  pub rewritten_undoable : (keep : Bool) (n : ℕ) (d : Bytes) → IfSome (rewritten_image keep q (queue_at q rows) n) (IsTsImage rows (ts_rewritten rows q n d) q)
  rewritten_undoable keep n d = by (has_item (queue_at q rows) n) refl
    where
      by : (b : Bool) → has_item (queue_at q rows) n ≡ b → IfSome (if b then image_if keep q (Replaced n (item_at (queue_at q rows) n)) else None)
          (IsTsImage rows (if b then with_value q (if b then record { items = slice_set (queue_at q rows) (n - 1) d; next = (row_at q rows).next } else row_at q rows) rows else rows) q)
      by false has = tt
      by true has =
          let old : Bytes = item_at (queue_at q rows) n in
          let w : Row = record { items = slice_set (queue_at q rows) (n - 1) d; next = (row_at q rows).next } in
          if_kept keep (IsTsImage rows (with_value q w rows) q) (record { name = q; before = Replaced n old })
          (image_of_change rows q w (Replaced n old) (has_item-set (queue_at q rows) n (n - 1) d ∙ has) (replaced_back (queue_at q rows) n d has))

  -- it leaves every other name
  pub rewritten_keeps : (n : ℕ) (d : Bytes) → KeepsQueues (is_other q) rows (ts_rewritten rows q n d)
  rewritten_keeps n d = either_keeps (has_item (queue_at q rows) n) (is_other q) rows (with_value q (row_rewritten (row_at q rows) n d) rows) rows
      (with_value_keeps rows q (row_rewritten (row_at q rows) n d)) (keeps_itself (is_other q) rows)

  -- DELETEQ TS
  pub deleted_undoable : (keep : Bool) → IfSome (deleted_image keep q (queue_at q rows)) (IsTsImage rows (ts_deleted keep rows q) q)
  deleted_undoable keep = by (is_there (queue_at q rows)) keep
    where
      by : (b k : Bool) → IfSome (if b then image_if k q (Taken (queue_at q rows)) else None)
          (IsTsImage rows (if b then (if k then with_value q empty_row rows else without q rows) else rows) q)
      by false k = tt
      by true false = tt
      by true true = image_of_change rows q empty_row (Taken (queue_at q rows)) refl refl

  -- it leaves every other name
  pub deleted_keeps : (keep : Bool) → KeepsQueues (is_other q) rows (ts_deleted keep rows q)
  deleted_keeps keep = either_keeps (is_there (queue_at q rows)) (is_other q) rows (if keep then with_value q empty_row rows else without q rows) rows
      (either_keeps keep (is_other q) rows (with_value q empty_row rows) (without q rows) (with_value_keeps rows q empty_row) (without_keeps rows q))
      (keeps_itself (is_other q) rows)

  -- READQ TS leaves every queue: it moves a NEXT cursor alone
  pub read_keeps : (n : ℕ) → KeepsQueues (λ _. true) rows (after_read_item rows q n)
  read_keeps n = either_keeps (has_item (queue_at q rows) n) (λ _. true) rows (with_value q (row_read (row_at q rows) n) rows) rows same_items (keeps_itself (λ _. true) rows)
    where
      items_read : (b : Bool) (row : Row) → (if b then record { items = row.items; next = n } else row).items ≡ row.items
      items_read true row = refl
      items_read false row = refl

      same_items : KeepsQueues (λ _. true) rows (with_value q (row_read (row_at q rows) n) rows)
      same_items = record {
        queues = λ c there. elim (same_or_other c q) [
          | inl same ↦ subst (λ k. queue_at k (with_value q (row_read (row_at q rows) n) rows) ≡ queue_at k rows) (sym same)
              (queue_at-with_value_same q (row_read (row_at q rows) n) rows ∙ items_read (has_item (queue_at q rows) n) (row_at q rows))
          | inr apart ↦ queue_at-with_value_other c q (row_read (row_at q rows) n) rows apart
        ];
        rows = λ c there has. has_key-with_value_kept c q (row_read (row_at q rows) n) rows has;
      }

-- ---- the images of a unit of work
-- all images are of cells
all_of : (images : List TsImage) → AreOf name_of_image (λ _. true) images
all_of [] = tt
all_of (i ∷ is) = (refl, all_of is)

-- the image of a change, stored as the newest, leaves all images ready in turn
pub images_stored : (old new : Map Row) (q : Cell) (o : Option TsImage) (image : TsImage) (images : List TsImage) → IfSome o (IsTsImage old new q) → o ≡ Some image →
    AreReadyInTurn IsReadyImage undone old images → AreReadyInTurn IsReadyImage undone new (image ∷ images)
images_stored old new q o image images undoable is ready =
    let this : IsTsImage old new q image = subst (λ (o : Option TsImage). IfSome o (IsTsImage old new q)) is undoable in
    (this.ready, in_turn_kept name_of_image IsReadyImage undone KeepsQueues keeps_ready keeps_undone (λ _. true) old (undone new image) images this.back (all_of images) ready)
