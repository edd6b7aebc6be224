-- A command that is applied keeps files, temporary storage, transient data and the images in place:
-- by its one contract, for files and queues alike.
use Rattle.std.proofs.Common.{◌≡◌, ◌≢◌, ℕ, Bool, true, false, ◌&&◌, not, Option, Some, None, List, [], ◌++◌, refl, ap, sym, subst, ◌∙◌, eqb, inl, inr, ◌⊎◌}
use Rattle.std.specs.Prelude.{if◌then◌else◌}
use Rattle.std.specs.List.{list_any}
use Rattle.std.proofs.lemmas.Bool.{true≢false, false≢true, cases_Bool, and_parts, and_left, eq-eqb, eqb-true, false_from_ne_true, true_from_ne_false, eqb-false}
use Rattle.cics_names.specs.Keyed.{Bytes, value_at, with_value, is_same}
use Rattle.cics_names.specs.KeyedLaws.{is_same-eq, value_at-with_value_same, value_at-with_value_other}
use Rattle.cics_images.specs.Cells.{Kept}
use Rattle.cics_images.specs.Cells as images
use Rattle.cics_images.specs.NamedLaws.{same_or_other}
use Rattle.cics_images.specs.NamedValues.{changed_where}
use Rattle.cics_images.specs.StoreCells.{temp_cell}
use Rattle.cics_transdata.specs.Trans.{TransState, is_logical}
use Rattle.cics_history.specs.State.{queue_logical, UnitsState}
use Rattle.cics_history.specs.Store.{is_recoverable}
use Rattle.cics_history.specs.Headline.{outcome_of, is_open}
use Rattle.cics_history.specs.Holding.{awaited}
use Rattle.cics_history.specs.Execution.{unit_or_next, after_execution, outcomes_with, state_of}
use Rattle.cics_history.specs.Records.{is_file_op}
use Rattle.cics_history.specs.declared.ops.Answer.{Answer}
use Rattle.cics_history.specs.declared.ops.Op.{Op}
use Rattle.cics_history.specs.declared.ops.Op.TheVariants.{Write, Rewrite, Delete, DeleteGeneric, ReadUpdate, TsWrite, TsRewrite, TsDelete, TdWrite, TdRead, TdDelete}
use Rattle.cics_history.specs.Cells.{Cell, Ts, Td, content, touches, effect, same_cell, cell_of as cell_of_op, End, Reading, Writing, uses, recovers, IsOrdered}
use Rattle.cics_history.specs.Events.{may_act}
use Rattle.cics_history.specs.Isolation.{used, IsSound, IsFree}
use Rattle.cics_history.specs.Undo.{Image, names, is_plain, image_of, images_by, IsPlaceOf, place_executed, after, put}
use Rattle.cics_history.specs.Marks.{Queues, marked, marks_of, queues_executed}
use Rattle.cics_history.specs.MarkImages.{MarkImage, mark_images}
use Rattle.cics_history.specs.Ends.{Marks, marks_executed}
use Rattle.cics_history.proofs.Joining.{same_cell-true, same_cell-refl, apply-content, touches-named, touches-recovers}
use Rattle.cics_history.proofs.Places.{execution-IsPlaceOf, image_of-AreImages}
use Rattle.cics_history.proofs.PrefixImages.{images_by-AreImages}
use Rattle.cics_history.proofs.States.{one_at_each_end, acting_open}
use Rattle.cics_units.specs.FilesImagesLaws.{bytes_eq-turned}
use Rattle.cics_units.specs.ImageRows.{kept_by}
use Rattle.cics_units.specs.Opening.StoreMatching.{StoreValue, AnyImage, shown_store, bytes_of, bytes_of_end, AreImagesOf}
use Rattle.cics_units.specs.Awaiting.{IsOwn}
use Rattle.cics_units.specs.StoreInPlace.{AreInPlace, HasMarks, holds_end}
use Rattle.cics_units.specs.Parts.{leaves_any}
use Rattle.cics_units.specs.QueueChanges.{is_trans, queue_of, is_left, leaves_end, trans_after}
use Rattle.cics_units.specs.Opening.Prefixed.{is_temp}
use Rattle.cics_units.specs.Applied.{IsApplied, spares, marks_in, marks_if, AreImagesMade}
use Rattle.cics_units.proofs.StoreMatched.{is_of_end, each_passes, plain_apart}
use Rattle.cics_units.proofs.StoreInPlace.{AreReady, ready_where, place_by, marked_used}
use Rattle.cics_units.proofs.StoreExecuted.{no_mark, kept_joined}
use Rattle.cics_units.proofs.StoreQueueExecuted.{left_plain, left_marked, uses_or_own, no_more}
use Rattle.cics_units.proofs.TransChanges.{IsToldEnough, kind_after, fits_after, marks_after, trans_cell_of, trans_single, trans_no_file, trans_recoverable}
use Rattle.cics_units.proofs.TempChanges.{temp_cell_of, temp_single, temp_no_file, temp_uses}
use Rattle.cics_units.proofs.FileCommands.{key_op, writes_op, no_queue_op, same_from, acted_on}
use Rattle.cics_history.proofs.Executes.{MayRun}
use Rattle.cics_history.proofs.Outcomes.{outcome_of-with}
use Rattle.cics_history.proofs.Waiting.{MayRun_from}
use Rattle.cics_history.proofs.InPlace.{execution-AreMarksOf}

-- ---- What is the same whatever a command acts on
module _ (s : UnitsState) (u : Option ℕ) (op : Op) (acts : may_act s u ≡ true) (free : awaited s u op ≡ None) where
  -- the unit that executes it is open
  pub open_unit : is_open (outcome_of s.outcomes (unit_or_next u s.outcomes)) ≡ true
  open_unit = acting_open s u acts

  -- and need not wait
  pub may_run : IsSound s → MayRun s.opening s.trace (outcome_of s.outcomes) (unit_or_next u s.outcomes) op
  may_run sound = MayRun_from s sound.known u op free open_unit

  -- the opening stays
  pub opening_stays : (after_execution s u op).opening ≡ s.opening
  opening_stays = ap (λ h. (state_of s u op h).opening) free

  -- the outcomes after it
  outcomes_then : (after_execution s u op).outcomes ≡ outcomes_with u s.outcomes
  outcomes_then = ap (λ h. (state_of s u op h).outcomes) free

  module _ (m n : StoreValue) (images after_images : List (Kept AnyImage)) (sound : IsSound s) (place : AreInPlace s m images)
      (apart : (w : ℕ) → w ≢ unit_or_next u s.outcomes → kept_by after_images w ≡ kept_by images w) where
    -- the unit that executes it
    abbrev acting : ℕ
    acting = unit_or_next u s.outcomes

    -- the marks from then on
    abbrev marks_next : Marks
    marks_next = marks_executed s place.marks u op

    -- a unit that is over is another one, and keeps none
    over_then : (w : ℕ) → is_open (outcome_of (outcomes_with u s.outcomes) w) ≡ false → (w ≢ acting) × (kept_by images w ≡ [])
    over_then w shut =
        let before_it : is_open (outcome_of s.outcomes w) ≡ false = ap is_open (sym (outcome_of-with u s.outcomes w)) ∙ shut in
        ((λ same. true≢false (sym open_unit ∙ (ap (λ x. is_open (outcome_of s.outcomes x)) (sym same) ∙ before_it))), place.over w before_it)

    -- what holds of the unit and of every other holds of each
    each_unit : (P : ℕ → Type 0) → P acting → ((w : ℕ) → w ≢ acting → P w) → (w : ℕ) → P w
    each_unit P own others w = elim (cases_Bool (eqb w acting)) [ inl t ↦ subst P (sym (eqb-true w acting t)) own | inr t ↦ others w (eqb-false w acting t) ]

    -- another unit's images of marks stay
    marks_stay : (w : ℕ) → w ≢ acting → marks_next.images w ≡ place.marks.images w
    marks_stay w other =
        ap (λ b. if b && is_recoverable s.opening op then mark_images op place.marks.queues ++ place.marks.images w else place.marks.images w)
        (false_from_ne_true (eqb w acting) (λ t. other (eqb-true w acting t)))

    -- all is in place after the command
    pub executed_by : (changes : ℕ → List Image) → ((w : ℕ) → w ≢ acting → changes w ≡ place.changes w) →
        IsPlaceOf (after_execution s u op) (record { cells = content (shown_store n); images = changes }) →
        ((q : Bytes) → queue_logical s.opening q ≡ true → (t : TransState) × (value_at q n.trans_data ≡ Some t) × HasMarks (marks_next.queues q) t) →
        ((w : ℕ) → w ≢ acting → is_open (outcome_of s.outcomes w) ≡ true → AreReady n (kept_by images w)) →
        AreImagesOf (changes acting) (marks_next.images acting) (kept_by after_images acting) → AreReady n (kept_by after_images acting) →
        AreInPlace (after_execution s u op) n after_images
    executed_by changes same there queues others kept ready = record {
      changes = changes;
      marks = marks_next;
      place = there;
      ends = execution-AreMarksOf s place.marks u op sound place.ends acts free;
      queues = λ q l. queues q (subst (λ o. queue_logical o q ≡ true) opening_stays l);
      kept = each_unit (λ w. AreImagesOf (changes w) (marks_next.images w) (kept_by after_images w)) kept
          (λ w other. rw (same w other, marks_stay w other, apart w other) (place.kept w));
      ready = each_unit (λ w. AreReady n (kept_by after_images w)) ready
          (λ w other. subst (AreReady n) (sym (apart w other)) (elim (cases_Bool (is_open (outcome_of s.outcomes w))) [
            | inl on ↦ others w other on
            | inr shut ↦ subst (AreReady n) (sym (place.over w shut)) tt
          ]));
      over = λ w shut. let h = over_then w (ap (λ l. is_open (outcome_of l w)) (sym outcomes_then) ∙ shut) in apart w h.0 ∙ h.1;
    }

-- the same either way
either_way : {X : Type 0} (b : Bool) (x : X) → (if b then x else x) ≡ x
either_way true x = refl
either_way false x = refl

-- ---- commands on files and on temporary storage: what they act on is plain
-- a command is on a file, on temporary storage, or on transient data
pub no_trans_of : (op : Op) → is_trans op ≡ false → (is_file_op op ≡ true) ⊎ (is_temp op ≡ true)
no_trans_of (Write f k r) plainly = inl refl
no_trans_of (Rewrite f k r) plainly = inl refl
no_trans_of (Delete f k) plainly = inl refl
no_trans_of (DeleteGeneric f p) plainly = inl refl
no_trans_of (ReadUpdate f k) plainly = inl refl
no_trans_of (TsWrite q d) plainly = inr refl
no_trans_of (TsRewrite q n d) plainly = inr refl
no_trans_of (TsDelete q) plainly = inr refl
no_trans_of _ plainly = absurd (true≢false plainly)

plain_writes : (op : Op) → is_trans op ≡ false → uses op Writing ≡ true
plain_writes op plainly = elim (no_trans_of op plainly) [ inl file ↦ writes_op op file | inr temp ↦ temp_uses op temp ]

plain_cell : (s : UnitsState) (op : Op) → is_trans op ≡ false → is_plain s.opening (cell_of_op op) ≡ true
plain_cell s op plainly = elim (no_trans_of op plainly) [
  | inl file ↦ ap (is_plain s.opening) (key_op op file)
  | inr temp ↦ ap (is_plain s.opening) (temp_cell_of op temp)
]

plain_no_queue : (op : Op) → is_trans op ≡ false → (q : Bytes) → touches op (Td q) ≡ false
plain_no_queue op plainly q = elim (no_trans_of op plainly) [
  | inl file ↦ no_queue_op op file q
  | inr temp ↦ touches-named op (temp_single op temp) (Td q) ∙ ap (λ x. same_cell x (Td q)) (temp_cell_of op temp)
]

spares_file : (op : Op) (own : Bool) (c : images.Cell) → is_file_op op ≡ true → spares op own c ≡ leaves_any op c
spares_file op own c file = rw file refl

spares_temp : (op : Op) (own : Bool) (c : images.Cell) → is_temp op ≡ true → is_trans op ≡ false → spares op own c ≡ images.is_other (temp_cell (queue_of op)) c
spares_temp op own c temp plainly = rw (temp_no_file op temp, plainly) refl

spares_trans : (op : Op) (own : Bool) (c : images.Cell) → is_trans op ≡ true → spares op own c ≡ is_left op own c
spares_trans op own c is = rw (trans_no_file op is, is) refl

plain_acted : (op : Op) (own : Bool) → is_trans op ≡ false → (x : Cell) → spares op own (bytes_of x) ≡ false → touches op x ≡ true
plain_acted op own plainly x gone = elim (no_trans_of op plainly) [
  | inl file ↦ acted_on op file x (sym (spares_file op own (bytes_of x) file) ∙ gone)
  | inr temp ↦
      touches-named op (temp_single op temp) x ∙ ap (λ y. same_cell y x) (temp_cell_of op temp)
      ∙ ap (same_cell (Ts (queue_of op))) (same_from (Ts (queue_of op)) x (sym (spares_temp op own (bytes_of x) temp plainly) ∙ gone)) ∙ same_cell-refl (Ts (queue_of op))
]

plain_ends : (op : Op) (own : Bool) → is_trans op ≡ false → (q : Bytes) (end : End) → spares op own (bytes_of_end q end) ≡ true
plain_ends op own plainly q end = elim (no_trans_of op plainly) [
  | inl file ↦ spares_file op own (bytes_of_end q end) file
  | inr temp ↦ spares_temp op own (bytes_of_end q end) temp plainly
      ∙ ap not (bytes_eq-turned (bytes_of_end q end) (bytes_of (Ts (queue_of op))) ∙ plain_apart (Ts (queue_of op)) q end)
]

module _ (s : UnitsState) (m n : StoreValue) (images after_images : List (Kept AnyImage)) (u : Option ℕ) (op : Op) (own : Bool) (answer : Answer)
    (sound : IsSound s) (place : AreInPlace s m images) (ordered : IsOrdered (shown_store m)) (acts : may_act s u ≡ true) (free : awaited s u op ≡ None)
    (done : IsApplied m n (kept_by images (unit_or_next u s.outcomes)) (kept_by after_images (unit_or_next u s.outcomes)) op (is_recoverable s.opening op) own answer)
    (apart : (w : ℕ) → w ≢ unit_or_next u s.outcomes → kept_by after_images w ≡ kept_by images w) where
  abbrev unit : ℕ
  unit = unit_or_next u s.outcomes

  -- each cell holds what the command leaves
  moved : (x : Cell) → after (content (shown_store m)) op x ≡ content (shown_store n) x
  moved x = sym (apply-content (shown_store m) op x) ∙ ap (λ s. content s x) (sym done.shown)

  -- the marks from then on
  abbrev marks_then : Marks
  marks_then = marks_executed s place.marks u op

  stand_by : (b : Bool) → is_recoverable s.opening op ≡ b → AreImagesMade m op b done.made
  stand_by b is = subst (λ b. AreImagesMade m op b done.made) is done.stand

  -- the images of a unit stay ready, if the command leaves all that they are of
  still_ready : (w : ℕ) → ((x : Cell) → names x (place.changes w) ≡ true → spares op own (bytes_of x) ≡ true) →
      ((q : Bytes) (end : End) → list_any (is_of_end q end) (place.marks.images w) ≡ true → spares op own (bytes_of_end q end) ≡ true) → AreReady n (kept_by images w)
  still_ready w cells ends = ready_where (spares op own) m n (kept_by images w) done.others
      (each_passes (spares op own) (place.changes w) (place.marks.images w) (kept_by images w) (place.kept w) cells ends) (place.ready w)

  -- those of its own unit are ready
  own_ready : (is_recoverable s.opening op ≡ false → AreReady n (kept_by images unit)) → AreReady n (kept_by after_images unit)
  own_ready still = elim (cases_Bool (is_recoverable s.opening op)) [
    | inl rec ↦ done.ready rec (place.ready unit)
    | inr plain ↦ subst (AreReady n) (sym (done.newest ∙ ap (λ l. l ++ kept_by images unit) (stand_by false plain))) (still plain)
  ]

  -- and stand for what it has changed and marked
  own_kept : (cs : List Image) (ms : List MarkImage) → (is_recoverable s.opening op ≡ true → AreImagesOf cs ms done.made) →
      AreImagesOf (if is_recoverable s.opening op then cs ++ place.changes unit else place.changes unit)
      (if is_recoverable s.opening op then ms ++ place.marks.images unit else place.marks.images unit) (kept_by after_images unit)
  own_kept cs ms stand = elim (cases_Bool (is_recoverable s.opening op)) [
    | inl rec ↦ rw (rec, done.newest) (kept_joined cs ms done.made (stand rec) (place.changes unit) (place.marks.images unit) (kept_by images unit) (place.kept unit))
    | inr plain ↦ rw (plain, done.newest, stand_by false plain) (place.kept unit)
  ]

  -- on a file or on temporary storage
  module _ (plainly : is_trans op ≡ false) where
    -- its changes
    abbrev made : List Image
    made = images_by (shown_store m) op (content (shown_store m))

    -- those of the open units from then on
    abbrev changes_then : ℕ → List Image
    changes_then w = if eqb w unit && is_recoverable s.opening op then made ++ place.changes w else place.changes w

    same_changes : (w : ℕ) → w ≢ unit → changes_then w ≡ place.changes w
    same_changes w other = ap (λ b. if b && is_recoverable s.opening op then made ++ place.changes w else place.changes w)
        (false_from_ne_true (eqb w unit) (λ t. other (eqb-true w unit t)))

    place_plain : IsPlaceOf (after_execution s u op) (record { cells = content (shown_store n); images = changes_then })
    place_plain = subst (λ c. IsPlaceOf (after_execution s u op) (record { cells = c; images = changes_then })) (λ i x. moved x i)
        (subst (λ b. IsPlaceOf (after_execution s u op) (if b then put s.opening (record { cells = content (shown_store m); images = place.changes }) unit op made
        else record { cells = content (shown_store m); images = place.changes })) (plain_cell s op plainly)
        (execution-IsPlaceOf s (record { cells = content (shown_store m); images = place.changes }) u op made sound place.place acts free
        (images_by-AreImages (shown_store m) op (content (shown_store m)) ordered (λ g k. refl))))

    -- no queue is marked
    queues_plain : (q : Bytes) → queue_logical s.opening q ≡ true → (t : TransState) × (value_at q n.trans_data ≡ Some t) × HasMarks (marks_then.queues q) t
    queues_plain q l = let queue = place.queues q l in
        (queue.0, ap (value_at q) (done.queues ∙ rw plainly refl) ∙ queue.1, subst (λ k. HasMarks k queue.0) (sym (unmarked (is_recoverable s.opening op))) queue.2)
      where
        unmarked : (b : Bool) → (if b then queues_executed place.marks.queues op else place.marks.queues) q ≡ place.marks.queues q
        unmarked true = rw (plain_no_queue op plainly q) refl
        unmarked false = refl

    -- a unit that keeps no image of what the command acts on keeps images of what it leaves
    left_of : (w : ℕ) → ((x : Cell) → touches op x ≡ true → names x (place.changes w) ≡ false) → AreReady n (kept_by images w)
    left_of w none = still_ready w
        (λ x named. true_from_ne_false (spares op own (bytes_of x)) (λ gone. true≢false (sym named ∙ none x (plain_acted op own plainly x gone))))
        (λ q end marks. plain_ends op own plainly q end)

    -- so does another open unit, since the command doesn't wait for it
    unnamed : (w : ℕ) → w ≢ unit → is_open (outcome_of s.outcomes w) ≡ true → (x : Cell) → touches op x ≡ true → names x (place.changes w) ≡ false
    unnamed w other on x touched = place.place.named x w (false_from_ne_true _ (λ t.
        let both = and_parts (recovers s.opening x) (used s.trace w x Writing) t in
        elim ((may_run s u op acts free sound).writing (touches-recovers s.opening op x touched ∙ both.0) (plain_writes op plainly) x touched w both.1) [
          | inl same ↦ other same
          | inr shut ↦ true≢false (sym on ∙ shut)
        ]))

    -- and its own unit, if it isn't recoverable
    unnamed_own : is_recoverable s.opening op ≡ false → (x : Cell) → touches op x ≡ true → names x (place.changes unit) ≡ false
    unnamed_own plain x touched = place.place.named x unit
        (and_left (recovers s.opening x) (used s.trace unit x Writing) (sym (touches-recovers s.opening op x touched) ∙ plain))

    pub plain_applied : AreInPlace (after_execution s u op) n after_images
    plain_applied = executed_by s u op acts free m n images after_images sound place apart changes_then same_changes place_plain queues_plain
        (λ w other on. left_of w (unnamed w other on))
        (rw (eq-eqb unit unit refl) (own_kept made (mark_images op place.marks.queues)
        (λ rec. rw (no_mark op (plain_no_queue op plainly) place.marks.queues) (rw plainly at (stand_by true rec)))))
        (own_ready (λ plain. left_of unit (unnamed_own plain)))

  -- on a transient data queue that stands there with its recovery, and shows its reader enough
  module _ (is : is_trans op ≡ true) (t : TransState) (there : value_at (queue_of op) m.trans_data ≡ Some t)
      (kind : is_logical t.kind ≡ queue_logical s.opening (queue_of op)) (own_is : IsOwn op (holds_end s unit (queue_of op) Writing) own)
      (told : IsToldEnough op own (marks_of t)) where
    abbrev q : Bytes
    q = queue_of op

    -- the queue after it
    abbrev new : TransState
    new = trans_after op own t

    -- the queues after it
    queues_then_are : n.trans_data ≡ with_value q new m.trans_data
    queues_then_are = done.queues ∙ (rw is refl) ∙ ap (λ o. changed_where (λ t. trans_after op own t) q o m.trans_data) there

    new_there : value_at q n.trans_data ≡ Some new
    new_there = ap (value_at q) queues_then_are ∙ value_at-with_value_same q new m.trans_data

    other_there : (r : Bytes) → r ≢ q → value_at r n.trans_data ≡ value_at r m.trans_data
    other_there r other = ap (value_at r) queues_then_are ∙ value_at-with_value_other r q new m.trans_data other

    -- a LOGICAL queue has its marks
    has_marks : queue_logical s.opening q ≡ true → HasMarks (place.marks.queues q) t
    has_marks l =
        let queue = place.queues q l in
        let same : Some queue.0 ≡ Some t = sym queue.1 ∙ there in
        let one : queue.0 ≡ t = cc in
        subst (HasMarks (place.marks.queues q)) one queue.2

    touched_where : (x : Cell) → touches op x ≡ same_cell (Td q) x
    touched_where x = touches-named op (trans_single op is) x ∙ ap (λ y. same_cell y x) (trans_cell_of op is)

    touched : touches op (Td q) ≡ true
    touched = touched_where (Td q) ∙ same_cell-refl (Td q)

    plain_where : is_plain s.opening (cell_of_op op) ≡ not (queue_logical s.opening q)
    plain_where = ap (is_plain s.opening) (trans_cell_of op is)

    placed : IsPlaceOf (after_execution s u op) (place_executed s (record { cells = content (shown_store m); images = place.changes }) u op (image_of op
        (content (shown_store m) (cell_of_op op))))
    placed = execution-IsPlaceOf s (record { cells = content (shown_store m); images = place.changes }) u op (image_of op (content (shown_store m)
        (cell_of_op op))) sound place.place acts free (image_of-AreImages op (content (shown_store m)) (trans_single op is))

    untouched : queue_logical s.opening q ≡ true → (x : Cell) → is_plain s.opening x ≡ true → content (shown_store m) x ≡ content (shown_store n) x
    untouched l x plain =
        let none : touches op x ≡ false = touched_where x ∙ false_from_ne_true (same_cell (Td q) x) (λ same.
        let one : Td q ≡ x = same_cell-true (Td q) x same in
        true≢false (sym plain ∙ ap (is_plain s.opening) (sym one) ∙ ap not l)) in
        ap (λ b. if b then (effect op (content (shown_store m) x)).cell else content (shown_store m) x) (sym none) ∙ moved x

    place_then : IsPlaceOf (after_execution s u op) (record { cells = content (shown_store n); images = place.changes })
    place_then = elim (cases_Bool (queue_logical s.opening q)) [
      | inl l ↦
          place_by (after_execution s u op) (content (shown_store m)) (content (shown_store n)) place.changes
          (λ x plain. untouched l x (subst (λ o. is_plain o x ≡ true) (opening_stays s u op acts free) plain))
          (rw (plain_where ∙ ap not l) at placed)
      | inr plain ↦
          let p = rw (plain_where ∙ ap not plain) at placed in
          subst (λ c. IsPlaceOf (after_execution s u op) (record { cells = c; images = place.changes })) (λ i x. moved x i)
          (subst (λ c. IsPlaceOf (after_execution s u op) (record { cells = after (content (shown_store m)) op; images = c })) (λ i w. same_changes plain w i) p)
    ]
      where
        same_changes : queue_logical s.opening q ≡ false → (w : ℕ) → (if eqb w unit && is_recoverable s.opening op then image_of op (content (shown_store m)
            (cell_of_op op)) ++ place.changes w else place.changes w) ≡ place.changes w
        same_changes plain w = rw (trans_recoverable s.opening op is ∙ plain) (no_more (eqb w unit) _ (place.changes w))

    -- each LOGICAL queue has its marks then
    queues_then : (r : Bytes) → queue_logical s.opening r ≡ true →
        (t : TransState) × (value_at r n.trans_data ≡ Some t) × HasMarks ((marks_executed s place.marks u op).queues r) t
    queues_then r l = elim (same_or_other r q) [
      | inl same ↦
          subst (λ x. (t : TransState) × (value_at x n.trans_data ≡ Some t) × HasMarks ((marks_executed s place.marks u op).queues x) t) (sym same)
          (here (ap (queue_logical s.opening) (sym same) ∙ l))
      | inr other ↦
          let queue = place.queues r l in
          (queue.0, other_there r other ∙ queue.1, subst (λ k. HasMarks k queue.0) (sym (elsewhere other)) queue.2)
    ]
      where
        here : queue_logical s.opening q ≡ true → (t : TransState) × (value_at q n.trans_data ≡ Some t) × HasMarks ((marks_executed s place.marks u op).queues q) t
        here l =
            let logical : is_logical t.kind ≡ true = kind ∙ l in
            let was = has_marks l in
            let now : (marks_executed s place.marks u op).queues q ≡ marked op (place.marks.queues q) = rw (trans_recoverable s.opening op is ∙ l, touched) refl in (
              new,
              new_there,
              record {
                logical = ap is_logical (kind_after op own t) ∙ logical;
                within = fits_after op own t was.within logical;
                marks = now ∙ ap (marked op) was.marks ∙ sym (marks_after op own t is was.within logical told);
              },
            )

        elsewhere : r ≢ q → (marks_executed s place.marks u op).queues r ≡ place.marks.queues r
        elsewhere other = by (is_recoverable s.opening op)
          where
            by : (b : Bool) → (if b then queues_executed place.marks.queues op else place.marks.queues) r ≡ place.marks.queues r
            by true = rw (touched_where (Td r) ∙ false_from_ne_true (is_same q r) (λ same. other (sym (is_same-eq q r same)))) refl
            by false = refl

    -- another open unit owns no end that the command changes
    left_to_others : (w : ℕ) → w ≢ unit → is_open (outcome_of s.outcomes w) ≡ true → (end : End) → list_any (is_of_end q end) (place.marks.images w) ≡ true →
        leaves_end op own end ≡ true
    left_to_others w other on end marks = elim (cases_Bool (leaves_end op own end)) [
      | inl left ↦ left
      | inr changed ↦ elim (uses_or_own op own (holds_end s unit q Writing) end own_is changed) [
        | inl uses ↦ elim (free_end end uses w used_it.1) [
          | inl same ↦ absurd (other same)
          | inr shut ↦ absurd (true≢false (sym on ∙ shut))
        ]
        | inr holds ↦
            let both = and_parts (queue_logical s.opening q) (used s.trace unit (Td q) Writing) holds.1 in
            absurd (other (one_at_each_end s sound.one (Td q) both.0 Writing w unit on (open_unit s u op acts free)
            (subst (λ e. used s.trace w (Td q) e ≡ true) holds.0 used_it.1) both.1))
      ]
    ]
      where
        used_it : (queue_logical s.opening q ≡ true) × (used s.trace w (Td q) end ≡ true)
        used_it = marked_used s m images sound place w on q end marks

        free_end : (end : End) → uses op end ≡ true → IsFree s.trace (outcome_of s.outcomes) unit (Td q) end
        free_end Reading uses = (may_run s u op acts free sound).reading (trans_recoverable s.opening op is ∙ used_it.0) uses (Td q) touched
        free_end Writing uses = (may_run s u op acts free sound).writing (trans_recoverable s.opening op is ∙ used_it.0) uses (Td q) touched

    others_ready : (w : ℕ) → w ≢ unit → is_open (outcome_of s.outcomes w) ≡ true → AreReady n (kept_by images w)
    others_ready w other on = still_ready w (λ x named. spares_trans op own (bytes_of x) is ∙ left_plain op own x)
        (λ r end marks. spares_trans op own (bytes_of_end r end) is ∙ left_marked op own r end (λ same.
        left_to_others w other on end (subst (λ x. list_any (is_of_end x end) (place.marks.images w) ≡ true) same marks)))

    -- the marks that the images stand for are those of the units' state
    same_marks : (queues : Queues) → queues q ≡ marks_of t → mark_images op (marks_in m) ≡ mark_images op queues
    same_marks queues same = by op is (λ i. (ap marks_if there ∙ sym same) i)
      where
        by : (op : Op) → is_trans op ≡ true → marks_in m (queue_of op) ≡ queues (queue_of op) → mark_images op (marks_in m) ≡ mark_images op queues
        by (TdWrite r d) is e = ap (λ k. mark_images (TdWrite r d) (λ x. k)) e
        by (TdRead r) is e = ap (λ k. mark_images (TdRead r) (λ x. k)) e
        by (TdDelete r) is e = ap (λ k. mark_images (TdDelete r) (λ x. k)) e
        by _ is e = absurd (false≢true is)

    logical_if : is_recoverable s.opening op ≡ true → queue_logical s.opening q ≡ true
    logical_if rec = sym (trans_recoverable s.opening op is) ∙ rec

    pub trans_applied_in_place : AreInPlace (after_execution s u op) n after_images
    trans_applied_in_place = executed_by s u op acts free m n images after_images sound place apart place.changes (λ w other. refl) place_then queues_then others_ready
        (rw (eq-eqb unit unit refl) (subst (λ l. AreImagesOf l (if is_recoverable s.opening op then mark_images op place.marks.queues ++ place.marks.images unit else place.marks.images unit)
        (kept_by after_images unit)) (either_way (is_recoverable s.opening op) (place.changes unit)) (own_kept [] (mark_images op place.marks.queues)
        (λ rec. subst (λ ms. AreImagesOf [] ms done.made) (same_marks place.marks.queues (has_marks (logical_if rec)).marks) (rw is at (stand_by true rec))))))
        (own_ready (λ plain. still_ready unit (λ x named. spares_trans op own (bytes_of x) is ∙ left_plain op own x)
        (λ r end marks. spares_trans op own (bytes_of_end r end) is ∙ left_marked op own r end (λ same.
        absurd (true≢false (sym (marked_used s m images sound place unit (open_unit s u op acts free) r end marks).0
        ∙ ap (queue_logical s.opening) same ∙ sym (trans_recoverable s.opening op is) ∙ plain))))))
