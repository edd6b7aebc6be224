-- What a unit's end does to each transient data queue: undoing its images undoes the marks that
-- they stand for, sweeping changes nothing, and a commit settles the ends that the unit owns.
use Rattle.std.specs.Prelude.{◌≡◌, ◌≤◌, Bool, true, false, not, Some, List, [], ◌∷◌, length, take, fold, refl}
use Rattle.std.proofs.Common.{arith, sym, ap, ◌∙◌, subst, inl, inr}
use Rattle.std.specs.Option.{option_map}
use Rattle.std.proofs.lemmas.Bool.{cases_Bool, false≢true, true≢false, or_parts}
use Rattle.std.proofs.lemmas.List.{length-take-le}
use Rattle.cics_names.specs.Keyed.{Bytes, is_same, value_at}
use Rattle.cics_names.specs.KeyedLaws.{is_same-self, is_same-eq}
use Rattle.cics_images.specs.Cells.{all_swept}
use Rattle.cics_images.specs.Cells as images
use Rattle.cics_images.specs.NamedValues.{named_undone}
use Rattle.cics_images.specs.NamedLaws.{here, elsewhere}
use Rattle.cics_images.specs.declared.stores.StoreImage.TheVariants.{File, TempStorage, TransData}
use Rattle.cics_transdata.specs.Trans.{TransState, IsApart, is_logical}
use Rattle.cics_transdata.specs.Undo.{reading_end, writing_end, undone as queue_undone, KeepsEnds}
use Rattle.cics_transdata.specs.UndoLaws.{undone_fixed, keeps_itself}
use Rattle.cics_transdata.specs.EndLaws.{reader_committed_keeps, writer_committed_keeps}
use Rattle.cics_history.specs.Undo.{Image}
use Rattle.cics_history.specs.Marks.{MarkedQueue, marks_of, unwritten, writer_settled, reader_settled, queue_committed}
use Rattle.cics_history.specs.MarkImages.{MarkImage, queue_of, unmarked, IsMarkReady, Unmarks, marks_queue}
use Rattle.cics_history.proofs.MarkedParts.{marks_of-writer, marks_of-reader}
use Rattle.cics_history.proofs.CarriedImages.{carried_undone, carried_marked}
use Rattle.cics_units.specs.Opening.StoreMatching.{StoreValue, AnyImage, cell_of_any, any_undone, any_swept, AreImagesOf}
use Rattle.cics_units.specs.StoreInPlace.{HasMarks, writer_ended, reader_ended, ends_committed}

-- ---- sweeping
-- to sweep the cell of an image leaves each queue
swept_queue : (s : StoreValue) (i : AnyImage) (q : Bytes) → value_at q (any_swept s (cell_of_any i)).trans_data ≡ value_at q s.trans_data
swept_queue s (File i) q = refl
swept_queue s _ q = refl

-- and so does sweeping the cells of all
pub all_swept_queue : (s : StoreValue) (is : List AnyImage) (q : Bytes) → value_at q
    (all_swept any_swept cell_of_any s is).trans_data ≡ value_at q s.trans_data
all_swept_queue s [] q = refl
all_swept_queue s (i ∷ is) q = all_swept_queue (any_swept s (cell_of_any i)) is q ∙ swept_queue s i q

-- ---- a unit is backed out
-- a queue that no mark is of stays as it was
pub undone_elsewhere : (q : Bytes) (cs : List Image) (ms : List MarkImage) (is : List AnyImage) → AreImagesOf cs ms is → marks_queue q ms ≡ false →
    (s : StoreValue) →
    value_at q (fold any_undone s is).trans_data ≡ value_at q s.trans_data
undone_elsewhere q cs ms [] kept n s = refl
undone_elsewhere q [] ms (File i ∷ is) kept n s = absurd kept
undone_elsewhere q (c ∷ cs) ms (File i ∷ is) kept n s = undone_elsewhere q cs ms is kept.1 n (any_undone s (File i))
undone_elsewhere q [] ms (TempStorage i ∷ is) kept n s = absurd kept
undone_elsewhere q (c ∷ cs) ms (TempStorage i ∷ is) kept n s = undone_elsewhere q cs ms is kept.1 n (any_undone s (TempStorage i))
undone_elsewhere q cs [] (TransData i ∷ is) kept n s = absurd kept
undone_elsewhere q cs (m ∷ ms) (TransData i ∷ is) kept n s =
    let parts = or_parts (is_same (queue_of m) q) (marks_queue q ms) n in
    undone_elsewhere q cs ms is kept.1 parts.1 (any_undone s (TransData i))
    ∙ elsewhere (λ t. queue_undone t i.image) i.name s.trans_data q
    (λ e. true≢false (sym (subst (λ x. is_same x q ≡ true) (e ∙ kept.0.queue) (is_same-self q)) ∙ parts.0))

-- a LOGICAL queue is led back as its marks are, and has them still
pub undone_marks : (q : Bytes) (cs : List Image) (ms : List MarkImage) (is : List AnyImage) → AreImagesOf cs ms is →
    (s : StoreValue) (t : TransState) → value_at q s.trans_data ≡ Some t → (from to : MarkedQueue) → HasMarks from t → Unmarks ms q from to →
    (r : TransState) × (value_at q (fold any_undone s is).trans_data ≡ Some r) × HasMarks to r
undone_marks q cs ms [] kept s t there from to has un = (t, there, subst (λ m. HasMarks m t) (subst (λ l. Unmarks l q from to) kept.1 un) has)
undone_marks q [] ms (File i ∷ is) kept s t there from to has un = absurd kept
undone_marks q (c ∷ cs) ms (File i ∷ is) kept s t there from to has un = undone_marks q cs ms is kept.1 (any_undone s (File i)) t there from to has un
undone_marks q [] ms (TempStorage i ∷ is) kept s t there from to has un = absurd kept
undone_marks q (c ∷ cs) ms (TempStorage i ∷ is) kept s t there from to has un = undone_marks q cs ms is kept.1 (any_undone s
    (TempStorage i)) t there from to has un
undone_marks q cs [] (TransData i ∷ is) kept s t there from to has un = absurd kept
undone_marks q cs (m ∷ ms) (TransData i ∷ is) kept s t there from to has un = elim (cases_Bool (is_same (queue_of m) q)) [
  | inl same ↦
      let l = rw same at un in
      let step = λ (t : TransState). queue_undone t i.image in
      let named : q ≡ i.name = sym (kept.0.queue ∙ is_same-eq (queue_of m) q same) in
      let ready : IsMarkReady m (marks_of t) = subst (IsMarkReady m) has.marks l.0 in
      undone_marks q cs ms is kept.1 (any_undone s (TransData i)) (queue_undone t i.image)
      (ap (λ x. value_at x (named_undone queue_undone s.trans_data i)) named ∙ here step i.name s.trans_data
      ∙ ap (option_map step) (ap (λ x. value_at x s.trans_data) (sym named) ∙ there))
      (unmarked m from) to
      (record {
        logical = ap is_logical (undone_fixed t i.image) ∙ has.logical;
        within = carried_marked t i.image m has.within kept.0.carries ready;
        marks = ap (unmarked m) has.marks ∙ sym (carried_undone t i.image m has.within kept.0.carries ready);
      }) l.1
  | inr other ↦
      undone_marks q cs ms is kept.1 (any_undone s (TransData i)) t
      (elsewhere (λ t. queue_undone t i.image) i.name s.trans_data q
      (λ e. true≢false (sym (subst (λ x. is_same x q ≡ true) (e ∙ kept.0.queue) (is_same-self q)) ∙ other)) ∙ there)
      from to has (rw other at un)
]

-- ---- a unit commits
-- the writing end is settled if w says so
writer_has : (w : Bool) (m : MarkedQueue) (t : TransState) → HasMarks m t → HasMarks (writer_settled w m) (writer_ended w t)
writer_has false m t has = has
writer_has true m t has = record {
  logical = has.logical;
  within = record { read = has.within.read; written = omega arith; unmarked = λ plain. absurd (true≢false (sym has.logical ∙ plain)) };
  marks = ap (writer_settled true) has.marks ∙ sym (marks_of-writer t);
}

-- the reading end is settled if r says so, and what was read was written by no other open unit
reader_has : (r : Bool) (m : MarkedQueue) (t : TransState) → HasMarks m t → (r ≡ true → m.taken ≤ length m.settled) → HasMarks (reader_settled r m)
    (reader_ended r t)
reader_has false m t has room = has
reader_has true m t has room = record {
  logical = has.logical;
  within = record { read = omega arith; written = omega arith; unmarked = λ plain. absurd (true≢false (sym has.logical ∙ plain)) };
  marks = ap (reader_settled true) has.marks ∙ sym (marks_of-reader t has.within (subst (λ (m : MarkedQueue). m.taken ≤ length m.settled) has.marks
      (room refl)));
}

-- the queue after a commit has the marks that the commit leaves
pub committed_marks : (r w : Bool) (m : MarkedQueue) (t : TransState) → HasMarks m t →
    (r ≡ true → (writer_settled w m).taken ≤ length (writer_settled w m).settled) → HasMarks (queue_committed r w m) (ends_committed r w t)
committed_marks r w m t has room = reader_has r (writer_settled w m) (writer_ended w t) (writer_has w m t has) room

-- if what is read isn't marked as written no record has both marks
pub apart_by_marks : (m : MarkedQueue) (t : TransState) → HasMarks m t → m.taken ≤ length m.settled → IsApart t
apart_by_marks m t has room =
    let here : t.read ≤ length (take (unwritten t) t.placed) = subst (λ (m : MarkedQueue). m.taken ≤ length m.settled) has.marks room in
    let front = length-take-le (unwritten t) t.placed (omega arith) in
    omega (arith, here, front, has.within.written)

-- a commit keeps each end that the unit doesn't own
pub committed_keeps : (p : images.Cell → Bool) (r w : Bool) (t : TransState) → p reading_end ≡ not r → p writing_end ≡ not w → (r ≡ true → w ≡ false →
    IsApart t) →
    KeepsEnds p t (ends_committed r w t)
committed_keeps p false false t pr pw apart = keeps_itself p t
committed_keeps p false true t pr pw apart = record {
  same_kind = refl;
  reading = λ h. (writer_committed_keeps t).reading refl;
  writing = λ h. absurd (false≢true (sym pw ∙ h));
}
committed_keeps p true false t pr pw apart = record {
  same_kind = refl;
  reading = λ h. absurd (false≢true (sym pr ∙ h));
  writing = λ h. (reader_committed_keeps t (apart refl refl)).writing refl;
}
committed_keeps p true true t pr pw apart = record {
  same_kind = refl;
  reading = λ h. absurd (false≢true (sym pr ∙ h));
  writing = λ h. absurd (false≢true (sym pw ∙ h));
}
