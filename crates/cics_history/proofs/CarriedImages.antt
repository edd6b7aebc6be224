-- The before images that a queue gives are images of its marks: ready where those are, and undone like them.
use Rattle.std.proofs.Common.{arith, ◌≡◌, ◌+◌, ◌-◌, Bool, true, false, not, Option, List, [], ◌∷◌, ◌++◌, length, drop, take, refl, ap, sym, ◌∙◌, subst, length-append, length-drop}
use Rattle.std.specs.Prelude.{if◌then◌else◌, slice_get}
use Rattle.std.proofs.lemmas.List.{take_at, take-append-drop, length-take-le}
use Rattle.cics_names.specs.Keyed.{Bytes}
use Rattle.cics_transdata.specs.declared.images.TdImage.{TdImage}
use Rattle.cics_transdata.specs.declared.images.TdImage.TheVariants.{Taken, Written}
use Rattle.cics_transdata.specs.Trans.{TransState, IsMarked, is_logical}
use Rattle.cics_transdata.specs.Undo.{IsReadyImage, undone, without_last, written_image, taken_image, read_image, deleted_image}
use Rattle.cics_transdata.specs.UndoLaws.{one_less, undone_unwritten}
use Rattle.cics_history.specs.Holding.{is_nothing}
use Rattle.cics_history.specs.declared.ops.Op.TheVariants.{TdWrite, TdRead, TdDelete}
use Rattle.cics_history.specs.Marks.{MarkedQueue, seen, shown, Queues, unwritten, marks_of}
use Rattle.cics_history.specs.MarkImages.{MarkImage, OfReading, OfWriting, unmarked, IsMarkReady, mark_images}
use Rattle.cics_history.specs.Carried.{Carries, CarriesIfAny}
use Rattle.cics_history.proofs.MarkedParts.{first_of-seen}

-- ---- undoing

pub carried_ready : (s : TransState) (i : TdImage) (m : MarkImage) → IsMarked s → Carries i m → IsMarkReady m (marks_of s) → IsReadyImage s i
carried_ready s (Taken n) (OfReading q before made) marked carries ready = (omega (arith, carries, ready), marked.read)
carried_ready s Written (OfWriting q before made) marked carries ready =
    let cut = length-drop (unwritten s) s.placed in
    let front = length-take-le (unwritten s) s.placed (omega arith) in
    let all : length (drop (unwritten s) s.placed) ≡ length made = ap length ready.0 in
    let more : length made ≡ length (before ++ carries.0 ∷ []) = ap length carries.1 in
    let one = length-append before (carries.0 ∷ []) in
    let beside = length-append (take (unwritten s) s.placed) before in
    (omega (arith, cut, all, more, one, marked.written), marked.written, omega (arith, cut, front, all, more, one, beside, ready.1, marked.written))
carried_ready s (Taken n) (OfWriting q before made) marked carries ready = absurd carries
carried_ready s Written (OfReading q before made) marked carries ready = absurd carries

-- a list without what was put behind it
without_pushed : (xs : List Bytes) (x : Bytes) → without_last (xs ++ x ∷ []) ≡ xs
without_pushed xs x = let long = length-append xs (x ∷ []) in take_at xs (x ∷ []) (length (xs ++ x ∷ []) - 1) (omega (arith, long))

pub carried_undone : (s : TransState) (i : TdImage) (m : MarkImage) → IsMarked s → Carries i m → IsMarkReady m (marks_of s) → marks_of (undone s i) ≡ unmarked m (marks_of s)
carried_undone s (Taken n) (OfReading q before made) marked carries ready = λ k. record { settled = take (unwritten s) s.placed; fresh = drop (unwritten s) s.placed; taken = carries.0 k }
carried_undone s Written (OfWriting q before made) marked carries ready =
    let now = carried_ready s Written (OfWriting q before made) marked carries ready in
    let settled = undone_unwritten s Written now in
    let fresh : drop (unwritten (undone s Written)) (undone s Written).placed ≡ before = one_less s now ∙ ap without_last (ready.0 ∙ carries.1) ∙ without_pushed before carries.0 in
    λ k. record { settled = settled k; fresh = fresh k; taken = s.read }
carried_undone s (Taken n) (OfWriting q before made) marked carries ready = absurd carries
carried_undone s Written (OfReading q before made) marked carries ready = absurd carries

-- the queue keeps no more marks than it has records
pub carried_marked : (s : TransState) (i : TdImage) (m : MarkImage) → IsMarked s → Carries i m → IsMarkReady m (marks_of s) → IsMarked (undone s i)
carried_marked s (Taken n) (OfReading q before made) marked carries ready = record {
  read = omega (arith, carries, ready, marked.read);
  written = marked.written;
  unmarked = λ plain. let none = marked.unmarked plain in (omega (arith, carries, ready, none), none.1);
}
carried_marked s Written (OfWriting q before made) marked carries ready =
    let now = carried_ready s Written (OfWriting q before made) marked carries ready in
    let shorter = length-take-le (length s.placed - 1) s.placed (omega arith) in
    record {
      read = omega (arith, shorter, now);
      written = omega (arith, shorter, now);
      unmarked = λ plain. let none = marked.unmarked plain in (none.0, omega (arith, none));
    }
carried_marked s (Taken n) (OfWriting q before made) marked carries ready = absurd carries
carried_marked s Written (OfReading q before made) marked carries ready = absurd carries

-- ---- the images of changes

pub carried_written : (s : TransState) (queues : Queues) (q d : Bytes) → is_logical s.kind ≡ true → CarriesIfAny (written_image s) (mark_images (TdWrite q d) queues)
carried_written s queues q d l = rw l (d, refl)

pub carried_deleted : (s : TransState) (queues : Queues) (q : Bytes) → IsMarked s → queues q ≡ marks_of s → is_logical s.kind ≡ true → CarriesIfAny (deleted_image s) (mark_images (TdDelete q) queues)
carried_deleted s queues q marked is l =
    subst (λ (m : MarkedQueue). CarriesIfAny (deleted_image s) (OfReading q m.taken (length (m.settled ++ m.fresh)) ∷ [])) (sym is)
    (let all = ap length (take-append-drop (unwritten s) s.placed) in rw l (refl, omega (arith, all, marked.read)))

taken_carried : (s : TransState) (q : Bytes) → is_logical s.kind ≡ true → (c : List Bytes) →
    CarriesIfAny (taken_image s (slice_get c 0)) (if is_nothing c then [] else OfReading q s.read (s.read + 1) ∷ [])
taken_carried s q l [] = tt
taken_carried s q l (x ∷ c) = rw l (refl, omega arith)

pub carried_read : (s : TransState) (queues : Queues) (q : Bytes) (past : Bool) → queues q ≡ marks_of s → is_logical s.kind ≡ true →
    is_nothing (seen false (not past) (marks_of s)) ≡ is_nothing (shown (marks_of s)) → CarriesIfAny (read_image s past) (mark_images (TdRead q) queues)
carried_read s queues q past is l same =
    let c = seen false (not past) (marks_of s) in
    subst (λ (m : MarkedQueue). CarriesIfAny (read_image s past) (if is_nothing (shown m) then [] else OfReading q m.taken (m.taken + 1) ∷ [])) (sym is)
    (subst (λ (f : Option Bytes). CarriesIfAny (taken_image s f) (if is_nothing (shown (marks_of s)) then [] else OfReading q s.read (s.read + 1) ∷ [])) (sym (first_of-seen s past))
    (subst (λ (none : Bool). CarriesIfAny (taken_image s (slice_get c 0)) (if none then [] else OfReading q s.read (s.read + 1) ∷ [])) same
    (taken_carried s q l c)))
