-- A transient data queue with its two counts is a marked queue: each of its changes is the change of the marks.
use Rattle.std.proofs.Common.{arith, ◌≡◌, ℕ, zero, suc, ◌+◌, ◌≤◌, ◌<◌, Bool, true, false, not, None, List, [], ◌∷◌, ◌++◌, length, drop, take, refl, ap, sym, ◌∙◌, inl, inr, ltb}
use Rattle.std.specs.Prelude.{if◌then◌else◌, slice_get, ◌-◌, min}
use Rattle.std.proofs.Math.Seq.{drop-length, take-length, drop-nil}
use Rattle.std.proofs.Math.ListN.{drop_of_length-le}
use Rattle.std.proofs.Math.Nat.{min-eq_left}
use Rattle.std.proofs.lemmas.Bool.{cases_Bool, ltb-true, ltb-false}
use Rattle.std.proofs.lemmas.List.{take-append-drop, take-append-le, drop-append-le, append-nil, length-append, length-take-le, length-drop, drop-take}
use Rattle.cics_names.specs.Keyed.{Bytes}
use Rattle.cics_transdata.specs.Trans.{TransState, IsMarked, is_logical, queue_of, first_of, trans_written, trans_taken, trans_read, trans_deleted, reader_committed, writer_committed}
use Rattle.cics_history.specs.Holding.{is_nothing}
use Rattle.cics_history.specs.declared.ops.Op.TheVariants.{TdWrite, TdRead, TdDelete}
use Rattle.cics_history.specs.Marks.{MarkedQueue, seen, shown, marked, writer_settled, reader_settled, unwritten, marks_of}

same_marks : (a b : MarkedQueue) → a.settled ≡ b.settled → a.fresh ≡ b.fresh → a.taken ≡ b.taken → a ≡ b
same_marks a b s f t = λ i. record { settled = s i; fresh = f i; taken = t i }

-- the records that are shown
pub queue_of-shown : (s : TransState) → queue_of s ≡ shown (marks_of s)
queue_of-shown s = ap (drop s.read) (sym (take-append-drop (unwritten s) s.placed))

-- WRITEQ TD
pub marks_of-written : (s : TransState) (q d : Bytes) → IsMarked s → is_logical s.kind ≡ true →
    marks_of (trans_written s d) ≡ marked (TdWrite q d) (marks_of s)
marks_of-written s q d m l = rw l (same_marks _ _ settled fresh refl)
  where
    front : length (s.placed ++ d ∷ []) - (s.written + 1) ≡ unwritten s
    front = omega (arith, length-append s.placed (d ∷ []), m.written)

    within : unwritten s ≤ length s.placed
    within = omega arith

    settled : take (length (s.placed ++ d ∷ []) - (s.written + 1)) (s.placed ++ d ∷ []) ≡ take (unwritten s) s.placed
    settled = ap (λ n. take n (s.placed ++ d ∷ [])) front ∙ take-append-le (unwritten s) s.placed (d ∷ []) within

    fresh : drop (length (s.placed ++ d ∷ []) - (s.written + 1)) (s.placed ++ d ∷ []) ≡ drop (unwritten s) s.placed ++ d ∷ []
    fresh = ap (λ n. drop n (s.placed ++ d ∷ [])) front ∙ drop-append-le (unwritten s) s.placed (d ∷ []) within

-- DELETEQ TD
pub marks_of-deleted : (s : TransState) (q : Bytes) → is_logical s.kind ≡ true → marks_of (trans_deleted s) ≡ marked (TdDelete q) (marks_of s)
marks_of-deleted s q l = rw l (same_marks _ _ refl refl (ap length (sym (take-append-drop (unwritten s) s.placed))))

-- the ends of units
pub marks_of-writer : (s : TransState) → marks_of (writer_committed s) ≡ writer_settled true (marks_of s)
marks_of-writer s =
    let whole : length s.placed - 0 ≡ length s.placed = omega arith in
    same_marks _ _
    (ap (λ n. take n s.placed) whole ∙ (take-length s.placed ∙ sym (take-append-drop (unwritten s) s.placed)))
    (ap (λ n. drop n s.placed) whole ∙ drop-length s.placed) refl

drop-drop : (n m : ℕ) (xs : List Bytes) → drop m (drop n xs) ≡ drop (n + m) xs
drop-drop zero m xs = let e : 0 + m ≡ m = omega arith in rw e refl
drop-drop (suc n) m [] = drop-nil m ∙ sym (drop-nil (suc n + m))
drop-drop (suc n) m (x ∷ xs) = let e : suc n + m ≡ suc (n + m) = omega arith in rw e (drop-drop n m xs)

-- how many records of a queue that its reader committed weren't written by an open unit
abbrev left_over : TransState → ℕ
left_over s = length (drop s.read s.placed) - min s.written (length (drop s.read s.placed))

pub marks_of-reader : (s : TransState) → IsMarked s → s.read ≤ length (marks_of s).settled →
    marks_of (reader_committed s) ≡ reader_settled true (marks_of s)
marks_of-reader s m apart = same_marks _ _ settled fresh refl
  where
    room : s.read ≤ unwritten s
    room = let front = length-take-le (unwritten s) s.placed (omega arith) in omega (arith, apart, front)

    split : s.read + left_over s ≡ unwritten s
    split =
        let rest = length-drop s.read s.placed in
        let fits : s.written ≤ length (drop s.read s.placed) = omega (arith, room, rest, m.written) in
        let all : min s.written (length (drop s.read s.placed)) ≡ s.written = min-eq_left fits in
        rw all (omega (arith, room, rest, m.written))

    settled : take (left_over s) (drop s.read s.placed) ≡ drop s.read (take (unwritten s) s.placed)
    settled = sym (drop-take s.read (left_over s) s.placed) ∙ ap (λ n. drop s.read (take n s.placed)) split

    fresh : drop (left_over s) (drop s.read s.placed) ≡ drop (unwritten s) s.placed
    fresh = drop-drop s.read (left_over s) s.placed ∙ ap (λ n. drop n s.placed) split

-- READQ TD: the first record that the reader sees
get-first : (r k : ℕ) (xs : List Bytes) → r < k → slice_get xs r ≡ slice_get (drop r (take k xs)) 0
get-first zero zero xs h = absurd (omega arith)
get-first zero (suc k) [] h = refl
get-first zero (suc k) (x ∷ xs) h = refl
get-first (suc r) zero xs h = absurd (omega arith)
get-first (suc r) (suc k) [] h = refl
get-first (suc r) (suc k) (x ∷ xs) h = get-first r k xs (omega arith)

first_seen : (r k : ℕ) (xs : List Bytes) → k ≤ length xs →
    (if ltb r k then slice_get xs r else None) ≡ slice_get (drop r (take k xs)) 0
first_seen r k xs h = elim (cases_Bool (ltb r k)) [
  | inl y ↦ rw y (get-first r k xs (ltb-true r k y))
  | inr n ↦
      let past = ltb-false r k n in
      let all = length-take-le k xs h in
      let bound : length (take k xs) ≤ r = omega (arith, past, all) in
      let none : drop r (take k xs) ≡ [] = drop_of_length-le (take k xs) bound in
      rw (n, none) refl
]

pub first_of-seen : (s : TransState) (past : Bool) → first_of s past ≡ slice_get (seen false (not past) (marks_of s)) 0
first_of-seen s true =
    first_seen s.read (length s.placed) s.placed (omega arith)
    ∙ ap (λ c. slice_get (drop s.read c) 0) (take-length s.placed ∙ sym (take-append-drop (unwritten s) s.placed))
first_of-seen s false =
    first_seen s.read (unwritten s) s.placed (omega arith)
    ∙ ap (λ c. slice_get (drop s.read c) 0) (sym (append-nil (take (unwritten s) s.placed)))

taken_first : (s : TransState) → is_logical s.kind ≡ true → (c : List Bytes) →
    marks_of (trans_taken s (slice_get c 0)) ≡ (if is_nothing c then marks_of s else record (marks_of s) { taken = s.read + 1 })
taken_first s l [] = refl
taken_first s l (x ∷ c) = rw l refl

pub marks_of-read : (s : TransState) (q : Bytes) (past : Bool) → is_logical s.kind ≡ true →
    is_nothing (seen false (not past) (marks_of s)) ≡ is_nothing (shown (marks_of s)) → marks_of (trans_read s past) ≡ marked (TdRead q) (marks_of s)
marks_of-read s q past l same =
    ap (λ f. marks_of (trans_taken s f)) (first_of-seen s past)
    ∙ (taken_first s l (seen false (not past) (marks_of s))
    ∙ ap (λ b. if b then marks_of s else record (marks_of s) { taken = s.read + 1 }) same)
