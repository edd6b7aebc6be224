-- Every call keeps the LOGICAL queues in place, and every run keeps all that is changed in place.
use Rattle.std.proofs.Common.{◌≡◌, ℕ, zero, suc, ◌++◌, Bool, true, false, ◌&&◌, not, Option, Some, None, List, [], ◌∷◌, refl, ap, sym, subst, ◌∙◌, eqb, inl, inr}
use Rattle.std.specs.Prelude.{if◌then◌else◌, is_some, unwrap_or, drop}
use Rattle.std.proofs.lemmas.Bool.{true≢false, false≢true, cases_Bool, cond_both, eqb-true, and_parts, ltb-true}
use Rattle.cics_names.specs.Keyed.{Bytes}
use Rattle.cics_names.specs.KeyedLaws.{is_same-self}
use Rattle.cics_history.specs.declared.resources.Resource.TheVariants.{TdRead as ReadingEnd, TdWrite as WritingEnd}
use Rattle.cics_history.specs.declared.resources.Resource.{Resource}
use Rattle.cics_history.specs.declared.ops.Op.TheVariants.{TdRead}
use Rattle.cics_history.specs.State.{OpeningState, queue_logical, Store, initial_store, UnitsState, initial_units}
use Rattle.cics_history.specs.Openings.{IsOpeningInOrder}
use Rattle.cics_history.specs.Store.{apply}
use Rattle.cics_history.specs.Headline.{outcome_of, is_open, is_backed_out, kept}
use Rattle.cics_history.specs.Holding.{store_of, uses_of, owned, blocker_at, blocker_among, committed_for, is_nothing, writer_awaited, awaited}
use Rattle.cics_history.specs.Execution.{unit_or_next, entered, state_of, after_execution, after_end, after_enqueue, after_dequeue, after_unlock, after_ts_reading}
use Rattle.cics_history.specs.declared.ops.Op.{Op}
use Rattle.cics_history.specs.declared.ops.Entry.{Entry}
use Rattle.cics_history.specs.declared.ops.UnitState.TheVariants.{Committed, BackedOut}
use Rattle.cics_history.specs.Cells.{Cell, Key, Ts, Td, content, End, Reading, Writing, IsCanonical}
use Rattle.cics_history.specs.Events.{Event, Execute, Commit, BackOut, Enqueue, Dequeue, Unlock, ReadItem, is_live, may_act, happens, run}
use Rattle.cics_history.specs.Isolation.{Outcomes, with_entry, used, IsOneAtEachEnd, IsSound}
use Rattle.cics_history.specs.Undo.{AllReady, IsUndoable, images_by}
use Rattle.cics_history.specs.Marks.{seen, shown, queue_backed_out}
use Rattle.cics_history.specs.MarkImages.{marks_undone, AllMarksReady}
use Rattle.cics_history.specs.Ends.{AreBackedOut, IsUnheld, Marks, AreMarked, AreMarksOf, marks_opened, marks_executed, mark, marks_committed, marks_backed_out}
use Rattle.cics_history.specs.InPlace.{Parts, content_in_place, parts_opened, parts_executed, happens_in_place, run_in_place, IsInPlace}
use Rattle.cics_history.proofs.Executes.{alone, alone-own, alone-ended}
use Rattle.cics_history.proofs.Waiting.{covers, none_either, committed-content, free_end, MayRun_from}
use Rattle.cics_history.proofs.States.{acting_open, entered-IsSound, happens-IsSound, run-IsSound, run-opening, initial_units-IsSound, one_at_each_end}
use Rattle.cics_history.proofs.Places.{ended_by_set, initial_units-IsPlaceOf, entered-IsPlaceOf, commit-IsPlaceOf, back_out-IsPlaceOf, ready_of}
use Rattle.cics_history.proofs.Outcomes.{same_outcomes}
use Rattle.cics_history.proofs.SameHistory.{enqueue-same, dequeue-same, unlock-same, ts_reading-same}
use Rattle.cics_history.proofs.PrefixImages.{images_by-AreImages}
use Rattle.cics_history.proofs.Isolated.{store_ordered}
use Rattle.cics_history.proofs.Marking.{executes-AreMarked, commits-AreMarked, backs_out-AreMarked, opened-AreMarked, undone-queue, marks_ready}
use Rattle.cics_history.proofs.Queues.{open_shows}
use Rattle.cics_history.proofs.Stores.{same_store, initial-canonical, replay-canonical}

-- ---- The queues through each call

pub initial_units-AreMarksOf : (o : OpeningState) → AreMarksOf (initial_units o) (marks_opened o)
initial_units-AreMarksOf o = opened-AreMarked o (outcome_of [])

pub entered-AreMarksOf : (s : UnitsState) (p : Marks) (u : Option ℕ) (op : Op) → IsSound s →
    AreMarksOf s p → may_act s u ≡ true → awaited s u op ≡ None →
    AreMarksOf (entered s u op (apply (store_of s) op).answer) (marks_executed s p u op)
entered-AreMarksOf s p u op i h acts free =
    let v = unit_or_next u s.outcomes in
    let may = MayRun_from s i.known u op free (acting_open s u acts) in
    let more : IsOneAtEachEnd s.opening (with_entry s.opening (outcome_of s.outcomes) s.trace v op)
    (outcome_of s.outcomes) =
    subst (IsOneAtEachEnd s.opening (with_entry s.opening (outcome_of s.outcomes) s.trace v op))
    (sym (same_outcomes u s.outcomes))
    (one_at_each_end (entered s u op (apply (store_of s) op).answer)
    (entered-IsSound s u op i acts free).one) in
    subst (λ out. AreMarked s.opening (with_entry s.opening (outcome_of s.outcomes) s.trace v op) out
    (mark s.opening p v op)) (same_outcomes u s.outcomes)
    (executes-AreMarked i.isolated h v op may more)

pub execution-AreMarksOf : (s : UnitsState) (p : Marks) (u : Option ℕ) (op : Op) → IsSound s →
    AreMarksOf s p → may_act s u ≡ true → awaited s u op ≡ None →
    AreMarksOf (after_execution s u op) (marks_executed s p u op)
execution-AreMarksOf s p u op i h acts free =
    subst (λ w. AreMarksOf (state_of s u op w) (marks_executed s p u op)) (sym free)
    (entered-AreMarksOf s p u op i h acts free)

pub commit-AreMarksOf : (s : UnitsState) (p : Marks) (v : ℕ) → IsSound s → AreMarksOf s p →
    is_live s v ≡ true → AreMarksOf (after_end s v Committed) (marks_committed s p v)
commit-AreMarksOf s p v i h live =
    let a = and_parts _ _ live in
    subst (λ out. AreMarked s.opening s.trace out (marks_committed s p v))
    (ended_by_set s.outcomes v Committed (ltb-true _ _ a.0))
    (commits-AreMarked (one_at_each_end s i.one) h v a.1)

pub back_out-AreMarksOf : (s : UnitsState) (p : Marks) (v : ℕ) → IsSound s → AreMarksOf s p →
    is_live s v ≡ true → AreMarksOf (after_end s v BackedOut) (marks_backed_out p v)
back_out-AreMarksOf s p v i h live =
    let a = and_parts _ _ live in
    subst (λ out. AreMarked s.opening s.trace out (marks_backed_out p v))
    (ended_by_set s.outcomes v BackedOut (ltb-true _ _ a.0))
    (backs_out-AreMarked (one_at_each_end s i.one) h v a.1)

-- ENQ, DEQ, UNLOCK and READQ TS keep the marks
pub enqueue-AreMarksOf : (s : UnitsState) (p : Marks) (u : Option ℕ) (v : Bytes) → AreMarksOf s p →
    AreMarksOf (after_enqueue s u v) p
enqueue-AreMarksOf s p u v h = enqueue-same (λ o es out. AreMarked o es out p) s h u v

pub dequeue-AreMarksOf : (s : UnitsState) (p : Marks) (u : ℕ) (v : Bytes) → AreMarksOf s p →
    AreMarksOf (after_dequeue s u v) p
dequeue-AreMarksOf s p u v h = dequeue-same (λ o es out. AreMarked o es out p) s h u v

pub unlock-AreMarksOf : (s : UnitsState) (p : Marks) (u : ℕ) (f : Bytes) → AreMarksOf s p →
    AreMarksOf (after_unlock s u f) p
unlock-AreMarksOf s p u f h = unlock-same (λ o es out. AreMarked o es out p) s h u f

pub ts_reading-AreMarksOf : (s : UnitsState) (p : Marks) (q : Bytes) (n : ℕ) → AreMarksOf s p →
    AreMarksOf (after_ts_reading s q n) p
ts_reading-AreMarksOf s p q n h = ts_reading-same (λ o es out. AreMarked o es out p) s h q n

-- undoing a unit's images is the backout of the ends that it holds, and each image is ready in its turn
pub unmarked_by_ends : (s : UnitsState) (p : Marks) (v : ℕ) → IsSound s → AreMarksOf s p →
    is_live s v ≡ true → (q : Bytes) → queue_logical s.opening q ≡ true →
    marks_undone p.queues (p.images v) q ≡ queue_backed_out (used s.trace v (Td q) Reading)
    (used s.trace v (Td q) Writing) (p.queues q)
unmarked_by_ends s p v i h live q l = undone-queue (one_at_each_end s i.one) h v (and_parts _ _ live).1 q l

pub marks_ready_of : (s : UnitsState) (p : Marks) (v : ℕ) → IsSound s → AreMarksOf s p →
    is_live s v ≡ true → AllMarksReady p.queues (p.images v)
marks_ready_of s p v i h live = marks_ready (one_at_each_end s i.one) h v (and_parts _ _ live).1

-- what a LOGICAL queue shows is what the history gives
pub shows_of : (s : UnitsState) (p : Marks) → AreMarksOf s p → (q : Bytes) →
    queue_logical s.opening q ≡ true → content (store_of s) (Td q) ≡ Some (shown (p.queues q))
shows_of s p h q l = open_shows (h.queues q l)

-- a queue that shows a record in front goes on doing so with more behind
more_behind : (n : ℕ) (xs ys : List Bytes) → is_nothing (drop n (xs ++ [])) ≡ false → is_nothing (drop n (xs ++ ys)) ≡ false
more_behind zero [] ys some = absurd (true≢false some)
more_behind zero (x ∷ xs) ys some = refl
more_behind (suc n) [] ys some = absurd (true≢false some)
more_behind (suc n) (x ∷ xs) ys some = more_behind n xs ys some

-- a queue whose reading end no other unit holds: a task may read what is in place and not marked as
-- read, without what another unit wrote
module _ (s : UnitsState) (u : Option ℕ) (p : Marks) (q : Bytes) (i : IsSound s) (h : AreMarksOf s p)
    (l : queue_logical s.opening q ≡ true) where
  abbrev asker : ℕ
  asker = unit_or_next u s.outcomes

  abbrev others_gone : Outcomes
  others_gone = alone (outcome_of s.outcomes) asker

  -- the asking unit, if it is open, is kept
  own : (n : ℕ) → is_open (outcome_of s.outcomes n) ≡ true → n ≡ asker → is_backed_out (others_gone n) ≡ false
  own n on e =
      ap (λ k. is_backed_out (others_gone k)) e
      ∙ alone-own (outcome_of s.outcomes) asker (ap (λ k. is_open (outcome_of s.outcomes k)) (sym e) ∙ on)

  -- an end that nobody else is found to hold is the asking unit's, or no open unit's
  nobody_else : (end : End) (r : Resource) → covers (Td q) end r ≡ true → blocker_at (owned s) u r ≡ None → (n : ℕ) →
      is_open (outcome_of s.outcomes n) ≡ true → used s.trace n (Td q) end ≡ true → n ≡ asker
  nobody_else end r c free n on t = elim (free_end s i.known u (Td q) end r l c free n t) [
    | inl e ↦ e
    | inr shut ↦ absurd (true≢false (sym on ∙ shut))
  ]

  -- what may be read, where the units that wrote are all backed out, or all kept, once no other unit is open
  committed_if : blocker_at (owned s) u (ReadingEnd q) ≡ None → (gone : Bool) →
      AreBackedOut s.trace (outcome_of s.outcomes) (Td q) Writing others_gone gone →
      committed_for s u q ≡ seen false gone (p.queues q)
  committed_if free gone writer =
      committed-content s i.known u q l
      ∙ ap (λ c. unwrap_or c [])
      ((h.queues q l).gives others_gone (alone-ended (outcome_of s.outcomes) asker) false gone
      (λ n on t. own n on (nobody_else Reading (ReadingEnd q) (is_same-self q) free n on t)) writer)

  -- whoever else wrote is backed out
  theirs : used s.trace asker (Td q) Writing ≡ false →
      AreBackedOut s.trace (outcome_of s.outcomes) (Td q) Writing others_gone true
  theirs not_mine n on t = elim (cases_Bool (eqb n asker)) [
    | inl same ↦
        absurd (false≢true (sym not_mine ∙ (ap (λ k. used s.trace k (Td q) Writing) (sym (eqb-true n asker same)) ∙ t)))
    | inr other ↦ rw (on, other) refl
  ]

  -- where the asking unit has the writing end, nobody else wrote
  mine : may_act s u ≡ true → used s.trace asker (Td q) Writing ≡ true →
      AreBackedOut s.trace (outcome_of s.outcomes) (Td q) Writing others_gone false
  mine acts y n on t = own n on (one_at_each_end s i.one (Td q) l Writing n asker on (acting_open s u acts) t y)

  -- of an open unit, or of a task without one
  pub committed_in_place : may_act s u ≡ true → blocker_at (owned s) u (ReadingEnd q) ≡ None →
      committed_for s u q ≡ seen false (not (used s.trace asker (Td q) Writing)) (p.queues q)
  committed_in_place acts free =
      elim (used s.trace asker (Td q) Writing) as
      (λ b. used s.trace asker (Td q) Writing ≡ b → committed_for s u q ≡ seen false (not b) (p.queues q)) [
        | true ↦ λ y. committed_if free false (mine acts y)
        | false ↦ λ n. committed_if free true (theirs n)
      ] refl

  -- a task that need not wait for its read sees a record exactly where the queue shows one
  pub sees_where_shown : awaited s u (TdRead q) ≡ None →
      is_nothing (seen false (not (used s.trace asker (Td q) Writing)) (p.queues q)) ≡ is_nothing (shown (p.queues q))
  sees_where_shown free =
      elim (used s.trace asker (Td q) Writing) as
      (λ b. used s.trace asker (Td q) Writing ≡ b →
      is_nothing (seen false (not b) (p.queues q)) ≡ is_nothing (shown (p.queues q))) [
        | true ↦ λ y. refl
        | false ↦ λ n. elim (cases_Bool (is_nothing (committed_for s u q))) [
          | inr some ↦
              let front : is_nothing (seen false true (p.queues q)) ≡ false =
              ap is_nothing (sym (committed_if reading_free true (theirs n))) ∙ some in
              front ∙ sym (more_behind (p.queues q).taken (p.queues q).settled (p.queues q).fresh front)
          | inl none ↦
              let nobody : IsUnheld s.trace (outcome_of s.outcomes) (Td q) Writing =
              λ m on t. false≢true (sym n ∙ (ap (λ k. used s.trace k (Td q) Writing)
              (sym (nobody_else Writing (WritingEnd q) (is_same-self q) (rw (l, none) at both.1) m on t)) ∙ t)) in
              ap (λ f. is_nothing (drop (p.queues q).taken ((p.queues q).settled ++ f))) (sym ((h.queues q l).unwritten nobody))
        ]
      ] refl
    where
      both : (blocker_among (owned s) u (uses_of s.opening (TdRead q)) ≡ None) × (writer_awaited s u (TdRead q) ≡ None)
      both = none_either (blocker_among (owned s) u (uses_of s.opening (TdRead q))) (writer_awaited s u (TdRead q)) free

      reading_free : blocker_at (owned s) u (ReadingEnd q) ≡ None
      reading_free =
          let among = both.0 in
          (none_either (blocker_at (owned s) u (ReadingEnd q)) None (rw l at among)).0

-- ---- All that is in place, through every run

-- the parts against an opening, a history and outcomes
abbrev AreHere : Parts → OpeningState → List Entry → Outcomes → Type 0
AreHere p o es out = IsUndoable o es out p.place × AreMarked o es out p.marks

pub happens-IsInPlace : (s : UnitsState) (p : Parts) (e : Event) → IsSound s → IsInPlace s p →
    IsInPlace (happens s e) (happens_in_place s p e)
happens-IsInPlace s p (Execute u op) i h =
    elim (may_act s u) as (λ b. may_act s u ≡ b →
    IsInPlace (if b then after_execution s u op else s)
    (if b && not (is_some (awaited s u op)) then parts_executed s p u op else p)) [
      | true ↦ λ acts. elim (awaited s u op) as
          (λ w. awaited s u op ≡ w →
          IsInPlace (state_of s u op w) (if not (is_some w) then parts_executed s p u op else p)) [
            | None ↦ λ free. (
              entered-IsPlaceOf s p.place u op (images_by (store_of s) op p.place.cells) i h.0 acts free
                  (images_by-AreImages (store_of s) op p.place.cells (store_ordered i.isolated (outcome_of s.outcomes) s.trace) (λ g k. h.0.in_place (Key g k) refl)),
              entered-AreMarksOf s p.marks u op i h.1 acts free,
            )
            | Some holder ↦ λ waits. h
          ] refl
      | false ↦ λ t. h
    ] refl
happens-IsInPlace s p (Commit u) i h =
    elim (is_live s u) as (λ b. is_live s u ≡ b →
    IsInPlace (if b then after_end s u Committed else s) (happens_in_place s p (Commit u))) [
      | true ↦
          λ live. rw live (commit-IsPlaceOf s p.place u h.0 live, commit-AreMarksOf s p.marks u i h.1 live)
      | false ↦ λ t. rw t h
    ] refl
happens-IsInPlace s p (BackOut u) i h =
    elim (is_live s u) as (λ b. is_live s u ≡ b →
    IsInPlace (if b then after_end s u BackedOut else s) (happens_in_place s p (BackOut u))) [
      | true ↦
          λ live. rw live
          (back_out-IsPlaceOf s p.place u h.0 live, back_out-AreMarksOf s p.marks u i h.1 live)
      | false ↦ λ t. rw t h
    ] refl
happens-IsInPlace s p (Enqueue u v) i h =
    cond_both (may_act s u) (after_enqueue s u v) s (λ t. IsInPlace t p)
    (λ t. enqueue-same (AreHere p) s h u v) (λ f. h)
happens-IsInPlace s p (Dequeue u v) i h =
    cond_both (is_live s u) (after_dequeue s u v) s (λ t. IsInPlace t p)
    (λ t. dequeue-same (AreHere p) s h u v) (λ f. h)
happens-IsInPlace s p (Unlock u f) i h =
    cond_both (is_live s u) (after_unlock s u f) s (λ t. IsInPlace t p)
    (λ t. unlock-same (AreHere p) s h u f) (λ n. h)
happens-IsInPlace s p (ReadItem q n) i h = ts_reading-same (AreHere p) s h q n

pub run-IsInPlace : (s : UnitsState) (p : Parts) (es : List Event) → IsSound s → IsInPlace s p →
    IsInPlace (run s es) (run_in_place s p es)
run-IsInPlace s p [] i h = h
run-IsInPlace s p (e ∷ es) i h =
    run-IsInPlace (happens s e) (happens_in_place s p e) es (happens-IsSound s e i)
    (happens-IsInPlace s p e i h)

-- the parts after these events
abbrev pub parts_after : OpeningState → List Event → Parts
parts_after o es = run_in_place (initial_units o) (parts_opened o) es

pub in_place_after : (o : OpeningState) (es : List Event) → IsOpeningInOrder o →
    IsInPlace (run (initial_units o) es) (parts_after o es)
in_place_after o es order =
    run-IsInPlace (initial_units o) (parts_opened o) es (initial_units-IsSound o order)
    (initial_units-IsPlaceOf o, initial_units-AreMarksOf o)

-- each cell in place holds what replaying what is kept gives
in_place_content : (s : UnitsState) (p : Parts) → IsInPlace s p → (x : Cell) →
    content_in_place s.opening p x ≡ content (store_of s) x
in_place_content s p h (Key f k) = h.0.in_place (Key f k) refl
in_place_content s p h (Ts q) = h.0.in_place (Ts q) refl
in_place_content s p h (Td q) =
    elim (queue_logical s.opening q) as
    (λ b. queue_logical s.opening q ≡ b →
    (if b then Some (shown (p.marks.queues q)) else p.place.cells (Td q)) ≡ content (store_of s) (Td q)) [
      | true ↦ λ l. sym (shows_of s p.marks h.1 q l)
      | false ↦ λ n. h.0.in_place (Td q) (rw n refl)
    ] refl

pub cells_stay : (o : OpeningState) (es : List Event) (x : Cell) → IsOpeningInOrder o →
    content_in_place o (parts_after o es) x ≡ content (store_of (run (initial_units o) es)) x
cells_stay o es x order =
    subst (λ z. content_in_place z (parts_after o es) x ≡ content (store_of (run (initial_units o) es)) x)
    (run-opening (initial_units o) es)
    (in_place_content (run (initial_units o) es) (parts_after o es) (in_place_after o es order) x)

-- and the images of each open unit are ready, each in its turn
pub images_stay_ready : (o : OpeningState) (es : List Event) (v : ℕ) → IsOpeningInOrder o →
    is_live (run (initial_units o) es) v ≡ true →
    AllReady (parts_after o es).place.cells ((parts_after o es).place.images v)
images_stay_ready o es v order live =
    ready_of (run (initial_units o) es) (parts_after o es).place v (in_place_after o es order).0 live

pub mark_images_stay_ready : (o : OpeningState) (es : List Event) (v : ℕ) → IsOpeningInOrder o →
    is_live (run (initial_units o) es) v ≡ true →
    AllMarksReady (parts_after o es).marks.queues ((parts_after o es).marks.images v)
mark_images_stay_ready o es v order live =
    marks_ready_of (run (initial_units o) es) (parts_after o es).marks v
    (run-IsSound (initial_units o) es (initial_units-IsSound o order)) (in_place_after o es order).1 live

-- a store in order that holds what is in place is the replay, as whole maps
pub whole_stays : (o : OpeningState) (es : List Event) (held : Store) → IsOpeningInOrder o →
    IsCanonical held →
    ((x : Cell) → content held x ≡ content_in_place o (parts_after o es) x) →
    held ≡ store_of (run (initial_units o) es)
whole_stays o es held order c h =
    same_store held (store_of (run (initial_units o) es)) c after (λ x. h x ∙ cells_stay o es x order)
  where
    after : IsCanonical (store_of (run (initial_units o) es))
    after =
        let s = run (initial_units o) es in
        replay-canonical (initial_store s.opening) (kept s.opening s.trace s.outcomes)
        (subst (λ z. IsCanonical (initial_store z)) (sym (run-opening (initial_units o) es))
        (initial-canonical o order))
