-- A LOGICAL queue in place holds what the history gives, however the units at its two ends end.
use Rattle.std.proofs.Common.{◌≡◌, ℕ, zero, suc, ◌+◌, ◌≤◌, Bool, true, false, cond, not, Option, Some, None, List, [], ◌∷◌, ◌++◌, length, drop, refl, ap, sym, subst, ◌∙◌, eqb, inl, inr, arith}
use Rattle.std.specs.Prelude.{if◌then◌else◌, option_map, unwrap_or}
use Rattle.std.proofs.Math.Seq.{drop-length, drop-nil}
use Rattle.std.proofs.lemmas.List.{drop-append-le, append_assoc, append-nil, length-append}
use Rattle.std.proofs.lemmas.Bool.{true≢false, false≢true, cond_both, eqb-true, eq-eqb, and_from, false_from_ne_true}
use Rattle.cics_names.specs.Keyed.{Bytes, value_at}
use Rattle.cics_history.specs.State.{OpeningState, QueueOpening, queue_logical, initial_store}
use Rattle.cics_history.specs.Store.{is_recoverable, is_normal}
use Rattle.cics_history.specs.Headline.{is_open, is_backed_out}
use Rattle.cics_history.specs.Holding.{is_nothing}
use Rattle.cics_history.specs.declared.ops.Op.{Op}
use Rattle.cics_history.specs.declared.ops.Op.TheVariants.{TdWrite, TdRead, TdDelete}
use Rattle.cics_history.specs.declared.ops.Entry.{Entry}
use Rattle.cics_history.specs.declared.ops.UnitState.{UnitState}
use Rattle.cics_history.specs.declared.ops.UnitState.TheVariants.{Committed, BackedOut}
use Rattle.cics_history.specs.Cells.{Cell, Td, content, cell_of, touches, effect, End, Reading, Writing, uses, recovers}
use Rattle.cics_history.specs.Isolation.{Outcomes, stays, store_by, entry_now, with_entry, used, Extends, IsOneAtEachEnd, IsIsolated, IsFree}
use Rattle.cics_history.specs.Undo.{ended}
use Rattle.cics_history.specs.Marks.{MarkedQueue, seen, shown, marked, queue_committed, queue_backed_out, queues_opened}
use Rattle.cics_history.specs.Ends.{AreBackedOut, IsUnheld, AreApart, IsQueue}
use Rattle.cics_history.proofs.Effects.{is_empty}
use Rattle.cics_history.proofs.Joining.{touches-self, apply-answer, touches-recovers}
use Rattle.cics_history.proofs.Isolated.{Extends-refl, used-more, used-last}
use Rattle.cics_history.proofs.Executes.{MayRun, open_kept, alone, alone-own, alone-ended}
use Rattle.cics_history.proofs.Steps.{content-push, content-push_other, unchanged, stays_on}
use Rattle.cics_history.proofs.Stores.{value_at_each}
use Rattle.cics_history.proofs.Undoing.{Extends-ended}

-- lists
cut : (q : Bytes) (c : List Bytes) → (effect (TdRead q) (Some c)).cell ≡ Some (drop 1 c)
cut q [] = refl
cut q (x ∷ c) = refl

pub read_normal : (q : Bytes) (c : List Bytes) →
    is_normal (effect (TdRead q) (Some c)).answer.condition ≡ not (is_nothing c)
read_normal q [] = refl
read_normal q (x ∷ c) = refl

nothing_empty : (c : List Bytes) → is_empty (Some c) ≡ is_nothing c
nothing_empty [] = refl
nothing_empty (x ∷ c) = refl

drop_one-drop : (n : ℕ) (c : List Bytes) → drop 1 (drop n c) ≡ drop (n + 1) c
drop_one-drop zero c = refl
drop_one-drop (suc n) [] = sym (drop-nil (suc n + 1))
drop_one-drop (suc n) (x ∷ c) = let e : suc n + 1 ≡ suc (n + 1) = omega arith in rw e (drop_one-drop n c)

nonempty_drop : (n : ℕ) (c : List Bytes) → is_nothing (drop n c) ≡ false → n + 1 ≤ length c
nonempty_drop zero [] h = absurd (true≢false h)
nonempty_drop zero (x ∷ c) h = omega arith
nonempty_drop (suc n) [] h = absurd (true≢false h)
nonempty_drop (suc n) (x ∷ c) h = let more = nonempty_drop n c h in omega arith

none_marked : (a b : Bool) (c : List Bytes) → seen a b (record { settled = c; fresh = []; taken = 0 }) ≡ c
none_marked true true c = append-nil c
none_marked true false c = append-nil c
none_marked false true c = append-nil c
none_marked false false c = append-nil c

-- one more is written
push_seen : (gone : Bool) (m : MarkedQueue) (r : Bytes) → m.taken ≤ length (m.settled ++ m.fresh) →
    seen gone false m ++ r ∷ [] ≡ seen gone false (record m { fresh = m.fresh ++ r ∷ [] })
push_seen true m r h = append_assoc m.settled m.fresh (r ∷ [])
push_seen false m r h =
    sym (drop-append-le m.taken (m.settled ++ m.fresh) (r ∷ []) h)
    ∙ ap (drop m.taken) (append_assoc m.settled m.fresh (r ∷ []))

-- an open unit that holds an end which the command uses is the command's own
pub own_end : {o : OpeningState} {es : List Entry} {out : Outcomes} (v : ℕ) (op : Op) → MayRun o es out v op →
    (x : Cell) → touches op x ≡ true → recovers o x ≡ true → (end : End) → uses op end ≡ true →
    (u : ℕ) → is_open (out u) ≡ true → used es u x end ≡ true → u ≡ v
own_end {o} {es} {out} v op may x y r end t u on h =
    elim (free end t u h) [ inl own ↦ own | inr shut ↦ absurd (true≢false (sym on ∙ shut)) ]
  where
    free : (end : End) → uses op end ≡ true → IsFree es out v x end
    free Reading t = may.reading (touches-recovers o op x y ∙ r) t x y
    free Writing t = may.writing (touches-recovers o op x y ∙ r) t x y

module _ {o : OpeningState} {es : List Entry} {out : Outcomes} (i : IsIsolated o es out) (v : ℕ) (op : Op)
    (q : Bytes) (at : cell_of op ≡ Td q) (logical : queue_logical o q ≡ true) (may : MayRun o es out v op) where
  abbrev pub longer : List Entry
  longer = with_entry o out es v op

  abbrev pub entry : Entry
  entry = entry_now o out es v op

  pub here : touches op (Td q) ≡ true
  here = subst (λ x. touches op x ≡ true) at (touches-self op)

  on_queue : is_recoverable o op ≡ true
  on_queue = touches-recovers o op (Td q) here ∙ logical

  -- what the queue holds after the command, in an ending that backs its unit out or keeps it
  pushed_gone : (fin : Outcomes) → is_backed_out (fin v) ≡ true →
      content (store_by o fin longer) (Td q) ≡ content (store_by o fin es) (Td q)
  pushed_gone fin g =
      let out_of : stays o fin entry ≡ false = rw (on_queue, g) refl in
      content-push o fin es entry (Td q) here ∙ rw out_of refl

  pushed_kept : (fin : Outcomes) → is_backed_out (fin v) ≡ false →
      content (store_by o fin longer) (Td q) ≡ (effect op (content (store_by o fin es) (Td q))).cell
  pushed_kept fin g =
      let stay : stays o fin entry ≡ true = rw (on_queue, g) refl in
      content-push o fin es entry (Td q) here ∙ rw stay refl

  pushed_refused : is_normal entry.answer.condition ≡ false → (fin : Outcomes) → Extends out fin →
      content (store_by o fin longer) (Td q) ≡ content (store_by o fin es) (Td q)
  pushed_refused refused fin f =
      content-push o fin es entry (Td q) here
      ∙ (ap (λ b. cond b (effect op (content (store_by o fin es) (Td q))).cell
      (content (store_by o fin es) (Td q))) (stays_on i v op may on_queue fin)
      ∙ unchanged i v op may on_queue refused (Td q) here fin f)

  -- who holds an end
  backed_out_before : (end : End) (fin : Outcomes) (gone : Bool) → AreBackedOut longer out (Td q) end fin gone →
      AreBackedOut es out (Td q) end fin gone
  backed_out_before end fin gone h u on t = h u on (used-more es entry u (Td q) end t)

  pub used_now : (end : End) → is_normal entry.answer.condition ≡ true → uses op end ≡ true →
      used longer v (Td q) end ≡ true
  used_now end normal t = used-last es entry (Td q) end (and_from _ _ here (and_from _ _ normal t))

  own_backed_out : (end : End) (fin : Outcomes) (gone : Bool) → is_normal entry.answer.condition ≡ true →
      uses op end ≡ true → AreBackedOut longer out (Td q) end fin gone → is_backed_out (fin v) ≡ gone
  own_backed_out end fin gone normal t h = h v may.is_live (used_now end normal t)

  -- where the command uses an end, only its own unit can hold it
  pub only_own : (end : End) → uses op end ≡ true → (u : ℕ) → is_open (out u) ≡ true →
      used es u (Td q) end ≡ true → u ≡ v
  only_own = own_end v op may (Td q) here logical

  open_kept_there : (end : End) → AreBackedOut es out (Td q) end out false
  open_kept_there end u on t = open_kept (out u) on

  -- what is shown is what the history gives
  pub shows : (m : MarkedQueue) → IsQueue o es out q m → content (store_by o out es) (Td q) ≡ Some (shown m)
  shows m h = h.gives out (Extends-refl out) false false (open_kept_there Reading) (open_kept_there Writing)

  -- what held before the command
  apart_before : AreApart longer out (Td q) → AreApart es out (Td q)
  apart_before h u on a b =
      h u on (used-more es entry u (Td q) Reading a) (used-more es entry u (Td q) Writing b)

  unheld_before : (end : End) → IsUnheld longer out (Td q) end → IsUnheld es out (Td q) end
  unheld_before end h u on b = h u on (used-more es entry u (Td q) end b)

-- the commands on a queue
module _ {o : OpeningState} {es : List Entry} {out : Outcomes} {m : MarkedQueue} (i : IsIsolated o es out)
    (v : ℕ) (q : Bytes) (logical : queue_logical o q ≡ true) (h : IsQueue o es out q m) where
  pub writes : (r : Bytes) → MayRun o es out v (TdWrite q r) →
      is_normal (entry_now o out es v (TdWrite q r)).answer.condition ≡ true →
      IsQueue o (with_entry o out es v (TdWrite q r)) out q (marked (TdWrite q r) m)
  writes r may normal = record {
    gives =
        λ fin f a b fa fb. written fin f a b
        (own_backed_out i v (TdWrite q r) q refl logical may Writing fin b normal refl fb)
        (backed_out_before i v (TdWrite q r) q refl logical may Reading fin a fa)
        (backed_out_before i v (TdWrite q r) q refl logical may Writing fin b fb);
    within =
        rw (← append_assoc m.settled m.fresh (r ∷ []), length-append (m.settled ++ m.fresh) (r ∷ []))
        (omega (arith, h.within));
    apart = λ n. h.apart (apart_before i v (TdWrite q r) q refl logical may n);
    unwritten =
        λ n. absurd (n v may.is_live (used_now i v (TdWrite q r) q refl logical may Writing normal refl));
    unread = λ n. h.unread (unheld_before i v (TdWrite q r) q refl logical may Reading n);
  }
    where
      written : (fin : Outcomes) → Extends out fin → (a b : Bool) → is_backed_out (fin v) ≡ b →
          AreBackedOut es out (Td q) Reading fin a → AreBackedOut es out (Td q) Writing fin b →
          content (store_by o fin (with_entry o out es v (TdWrite q r))) (Td q)
          ≡ Some (seen a b (marked (TdWrite q r) m))
      written fin f a true g fa fb =
          pushed_gone i v (TdWrite q r) q refl logical may fin g ∙ h.gives fin f a true fa fb
      written fin f a false g fa fb =
          pushed_kept i v (TdWrite q r) q refl logical may fin g
          ∙ (ap (λ c. (effect (TdWrite q r) c).cell) (h.gives fin f a false fa fb)
          ∙ ap Some (push_seen a m r h.within))

  pub deletes : MayRun o es out v (TdDelete q) →
      is_normal (entry_now o out es v (TdDelete q)).answer.condition ≡ true →
      IsQueue o (with_entry o out es v (TdDelete q)) out q (marked (TdDelete q) m)
  deletes may normal = record {
    gives =
        λ fin f a b fa fb. deleted fin f a b
        (own_backed_out i v (TdDelete q) q refl logical may Reading fin a normal refl fa)
        (own_backed_out i v (TdDelete q) q refl logical may Writing fin b normal refl fb)
        (backed_out_before i v (TdDelete q) q refl logical may Reading fin a fa)
        (backed_out_before i v (TdDelete q) q refl logical may Writing fin b fb);
    within = omega arith;
    apart =
        λ n. absurd
        (n v may.is_live (used_now i v (TdDelete q) q refl logical may Reading normal refl)
        (used_now i v (TdDelete q) q refl logical may Writing normal refl));
    unwritten =
        λ n. absurd (n v may.is_live (used_now i v (TdDelete q) q refl logical may Writing normal refl));
    unread = λ n. absurd (n v may.is_live (used_now i v (TdDelete q) q refl logical may Reading normal refl));
  }
    where
      deleted : (fin : Outcomes) → Extends out fin → (a b : Bool) → is_backed_out (fin v) ≡ a →
          is_backed_out (fin v) ≡ b → AreBackedOut es out (Td q) Reading fin a → AreBackedOut es out (Td q) Writing fin b →
          content (store_by o fin (with_entry o out es v (TdDelete q))) (Td q)
          ≡ Some (seen a b (marked (TdDelete q) m))
      deleted fin f true true g k fa fb =
          pushed_gone i v (TdDelete q) q refl logical may fin g ∙ h.gives fin f true true fa fb
      deleted fin f false false g k fa fb =
          pushed_kept i v (TdDelete q) q refl logical may fin g
          ∙ (ap (λ c. (effect (TdDelete q) c).cell) (h.gives fin f false false fa fb)
          ∙ ap Some (sym (drop-length (m.settled ++ m.fresh))))
      deleted fin f true false g k fa fb = absurd (true≢false (sym g ∙ k))
      deleted fin f false true g k fa fb = absurd (false≢true (sym g ∙ k))

  -- the answer of a read, by whether anything is shown
  pub read_answer : (e : Bool) → MayRun o es out v (TdRead q) → is_nothing (shown m) ≡ e →
      is_normal (entry_now o out es v (TdRead q)).answer.condition ≡ not e
  read_answer e may t =
      ap (λ a. is_normal a.condition)
      (apply-answer (store_by o out es) (TdRead q) refl
      ∙ ap (λ c. (effect (TdRead q) c).answer) (shows i v (TdRead q) q refl logical may m h))
      ∙ (read_normal q (shown m) ∙ ap not t)

  -- a read that finds nothing changes nothing
  pub reads_none : MayRun o es out v (TdRead q) → is_nothing (shown m) ≡ true →
      IsQueue o (with_entry o out es v (TdRead q)) out q m
  reads_none may none = record {
    gives =
        λ fin f a b fa fb. pushed_refused i v (TdRead q) q refl logical may
        (read_answer true may none) fin f
        ∙ h.gives fin f a b
        (backed_out_before i v (TdRead q) q refl logical may Reading fin a fa)
        (backed_out_before i v (TdRead q) q refl logical may Writing fin b fb);
    within = h.within;
    apart = λ n. h.apart (apart_before i v (TdRead q) q refl logical may n);
    unwritten = λ n. h.unwritten (unheld_before i v (TdRead q) q refl logical may Writing n);
    unread = λ n. h.unread (unheld_before i v (TdRead q) q refl logical may Reading n);
  }

  pub reads_one : MayRun o es out v (TdRead q) → is_nothing (shown m) ≡ false →
      IsQueue o (with_entry o out es v (TdRead q)) out q (record m { taken = m.taken + 1 })
  reads_one may some = record {
    gives =
        λ fin f a b fa fb. taken_one fin f a b
        (own_backed_out i v (TdRead q) q refl logical may Reading fin a normal refl fa)
        (backed_out_before i v (TdRead q) q refl logical may Reading fin a fa)
        (backed_out_before i v (TdRead q) q refl logical may Writing fin b fb);
    within = nonempty_drop m.taken (m.settled ++ m.fresh) some;
    apart =
        λ n. subst (λ c. m.taken + 1 ≤ length c) (append-nil m.settled)
        (nonempty_drop m.taken (m.settled ++ []) (settled_left n));
    unwritten = λ n. h.unwritten (unheld_before i v (TdRead q) q refl logical may Writing n);
    unread = λ n. absurd (n v may.is_live (used_now i v (TdRead q) q refl logical may Reading normal refl));
  }
    where
      normal : is_normal (entry_now o out es v (TdRead q)).answer.condition ≡ true
      normal = read_answer false may some

      taken_one : (fin : Outcomes) → Extends out fin → (a b : Bool) → is_backed_out (fin v) ≡ a →
          AreBackedOut es out (Td q) Reading fin a → AreBackedOut es out (Td q) Writing fin b →
          content (store_by o fin (with_entry o out es v (TdRead q))) (Td q)
          ≡ Some (seen a b (record m { taken = m.taken + 1 }))
      taken_one fin f true b g fa fb =
          pushed_gone i v (TdRead q) q refl logical may fin g ∙ h.gives fin f true b fa fb
      taken_one fin f false b g fa fb =
          pushed_kept i v (TdRead q) q refl logical may fin g
          ∙ (ap (λ c. (effect (TdRead q) c).cell) (h.gives fin f false b fa fb)
          ∙ (cut q (seen false b m)
          ∙ ap Some (drop_one-drop m.taken (m.settled ++ (if b then [] else m.fresh)))))

      -- unless a unit holds both ends, what is read is settled: it is there without the writer
      settled_left : AreApart (with_entry o out es v (TdRead q)) out (Td q) →
          is_nothing (drop m.taken (m.settled ++ [])) ≡ false
      settled_left n =
          let not_own : used es v (Td q) Writing ≡ true →
          ⊥ = λ t. n v may.is_live (used_now i v (TdRead q) q refl logical may Reading normal refl)
          (used-more es (entry_now o out es v (TdRead q)) v (Td q) Writing t) in
          elim (may.first logical refl) [
            | inr alone_here ↦
                let bare : m.fresh ≡ [] = h.unwritten
                (λ u on t. elim (alone_here u t) [
                  | inl own ↦
                      not_own (ap (λ k. used es k (Td q) Writing) (sym own) ∙ t)
                  | inr shut ↦
                      true≢false (sym on ∙ shut)
                ]) in
                subst (λ c. is_nothing (drop m.taken (m.settled ++ c)) ≡ false) bare some
            | inl committed ↦
                sym (nothing_empty (seen false true m))
                ∙ (ap is_empty (sym (h.gives (alone out v) (alone-ended out v) false true
                (λ u on t. ap (λ k. is_backed_out (alone out v k))
                (only_own i v (TdRead q) q refl logical may Reading refl u on t) ∙ alone-own out v may.is_live)
                (λ u on t. let other : eqb u v ≡ false =
                false_from_ne_true (eqb u v)
                (λ e. not_own (ap (λ k. used es k (Td q) Writing) (sym (eqb-true u v e)) ∙ t)) in
                rw (on, other) refl))) ∙ committed)
          ]

  pub reads : MayRun o es out v (TdRead q) →
      IsQueue o (with_entry o out es v (TdRead q)) out q (marked (TdRead q) m)
  reads may =
      cond_both (is_nothing (shown m)) m (record m { taken = m.taken + 1 })
      (IsQueue o (with_entry o out es v (TdRead q)) out q) (reads_none may) (reads_one may)

-- a command elsewhere
pub elsewhere :
    {o : OpeningState} {es : List Entry} {out : Outcomes} {m : MarkedQueue} (v : ℕ) (op : Op) (q : Bytes) →
    touches op (Td q) ≡ false → IsQueue o es out q m → IsQueue o (with_entry o out es v op) out q m
elsewhere {o} {es} {out} {m} v op q far h = record {
  gives = λ fin f a b fa fb. content-push_other o fin es (entry_now o out es v op) (Td q) far
      ∙ h.gives fin f a b (λ u on t. fa u on (used-more es _ u (Td q) Reading t))
      (λ u on t. fb u on (used-more es _ u (Td q) Writing t));
  within = h.within;
  apart =
      λ n. h.apart
      (λ u on a b. n u on (used-more es _ u (Td q) Reading a) (used-more es _ u (Td q) Writing b));
  unwritten = λ n. h.unwritten (λ u on b. n u on (used-more es _ u (Td q) Writing b));
  unread = λ n. h.unread (λ u on b. n u on (used-more es _ u (Td q) Reading b));
}

-- a unit ends
module _ {o : OpeningState} {es : List Entry} {out : Outcomes} {m : MarkedQueue} (one : IsOneAtEachEnd o es out)
    (v : ℕ) (q : Bytes) (logical : queue_logical o q ≡ true) (live : is_open (out v) ≡ true)
    (h : IsQueue o es out q m) where
  -- who holds an end beside the unit that ends
  backed_out_held : (end : End) (outcome : UnitState) → is_open outcome ≡ false → (fin : Outcomes) →
      Extends (ended out v outcome) fin → used es v (Td q) end ≡ true →
      AreBackedOut es out (Td q) end fin (is_backed_out outcome)
  backed_out_held end outcome shut fin f t u on k =
      let own : u ≡ v = one (Td q) logical end u v on live k t in
      let now : ended out v outcome v ≡ outcome = rw (eq-eqb v v refl) refl in
      ap (λ n. is_backed_out (fin n)) own ∙ ap is_backed_out (f v (ap is_open now ∙ shut) ∙ now)

  still_open : (end : End) (outcome : UnitState) → used es v (Td q) end ≡ false → (u : ℕ) →
      is_open (out u) ≡ true → used es u (Td q) end ≡ true → is_open (ended out v outcome u) ≡ true
  still_open end outcome n u on k =
      let other : eqb u v ≡ false =
      false_from_ne_true (eqb u v)
      (λ e. true≢false (sym k ∙ (ap (λ y. used es y (Td q) end) (eqb-true u v e) ∙ n))) in
      rw other on

  backed_out_free : (end : End) (outcome : UnitState) (fin : Outcomes) (gone : Bool) →
      used es v (Td q) end ≡ false → AreBackedOut es (ended out v outcome) (Td q) end fin gone →
      AreBackedOut es out (Td q) end fin gone
  backed_out_free end outcome fin gone n a u on k = a u (still_open end outcome n u on k) k

  -- no unit holds both ends, if this one holds only one
  reader_apart : used es v (Td q) Reading ≡ true → used es v (Td q) Writing ≡ false → AreApart es out (Td q)
  reader_apart t n u on a b =
      true≢false
      (sym b ∙ (ap (λ y. used es y (Td q) Writing) (one (Td q) logical Reading u v on live a t) ∙ n))

  writer_apart : used es v (Td q) Reading ≡ false → used es v (Td q) Writing ≡ true → AreApart es out (Td q)
  writer_apart n t u on a b =
      true≢false
      (sym a ∙ (ap (λ y. used es y (Td q) Reading) (one (Td q) logical Writing u v on live b t) ∙ n))

  unwritten_after : (outcome : UnitState) → used es v (Td q) Writing ≡ false →
      IsUnheld es (ended out v outcome) (Td q) Writing → m.fresh ≡ []
  unwritten_after outcome n a = h.unwritten (λ u on k. a u (still_open Writing outcome n u on k) k)

  unread_after : (outcome : UnitState) → used es v (Td q) Reading ≡ false →
      IsUnheld es (ended out v outcome) (Td q) Reading → m.taken ≡ 0
  unread_after outcome n a = h.unread (λ u on k. a u (still_open Reading outcome n u on k) k)

  apart_after : (outcome : UnitState) → used es v (Td q) Reading ≡ false →
      AreApart es (ended out v outcome) (Td q) → m.taken ≤ length m.settled
  apart_after outcome n a = h.apart (λ u on k l. a u (still_open Reading outcome n u on k) k l)

  before : (outcome : UnitState) (fin : Outcomes) → Extends (ended out v outcome) fin → Extends out fin
  before outcome fin f = Extends-ended out v outcome fin live f

  pub committed : (reader writer : Bool) → used es v (Td q) Reading ≡ reader →
      used es v (Td q) Writing ≡ writer →
      IsQueue o es (ended out v Committed) q (queue_committed reader writer m)
  committed true true r k = record {
    gives =
        λ fin f a b fa fb. h.gives fin (before Committed fin f) false false
        (backed_out_held Reading Committed refl fin f r) (backed_out_held Writing Committed refl fin f k)
        ∙ ap Some (sym (none_marked a b (drop m.taken (m.settled ++ m.fresh))));
    within = omega arith;
    apart = λ n. omega arith;
    unwritten = λ n. refl;
    unread = λ n. refl;
  }
  committed true false r k = record {
    gives =
        λ fin f a b fa fb. h.gives fin (before Committed fin f) false b
        (backed_out_held Reading Committed refl fin f r) (backed_out_free Writing Committed fin b k fb)
        ∙ ap Some (front a b (h.apart (reader_apart r k)));
    within = omega arith;
    apart = λ n. omega arith;
    unwritten = unwritten_after Committed k;
    unread = λ n. refl;
  }
    where
      front : (a b : Bool) → m.taken ≤ length m.settled →
          seen false b m ≡ seen a b (record { settled = drop m.taken m.settled; fresh = m.fresh; taken = 0 })
      front true b l = drop-append-le m.taken m.settled (if b then [] else m.fresh) l
      front false b l = drop-append-le m.taken m.settled (if b then [] else m.fresh) l
  committed false true r k = record {
    gives =
        λ fin f a b fa fb. h.gives fin (before Committed fin f) a false
        (backed_out_free Reading Committed fin a r fa) (backed_out_held Writing Committed refl fin f k)
        ∙ ap (λ c. Some (drop (if a then 0 else m.taken) c)) (all b);
    within = rw (append-nil (m.settled ++ m.fresh)) h.within;
    apart = λ n. h.within;
    unwritten = λ n. refl;
    unread = unread_after Committed r;
  }
    where
      all : (b : Bool) → m.settled ++ m.fresh ≡ (m.settled ++ m.fresh) ++ (if b then [] else [])
      all true = sym (append-nil (m.settled ++ m.fresh))
      all false = sym (append-nil (m.settled ++ m.fresh))
  committed false false r k = record {
    gives =
        λ fin f a b fa fb. h.gives fin (before Committed fin f) a b (backed_out_free Reading Committed fin a r fa)
        (backed_out_free Writing Committed fin b k fb);
    within = h.within;
    apart = apart_after Committed r;
    unwritten = unwritten_after Committed k;
    unread = unread_after Committed r;
  }

  pub backed_out : (reader writer : Bool) → used es v (Td q) Reading ≡ reader →
      used es v (Td q) Writing ≡ writer →
      IsQueue o es (ended out v BackedOut) q (queue_backed_out reader writer m)
  backed_out true true r k = record {
    gives =
        λ fin f a b fa fb. h.gives fin (before BackedOut fin f) true true
        (backed_out_held Reading BackedOut refl fin f r) (backed_out_held Writing BackedOut refl fin f k)
        ∙ ap Some (append-nil m.settled ∙ sym (none_marked a b m.settled));
    within = omega arith;
    apart = λ n. omega arith;
    unwritten = λ n. refl;
    unread = λ n. refl;
  }
  backed_out true false r k = record {
    gives =
        λ fin f a b fa fb. h.gives fin (before BackedOut fin f) true b
        (backed_out_held Reading BackedOut refl fin f r) (backed_out_free Writing BackedOut fin b k fb)
        ∙ ap Some (unread a b);
    within = omega arith;
    apart = λ n. omega arith;
    unwritten = unwritten_after BackedOut k;
    unread = λ n. refl;
  }
    where
      unread : (a b : Bool) → seen true b m ≡ seen a b (record m { taken = 0 })
      unread true b = refl
      unread false b = refl
  backed_out false true r k = record {
    gives =
        λ fin f a b fa fb. h.gives fin (before BackedOut fin f) a true
        (backed_out_free Reading BackedOut fin a r fa) (backed_out_held Writing BackedOut refl fin f k)
        ∙ ap Some (bare a b);
    within = rw (append-nil m.settled) (h.apart (writer_apart r k));
    apart = λ n. h.apart (writer_apart r k);
    unwritten = λ n. refl;
    unread = unread_after BackedOut r;
  }
    where
      bare : (a b : Bool) → seen a true m ≡ seen a b (record m { fresh = [] })
      bare a true = refl
      bare a false = refl
  backed_out false false r k = record {
    gives =
        λ fin f a b fa fb. h.gives fin (before BackedOut fin f) a b (backed_out_free Reading BackedOut fin a r fa)
        (backed_out_free Writing BackedOut fin b k fb);
    within = h.within;
    apart = apart_after BackedOut r;
    unwritten = unwritten_after BackedOut k;
    unread = unread_after BackedOut r;
  }

-- at first nothing is marked
there : (o : OpeningState) (q : Bytes) → queue_logical o q ≡ true →
    value_at q (initial_store o).td ≡ Some (unwrap_or (value_at q (initial_store o).td) [])
there o q logical =
    defined (value_at q (initial_store o).td) (value_at_each (λ e. e.records) q o.queues)
    (value_at q o.queues) refl
  where
    defined : (c : Option (List Bytes)) → c ≡ option_map (λ e. e.records) (value_at q o.queues) →
        (d : Option QueueOpening) → value_at q o.queues ≡ d → c ≡ Some (unwrap_or c [])
    defined (Some c) e d same = refl
    defined None e None same = absurd (false≢true (rw same at logical))
    defined None e (Some d) same = absurd (none_some d.records (rw same at e))
      where
        none_some : (l : List Bytes) → None ≡ Some l → ⊥
        none_some l e = cc

pub opened-IsQueue : (o : OpeningState) (out : Outcomes) (q : Bytes) → queue_logical o q ≡ true →
    IsQueue o [] out q (queues_opened o q)
opened-IsQueue o out q logical = record {
  gives =
      λ fin f a b fa fb. there o q logical
      ∙ ap Some (sym (none_marked a b (unwrap_or (value_at q (initial_store o).td) [])));
  within = omega arith;
  apart = λ n. omega arith;
  unwritten = λ n. refl;
  unread = λ n. refl;
}

-- what a queue shows is what the history gives now
pub open_shows : {o : OpeningState} {es : List Entry} {out : Outcomes} {q : Bytes} {m : MarkedQueue} →
    IsQueue o es out q m → content (store_by o out es) (Td q) ≡ Some (shown m)
open_shows {o} {es} {out} {q} {m} h =
    h.gives out (Extends-refl out) false false (λ u on t. open_kept (out u) on)
    (λ u on t. open_kept (out u) on)
