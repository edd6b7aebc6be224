-- Each open unit's images of the queues undo its marks, the newest first, whatever the other units did in between.
use Rattle.std.proofs.Common.{◌≡◌, ℕ, ◌+◌, ◌≤◌, Bool, true, false, ◌&&◌, ◌||◌, List, [], ◌∷◌, ◌++◌, length, refl, ap, sym, subst, ◌∙◌, eqb, inl, inr, arith}
use Rattle.std.specs.Prelude.{if◌then◌else◌}
use Rattle.std.proofs.lemmas.List.{length-append}
use Rattle.std.proofs.lemmas.List.Folds.{list_any-append}
use Rattle.std.proofs.lemmas.Bool.{true≢false, false≢true, cases_Bool, cond_both, eqb-true, eq-eqb, and_parts, and_left, and_right, or_from, false_from_ne_true}
use Rattle.cics_names.specs.Keyed.{Bytes, is_same}
use Rattle.cics_names.specs.KeyedLaws.{is_same-eq}
use Rattle.cics_history.specs.State.{OpeningState, queue_logical}
use Rattle.cics_history.specs.Store.{is_recoverable, is_normal}
use Rattle.cics_history.specs.Headline.{is_open}
use Rattle.cics_history.specs.Holding.{is_nothing}
use Rattle.cics_history.specs.declared.ops.Op.{Op}
use Rattle.cics_history.specs.declared.ops.Op.TheVariants.{TdWrite, TdRead, TdDelete}
use Rattle.cics_history.specs.declared.ops.Entry.{Entry}
use Rattle.cics_history.specs.declared.ops.UnitState.{UnitState}
use Rattle.cics_history.specs.declared.ops.UnitState.TheVariants.{Committed, BackedOut}
use Rattle.cics_history.specs.Cells.{Cell, Td, touches, effect, End, Reading, Writing, uses}
use Rattle.cics_history.specs.Isolation.{Outcomes, store_by, entry_now, with_entry, claims, used, IsOneAtEachEnd, IsIsolated}
use Rattle.cics_history.specs.Undo.{ended}
use Rattle.cics_history.specs.Marks.{MarkedQueue, shown, marked, queue_committed, queue_backed_out, Queues, queues_executed, queues_opened}
use Rattle.cics_history.specs.MarkImages.{MarkImage, OfReading, OfWriting, marks_queue, marks_undone, AllMarksReady, mark_images}
use Rattle.cics_history.specs.Ends.{IsQueue, HasEnds, Marks, AreMarked, mark, mark_images_without, marks_opened}
use Rattle.cics_history.proofs.Joining.{apply-answer, touches-recovers}
use Rattle.cics_history.proofs.Isolated.{used-more}
use Rattle.cics_history.proofs.Executes.{MayRun}
use Rattle.cics_history.proofs.Queues.{own_end, shows, used_now, writes, deletes, reads, reads_one, read_answer, elsewhere, committed, backed_out, opened-IsQueue}
use Rattle.cics_history.proofs.MarkLists.{HasEnds-unmarks, HasEnds-empty, own_write, own_read, own_hold, HasEnds-skip, HasEnds-other, Unmarks-none, marks_undone-at, AllMarksReady_from}

or_neither : (a b : Bool) → b ≡ false → (a || b) ≡ a
or_neither true b e = refl
or_neither false b e = e

-- an entry of another unit, on another cell, or of the other end changes nothing of what a unit used
used-same : (es : List Entry) (e : Entry) (u : ℕ) (x : Cell) (end : End) →
    (claims x end e && eqb e.unit u) ≡ false → used (es ++ e ∷ []) u x end ≡ used es u x end
used-same es e u x end n =
    list_any-append (λ d. claims x end d && eqb d.unit u) es (e ∷ [])
    ∙ or_neither (used es u x end) (used (e ∷ []) u x end)
    (or_neither (claims x end e && eqb e.unit u) false refl ∙ n)

-- a command on another cell than this queue gives no image of it
skips : (op : Op) (queues : Queues) (a b : Bool) (is : List MarkImage) (q : Bytes) (m : MarkedQueue) →
    touches op (Td q) ≡ false → HasEnds a b is q m → HasEnds a b (mark_images op queues ++ is) q m
skips (TdWrite n r) queues a b is q m z h =
    HasEnds-skip a b (OfWriting n (queues n).fresh ((queues n).fresh ++ r ∷ [])) is q m z h
skips (TdDelete n) queues a b is q m z h =
    HasEnds-skip a b
    (OfReading n (queues n).taken (length ((queues n).settled ++ (queues n).fresh))) is q m z h
skips (TdRead n) queues a b is q m z h =
    cond_both (is_nothing (shown (queues n))) [] (OfReading n (queues n).taken ((queues n).taken + 1) ∷ [])
    (λ l. HasEnds a b (l ++ is) q m)
    (λ t. h) (λ t. HasEnds-skip a b (OfReading n (queues n).taken ((queues n).taken + 1)) is q m z h)
skips _ queues a b is q m z h = h

-- a LOGICAL queue is not one that is not LOGICAL
not_same : (o : OpeningState) (n q : Bytes) → queue_logical o q ≡ false → queue_logical o n ≡ true →
    is_same n q ≡ false
not_same o n q l rec =
    false_from_ne_true (is_same n q)
    (λ y. true≢false (sym rec ∙ (ap (queue_logical o) (is_same-eq n q y) ∙ l)))

-- one queue, and the unit that executes a command on it
module _ {o : OpeningState} {es : List Entry} {out : Outcomes} (i : IsIsolated o es out) (v : ℕ) (q : Bytes)
    (logical : queue_logical o q ≡ true) (queues : Queues) (h : IsQueue o es out q (queues q)) where
  abbrev Held : List Entry → ℕ → List MarkImage → MarkedQueue → Type 0
  Held l u is m = HasEnds (used l u (Td q) Reading) (used l u (Td q) Writing) is q m

  free_fresh : (op : Op) → touches op (Td q) ≡ true → MayRun o es out v op → uses op Writing ≡ true →
      used es v (Td q) Writing ≡ false → (queues q).fresh ≡ []
  free_fresh op y may t n =
      h.unwritten
      (λ u on k. true≢false (sym k
      ∙ (ap (λ w. used es w (Td q) Writing) (own_end v op may (Td q) y logical Writing t u on k) ∙ n)))

  free_taken : (op : Op) → touches op (Td q) ≡ true → MayRun o es out v op → uses op Reading ≡ true →
      used es v (Td q) Reading ≡ false → (queues q).taken ≡ 0
  free_taken op y may t n =
      h.unread
      (λ u on k. true≢false (sym k
      ∙ (ap (λ w. used es w (Td q) Reading) (own_end v op may (Td q) y logical Reading t u on k) ∙ n)))

  -- a queue that is there is written and deleted
  pub write_normal : (r : Bytes) → MayRun o es out v (TdWrite q r) → touches (TdWrite q r) (Td q) ≡ true →
      is_normal (entry_now o out es v (TdWrite q r)).answer.condition ≡ true
  write_normal r may y =
      ap (λ a. is_normal a.condition)
      (apply-answer (store_by o out es) (TdWrite q r) refl
      ∙ ap (λ c. (effect (TdWrite q r) c).answer) (shows i v (TdWrite q r) q refl logical may (queues q) h))

  pub delete_normal : MayRun o es out v (TdDelete q) → touches (TdDelete q) (Td q) ≡ true →
      is_normal (entry_now o out es v (TdDelete q)).answer.condition ≡ true
  delete_normal may y =
      ap (λ a. is_normal a.condition)
      (apply-answer (store_by o out es) (TdDelete q) refl
      ∙ ap (λ c. (effect (TdDelete q) c).answer) (shows i v (TdDelete q) q refl logical may (queues q) h))

  -- the unit's own commands
  own_writes : (r : Bytes) (is : List MarkImage) → MayRun o es out v (TdWrite q r) →
      touches (TdWrite q r) (Td q) ≡ true → Held es v is (queues q) →
      Held (with_entry o out es v (TdWrite q r)) v (mark_images (TdWrite q r) queues ++ is)
      (marked (TdWrite q r) (queues q))
  own_writes r is may y e =
      let e_new : Entry = entry_now o out es v (TdWrite q r) in
      rw (
        used-same es e_new v (Td q) Reading (and_left _ _ (and_right _ _ (and_right _ _ refl))),
        used_now i v (TdWrite q r) q refl logical may Writing (write_normal r may y) refl,
      )
      (own_write (used es v (Td q) Reading) (used es v (Td q) Writing) is q (queues q)
      ((queues q).fresh ++ r ∷ []) e (free_fresh (TdWrite q r) y may refl) h.within)

  own_deletes : (is : List MarkImage) → MayRun o es out v (TdDelete q) →
      touches (TdDelete q) (Td q) ≡ true → Held es v is (queues q) →
      Held (with_entry o out es v (TdDelete q)) v (mark_images (TdDelete q) queues ++ is)
      (marked (TdDelete q) (queues q))
  own_deletes is may y e =
      rw (
        used_now i v (TdDelete q) q refl logical may Reading (delete_normal may y) refl,
        used_now i v (TdDelete q) q refl logical may Writing (delete_normal may y) refl,
      )
      (own_read (used es v (Td q) Reading) true is q (queues q)
      (length ((queues q).settled ++ (queues q).fresh))
      (own_hold (used es v (Td q) Reading) (used es v (Td q) Writing) is q (queues q) e
      (free_fresh (TdDelete q) y may refl))
      (free_taken (TdDelete q) y may refl))

  own_reads : (is : List MarkImage) → MayRun o es out v (TdRead q) → touches (TdRead q) (Td q) ≡ true →
      Held es v is (queues q) →
      Held (with_entry o out es v (TdRead q)) v (mark_images (TdRead q) queues ++ is)
      (marked (TdRead q) (queues q))
  own_reads is may y e =
      let e_new : Entry = entry_now o out es v (TdRead q) in
      elim (cases_Bool (is_nothing (shown (queues q)))) [
        | inl none ↦
            let no_claim : (end : End) →
            used (with_entry o out es v (TdRead q)) v (Td q) end ≡ used es v (Td q) end =
            λ end. used-same es e_new v (Td q) end
            (and_left _ _ (and_right _ _ (and_left _ _ (read_answer i v q logical h true may none)))) in
            rw (no_claim Reading, no_claim Writing, none) e
        | inr some ↦
            let same_writing : used (with_entry o out es v (TdRead q)) v (Td q) Writing ≡ used es v
            (Td q) Writing =
            used-same es e_new v (Td q) Writing (and_left _ _ (and_right _ _ (and_right _ _ refl))) in
            rw (
              used_now i v (TdRead q) q refl logical may Reading
                  (read_answer i v q logical h false may some) refl,
              same_writing,
              some,
            )
            (own_read (used es v (Td q) Reading) (used es v (Td q) Writing) is q (queues q)
            ((queues q).taken + 1) e (free_taken (TdRead q) y may refl))
      ]

  -- another open unit holds no end that the command uses
  not_theirs : (op : Op) → touches op (Td q) ≡ true → MayRun o es out v op → (u : ℕ) →
      is_open (out u) ≡ true → eqb u v ≡ false → (end : End) → uses op end ≡ true →
      used es u (Td q) end ≡ true → ⊥
  not_theirs op y may u on other end t k =
      false≢true (sym other ∙ eq-eqb u v (own_end v op may (Td q) y logical end t u on k))

  their_write : (r : Bytes) (is : List MarkImage) → MayRun o es out v (TdWrite q r) →
      touches (TdWrite q r) (Td q) ≡ true → (u : ℕ) → is_open (out u) ≡ true → eqb u v ≡ false →
      Held es u is (queues q) → Held es u is (marked (TdWrite q r) (queues q))
  their_write r is may y u on other e =
      HasEnds-other (used es u (Td q) Reading) (used es u (Td q) Writing) is q (queues q)
      (marked (TdWrite q r) (queues q)) e
      (λ a. refl) (λ b. absurd (not_theirs (TdWrite q r) y may u on other Writing refl b)) (λ a b. omega arith)
      (λ a b. absurd (not_theirs (TdWrite q r) y may u on other Writing refl b))

  their_delete : (is : List MarkImage) → MayRun o es out v (TdDelete q) →
      touches (TdDelete q) (Td q) ≡ true → (u : ℕ) → is_open (out u) ≡ true → eqb u v ≡ false →
      Held es u is (queues q) → Held es u is (marked (TdDelete q) (queues q))
  their_delete is may y u on other e =
      HasEnds-other (used es u (Td q) Reading) (used es u (Td q) Writing) is q (queues q)
      (marked (TdDelete q) (queues q)) e
      (λ a. absurd (not_theirs (TdDelete q) y may u on other Reading refl a)) (λ b. refl) (λ a b. omega arith)
      (λ a b. absurd (not_theirs (TdDelete q) y may u on other Writing refl b))

  their_read : (is : List MarkImage) → MayRun o es out v (TdRead q) → touches (TdRead q) (Td q) ≡ true →
      IsOneAtEachEnd o (with_entry o out es v (TdRead q)) out → (u : ℕ) → is_open (out u) ≡ true →
      eqb u v ≡ false → Held es u is (queues q) → Held es u is (marked (TdRead q) (queues q))
  their_read is may y more u on other e =
      cond_both (is_nothing (shown (queues q))) (queues q) (record (queues q) { taken = (queues q).taken + 1 })
      (Held es u is) (λ t. e)
      (λ some. HasEnds-other (used es u (Td q) Reading) (used es u (Td q) Writing) is q (queues q)
      (record (queues q) { taken = (queues q).taken + 1 }) e
      (λ a. absurd (not_theirs (TdRead q) y may u on other Reading refl a)) (λ b. refl) (λ a b. omega arith)
      (λ a b. (reads_one i v q logical h may some).apart (λ k live_k r s.
      let reader : k ≡ v = more (Td q) logical Reading k v live_k may.is_live r
      (used_now i v (TdRead q) q refl logical may Reading (read_answer i v q logical h false may some) refl) in
      let writer : k ≡ u = more (Td q) logical Writing k u live_k on s
      (used-more es (entry_now o out es v (TdRead q)) u (Td q) Writing b) in
      false≢true (sym other ∙ eq-eqb u v (sym writer ∙ reader)))))

-- one command
module _ {o : OpeningState} {es : List Entry} {out : Outcomes} {p : Marks} (i : IsIsolated o es out)
    (h : AreMarked o es out p) (v : ℕ) where
  abbrev HeldAfter : Op → ℕ → Bytes → List MarkImage → MarkedQueue → Type 0
  HeldAfter op u q is m =
      HasEnds (used (with_entry o out es v op) u (Td q) Reading)
      (used (with_entry o out es v op) u (Td q) Writing) is q m

  -- the queue after the command
  queue_other : (op : Op) (q : Bytes) → touches op (Td q) ≡ false → p.queues q ≡ (mark o p v op).queues q
  queue_other op q z =
      elim (is_recoverable o op) as
      (λ b. p.queues q ≡ (if b then queues_executed p.queues op else p.queues) q) [
        | true ↦ rw z refl
        | false ↦ refl
      ]

  queue_own : (op : Op) (q : Bytes) → queue_logical o q ≡ true → touches op (Td q) ≡ true →
      marked op (p.queues q) ≡ (mark o p v op).queues q
  queue_own op q l y =
      let r : is_recoverable o op ≡ true = touches-recovers o op (Td q) y ∙ l in rw (r, y) refl

  -- a command elsewhere
  far : (op : Op) (q : Bytes) → queue_logical o q ≡ true → (u : ℕ) → is_open (out u) ≡ true →
      touches op (Td q) ≡ false → HeldAfter op u q ((mark o p v op).images u) (p.queues q)
  far op q l u on z =
      let same : (end : End) → used (with_entry o out es v op) u (Td q) end ≡ used es u (Td q) end =
      λ end. used-same es (entry_now o out es v op) u (Td q) end (and_left _ _ (and_left _ _ z)) in
      rw (same Reading, same Writing)
      (cond_both (eqb u v && is_recoverable o op) (mark_images op p.queues ++ p.images u) (p.images u)
      (λ k. HasEnds (used es u (Td q) Reading) (used es u (Td q) Writing) k q (p.queues q))
      (λ t. skips op p.queues _ _ (p.images u) q (p.queues q) z (h.images q l u on)) (λ t. h.images q l u on))

  -- a command on this queue: of the unit itself, or of another
  near : (op : Op) (q : Bytes) → is_recoverable o op ≡ true → (u : ℕ) →
      (HasEnds (used es v (Td q) Reading) (used es v (Td q) Writing) (p.images v) q (p.queues q) →
      HeldAfter op v q (mark_images op p.queues ++ p.images v) (marked op (p.queues q))) →
      (eqb u v ≡ false → HasEnds (used es u (Td q) Reading) (used es u (Td q) Writing) (p.images u) q
      (p.queues q) → HasEnds (used es u (Td q) Reading) (used es u (Td q) Writing) (p.images u) q
      (marked op (p.queues q))) →
      HasEnds (used es u (Td q) Reading) (used es u (Td q) Writing) (p.images u) q (p.queues q) →
      HeldAfter op u q ((mark o p v op).images u) (marked op (p.queues q))
  near op q r u own theirs e = elim (cases_Bool (eqb u v)) [
    | inl y ↦
        rw (y, r) (subst (λ k. HasEnds (used es k (Td q) Reading) (used es k (Td q) Writing) (p.images k) q
        (p.queues q) → HeldAfter op k q (mark_images op p.queues ++ p.images k) (marked op (p.queues q)))
        (sym (eqb-true u v y)) own e)
    | inr z ↦
        let other : eqb v u ≡ false =
        false_from_ne_true (eqb v u) (λ t. false≢true (sym z ∙ eq-eqb u v (sym (eqb-true v u t)))) in
        let same : (end : End) → used (with_entry o out es v op) u (Td q) end ≡ used es u (Td q) end =
        λ end. used-same es (entry_now o out es v op) u (Td q) end (and_right _ _ other) in
        rw (same Reading, same Writing, z) (theirs z e)
  ]

  -- the command names the queue
  at_queue : (op : Op) → MayRun o es out v op → IsOneAtEachEnd o (with_entry o out es v op) out →
      (q : Bytes) → queue_logical o q ≡ true → touches op (Td q) ≡ true →
      IsQueue o (with_entry o out es v op) out q (marked op (p.queues q)) ×
      ((u : ℕ) → is_open (out u) ≡ true → HeldAfter op u q ((mark o p v op).images u) (marked op (p.queues q)))
  at_queue (TdWrite n r) may more q l y =
      subst (λ k. queue_logical o k ≡ true → touches (TdWrite n r) (Td k) ≡ true →
      IsQueue o (with_entry o out es v (TdWrite n r)) out k (marked (TdWrite n r) (p.queues k)) ×
      ((u : ℕ) → is_open (out u) ≡ true →
      HeldAfter (TdWrite n r) u k ((mark o p v (TdWrite n r)).images u) (marked (TdWrite n r) (p.queues k))))
      (is_same-eq n q y)
      (λ l s. (
        writes i v n l (h.queues n l) r may (write_normal i v n l p.queues (h.queues n l) r may s),
        λ u on. near (TdWrite n r) n l u (own_writes i v n l p.queues (h.queues n l) r (p.images v) may s)
            (λ z. their_write i v n l p.queues (h.queues n l) r (p.images u) may s u on z) (h.images n l u on),
      )) l y
  at_queue (TdRead n) may more q l y =
      subst (λ k. queue_logical o k ≡ true → touches (TdRead n) (Td k) ≡ true →
      IsQueue o (with_entry o out es v (TdRead n)) out k (marked (TdRead n) (p.queues k)) ×
      ((u : ℕ) → is_open (out u) ≡ true →
      HeldAfter (TdRead n) u k ((mark o p v (TdRead n)).images u) (marked (TdRead n) (p.queues k))))
      (is_same-eq n q y)
      (λ l s. (
        reads i v n l (h.queues n l) may,
        λ u on. near (TdRead n) n l u (own_reads i v n l p.queues (h.queues n l) (p.images v) may s)
            (λ z. their_read i v n l p.queues (h.queues n l) (p.images u) may s more u on z) (h.images n l u on),
      )) l y
  at_queue (TdDelete n) may more q l y =
      subst (λ k. queue_logical o k ≡ true → touches (TdDelete n) (Td k) ≡ true →
      IsQueue o (with_entry o out es v (TdDelete n)) out k (marked (TdDelete n) (p.queues k)) ×
      ((u : ℕ) → is_open (out u) ≡ true →
      HeldAfter (TdDelete n) u k ((mark o p v (TdDelete n)).images u) (marked (TdDelete n) (p.queues k))))
      (is_same-eq n q y)
      (λ l s. (
        deletes i v n l (h.queues n l) may (delete_normal i v n l p.queues (h.queues n l) may s),
        λ u on. near (TdDelete n) n l u (own_deletes i v n l p.queues (h.queues n l) (p.images v) may s)
            (λ z. their_delete i v n l p.queues (h.queues n l) (p.images u) may s u on z) (h.images n l u on),
      )) l y
  at_queue _ may more q l y = absurd (false≢true y)

  -- a command names no queue that is not LOGICAL in its images
  no_image : (op : Op) (q : Bytes) → queue_logical o q ≡ false → is_recoverable o op ≡ true →
      marks_queue q (mark_images op p.queues) ≡ false
  no_image (TdWrite n r) q l rec = or_from _ _ (not_same o n q l rec) refl
  no_image (TdDelete n) q l rec = or_from _ _ (not_same o n q l rec) refl
  no_image (TdRead n) q l rec =
      cond_both (is_nothing (shown (p.queues n))) []
      (OfReading n (p.queues n).taken ((p.queues n).taken + 1) ∷ []) (λ k. marks_queue q k ≡ false)
      (λ t. refl) (λ t. or_from _ _ (not_same o n q l rec) refl)
  no_image _ q l rec = refl

  pub executes-AreMarked : (op : Op) → MayRun o es out v op →
      IsOneAtEachEnd o (with_entry o out es v op) out →
      AreMarked o (with_entry o out es v op) out (mark o p v op)
  executes-AreMarked op may more = record {
    queues = λ q l. elim (cases_Bool (touches op (Td q))) [
      | inl y ↦
          subst (IsQueue o (with_entry o out es v op) out q) (queue_own op q l y)
          (at_queue op may more q l y).0
      | inr z ↦
          subst (IsQueue o (with_entry o out es v op) out q) (queue_other op q z)
          (elsewhere v op q z (h.queues q l))
    ];
    images = λ q l u on. elim (cases_Bool (touches op (Td q))) [
      | inl y ↦
          subst (HeldAfter op u q ((mark o p v op).images u)) (queue_own op q l y)
          ((at_queue op may more q l y).1 u on)
      | inr z ↦ subst (HeldAfter op u q ((mark o p v op).images u)) (queue_other op q z) (far op q l u on z)
    ];
    bare =
        λ q l u. cond_both (eqb u v && is_recoverable o op) (mark_images op p.queues ++ p.images u)
        (p.images u) (λ k. marks_queue q k ≡ false)
        (λ t. list_any-append _ (mark_images op p.queues) (p.images u)
        ∙ or_from _ _ (no_image op q l (and_parts _ _ t).1) (h.bare q l u)) (λ t. h.bare q l u);
  }

-- a unit ends: what it leaves to the others
committed_taken : (r k : Bool) (m : MarkedQueue) → r ≡ false → (queue_committed r k m).taken ≡ m.taken
committed_taken true k m e = absurd (true≢false e)
committed_taken false true m e = refl
committed_taken false false m e = refl

committed_fresh : (r k : Bool) (m : MarkedQueue) → k ≡ false → (queue_committed r k m).fresh ≡ m.fresh
committed_fresh r true m e = absurd (true≢false e)
committed_fresh true false m e = refl
committed_fresh false false m e = refl

committed_settled : (r k : Bool) (m : MarkedQueue) → r ≡ false →
    length m.settled ≤ length (queue_committed r k m).settled
committed_settled true k m e = absurd (true≢false e)
committed_settled false true m e = rw (length-append m.settled m.fresh) (omega arith)
committed_settled false false m e = omega arith

committed_room : (r k : Bool) (m : MarkedQueue) → k ≡ false → (r ≡ false → m.taken ≤ length m.settled) →
    (queue_committed r k m).taken ≤ length (queue_committed r k m).settled
committed_room r true m e h = absurd (true≢false e)
committed_room true false m e h = omega arith
committed_room false false m e h = h refl

gone_taken : (r k : Bool) (m : MarkedQueue) → r ≡ false → (queue_backed_out r k m).taken ≡ m.taken
gone_taken true k m e = absurd (true≢false e)
gone_taken false true m e = refl
gone_taken false false m e = refl

gone_fresh : (r k : Bool) (m : MarkedQueue) → k ≡ false → (queue_backed_out r k m).fresh ≡ m.fresh
gone_fresh r true m e = absurd (true≢false e)
gone_fresh true false m e = refl
gone_fresh false false m e = refl

gone_settled : (r k : Bool) (m : MarkedQueue) → (queue_backed_out r k m).settled ≡ m.settled
gone_settled true true m = refl
gone_settled true false m = refl
gone_settled false true m = refl
gone_settled false false m = refl

gone_room : (r k : Bool) (m : MarkedQueue) → k ≡ false → (r ≡ false → m.taken ≤ length m.settled) →
    (queue_backed_out r k m).taken ≤ length (queue_backed_out r k m).settled
gone_room r true m e h = absurd (true≢false e)
gone_room true false m e h = omega arith
gone_room false false m e h = h refl

pub ended-open : (out : Outcomes) (v : ℕ) (outcome : UnitState) → is_open outcome ≡ false → (u : ℕ) →
    is_open (ended out v outcome u) ≡ true → (is_open (out u) ≡ true) × (eqb u v ≡ false)
ended-open out v outcome shut u on = elim (cases_Bool (eqb u v)) [
  | inl same ↦ let still : is_open outcome ≡ true = rw same at on in absurd (false≢true (sym shut ∙ still))
  | inr other ↦ (rw other at on, other)
]

module _ {o : OpeningState} {es : List Entry} {out : Outcomes} {p : Marks} (one : IsOneAtEachEnd o es out)
    (h : AreMarked o es out p) (v : ℕ) (live : is_open (out v) ≡ true) where
  abbrev reader : Bytes → Bool
  reader q = used es v (Td q) Reading

  abbrev writer : Bytes → Bool
  writer q = used es v (Td q) Writing

  -- an end that another open unit holds is not the ending unit's
  not_ended : (q : Bytes) → queue_logical o q ≡ true → (u : ℕ) → is_open (out u) ≡ true → eqb u v ≡ false →
      (end : End) → used es u (Td q) end ≡ true → used es v (Td q) end ≡ false
  not_ended q l u on other end t =
      false_from_ne_true (used es v (Td q) end)
      (λ k. false≢true (sym other ∙ eq-eqb u v (one (Td q) l end u v on live t k)))

  room : (q : Bytes) → queue_logical o q ≡ true → (u : ℕ) → is_open (out u) ≡ true →
      used es u (Td q) Reading ≡ false → used es u (Td q) Writing ≡ true →
      (p.queues q).taken ≤ length (p.queues q).settled
  room q l u on a b =
      (h.queues q l).apart
      (λ n live_n r k. true≢false
      (sym r ∙ (ap (λ y. used es y (Td q) Reading) (one (Td q) l Writing n u live_n on k b) ∙ a)))

  commit_other : (q : Bytes) → queue_logical o q ≡ true → (u : ℕ) → is_open (out u) ≡ true →
      eqb u v ≡ false →
      HasEnds (used es u (Td q) Reading) (used es u (Td q) Writing) (p.images u) q
      (queue_committed (reader q) (writer q) (p.queues q))
  commit_other q l u on other = HasEnds-other _ _ (p.images u) q (p.queues q) _ (h.images q l u on)
      (λ a. committed_taken _ (writer q) (p.queues q) (not_ended q l u on other Reading a))
      (λ b. committed_fresh (reader q) _ (p.queues q) (not_ended q l u on other Writing b))
      (λ a b. committed_settled _ (writer q) (p.queues q) (not_ended q l u on other Reading a))
      (λ a b. committed_room (reader q) _ (p.queues q) (not_ended q l u on other Writing b)
      (λ n. room q l u on a b))

  back_out_other : (q : Bytes) → queue_logical o q ≡ true → (u : ℕ) → is_open (out u) ≡ true →
      eqb u v ≡ false →
      HasEnds (used es u (Td q) Reading) (used es u (Td q) Writing) (p.images u) q
      (queue_backed_out (reader q) (writer q) (p.queues q))
  back_out_other q l u on other = HasEnds-other _ _ (p.images u) q (p.queues q) _ (h.images q l u on)
      (λ a. gone_taken _ (writer q) (p.queues q) (not_ended q l u on other Reading a))
      (λ b. gone_fresh (reader q) _ (p.queues q) (not_ended q l u on other Writing b))
      (λ a b. rw (gone_settled (reader q) (writer q) (p.queues q)) (omega arith))
      (λ a b. gone_room (reader q) _ (p.queues q) (not_ended q l u on other Writing b) (λ n. room q l u on a b))

  -- undoing the unit's images is the backout of each queue by the ends that the unit holds
  pub undone-queue : (q : Bytes) → queue_logical o q ≡ true →
      marks_undone p.queues (p.images v) q ≡ queue_backed_out (reader q) (writer q) (p.queues q)
  undone-queue q l =
      marks_undone-at (p.images v) q p.queues _
      (HasEnds-unmarks (reader q) (writer q) (p.images v) q (p.queues q) (h.images q l v live))

  -- and each of them is ready when its turn comes
  pub marks_ready : AllMarksReady p.queues (p.images v)
  marks_ready = AllMarksReady_from (p.images v) p.queues (λ q. elim (cases_Bool (queue_logical o q)) [
    | inl l ↦ (
      queue_backed_out (reader q) (writer q) (p.queues q),
      HasEnds-unmarks (reader q) (writer q) (p.images v) q (p.queues q) (h.images q l v live),
    )
    | inr n ↦ (p.queues q, Unmarks-none (p.images v) q (p.queues q) (h.bare q n v))
  ])

  images_gone : (outcome : UnitState) → is_open outcome ≡ false → (q : Bytes) (m : MarkedQueue) →
      ((u : ℕ) → is_open (out u) ≡ true → eqb u v ≡ false →
      HasEnds (used es u (Td q) Reading) (used es u (Td q) Writing) (p.images u) q m) →
      (u : ℕ) → is_open (ended out v outcome u) ≡ true →
      HasEnds (used es u (Td q) Reading) (used es u (Td q) Writing) (mark_images_without p.images v u) q m
  images_gone outcome shut q m f u on = let a = ended-open out v outcome shut u on in rw a.1 (f u a.0 a.1)

  bare_gone : (q : Bytes) → queue_logical o q ≡ false → (u : ℕ) →
      marks_queue q (mark_images_without p.images v u) ≡ false
  bare_gone q n u =
      cond_both (eqb u v) [] (p.images u) (λ k. marks_queue q k ≡ false) (λ t. refl) (λ t. h.bare q n u)

  pub commits-AreMarked :
      AreMarked o es (ended out v Committed)
      (record {
        queues = λ q. queue_committed (reader q) (writer q) (p.queues q);
        images = mark_images_without p.images v;
      })
  commits-AreMarked = record {
    queues = λ q l. committed one v q l live (h.queues q l) (reader q) (writer q) refl refl;
    images =
        λ q l. images_gone Committed refl q (queue_committed (reader q) (writer q) (p.queues q))
        (commit_other q l);
    bare = bare_gone;
  }

  pub backs_out-AreMarked :
      AreMarked o es (ended out v BackedOut)
      (record { queues = marks_undone p.queues (p.images v); images = mark_images_without p.images v })
  backs_out-AreMarked = record {
    queues =
        λ q l. subst (IsQueue o es (ended out v BackedOut) q) (sym (undone-queue q l))
        (backed_out one v q l live (h.queues q l) (reader q) (writer q) refl refl);
    images =
        λ q l. images_gone BackedOut refl q _
        (λ u on other. subst (HasEnds (used es u (Td q) Reading) (used es u (Td q) Writing) (p.images u) q)
        (sym (undone-queue q l)) (back_out_other q l u on other));
    bare = bare_gone;
  }

-- at first nothing is marked
pub opened-AreMarked : (o : OpeningState) (out : Outcomes) → AreMarked o [] out (marks_opened o)
opened-AreMarked o out = record {
  queues = λ q l. opened-IsQueue o out q l;
  images =
      λ q l u on. HasEnds-empty false false q (queues_opened o q) (λ e. absurd (false≢true e))
      (λ e. absurd (false≢true e));
  bare = λ q n u. refl;
}
