-- Recovery: whatever files and queues hold back is held back for an open unit; so if no unit is
-- open nothing is.
use Rattle.std.specs.Prelude.{◌≡◌, ℕ, ◌-◌, ◌<◌, ◌≤◌, Bool, true, false, not, ◌&&◌, Some, is_some, unwrap_or, nat_lt, List, [], ◌∷◌, length, drop, refl}
use Rattle.std.specs.List.{list_any}
use Rattle.std.proofs.Common.{sym, ap, subst, ◌∙◌, inl, inr, arith}
use Rattle.std.proofs.Math.Bool.{and-false}
use Rattle.std.proofs.lemmas.List.{length-drop}
use Rattle.std.proofs.lemmas.Option.{slice_get_past}
use Rattle.std.proofs.lemmas.Bool.{cases_Bool, true≢false, false≢true, false_from_ne_true, and_from, or_left, lt-ltb, ltb-false}
use Rattle.cics_names.specs.Keyed.{Bytes, value_at, is_key_in}
use Rattle.cics_names.specs.KeyedLaws.{is_same-self}
use Rattle.cics_images.specs.Cells as images
use Rattle.cics_images.specs.Cells.{is_unnamed}
use Rattle.cics_images.specs.NamedValues.{cell_of as value_cell, of_value}
use Rattle.cics_images.specs.NamedLaws.{of_cell}
use Rattle.cics_images.specs.StoreCells.{file_cell, temp_cell}
use Rattle.cics_images.specs.declared.stores.StoreImage.TheVariants.{File, TempStorage, TransData}
use Rattle.cics_enqueue.specs.Table.{Table}
use Rattle.cics_ksds.specs.Files.{FileValue}
use Rattle.cics_tempstor.specs.Queues.{is_there, empty_row}
use Rattle.cics_tempstor.specs.declared.queue_rows.Row.{Row}
use Rattle.cics_transdata.specs.Trans.{TransState, IsMarked, is_logical}
use Rattle.cics_history.specs.State.{OpeningState, queue_logical, UnitsState}
use Rattle.cics_history.specs.Headline.{outcome_of, is_open}
use Rattle.cics_history.specs.Events.{is_live}
use Rattle.cics_history.specs.Cells.{Cell, Td, End, Reading, Writing, recovers}
use Rattle.cics_history.specs.Isolation.{used}
use Rattle.cics_history.specs.Undo.{Image, names}
use Rattle.cics_history.specs.Marks.{unwritten}
use Rattle.cics_history.specs.MarkImages.{MarkImage, OfReading, OfWriting, marks_queue}
use Rattle.cics_history.specs.Ends.{IsUnheld, HasEnds, is_of_reading, is_of_writing}
use Rattle.cics_history.specs.Serial.{NoneIsOpen}
use Rattle.cics_history.proofs.Joining.{same_cell-refl}
use Rattle.cics_history.proofs.Waiting.{used_known}
use Rattle.cics_history.specs.declared.ops.UnitState.TheVariants.{Open}
use Rattle.cics_units.specs.Opening.StoreMatching.{AnyImage, StoreWithImages, cell_of_any, any_holds}
use Rattle.cics_units.specs.Opening.StoreMatching as matching
use Rattle.cics_units.specs.StoreInPlace.{HasMarks}
use Rattle.cics_units.specs.ImageRows.{kept_by}
use Rattle.cics_units.specs.KeptUnits.{AreValid}
use Rattle.cics_units.specs.HeldBack.{HoldsNothingBack}
use Rattle.cics_units.proofs.KeptUnits.{logical_alike}

-- ---- Images of a unit that did nothing

-- if no cell is named there is no image
none_named : (l : List Image) → ((x : Cell) → names x l ≡ false) → l ≡ []
none_named [] none = refl
none_named (i ∷ l) none = absurd (true≢false (sym (or_left _ _ (same_cell-refl i.cell)) ∙ none i.cell))

-- if no end of a queue is marked there is no image of a mark
none_marked : (o : OpeningState) (l : List MarkImage) → ((q : Bytes) → queue_logical o q ≡ false → marks_queue q l ≡ false) →
    ((q : Bytes) → queue_logical o q ≡ true → list_any (is_of_reading q) l ≡ false) →
    ((q : Bytes) → queue_logical o q ≡ true → list_any (is_of_writing q) l ≡ false) → l ≡ []
none_marked o [] bare reads writes = refl
none_marked o (OfReading q before made ∷ l) bare reads writes = elim (cases_Bool (queue_logical o q)) [
  | inl logical ↦ absurd (true≢false (sym (or_left _ _ (is_same-self q)) ∙ reads q logical))
  | inr other ↦ absurd (true≢false (sym (or_left _ _ (is_same-self q)) ∙ bare q other))
]
none_marked o (OfWriting q before made ∷ l) bare reads writes = elim (cases_Bool (queue_logical o q)) [
  | inl logical ↦ absurd (true≢false (sym (or_left _ _ (is_same-self q)) ∙ writes q logical))
  | inr other ↦ absurd (true≢false (sym (or_left _ _ (is_same-self q)) ∙ bare q other))
]

-- what stands for no change and no mark is no image
none_kept : (l : List AnyImage) → matching.AreImagesOf [] [] l → l ≡ []
none_kept [] kept = refl
none_kept (File i ∷ l) kept = absurd kept
none_kept (TempStorage i ∷ l) kept = absurd kept
none_kept (TransData i ∷ l) kept = absurd kept

module _ (s : UnitsState) (st : StoreWithImages) (t : Table) (is : AreValid s st t) where
  -- ---- For whom something is held back
  -- a unit that hasn't begun keeps no image
  module _ (u : ℕ) (after : length s.outcomes ≤ u) where
    unused : (x : Cell) (end : End) → used s.trace u x end ≡ false
    unused x end = false_from_ne_true _ (λ h.
        let begun : u < length s.outcomes = used_known (length s.outcomes) u x end s.trace is.sound.known h in
        omega (arith, begun, after))

    counts_open : is_open (outcome_of s.outcomes u) ≡ true
    counts_open = ap (λ o. is_open (unwrap_or o Open)) (slice_get_past s.outcomes u after)

    no_change : is.place.changes u ≡ []
    no_change = none_named (is.place.changes u)
        (λ x. is.place.place.named x u (ap (λ b. recovers s.opening x && b) (unused x Writing) ∙ and-false (recovers s.opening x)))

    ends_of : (q : Bytes) → queue_logical s.opening q ≡ true →
        HasEnds (used s.trace u (Td q) Reading) (used s.trace u (Td q) Writing) (is.place.marks.images u) q (is.place.marks.queues q)
    ends_of q logical = is.place.ends.images q logical u counts_open

    no_mark : is.place.marks.images u ≡ []
    no_mark = none_marked s.opening (is.place.marks.images u) (λ q other. is.place.ends.bare q other u)
        (λ q logical. (ends_of q logical).none_of_reading (unused (Td q) Reading))
        (λ q logical. (ends_of q logical).none_of_writing (unused (Td q) Writing))

    no_image : kept_by st.images u ≡ []
    no_image = none_kept (kept_by st.images u)
        (subst (λ cs. matching.AreImagesOf cs [] (kept_by st.images u)) no_change
        (subst (λ ms. matching.AreImagesOf (is.place.changes u) ms (kept_by st.images u)) no_mark (is.place.kept u)))

  -- and neither does one that has ended
  keeps_none : (u : ℕ) → is_live s u ≡ false → kept_by st.images u ≡ []
  keeps_none u shut = elim (cases_Bool (nat_lt u (length s.outcomes))) [
    | inl begun ↦ is.place.over u (sym (ap (λ b. b && is_open (outcome_of s.outcomes u)) begun) ∙ shut)
    | inr not_yet ↦ no_image u (ltb-false u (length s.outcomes) not_yet)
  ]

  -- whatever is held back at a cell is held back for an image of an open unit
  pub held_for_open : (c : images.Cell) → any_holds st.store c ≡ true →
      (u : ℕ) × (is_live s u ≡ true) × (is_unnamed cell_of_any (kept_by st.images u) c ≡ false)
  held_for_open c holds =
      let kept = is.held c holds in
      elim (cases_Bool (is_live s kept.0)) [
        | inl live ↦ (kept.0, live, kept.1)
        | inr shut ↦ absurd (false≢true (sym kept.1 ∙ ap (λ l. is_unnamed cell_of_any l c) (keeps_none kept.0 shut)))
      ]

  -- ---- Where no unit is open
  module _ (none : NoneIsOpen s) where
    free : (c : images.Cell) → any_holds st.store c ≡ false
    free c = false_from_ne_true _ (λ holds.
        let held = held_for_open c holds in
        false≢true (sym (none held.0) ∙ held.1))

    nobody : (q : Bytes) (end : End) → IsUnheld s.trace (outcome_of s.outcomes) (Td q) end
    nobody q end u opened uses =
        let begun : u < length s.outcomes = used_known (length s.outcomes) u (Td q) end s.trace is.sound.known uses in
        false≢true (sym (none u) ∙ and_from _ _ (lt-ltb u (length s.outcomes) begun) opened)

    no_place : (f : Bytes) (file : FileValue) → value_at f st.store.files ≡ Some file → file.empties ≡ []
    no_place f file there = by file.empties (λ k.
        sym (of_cell false (λ (x : FileValue) (l : List ℕ). is_key_in l x.empties) st.store.files f k
        ∙ ap (of_value false (λ (x : FileValue). is_key_in k x.empties)) there) ∙ free (file_cell (value_cell f k)))
      where
        by : (l : List Bytes) → ((k : Bytes) → is_key_in k l ≡ false) → l ≡ []
        by [] lacks = refl
        by (k ∷ l) lacks = absurd (true≢false (sym (or_left _ _ (is_same-self k)) ∙ lacks k))

    no_empty_row : (q : Bytes) (row : Row) → value_at q st.store.temp_storage ≡ Some row → is_there row.items ≡ true
    no_empty_row q row there = by (is_there row.items)
        (subst (λ o. (is_some o && not (is_there (unwrap_or o empty_row).items)) ≡ false) there (free (temp_cell q)))
      where
        by : (b : Bool) → not b ≡ false → b ≡ true
        by true held = refl
        by false held = absurd (true≢false held)

    -- a LOGICAL queue
    bare_ends : (q : Bytes) → queue_logical s.opening q ≡ true → (x : TransState) → HasMarks (is.place.marks.queues q) x →
        (x.read ≡ 0) × (x.written ≡ 0)
    bare_ends q logical x has =
        let queue = is.place.ends.queues q logical in
        let read : x.read ≡ 0 = sym (ap (λ m. m.taken) has.marks) ∙ queue.unread (nobody q Reading) in
        let fresh : drop (unwritten x) x.placed ≡ [] = sym (ap (λ m. m.fresh) has.marks) ∙ queue.unwritten (nobody q Writing) in
        let count : length (drop (unwritten x) x.placed) ≡ length x.placed - unwritten x = length-drop (unwritten x) x.placed in
        let gone : length (drop (unwritten x) x.placed) ≡ 0 = ap length fresh in
        let within : x.written ≤ length x.placed = has.within.written in
        (read, omega (arith, count, gone, within))

    no_mark_left : (q : Bytes) (x : TransState) → value_at q st.store.trans_data ≡ Some x → IsMarked x → (x.read ≡ 0) × (x.written ≡ 0)
    no_mark_left q x there marked = elim (cases_Bool (is_logical x.kind)) [
      | inl logical ↦
          let defined : queue_logical s.opening q ≡ true = logical_alike s st t is q ∙ rw there logical in
          let stands = is.place.queues q defined in
          bare_ends q defined x (subst (HasMarks (is.place.marks.queues q)) (same (sym stands.1 ∙ there)) stands.2)
      | inr other ↦ marked.unmarked other
    ]
      where
        same : {a b : TransState} → Some a ≡ Some b → a ≡ b
        same e = cc

    -- files and queues hold nothing back
    pub nothing_held : HoldsNothingBack st.store
    nothing_held = record { files = no_place; temp_storage = no_empty_row; trans_data = no_mark_left }
