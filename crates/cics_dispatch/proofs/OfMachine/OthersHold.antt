-- Recovery: what a step of a unit of work leaves to the other open units: they own what they owned.
use Rattle.std.specs.Prelude.{◌≡◌, ◌≢◌, ℕ, ◌-◌, ◌+◌, ◌==◌, Bool, true, false, not, cond, ◌&&◌, Option, Some, None, List, [], ◌∷◌, ◌++◌, filter, flat_map, nat_lt, refl}
use Rattle.std.proofs.Common.{sym, ap, ◌∙◌}
use Rattle.std.proofs.lemmas.Bool.{and_parts, eqb-true, ne_eqb}
use Rattle.cics_names.specs.Keyed.{Bytes, is_below}
use Rattle.cics_names.specs.declared.conditions.Condition.{Condition}
use Rattle.cics_history.specs.Resources.{bytes_of}
use Rattle.cics_history.specs.declared.resources.Resource.{Resource}
use Rattle.cics_history.specs.declared.resources.Resource.TheVariants.{FileKey, User}
use Rattle.cics_history.specs.State.{OpeningState, file_recoverable, UnitsState, UpdateRead, EnqCount}
use Rattle.cics_history.specs.Store.{is_normal, is_recoverable}
use Rattle.cics_history.specs.Headline.{outcome_of, is_open}
use Rattle.cics_history.specs.Holding.{uses_of, held_by_entry, held_by_read, held_by_count, held_by}
use Rattle.cics_history.specs.Execution.{unit_or_next, outcomes_with, is_read_of, is_read_before, with_read, covers, opened, reads_after, entered, is_count, counted, uncounted, with_counts, after_unlock, after_dequeue, after_end, after_ts_reading}
use Rattle.cics_history.specs.Events.{is_live}
use Rattle.cics_history.specs.declared.ops.Op.{Op}
use Rattle.cics_history.specs.declared.ops.Op.TheVariants.{Write, Rewrite, Delete, DeleteGeneric, ReadUpdate, TsWrite, TsRewrite, TsDelete, TdWrite, TdRead, TdDelete}
use Rattle.cics_history.specs.declared.ops.Answer.{Answer}
use Rattle.cics_history.specs.declared.ops.Entry.{Entry}
use Rattle.cics_history.specs.declared.ops.UnitState.{UnitState}
use Rattle.cics_history.proofs.Outcomes.{outcome_of-with, outcome_of-set}
use Rattle.cics_dispatch.specs.Machine.Machine.{units_after}
use Rattle.cics_dispatch.proofs.OfMachine.OtherUnits.{acting_other, item_read_is}

-- a step of a unit, or of a task without one, leaves every other open unit what it owns
pub record LeavesHeld (old new : UnitsState) (u : Option ℕ) : Type 0 where
  pub held : (v : ℕ) → (u ≡ Some v → ⊥) → is_live old v ≡ true → held_by new v ≡ held_by old v

-- ---- Lists

module _ {X : Type 0} (f : X → List Resource) where
  -- one more that gives nothing
  given_more : (x : X) → f x ≡ [] → (xs : List X) → flat_map f (xs ++ x ∷ []) ≡ flat_map f xs
  given_more x none [] = ap (λ r. r ++ []) none
  given_more x none (y ∷ ys) = ap (λ r. f y ++ r) (given_more x none ys)

  -- without some that give nothing
  given_filter : (p : X → Bool) → ((x : X) → p x ≡ false → f x ≡ []) → (xs : List X) → flat_map f (filter p xs) ≡ flat_map f xs
  given_filter p none [] = refl
  given_filter p none (x ∷ xs) =
      elim (p x) as (λ b. p x ≡ b → flat_map f (cond b (x ∷ filter p xs) (filter p xs)) ≡ flat_map f (x ∷ xs)) [
        | true ↦ λ is. ap (λ r. f x ++ r) (given_filter p none xs)
        | false ↦ λ is. given_filter p none xs ∙ sym (ap (λ r. r ++ flat_map f xs) (none x is))
      ] refl

-- an update read more that gives nothing
given_read : (f : UpdateRead → List Resource) (r : UpdateRead) → f r ≡ [] → (xs : List UpdateRead) → flat_map f (with_read r xs) ≡ flat_map f xs
given_read f r none [] = ap (λ l. l ++ []) none
given_read f r none (x ∷ xs) =
    elim (is_read_before r x) as (λ b. flat_map f (cond b (r ∷ x ∷ xs) (x ∷ with_read r xs)) ≡ flat_map f (x ∷ xs)) [
      | true ↦ ap (λ l. l ++ (f x ++ flat_map f xs)) none
      | false ↦ ap (λ l. f x ++ l) (given_read f r none xs)
    ]

-- ---- What is another unit's gives a unit nothing

entry_other : (o : OpeningState) (v : ℕ) (e : Entry) → e.unit ≢ v → held_by_entry o v e ≡ []
entry_other o v e other = ap (λ b. cond (b && (is_normal e.answer.condition && is_recoverable o e.op)) (uses_of o e.op) []) (ne_eqb e.unit v other)

read_other : (o : OpeningState) (v : ℕ) (r : UpdateRead) → r.unit ≢ v → held_by_read o v r ≡ []
read_other o v r other = ap (λ b. cond (b && not (file_recoverable o r.file)) (FileKey r.file (bytes_of r.key) ∷ []) []) (ne_eqb r.unit v other)

count_other : (v : ℕ) (c : EnqCount) → c.unit ≢ v → held_by_count v c ≡ []
count_other v c other = ap (λ b. cond b (User (bytes_of c.value) ∷ []) []) (ne_eqb c.unit v other)

-- what a command covers is its own unit's
covered_own : (u : ℕ) (op : Op) (r : UpdateRead) → not (covers u op r) ≡ false → r.unit ≡ u
covered_own u op r is = by op (opposite (covers u op r) is)
  where
    opposite : (b : Bool) → not b ≡ false → b ≡ true
    opposite true is = refl
    opposite false is = cc

    by : (op : Op) → covers u op r ≡ true → r.unit ≡ u
    by (Rewrite f k d) is = eqb-true r.unit u (and_parts _ _ (and_parts _ _ is).0).0
    by (Delete f k) is = eqb-true r.unit u (and_parts _ _ (and_parts _ _ is).0).0
    by (Write f k d) is = cc
    by (DeleteGeneric f p) is = eqb-true r.unit u (and_parts _ _ (and_parts _ _ is).0).0
    by (ReadUpdate f k) is = cc
    by (TsWrite q d) is = cc
    by (TsRewrite q n d) is = cc
    by (TsDelete q) is = cc
    by (TdWrite q d) is = cc
    by (TdRead q) is = cc
    by (TdDelete q) is = cc

reads_opened : (o : OpeningState) (u v : ℕ) (op : Op) → u ≢ v → (xs : List UpdateRead) → flat_map (held_by_read o v) (opened u op xs) ≡ flat_map (held_by_read o v) xs
reads_opened o u v (ReadUpdate f k) apart xs =
    given_read (held_by_read o v) (record { unit = u; file = f; key = k }) (read_other o v (record { unit = u; file = f; key = k }) apart) xs
reads_opened o u v _ apart xs = refl

reads_entered : (o : OpeningState) (u v : ℕ) (op : Op) (c : Condition) (xs : List UpdateRead) → u ≢ v →
    flat_map (held_by_read o v) (reads_after u op c xs) ≡ flat_map (held_by_read o v) xs
reads_entered o u v op c xs apart =
    elim (is_normal c) as (λ b. flat_map (held_by_read o v) (cond b (opened u op (filter (λ r. not (covers u op r)) xs)) xs) ≡ flat_map (held_by_read o v) xs) [
      | true ↦
          reads_opened o u v op apart (filter (λ r. not (covers u op r)) xs)
          ∙ given_filter (held_by_read o v) (λ r. not (covers u op r)) (λ r is. read_other o v r (λ e. apart (sym (covered_own u op r is) ∙ e))) xs
      | false ↦ refl
    ]

-- a count more
counts_counted : (u v : ℕ) (value : Bytes) → u ≢ v → (cs : List EnqCount) → flat_map (held_by_count v) (counted cs u value) ≡ flat_map (held_by_count v) cs
counts_counted u v value apart [] = ap (λ l. l ++ []) (count_other v (record { value = value; unit = u; count = 1 }) apart)
counts_counted u v value apart (c ∷ cs) =
    elim (is_count u value c) as
    (λ b. is_count u value c ≡ b →
    flat_map (held_by_count v) (cond b (record { value = c.value; unit = u; count = c.count + 1 } ∷ cs)
    (cond (is_below value c.value) (record { value = value; unit = u; count = 1 } ∷ c ∷ cs) (c ∷ counted cs u value))) ≡ flat_map (held_by_count v) (c ∷ cs)) [
      | true ↦ λ is.
          let own : c.unit ≡ u = eqb-true c.unit u (and_parts _ _ is).0 in
          ap (λ l. l ++ flat_map (held_by_count v) cs)
          (count_other v (record { value = c.value; unit = u; count = c.count + 1 }) apart ∙ sym (count_other v c (λ e. apart (sym own ∙ e))))
      | false ↦ λ is.
          elim (is_below value c.value) as
          (λ b. flat_map (held_by_count v) (cond b (record { value = value; unit = u; count = 1 } ∷ c ∷ cs) (c ∷ counted cs u value)) ≡ flat_map (held_by_count v) (c ∷ cs)) [
            | true ↦ ap (λ l. l ++ flat_map (held_by_count v) (c ∷ cs)) (count_other v (record { value = value; unit = u; count = 1 }) apart)
            | false ↦ ap (λ l. held_by_count v c ++ l) (counts_counted u v value apart cs)
          ]
    ] refl

-- a count less
counts_uncounted : (u v : ℕ) (value : Bytes) → u ≢ v → (cs : List EnqCount) → flat_map (held_by_count v) (uncounted cs u value) ≡ flat_map (held_by_count v) cs
counts_uncounted u v value apart [] = refl
counts_uncounted u v value apart (c ∷ cs) =
    elim (is_count u value c) as
    (λ b. is_count u value c ≡ b →
    flat_map (held_by_count v) (cond b (cond (nat_lt 1 c.count) (record { value = c.value; unit = u; count = c.count - 1 } ∷ cs) cs) (c ∷ uncounted cs u value)) ≡ flat_map (held_by_count v) (c ∷ cs)) [
      | true ↦ λ is.
          let own : c.unit ≡ u = eqb-true c.unit u (and_parts _ _ is).0 in
          let gone : held_by_count v c ≡ [] = count_other v c (λ e. apart (sym own ∙ e)) in
          elim (nat_lt 1 c.count) as
          (λ b. flat_map (held_by_count v) (cond b (record { value = c.value; unit = u; count = c.count - 1 } ∷ cs) cs) ≡ flat_map (held_by_count v) (c ∷ cs)) [
            | true ↦ ap (λ l. l ++ flat_map (held_by_count v) cs) (count_other v (record { value = c.value; unit = u; count = c.count - 1 }) apart ∙ sym gone)
            | false ↦ sym (ap (λ l. l ++ flat_map (held_by_count v) cs) gone)
          ]
      | false ↦ λ is. ap (λ l. held_by_count v c ++ l) (counts_uncounted u v value apart cs)
    ] refl

-- ---- The steps

-- a unit that is as open as it was, and has what it had, owns what it owned
holds_yet : (old new : UnitsState) (v : ℕ) → outcome_of new.outcomes v ≡ outcome_of old.outcomes v →
    flat_map (held_by_entry new.opening v) new.trace ≡ flat_map (held_by_entry old.opening v) old.trace →
    flat_map (held_by_read new.opening v) new.reads ≡ flat_map (held_by_read old.opening v) old.reads →
    flat_map (held_by_count v) new.counts ≡ flat_map (held_by_count v) old.counts → held_by new v ≡ held_by old v
holds_yet old new v outcome entries reads counts = λ i. cond (is_open (outcome i)) (entries i ++ reads i ++ counts i) []

-- no step
pub held_all : (s : UnitsState) (u : Option ℕ) → LeavesHeld s s u
held_all s u = record { held = λ v other live. refl }

-- a command that is executed
pub entered_held : (s : UnitsState) (u : Option ℕ) (op : Op) (a : Answer) → LeavesHeld s (entered s u op a) u
entered_held s u op a = record {
  held = λ v other live.
      let apart : unit_or_next u s.outcomes ≢ v = acting_other s u v other live in
      let e : Entry = record { unit = unit_or_next u s.outcomes; op = op; answer = a } in
      holds_yet s (entered s u op a) v (outcome_of-with u s.outcomes v)
      (given_more (held_by_entry s.opening v) e (entry_other s.opening v e apart) s.trace)
      (reads_entered s.opening (unit_or_next u s.outcomes) v op a.condition s.reads apart) refl;
}

-- ENQ that acquires its value
pub counted_held : (s : UnitsState) (u : Option ℕ) (value : Bytes) → LeavesHeld s (with_counts s (outcomes_with u s.outcomes) (counted s.counts (unit_or_next u s.outcomes) value)) u
counted_held s u value = record {
  held = λ v other live.
      holds_yet s (with_counts s (outcomes_with u s.outcomes) (counted s.counts (unit_or_next u s.outcomes) value)) v (outcome_of-with u s.outcomes v) refl refl
      (counts_counted (unit_or_next u s.outcomes) v value (acting_other s u v other live) s.counts);
}

-- DEQ
pub dequeued_held : (s : UnitsState) (u : ℕ) (value : Bytes) → LeavesHeld s (after_dequeue s u value) (Some u)
dequeued_held s u value = record {
  held = λ v other live. holds_yet s (after_dequeue s u value) v refl refl refl (counts_uncounted u v value (λ e. other (ap Some e)) s.counts);
}

-- what isn't left out
left_out : (b : Bool) → not b ≡ false → b ≡ true
left_out true is = refl
left_out false is = cc

-- UNLOCK
pub unlocked_held : (s : UnitsState) (u : ℕ) (f : Bytes) → LeavesHeld s (after_unlock s u f) (Some u)
unlocked_held s u f = record {
  held = λ v other live.
      holds_yet s (after_unlock s u f) v refl refl
      (given_filter (held_by_read s.opening v) (λ r. not (is_read_of u f r))
      (λ r is. read_other s.opening v r (λ e. other (ap Some (sym (eqb-true r.unit u (and_parts _ _ (left_out (is_read_of u f r) is)).0) ∙ e)))) s.reads) refl;
}

-- READQ TS
pub item_read_held : (s : UnitsState) (u : Option ℕ) (q : Bytes) (item : ℕ) → LeavesHeld s (after_ts_reading s q item) u
item_read_held s u q item = item_read_is (λ n. LeavesHeld s n u) s q item (held_all s u) (record { held = λ v other live. refl })

-- the end of a unit
pub ended_held : (s : UnitsState) (u : ℕ) (outcome : UnitState) → LeavesHeld s (after_end s u outcome) (Some u)
ended_held s u outcome = record {
  held = λ v other live.
      holds_yet s (after_end s u outcome) v (outcome_of-set s.outcomes u v outcome (λ e. other (ap Some (sym e)))) refl
      (given_filter (held_by_read s.opening v) (λ r. not (r.unit == u))
      (λ r is. read_other s.opening v r (λ e. other (ap Some (sym (eqb-true r.unit u (left_out (r.unit == u) is)) ∙ e)))) s.reads)
      (given_filter (held_by_count v) (λ c. not (c.unit == u))
      (λ c is. count_other v c (λ e. other (ap Some (sym (eqb-true c.unit u (left_out (c.unit == u) is)) ∙ e)))) s.counts);
}

-- the end of a task's unit, if it has one
pub closed_held : (s : UnitsState) (u : Option ℕ) (outcome : UnitState) → LeavesHeld s (units_after s u outcome) u
closed_held s None outcome = held_all s None
closed_held s (Some u) outcome = ended_held s u outcome
