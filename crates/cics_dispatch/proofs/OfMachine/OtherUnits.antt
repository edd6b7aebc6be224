-- Recovery: what a step of a unit of work leaves to the other open units: they stay open, with
-- their update reads.
use Rattle.std.specs.Prelude.{◌≡◌, ◌≢◌, ℕ, ◌<◌, ◌==◌, Bool, true, false, not, cond, ◌&&◌, Option, Some, None, List, [], ◌∷◌, ◌++◌, length, filter, nat_lt, refl}
use Rattle.std.proofs.Common.{length-append, sym, ap, ◌∙◌, arith}
use Rattle.std.proofs.lemmas.Bool.{false≢true, and_parts, and_from, ltb-true, lt-ltb, eqb-true, ne_eqb, false_from_ne_true}
use Rattle.std.proofs.lemmas.List.{length-set}
use Rattle.cics_names.specs.Keyed.{Bytes, is_same, with_value}
use Rattle.cics_names.specs.declared.conditions.Condition.{Condition}
use Rattle.cics_ksds.specs.Prefixes.{has_prefix}
use Rattle.cics_tempstor.specs.Queues.{has_item}
use Rattle.cics_history.specs.Store.{is_normal, ts_queue}
use Rattle.cics_history.specs.Headline.{outcome_of, is_open}
use Rattle.cics_history.specs.State.{UnitsState, UpdateRead, EnqCount}
use Rattle.cics_history.specs.Holding.{store_of}
use Rattle.cics_history.specs.Execution.{unit_or_next, outcomes_with, is_read_of, read_at, is_read_before, with_read, covers, opened, reads_after, entered, with_counts, after_unlock, after_dequeue, after_end, after_ts_reading}
use Rattle.cics_history.specs.Events.{may_act, is_live}
use Rattle.cics_history.specs.declared.ops.Op.{Op}
use Rattle.cics_history.specs.declared.ops.Op.TheVariants.{Write, Rewrite, Delete, DeleteGeneric, ReadUpdate, TsWrite, TsRewrite, TsDelete, TdWrite, TdRead, TdDelete}
use Rattle.cics_history.specs.declared.ops.Answer.{Answer}
use Rattle.cics_history.specs.declared.ops.UnitState.{UnitState}
use Rattle.cics_history.specs.declared.ops.UnitState.TheVariants.{Open}
use Rattle.cics_history.proofs.Outcomes.{outcome_of-push, outcome_of-set}
use Rattle.cics_history.proofs.States.{acting_open}
use Rattle.cics_dispatch.specs.Machine.Machine.{units_after}

-- a step of a unit, or of a task without one, leaves the opening, and every other open unit with
-- its update reads
pub record LeavesOthers (old new : UnitsState) (u : Option ℕ) : Type 0 where
  pub opening : new.opening ≡ old.opening
  pub live : (v : ℕ) → (u ≡ Some v → ⊥) → is_live old v ≡ true → is_live new v ≡ true
  pub reads : (v : ℕ) (f : Bytes) → (u ≡ Some v → ⊥) → is_live old v ≡ true → read_at new.reads v f ≡ read_at old.reads v f

-- no step
pub leaves_all : (s : UnitsState) (u : Option ℕ) → LeavesOthers s s u
leaves_all s u = record { opening = refl; live = λ v other live. live; reads = λ v f other live. refl }

-- ---- Update reads

-- what takes out no read of a unit leaves its update reads
read_at-filter : (p : UpdateRead → Bool) (v : ℕ) (f : Bytes) → ((r : UpdateRead) → (r.unit == v) ≡ true → p r ≡ true) → (xs : List UpdateRead) →
    read_at (filter p xs) v f ≡ read_at xs v f
read_at-filter p v f passes [] = refl
read_at-filter p v f passes (x ∷ xs) =
    elim (p x) as (λ b. p x ≡ b → read_at (cond b (x ∷ filter p xs) (filter p xs)) v f ≡ read_at (x ∷ xs) v f) [
      | true ↦ λ e. ap (cond (is_read_of v f x) (Some x.key)) (read_at-filter p v f passes xs)
      | false ↦ λ e.
          let other : (x.unit == v) ≡ false = false_from_ne_true (x.unit == v) (λ own. false≢true (sym e ∙ passes x own)) in
          read_at-filter p v f passes xs ∙ sym (ap (λ b. cond (b && is_same x.file f) (Some x.key) (read_at xs v f)) other)
    ] refl

-- and so does another unit's read that is opened
read_at-with_read : (r : UpdateRead) (v : ℕ) (f : Bytes) → (r.unit == v) ≡ false → (xs : List UpdateRead) → read_at (with_read r xs) v f ≡ read_at xs v f
read_at-with_read r v f other [] = ap (λ b. cond (b && is_same r.file f) (Some r.key) None) other
read_at-with_read r v f other (x ∷ xs) =
    elim (is_read_before r x) as (λ b. read_at (cond b (r ∷ x ∷ xs) (x ∷ with_read r xs)) v f ≡ read_at (x ∷ xs) v f) [
      | true ↦ ap (λ b. cond (b && is_same r.file f) (Some r.key) (read_at (x ∷ xs) v f)) other
      | false ↦ ap (cond (is_read_of v f x) (Some x.key)) (read_at-with_read r v f other xs)
    ]

-- what is of a unit is of no other
other_unit : (u v w : ℕ) → u ≢ v → (w == v) ≡ true → (w == u) ≡ false
other_unit u v w apart own = let same : w ≡ v = eqb-true w v own in ne_eqb w u (λ e. apart (sym e ∙ same))

-- a command covers no other unit's read
covers_own : (u v : ℕ) (op : Op) → u ≢ v → (r : UpdateRead) → (r.unit == v) ≡ true → not (covers u op r) ≡ true
covers_own u v (Rewrite f k d) apart r own = ap (λ b. not ((b && is_same r.file f) && is_same r.key k)) (other_unit u v r.unit apart own)
covers_own u v (Delete f k) apart r own = ap (λ b. not ((b && is_same r.file f) && is_same r.key k)) (other_unit u v r.unit apart own)
covers_own u v (Write f k d) apart r own = refl
covers_own u v (DeleteGeneric f p) apart r own = ap (λ b. not ((b && is_same r.file f) && has_prefix p r.key)) (other_unit u v r.unit apart own)
covers_own u v (ReadUpdate f k) apart r own = refl
covers_own u v (TsWrite q d) apart r own = refl
covers_own u v (TsRewrite q n d) apart r own = refl
covers_own u v (TsDelete q) apart r own = refl
covers_own u v (TdWrite q d) apart r own = refl
covers_own u v (TdRead q) apart r own = refl
covers_own u v (TdDelete q) apart r own = refl

-- and opens none
read_at-opened : (u v : ℕ) (f : Bytes) (op : Op) → u ≢ v → (xs : List UpdateRead) → read_at (opened u op xs) v f ≡ read_at xs v f
read_at-opened u v f (ReadUpdate g k) apart xs = read_at-with_read (record { unit = u; file = g; key = k }) v f (ne_eqb u v apart) xs
read_at-opened u v f _ apart xs = refl

read_at-reads_after : (u v : ℕ) (f : Bytes) (op : Op) (c : Condition) (xs : List UpdateRead) → u ≢ v → read_at (reads_after u op c xs) v f ≡ read_at xs v f
read_at-reads_after u v f op c xs apart =
    elim (is_normal c) as (λ b. read_at (cond b (opened u op (filter (λ r. not (covers u op r)) xs)) xs) v f ≡ read_at xs v f) [
      | true ↦
          read_at-opened u v f op apart (filter (λ r. not (covers u op r)) xs)
          ∙ read_at-filter (λ r. not (covers u op r)) v f (covers_own u v op apart) xs
      | false ↦ refl
    ]

-- ---- Units that begin

-- a unit has begun and not ended, by the outcomes
abbrev pub lives : List UnitState → ℕ → Bool
lives outs v = nat_lt v (length outs) && is_open (outcome_of outs v)

pub begun : (s : UnitsState) (v : ℕ) → is_live s v ≡ true → v < length s.outcomes
begun s v live = ltb-true v (length s.outcomes) (and_parts (nat_lt v (length s.outcomes)) (is_open (outcome_of s.outcomes v)) live).0

pub lives_with : (u : Option ℕ) (outs : List UnitState) (v : ℕ) → lives outs v ≡ true → lives (outcomes_with u outs) v ≡ true
lives_with None outs v live =
    let parts = and_parts (nat_lt v (length outs)) (is_open (outcome_of outs v)) live in
    let below : v < length outs = ltb-true v (length outs) parts.0 in
    and_from _ _ (lt-ltb v (length (outs ++ Open ∷ [])) (omega (arith, length-append outs (Open ∷ [])))) (ap is_open (outcome_of-push outs v) ∙ parts.1)
lives_with (Some u) outs v live = live

-- the unit that acts is open
pub acting_lives : (s : UnitsState) (u : Option ℕ) → may_act s u ≡ true → lives (outcomes_with u s.outcomes) (unit_or_next u s.outcomes) ≡ true
acting_lives s None acts =
    and_from _ _ (lt-ltb (length s.outcomes) (length (s.outcomes ++ Open ∷ [])) (omega (arith, length-append s.outcomes (Open ∷ []))))
    (ap is_open (outcome_of-push s.outcomes (length s.outcomes)) ∙ acting_open s None refl)
acting_lives s (Some u) acts = acts

-- and is no other that has begun
pub acting_other : (s : UnitsState) (u : Option ℕ) (v : ℕ) → (u ≡ Some v → ⊥) → is_live s v ≡ true → unit_or_next u s.outcomes ≢ v
acting_other s None v other live = λ e. let below : v < length s.outcomes = begun s v live in omega arith
acting_other s (Some u) v other live = λ e. other (ap Some e)

-- ---- The steps

-- a command that is executed
pub entered_leaves : (s : UnitsState) (u : Option ℕ) (op : Op) (a : Answer) → LeavesOthers s (entered s u op a) u
entered_leaves s u op a = record {
  opening = refl;
  live = λ v other live. lives_with u s.outcomes v live;
  reads = λ v f other live. read_at-reads_after (unit_or_next u s.outcomes) v f op a.condition s.reads (acting_other s u v other live);
}

-- ENQ that acquires its value
pub counted_leaves : (s : UnitsState) (u : Option ℕ) (counts : List EnqCount) → LeavesOthers s (with_counts s (outcomes_with u s.outcomes) counts) u
counted_leaves s u counts = record {
  opening = refl;
  live = λ v other live. lives_with u s.outcomes v live;
  reads = λ v f other live. refl;
}

-- DEQ
pub dequeued_leaves : (s : UnitsState) (u : ℕ) (value : Bytes) → LeavesOthers s (after_dequeue s u value) (Some u)
dequeued_leaves s u value = record { opening = refl; live = λ v other live. live; reads = λ v f other live. refl }

-- UNLOCK
pub unlocked_leaves : (s : UnitsState) (u : ℕ) (f : Bytes) → LeavesOthers s (after_unlock s u f) (Some u)
unlocked_leaves s u f = record {
  opening = refl;
  live = λ v other live. live;
  reads = λ v g other live.
      read_at-filter (λ r. not (is_read_of u f r)) v g
      (λ r own. ap (λ b. not (b && is_same r.file f)) (other_unit u v r.unit (λ e. other (ap Some e)) own)) s.reads;
}

-- READQ TS moves the NEXT cursor of a queue alone
pub item_read_is : (P : UnitsState → Type 0) (s : UnitsState) (q : Bytes) (item : ℕ) → P s →
    P (record { opening = s.opening; trace = s.trace; outcomes = s.outcomes; commits = s.commits; reads = s.reads; counts = s.counts; next = with_value q item s.next }) → P (after_ts_reading s q item)
item_read_is P s q item stays moved =
    elim (has_item (ts_queue (store_of s) q) item) as
    (λ b. P (cond b (record { opening = s.opening; trace = s.trace; outcomes = s.outcomes; commits = s.commits; reads = s.reads; counts = s.counts; next = with_value q item s.next }) s)) [
      | true ↦ moved
      | false ↦ stays
    ]

pub item_read_leaves : (s : UnitsState) (u : Option ℕ) (q : Bytes) (item : ℕ) → LeavesOthers s (after_ts_reading s q item) u
item_read_leaves s u q item =
    item_read_is (λ n. LeavesOthers s n u) s q item (leaves_all s u) (record { opening = refl; live = λ v other live. live; reads = λ v f other live. refl })

pub item_read_live : (s : UnitsState) (q : Bytes) (item v : ℕ) → is_live s v ≡ true → is_live (after_ts_reading s q item) v ≡ true
item_read_live s q item v live = item_read_is (λ n. is_live n v ≡ true) s q item live live

-- the end of a unit
ended_leaves : (s : UnitsState) (u : ℕ) (outcome : UnitState) → LeavesOthers s (after_end s u outcome) (Some u)
ended_leaves s u outcome = record {
  opening = refl;
  live = λ v other live.
      let parts = and_parts (nat_lt v (length s.outcomes)) (is_open (outcome_of s.outcomes v)) live in
      and_from _ _ (ap (nat_lt v) (length-set s.outcomes u outcome) ∙ parts.0)
      (ap is_open (outcome_of-set s.outcomes u v outcome (λ e. other (ap Some (sym e)))) ∙ parts.1);
  reads = λ v f other live.
      read_at-filter (λ r. not (r.unit == u)) v f (λ r own. ap not (other_unit u v r.unit (λ e. other (ap Some e)) own)) s.reads;
}

-- the end of a task's unit, if it has one
pub closed_leaves : (s : UnitsState) (u : Option ℕ) (outcome : UnitState) → LeavesOthers s (units_after s u outcome) u
closed_leaves s None outcome = leaves_all s None
closed_leaves s (Some u) outcome = ended_leaves s u outcome
