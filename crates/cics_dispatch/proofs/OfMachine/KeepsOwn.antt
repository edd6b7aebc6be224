-- Recovery: a command that releases nothing leaves its own unit what it owns, and perhaps more.
use Rattle.std.specs.Prelude.{◌≡◌, ℕ, ◌+◌, ◌==◌, Bool, true, false, not, cond, if◌then◌else◌, ◌&&◌, Option, List, [], ◌∷◌, ◌++◌, filter, flat_map, refl}
use Rattle.std.specs.List.{list_any}
use Rattle.std.proofs.Common.{inl, inr, sym, ap, ◌∙◌, subst}
use Rattle.std.proofs.lemmas.Bool.{false≢true, and_parts, or_cases, or_left, or_right, eqb-true}
use Rattle.std.proofs.lemmas.List.Folds.{list_any-append}
use Rattle.cics_names.specs.Keyed.{Bytes, is_same, is_below}
use Rattle.cics_names.specs.KeyedLaws.{is_same-eq}
use Rattle.cics_names.specs.declared.conditions.Condition.{Condition}
use Rattle.cics_ksds.specs.Prefixes.{has_prefix}
use Rattle.cics_history.specs.Resources.{bytes_of}
use Rattle.cics_history.specs.declared.resources.Resource.{Resource}
use Rattle.cics_history.specs.declared.resources.Resource.TheVariants.{FileKey, User}
use Rattle.cics_history.specs.State.{OpeningState, file_recoverable, UnitsState, UpdateRead, EnqCount}
use Rattle.cics_history.specs.Store.{is_normal}
use Rattle.cics_history.specs.Headline.{outcome_of, is_open}
use Rattle.cics_history.specs.Holding.{held_by_entry, held_by_read, held_by_count, held_by}
use Rattle.cics_history.specs.Execution.{unit_or_next, outcomes_with, is_read_of, is_read_before, with_read, covers, opened, reads_after, entered, is_count, counted, with_counts, after_unlock, after_ts_reading}
use Rattle.cics_history.specs.Events.{is_live}
use Rattle.cics_history.specs.declared.ops.Op.{Op}
use Rattle.cics_history.specs.declared.ops.Op.TheVariants.{Write, Rewrite, Delete, DeleteGeneric, ReadUpdate, TsWrite, TsRewrite, TsDelete, TdWrite, TdRead, TdDelete}
use Rattle.cics_history.specs.declared.ops.Answer.{Answer}
use Rattle.cics_history.proofs.Outcomes.{outcome_of-with}
use Rattle.cics_history.proofs.Waiting.{any_flat_map}
use Rattle.cics_history.proofs.Holders.{any_if}
use Rattle.cics_dispatch.proofs.OfMachine.OtherUnits.{lives_with, item_read_is}

-- an open unit is open yet, and what it owns passes a test yet
pub record Keeps (old new : UnitsState) (v : ℕ) : Type 0 where
  pub live : is_live old v ≡ true → is_live new v ≡ true
  pub held : (p : Resource → Bool) → list_any p (held_by old v) ≡ true → list_any p (held_by new v) ≡ true

pub keeps_same : (s : UnitsState) (v : ℕ) → Keeps s s v
keeps_same s v = record { live = λ live. live; held = λ p has. has }

-- ---- Lists

-- one of three parts passes a test, and does so in greater parts
parts_more : (p : Resource → Bool) (rs bs cs ds es fs : List Resource) → (list_any p rs ≡ true → list_any p ds ≡ true) → (list_any p bs ≡ true → list_any p es ≡ true) →
    (list_any p cs ≡ true → list_any p fs ≡ true) → list_any p (rs ++ bs ++ cs) ≡ true → list_any p (ds ++ es ++ fs) ≡ true
parts_more p rs bs cs ds es fs first second third has =
    list_any-append p (ds ++ es) fs
    ∙ elim (or_cases (list_any p (rs ++ bs)) (list_any p cs) (sym (list_any-append p (rs ++ bs) cs) ∙ has)) [
      | inl front ↦ or_left _ _ (
          list_any-append p ds es
          ∙ elim (or_cases (list_any p rs) (list_any p bs) (sym (list_any-append p rs bs) ∙ front)) [
            | inl r ↦ or_left _ _ (first r)
            | inr b ↦ or_right _ _ (second b)
          ])
      | inr c ↦ or_right _ _ (third c)
    ]

module _ {X : Type 0} (f : X → List Resource) (p : Resource → Bool) where
  abbrev gives : X → Bool
  gives x = list_any p (f x)

  -- one more, last of all
  more_last : (x : X) (xs : List X) → list_any p (flat_map f xs) ≡ true → list_any p (flat_map f (xs ++ x ∷ [])) ≡ true
  more_last x xs has =
      any_flat_map f p (xs ++ x ∷ []) ∙ list_any-append gives xs (x ∷ []) ∙ or_left _ _ (sym (any_flat_map f p xs) ∙ has)

  -- a test of the first, or of the others
  more_head : (x : X) (xs ys : List X) → (list_any p (flat_map f xs) ≡ true → list_any p (flat_map f ys) ≡ true) → list_any p (flat_map f (x ∷ xs)) ≡ true →
      list_any p (flat_map f (x ∷ ys)) ≡ true
  more_head x xs ys more has =
      list_any-append p (f x) (flat_map f ys)
      ∙ elim (or_cases (list_any p (f x)) (list_any p (flat_map f xs)) (sym (list_any-append p (f x) (flat_map f xs)) ∙ has)) [
        | inl own ↦ or_left _ _ own
        | inr rest ↦ or_right _ _ (more rest)
      ]

  -- one more, first of all
  more_first : (x : X) (xs : List X) → list_any p (flat_map f xs) ≡ true → list_any p (flat_map f (x ∷ xs)) ≡ true
  more_first x xs has = list_any-append p (f x) (flat_map f xs) ∙ or_right _ _ has

  -- without some that give nothing
  less_nothing : (q : X → Bool) → ((x : X) → q x ≡ false → f x ≡ []) → (xs : List X) → list_any p (flat_map f xs) ≡ true → list_any p (flat_map f (filter q xs)) ≡ true
  less_nothing q none [] has = has
  less_nothing q none (x ∷ xs) has =
      elim (q x) as (λ b. q x ≡ b → list_any p (flat_map f (cond b (x ∷ filter q xs) (filter q xs))) ≡ true) [
        | true ↦ λ is. more_head x xs (filter q xs) (less_nothing q none xs) has
        | false ↦ λ is. less_nothing q none xs (subst (λ r. list_any p (r ++ flat_map f xs) ≡ true) (none x is) has)
      ] refl

-- an update read more
more_read : (f : UpdateRead → List Resource) (p : Resource → Bool) (r : UpdateRead) (xs : List UpdateRead) → list_any p (flat_map f xs) ≡ true →
    list_any p (flat_map f (with_read r xs)) ≡ true
more_read f p r [] has = absurd (false≢true has)
more_read f p r (x ∷ xs) has =
    elim (is_read_before r x) as (λ b. list_any p (flat_map f (cond b (r ∷ x ∷ xs) (x ∷ with_read r xs))) ≡ true) [
      | true ↦ more_first f p r (x ∷ xs) has
      | false ↦ more_head f p x xs (with_read r xs) (more_read f p r xs) has
    ]

-- ---- What a command releases

-- a command ends update reads of recoverable files alone, by which nothing is owned
abbrev pub gives_up_nothing : OpeningState → Op → Bool
gives_up_nothing o (Rewrite f k d) = file_recoverable o f
gives_up_nothing o (Delete f k) = file_recoverable o f
gives_up_nothing o (DeleteGeneric f p) = file_recoverable o f
gives_up_nothing o _ = true

-- by an update read of a recoverable file nothing is owned
read_recoverable : (o : OpeningState) (v : ℕ) (r : UpdateRead) (f : Bytes) → is_same r.file f ≡ true → file_recoverable o f ≡ true → held_by_read o v r ≡ []
read_recoverable o v r f same recoverable = by (r.unit == v) (ap (file_recoverable o) (is_same-eq r.file f same) ∙ recoverable)
  where
    by : (b : Bool) → file_recoverable o r.file ≡ true → (if b && not (file_recoverable o r.file) then FileKey r.file (bytes_of r.key) ∷ [] else []) ≡ []
    by true is = ap (λ c. if not c then FileKey r.file (bytes_of r.key) ∷ [] else []) is
    by false is = refl

opposite : (b : Bool) → not b ≡ false → b ≡ true
opposite true is = refl
opposite false is = cc

covered_nothing : (o : OpeningState) (u v : ℕ) (op : Op) → gives_up_nothing o op ≡ true → (r : UpdateRead) → not (covers u op r) ≡ false → held_by_read o v r ≡ []
covered_nothing o u v (Rewrite f k d) keeps r is =
    let own = and_parts (is_read_of u f r) (is_same r.key k) (opposite _ is) in
    read_recoverable o v r f (and_parts (r.unit == u) (is_same r.file f) own.0).1 keeps
covered_nothing o u v (Delete f k) keeps r is =
    let own = and_parts (is_read_of u f r) (is_same r.key k) (opposite _ is) in
    read_recoverable o v r f (and_parts (r.unit == u) (is_same r.file f) own.0).1 keeps
covered_nothing o u v (DeleteGeneric f p) keeps r is =
    let own = and_parts (is_read_of u f r) (has_prefix p r.key) (opposite _ is) in
    read_recoverable o v r f (and_parts (r.unit == u) (is_same r.file f) own.0).1 keeps
covered_nothing o u v (Write f k d) keeps r is = cc
covered_nothing o u v (ReadUpdate f k) keeps r is = cc
covered_nothing o u v (TsWrite q d) keeps r is = cc
covered_nothing o u v (TsRewrite q n d) keeps r is = cc
covered_nothing o u v (TsDelete q) keeps r is = cc
covered_nothing o u v (TdWrite q d) keeps r is = cc
covered_nothing o u v (TdRead q) keeps r is = cc
covered_nothing o u v (TdDelete q) keeps r is = cc

reads_opened : (o : OpeningState) (u v : ℕ) (op : Op) (p : Resource → Bool) (xs : List UpdateRead) → list_any p (flat_map (held_by_read o v) xs) ≡ true →
    list_any p (flat_map (held_by_read o v) (opened u op xs)) ≡ true
reads_opened o u v (ReadUpdate f k) p xs has = more_read (held_by_read o v) p (record { unit = u; file = f; key = k }) xs has
reads_opened o u v _ p xs has = has

reads_kept : (o : OpeningState) (u v : ℕ) (op : Op) (c : Condition) (p : Resource → Bool) (xs : List UpdateRead) → gives_up_nothing o op ≡ true →
    list_any p (flat_map (held_by_read o v) xs) ≡ true → list_any p (flat_map (held_by_read o v) (reads_after u op c xs)) ≡ true
reads_kept o u v op c p xs keeps has =
    elim (is_normal c) as (λ b. list_any p (flat_map (held_by_read o v) (cond b (opened u op (filter (λ r. not (covers u op r)) xs)) xs)) ≡ true) [
      | true ↦
          reads_opened o u v op p (filter (λ r. not (covers u op r)) xs)
          (less_nothing (held_by_read o v) p (λ r. not (covers u op r)) (covered_nothing o u v op keeps) xs has)
      | false ↦ has
    ]

-- a count more
counts_kept : (u v : ℕ) (value : Bytes) (p : Resource → Bool) (cs : List EnqCount) → list_any p (flat_map (held_by_count v) cs) ≡ true →
    list_any p (flat_map (held_by_count v) (counted cs u value)) ≡ true
counts_kept u v value p [] has = absurd (false≢true has)
counts_kept u v value p (c ∷ cs) has =
    elim (is_count u value c) as
    (λ b. is_count u value c ≡ b →
    list_any p (flat_map (held_by_count v) (cond b (record { value = c.value; unit = u; count = c.count + 1 } ∷ cs)
    (cond (is_below value c.value) (record { value = value; unit = u; count = 1 } ∷ c ∷ cs) (c ∷ counted cs u value)))) ≡ true) [
      | true ↦ λ is.
          let own : c.unit ≡ u = eqb-true c.unit u (and_parts _ _ is).0 in
          subst (λ n. list_any p ((if n == v then User (bytes_of c.value) ∷ [] else []) ++ flat_map (held_by_count v) cs) ≡ true) own has
      | false ↦ λ is.
          elim (is_below value c.value) as
          (λ b. list_any p (flat_map (held_by_count v) (cond b (record { value = value; unit = u; count = 1 } ∷ c ∷ cs) (c ∷ counted cs u value))) ≡ true) [
            | true ↦ more_first (held_by_count v) p (record { value = value; unit = u; count = 1 }) (c ∷ cs) has
            | false ↦ more_head (held_by_count v) p c cs (counted cs u value) (counts_kept u v value p cs) has
          ]
    ] refl

-- ---- The steps

-- a unit that is as open as it was, and has at least what it had
has_yet : (old new : UnitsState) (v : ℕ) → (is_live old v ≡ true → is_live new v ≡ true) → outcome_of new.outcomes v ≡ outcome_of old.outcomes v →
    ((p : Resource → Bool) → list_any p (flat_map (held_by_entry old.opening v) old.trace) ≡ true → list_any p (flat_map (held_by_entry new.opening v) new.trace) ≡ true) →
    ((p : Resource → Bool) → list_any p (flat_map (held_by_read old.opening v) old.reads) ≡ true → list_any p (flat_map (held_by_read new.opening v) new.reads) ≡ true) →
    ((p : Resource → Bool) → list_any p (flat_map (held_by_count v) old.counts) ≡ true → list_any p (flat_map (held_by_count v) new.counts) ≡ true) → Keeps old new v
has_yet old new v live outcome entries reads counts = record {
  live = live;
  held = λ p has.
      let was = any_if p (is_open (outcome_of old.outcomes v)) (flat_map (held_by_entry old.opening v) old.trace ++ flat_map (held_by_read old.opening v) old.reads ++ flat_map (held_by_count v) old.counts) has in
      ap (λ b. list_any p (if b then flat_map (held_by_entry new.opening v) new.trace ++ flat_map (held_by_read new.opening v) new.reads ++ flat_map (held_by_count v) new.counts else [])) (ap is_open outcome ∙ was.0)
      ∙ parts_more p (flat_map (held_by_entry old.opening v) old.trace) (flat_map (held_by_read old.opening v) old.reads) (flat_map (held_by_count v) old.counts)
      (flat_map (held_by_entry new.opening v) new.trace) (flat_map (held_by_read new.opening v) new.reads) (flat_map (held_by_count v) new.counts) (entries p) (reads p) (counts p) was.1;
}

-- a command that is executed
pub entered_keeps : (s : UnitsState) (u : Option ℕ) (v : ℕ) (op : Op) (a : Answer) → gives_up_nothing s.opening op ≡ true → Keeps s (entered s u op a) v
entered_keeps s u v op a keeps =
    has_yet s (entered s u op a) v (lives_with u s.outcomes v) (outcome_of-with u s.outcomes v)
    (λ p. more_last (held_by_entry s.opening v) p (record { unit = unit_or_next u s.outcomes; op = op; answer = a }) s.trace)
    (λ p. reads_kept s.opening (unit_or_next u s.outcomes) v op a.condition p s.reads keeps) (λ p has. has)

-- ENQ that acquires its value
pub counted_keeps : (s : UnitsState) (u : Option ℕ) (v : ℕ) (value : Bytes) → Keeps s (with_counts s (outcomes_with u s.outcomes) (counted s.counts (unit_or_next u s.outcomes) value)) v
counted_keeps s u v value =
    has_yet s (with_counts s (outcomes_with u s.outcomes) (counted s.counts (unit_or_next u s.outcomes) value)) v (lives_with u s.outcomes v) (outcome_of-with u s.outcomes v) (λ p has. has) (λ p has. has)
    (λ p. counts_kept (unit_or_next u s.outcomes) v value p s.counts)

-- READQ TS
pub item_read_keeps : (s : UnitsState) (v : ℕ) (q : Bytes) (item : ℕ) → Keeps s (after_ts_reading s q item) v
item_read_keeps s v q item =
    item_read_is (λ n. Keeps s n v) s q item (keeps_same s v) (record { live = λ live. live; held = λ p has. has })

-- UNLOCK of a recoverable file
pub unlocked_keeps : (s : UnitsState) (u v : ℕ) (f : Bytes) → file_recoverable s.opening f ≡ true → Keeps s (after_unlock s u f) v
unlocked_keeps s u v f recoverable =
    has_yet s (after_unlock s u f) v (λ live. live) refl (λ p has. has)
    (λ p. less_nothing (held_by_read s.opening v) p (λ r. not (is_read_of u f r))
    (λ r is. read_recoverable s.opening v r f (and_parts (r.unit == u) (is_same r.file f) (opposite _ is)).1 recoverable) s.reads) (λ p has. has)
