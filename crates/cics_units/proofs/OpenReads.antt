-- The rows of the units, and the list of update reads that they show.
use Rattle.std.specs.Prelude.{◌≡◌, ◌<◌, ◌+◌, ℕ, zero, suc, Bool, true, false, cond, not, ◌==◌, ◌&&◌, ◌||◌, nat_lt, Option, Some, None, List, [], ◌∷◌, ◌++◌, filter, set, refl}
use Rattle.std.proofs.Common.{sym, ap, ◌∙◌, arith}
use Rattle.std.proofs.lemmas.Bool.{lt-ltb, le-ltb, ne_eqb, eq-eqb}
use Rattle.std.specs.declared.cmp.Ordering.TheVariants.{Less, Equal, Greater}
use Rattle.std.specs.FinMap.Entries.{by_order}
use Rattle.std.specs.Ordering.{is_lt, is_eq}
use Rattle.std.specs.List.{slice_get, flat_map}
use Rattle.std.specs.Option.{unwrap_or}
use Rattle.cics_names.specs.Keyed.{Bytes, Map, bytes_cmp, is_same, is_below, value_at, with_value, without}
use Rattle.cics_names.specs.RisingLaws.{is_same-turned}
use Rattle.cics_names.specs.Stamps.{number_stamp, item_stamp, list_stamp}
use Rattle.cics_history.specs.State.{UpdateRead}
use Rattle.cics_history.specs.Execution.{is_read_of, read_at, with_read}
use Rattle.cics_history.specs.Stamps.{read_stamp, record_stamp}
use Rattle.cics_units.specs.OpenReads.{reads_of, reads_from}

abbrev Rows : Type 0
Rows = List (Map Bytes)

abbrev read : ℕ → Bytes → Bytes → UpdateRead
read u f k = record { unit = u; file = f; key = k }

not_own : (u v : ℕ) → u < v → (v == u) ≡ false
not_own u v below = ne_eqb v u (λ e. omega arith)

not_own_before : (u v : ℕ) → v < u → (v == u) ≡ false
not_own_before u v below = ne_eqb v u (λ e. omega arith)

-- ---- reads of other units

-- a test that the reads of other units pass
abbrev PassOthers : ℕ → (UpdateRead → Bool) → Type 0
PassOthers u p = (r : UpdateRead) → (r.unit == u) ≡ false → p r ≡ true

others_file : (u : ℕ) (f : Bytes) → PassOthers u (λ r. not (is_read_of u f r))
others_file u f r e = ap (λ b. not (b && is_same r.file f)) e

others_unit : (u : ℕ) → PassOthers u (λ r. not (r.unit == u))
others_unit u r e = ap not e

read_at-skip : (u v : ℕ) (f : Bytes) (es : Map Bytes) (rest : List UpdateRead) → (v == u) ≡ false →
    read_at (reads_of v es ++ rest) u f ≡ read_at rest u f
read_at-skip u v f [] rest other = refl
read_at-skip u v f (e ∷ es) rest other =
    ap (λ b. cond (b && is_same e.0 f) (Some e.1) (read_at (reads_of v es ++ rest) u f)) other ∙ read_at-skip u v f es rest other

filter-skip : (u v : ℕ) (p : UpdateRead → Bool) → PassOthers u p → (es : Map Bytes) (rest : List UpdateRead) → (v == u) ≡ false →
    filter p (reads_of v es ++ rest) ≡ reads_of v es ++ filter p rest
filter-skip u v p pass [] rest other = refl
filter-skip u v p pass (e ∷ es) rest other =
    ap (λ b. cond b (read v e.0 e.1 ∷ filter p (reads_of v es ++ rest)) (filter p (reads_of v es ++ rest))) (pass (read v e.0 e.1) other)
    ∙ ap (λ r. read v e.0 e.1 ∷ r) (filter-skip u v p pass es rest other)

not_before : (u v : ℕ) (b : Bool) → v < u → (nat_lt u v || ((u == v) && b)) ≡ false
not_before u v b below =
    let past : nat_lt u v ≡ false = le-ltb u v (omega arith) in
    let apart : (u == v) ≡ false = ne_eqb u v (λ e. omega arith) in
    rw (past, apart) refl

with_read-skip : (u v : ℕ) (f k : Bytes) (es : Map Bytes) (rest : List UpdateRead) → v < u →
    with_read (read u f k) (reads_of v es ++ rest) ≡ reads_of v es ++ with_read (read u f k) rest
with_read-skip u v f k [] rest below = refl
with_read-skip u v f k (e ∷ es) rest below =
    ap (λ b. cond b (read u f k ∷ read v e.0 e.1 ∷ (reads_of v es ++ rest)) (read v e.0 e.1 ∷ with_read (read u f k) (reads_of v es ++ rest))) (not_before u v (is_below f e.0) below)
    ∙ ap (λ r. read v e.0 e.1 ∷ r) (with_read-skip u v f k es rest below)

-- ---- rows of later units

read_at-later : (u : ℕ) (f : Bytes) (n : ℕ) (rows : Rows) → u < n → read_at (reads_from n rows) u f ≡ None
read_at-later u f n [] below = refl
read_at-later u f n (row ∷ rows) below =
    read_at-skip u n f row (reads_from (suc n) rows) (not_own u n below) ∙ read_at-later u f (suc n) rows (omega (arith, below))

filter-later : (u : ℕ) (p : UpdateRead → Bool) → PassOthers u p → (n : ℕ) (rows : Rows) → u < n → filter p (reads_from n rows) ≡ reads_from n rows
filter-later u p pass n [] below = refl
filter-later u p pass n (row ∷ rows) below =
    filter-skip u n p pass row (reads_from (suc n) rows) (not_own u n below)
    ∙ ap (λ r. reads_of n row ++ r) (filter-later u p pass (suc n) rows (omega (arith, below)))

with_read-later : (u : ℕ) (f k : Bytes) (n : ℕ) (rows : Rows) → u < n → with_read (read u f k) (reads_from n rows) ≡ read u f k ∷ reads_from n rows
with_read-later u f k n [] below = refl
with_read-later u f k n ([] ∷ rows) below = with_read-later u f k (suc n) rows (omega (arith, below))
with_read-later u f k n ((e ∷ es) ∷ rows) below =
    let rest = reads_of n es ++ reads_from (suc n) rows in
    ap (λ b. cond (b || ((u == n) && is_below f e.0)) (read u f k ∷ read n e.0 e.1 ∷ rest) (read n e.0 e.1 ∷ with_read (read u f k) rest)) (lt-ltb u n below)

-- ---- reads of the unit itself

own_read : (u : ℕ) (f g : Bytes) → ((u == u) && is_same g f) ≡ is_same f g
own_read u f g = ap (λ b. b && is_same g f) (eq-eqb u u refl) ∙ is_same-turned g f

own_before : (u : ℕ) (b : Bool) → (nat_lt u u || ((u == u) && b)) ≡ b
own_before u b =
    let past : nat_lt u u ≡ false = le-ltb u u (omega arith) in
    let own : (u == u) ≡ true = eq-eqb u u refl in
    rw (past, own) refl

read_at-own : (u : ℕ) (f : Bytes) (es : Map Bytes) (rest : List UpdateRead) → read_at rest u f ≡ None →
    read_at (reads_of u es ++ rest) u f ≡ value_at f es
read_at-own u f [] rest later = later
read_at-own u f (e ∷ es) rest later =
    ap (λ b. cond b (Some e.1) (read_at (reads_of u es ++ rest) u f)) (own_read u f e.0)
    ∙ ap (cond (is_same f e.0) (Some e.1)) (read_at-own u f es rest later)

closed-own : (u : ℕ) (f : Bytes) (es : Map Bytes) (rest : List UpdateRead) → filter (λ r. not (is_read_of u f r)) rest ≡ rest →
    filter (λ r. not (is_read_of u f r)) (reads_of u es ++ rest) ≡ reads_of u (without f es) ++ rest
closed-own u f [] rest later = later
closed-own u f (e ∷ es) rest later =
    ap (λ b. cond (not b) (read u e.0 e.1 ∷ left) left) (own_read u f e.0)
    ∙ elim (is_same f e.0) as (λ b. cond (not b) (read u e.0 e.1 ∷ left) left ≡ reads_of u (cond (not b) (e ∷ without f es) (without f es)) ++ rest) [
      | true ↦ closed-own u f es rest later
      | false ↦ ap (λ r. read u e.0 e.1 ∷ r) (closed-own u f es rest later)
    ]
  where
    left : List UpdateRead
    left = filter (λ r. not (is_read_of u f r)) (reads_of u es ++ rest)

opened-own : (u : ℕ) (f k : Bytes) (es : Map Bytes) (rest : List UpdateRead) → value_at f es ≡ None → with_read (read u f k) rest ≡ read u f k ∷ rest →
    with_read (read u f k) (reads_of u es ++ rest) ≡ reads_of u (with_value f k es) ++ rest
opened-own u f k [] rest absent later = later
opened-own u f k (e ∷ es) rest absent later =
    ap (λ b. cond b (read u f k ∷ read u e.0 e.1 ∷ (reads_of u es ++ rest)) (read u e.0 e.1 ∷ with_read (read u f k) (reads_of u es ++ rest))) (own_before u (is_below f e.0))
    ∙ elim (bytes_cmp f e.0) as (λ o. cond (is_eq o) (Some e.1) (value_at f es) ≡ None →
    cond (is_lt o) (read u f k ∷ read u e.0 e.1 ∷ (reads_of u es ++ rest)) (read u e.0 e.1 ∷ with_read (read u f k) (reads_of u es ++ rest))
    ≡ reads_of u (by_order o ((f, k) ∷ e ∷ es) ((e.0, k) ∷ es) (e ∷ with_value f k es)) ++ rest) [
      | Less ↦ λ none. refl
      | Equal ↦ λ none. let wrong : Some e.1 ≡ None = none in cc
      | Greater ↦ λ none. ap (λ r. read u e.0 e.1 ∷ r) (opened-own u f k es rest none later)
    ] absent

ended-own : (u : ℕ) (es : Map Bytes) (rest : List UpdateRead) → filter (λ r. not (r.unit == u)) rest ≡ rest →
    filter (λ r. not (r.unit == u)) (reads_of u es ++ rest) ≡ rest
ended-own u [] rest later = later
ended-own u (e ∷ es) rest later =
    ap (λ b. cond (not b) (read u e.0 e.1 ∷ left) left) (eq-eqb u u refl) ∙ ended-own u es rest later
  where
    left : List UpdateRead
    left = filter (λ r. not (r.unit == u)) (reads_of u es ++ rest)

-- ---- the rows, the first of which is that of unit n

-- one more row, that is empty
pub one_more_row : (n : ℕ) (rows : Rows) → reads_from n (rows ++ [] ∷ []) ≡ reads_from n rows
one_more_row n [] = refl
one_more_row n (row ∷ rows) = ap (λ r. reads_of n row ++ r) (one_more_row (suc n) rows)

-- the key of a unit's read in a file, which is in its row if it has one
read_in_row : (u : ℕ) (f : Bytes) (n i : ℕ) (rows : Rows) → u ≡ n + i → read_at (reads_from n rows) u f ≡ value_at f (unwrap_or (slice_get rows i) [])
read_in_row u f n i [] e = refl
read_in_row u f n zero (row ∷ rows) e =
    let own : u ≡ n = omega (arith, e) in
    ap (λ v. read_at (reads_from n (row ∷ rows)) v f) own ∙ read_at-own n f row (reads_from (suc n) rows) (read_at-later n f (suc n) rows (omega arith))
read_in_row u f n (suc i) (row ∷ rows) e =
    read_at-skip u n f row (reads_from (suc n) rows) (not_own_before u n (omega (arith, e))) ∙ read_in_row u f (suc n) i rows (omega (arith, e))

-- a change that leaves the units before alone
module _ (u : ℕ) (change : List UpdateRead → List UpdateRead)
    (skips : (v : ℕ) (es : Map Bytes) (rest : List UpdateRead) → v < u → change (reads_of v es ++ rest) ≡ reads_of v es ++ change rest) where
  -- it changes one row
  in_row : (old new : Map Bytes) →
      ((rows : Rows) → change (reads_of u old ++ reads_from (suc u) rows) ≡ reads_of u new ++ reads_from (suc u) rows) →
      (n i : ℕ) (rows : Rows) → u ≡ n + i → slice_get rows i ≡ Some old →
      reads_from n (set rows i new) ≡ change (reads_from n rows)
  in_row old new here n i [] e there = let wrong : None ≡ Some old = there in cc
  in_row old new here n zero (row ∷ rows) e there =
      let own : n ≡ u = omega (arith, e) in
      let is : old ≡ row = cc in
      ap (λ v. reads_of v new ++ reads_from (suc v) rows) own ∙ sym (here rows)
      ∙ (λ i. change (reads_of (sym own i) (is i) ++ reads_from (suc (sym own i)) rows))
  in_row old new here n (suc i) (row ∷ rows) e there =
      ap (λ r. reads_of n row ++ r) (in_row old new here (suc n) i rows (omega (arith, e)) there)
      ∙ sym (skips n row (reads_from (suc n) rows) (omega (arith, e)))

  -- it changes nothing if the unit has no row
  without_row : change [] ≡ [] → (n i : ℕ) (rows : Rows) → u ≡ n + i → slice_get rows i ≡ None → reads_from n rows ≡ change (reads_from n rows)
  without_row none n i [] e past = sym none
  without_row none n zero (row ∷ rows) e past = let wrong : Some row ≡ None = past in cc
  without_row none n (suc i) (row ∷ rows) e past =
      ap (λ r. reads_of n row ++ r) (without_row none (suc n) i rows (omega (arith, e)) past)
      ∙ sym (skips n row (reads_from (suc n) rows) (omega (arith, e)))

-- ---- what a unit's row tells of the value

module _ (n u : ℕ) (f : Bytes) (rows : Rows) (now : List UpdateRead) (number : n ≡ u) (view : reads_from 0 rows ≡ now) where
  pub read_now : (o : Option (Map Bytes)) → slice_get rows n ≡ o → value_at f (unwrap_or o []) ≡ read_at now u f
  read_now o there =
      ap (λ o. value_at f (unwrap_or o [])) (sym there) ∙ sym (read_in_row n f 0 n rows (omega arith)) ∙ (λ i. read_at (view i) (number i) f)

  pub opened_now : (k : Bytes) (row new : Map Bytes) → slice_get rows n ≡ Some row → value_at f row ≡ None → new ≡ with_value f k row →
      reads_from 0 (set rows n new) ≡ with_read (record { unit = u; file = f; key = k }) now
  opened_now k row new there absent more =
      in_row n (with_read (read n f k)) (λ v es rest below. with_read-skip n v f k es rest below) row new
      (λ rows. opened-own n f k row (reads_from (suc n) rows) absent (with_read-later n f k (suc n) rows (omega arith))
      ∙ ap (λ es. reads_of n es ++ reads_from (suc n) rows) (sym more)) 0 n rows (omega arith) there
      ∙ (λ i. with_read (read (number i) f k) (view i))

-- what a test leaves that the reads of other units pass
module _ (n u : ℕ) (rows : Rows) (now : List UpdateRead) (number : n ≡ u) (view : reads_from 0 rows ≡ now)
    (test : ℕ → UpdateRead → Bool) (pass : PassOthers n (test n)) where
  skips : (v : ℕ) (es : Map Bytes) (rest : List UpdateRead) → v < n → filter (test n) (reads_of v es ++ rest) ≡ reads_of v es ++ filter (test n) rest
  skips v es rest below = filter-skip n v (test n) pass es rest (not_own_before n v below)

  left_in_row : (row new : Map Bytes) → ((rest : List UpdateRead) → filter (test n) rest ≡ rest → filter (test n) (reads_of n row ++ rest) ≡ reads_of n new ++ rest) →
      slice_get rows n ≡ Some row → reads_from 0 (set rows n new) ≡ filter (test u) now
  left_in_row row new own there =
      in_row n (filter (test n)) skips row new (λ rows. own (reads_from (suc n) rows) (filter-later n (test n) pass (suc n) rows (omega arith)))
      0 n rows (omega arith) there
      ∙ (λ i. filter (test (number i)) (view i))

  left_without : slice_get rows n ≡ None → reads_from 0 rows ≡ filter (test u) now
  left_without past = without_row n (filter (test n)) skips refl 0 n rows (omega arith) past ∙ (λ i. filter (test (number i)) (view i))

module _ (n u : ℕ) (f : Bytes) (rows : Rows) (now : List UpdateRead) (number : n ≡ u) (view : reads_from 0 rows ≡ now) where
  pub closed_now : (row new : Map Bytes) → slice_get rows n ≡ Some row → new ≡ without f row → reads_from 0 (set rows n new) ≡ filter (λ r. not (is_read_of u f r)) now
  closed_now row new there less =
      left_in_row n u rows now number view (λ v r. not (is_read_of v f r)) (others_file n f) row new
      (λ rest later. closed-own n f row rest later ∙ ap (λ es. reads_of n es ++ rest) (sym less)) there

  pub closed_without : slice_get rows n ≡ None → reads_from 0 rows ≡ filter (λ r. not (is_read_of u f r)) now
  closed_without past = left_without n u rows now number view (λ v r. not (is_read_of v f r)) (others_file n f) past

module _ (n u : ℕ) (rows : Rows) (now : List UpdateRead) (number : n ≡ u) (view : reads_from 0 rows ≡ now) where
  pub ended_now : (row new : Map Bytes) → slice_get rows n ≡ Some row → new ≡ [] → reads_from 0 (set rows n new) ≡ filter (λ r. not (r.unit == u)) now
  ended_now row new there none =
      left_in_row n u rows now number view (λ v r. not (r.unit == v)) (others_unit n) row new
      (λ rest later. ended-own n row rest later ∙ ap (λ es. reads_of n es ++ rest) (sym none)) there

  pub ended_without : slice_get rows n ≡ None → reads_from 0 rows ≡ filter (λ r. not (r.unit == u)) now
  ended_without past = left_without n u rows now number view (λ v r. not (r.unit == v)) (others_unit n) past

-- ---- the stamp of a unit's reads

-- a test of the unit leaves out the reads of another unit
own_none : (u v : ℕ) (es : Map Bytes) (rest : List UpdateRead) → (v == u) ≡ false →
    filter (λ r. r.unit == u) (reads_of v es ++ rest) ≡ filter (λ r. r.unit == u) rest
own_none u v [] rest other = refl
own_none u v (e ∷ es) rest other =
    ap (λ b. cond b (read v e.0 e.1 ∷ left) left) other ∙ own_none u v es rest other
  where
    left : List UpdateRead
    left = filter (λ r. r.unit == u) (reads_of v es ++ rest)

own_all : (u : ℕ) (es : Map Bytes) (rest : List UpdateRead) → filter (λ r. r.unit == u) rest ≡ [] →
    filter (λ r. r.unit == u) (reads_of u es ++ rest) ≡ reads_of u es
own_all u [] rest later = later
own_all u (e ∷ es) rest later =
    ap (λ b. cond b (read u e.0 e.1 ∷ left) left) (eq-eqb u u refl) ∙ ap (λ r. read u e.0 e.1 ∷ r) (own_all u es rest later)
  where
    left : List UpdateRead
    left = filter (λ r. r.unit == u) (reads_of u es ++ rest)

own_later : (u n : ℕ) (rows : Rows) → u < n → filter (λ r. r.unit == u) (reads_from n rows) ≡ []
own_later u n [] below = refl
own_later u n (row ∷ rows) below =
    own_none u n row (reads_from (suc n) rows) (not_own u n below) ∙ own_later u (suc n) rows (omega (arith, below))

-- the reads of a unit are those of its row, if it has one
own_row : (u n i : ℕ) (rows : Rows) → u ≡ n + i → filter (λ r. r.unit == u) (reads_from n rows) ≡ reads_of u (unwrap_or (slice_get rows i) [])
own_row u n i [] e = refl
own_row u n zero (row ∷ rows) e =
    let own : u ≡ n = omega (arith, e) in
    ap (λ v. filter (λ r. r.unit == v) (reads_from n (row ∷ rows))) own
    ∙ own_all n row (reads_from (suc n) rows) (own_later n (suc n) rows (omega arith)) ∙ ap (λ v. reads_of v row) (sym own)
own_row u n (suc i) (row ∷ rows) e =
    own_none u n row (reads_from (suc n) rows) (not_own_before u n (omega (arith, e))) ∙ own_row u (suc n) i rows (omega (arith, e))

-- their stamp doesn't tell the unit
reads_stamp : (u : ℕ) (es : Map Bytes) → flat_map (item_stamp read_stamp) (reads_of u es) ≡ flat_map (item_stamp record_stamp) es
reads_stamp u [] = refl
reads_stamp u (e ∷ es) = ap (λ t. item_stamp record_stamp e ++ t) (reads_stamp u es)

-- the stamp of a unit's reads is that of its row
pub row_stamp : (n u : ℕ) (rows : Rows) (now : List UpdateRead) → n ≡ u → reads_from 0 rows ≡ now → (o : Option (Map Bytes)) → slice_get rows n ≡ o →
    list_stamp record_stamp (unwrap_or o []) ≡ list_stamp read_stamp (filter (λ r. r.unit == u) now)
row_stamp n u rows now number view o there =
    sym (ap (λ o. flat_map (item_stamp read_stamp) (reads_of n (unwrap_or o [])) ++ number_stamp 0) there
    ∙ ap (λ s. s ++ number_stamp 0) (reads_stamp n (unwrap_or o [])))
    ∙ ap (list_stamp read_stamp) (sym (own_row n 0 n rows (omega arith)))
    ∙ (λ i. list_stamp read_stamp (filter (λ r. r.unit == number i) (view i)))
