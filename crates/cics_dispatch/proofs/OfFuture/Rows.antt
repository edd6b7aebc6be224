-- The rows of one unit among those of all: what filters do to them, and what a step does to update
-- reads and counts.
use Rattle.std.proofs.Common.{◌≡◌, ◌≢◌, ℕ, ◌<◌, ◌≤◌, ◌==◌, Bool, true, false, not, ◌&&◌, List, [], ◌∷◌, inl, inr, refl, ap, ◌∙◌, arith}
use Rattle.std.specs.Prelude.{filter, flat_map, nat_lt}
use Rattle.std.specs.List.{list_any}
use Rattle.std.specs.Cmp.Lexicographic.{nat_list_cmp_total}
use Rattle.std.proofs.lemmas.Bool.{cases_Bool}
use Rattle.cics_names.specs.Keyed.{Bytes, is_same, is_below}
use Rattle.cics_names.specs.KeyedLaws.{is_same-eq}
use Rattle.cics_names.specs.declared.conditions.Condition.{Condition}
use Rattle.cics_ksds.specs.Prefixes.{has_prefix}
use Rattle.cics_history.specs.State.{UpdateRead, EnqCount}
use Rattle.cics_history.specs.Store.{is_normal}
use Rattle.cics_history.specs.Execution.{read_at, is_read_before, with_read, covers, opened, reads_after, is_count, count_at, counted, uncounted}
use Rattle.cics_history.specs.declared.ops.Op.{Op}
use Rattle.cics_history.specs.declared.ops.Op.TheVariants.{Rewrite, Delete, DeleteGeneric, ReadUpdate}
use Rattle.cics_dispatch.specs.Future.Futures.{rows_of, reader, any_read, counter, any_count, AreRising, is_earlier, is_lower}

module _ {X : Type 0} (unit : X → ℕ) (bare : X → X) where
  -- rows that are the same stay so behind one more
  rows-ahead : (u : ℕ) (x : X) (xs ys : List X) → rows_of unit bare u xs ≡ rows_of unit bare u ys → rows_of unit bare u (x ∷ xs) ≡ rows_of unit bare u (x ∷ ys)
  rows-ahead u x xs ys same = grind (arith, same)

  -- a test that knows the unit's rows without its number filters them as well
  pub rows-filter : (u : ℕ) (p q : X → Bool) → ((x : X) → (unit x == u) ≡ true → p x ≡ q (bare x)) → (xs : List X) →
      rows_of unit bare u (filter p xs) ≡ filter q (rows_of unit bare u xs)
  rows-filter u p q same [] = refl
  rows-filter u p q same (x ∷ xs) = grind (arith, rows-filter u p q same xs, same x)

  -- what takes out no row of the unit leaves its rows
  pub rows-kept : (u : ℕ) (p : X → Bool) → ((x : X) → (unit x == u) ≡ true → p x ≡ true) → (xs : List X) →
      rows_of unit bare u (filter p xs) ≡ rows_of unit bare u xs
  rows-kept u p stays [] = refl
  rows-kept u p stays (x ∷ xs) = grind (arith, rows-kept u p stays xs, stays x)

  -- what the rows of a unit give, they give without its number
  pub rows-flat_map : {A : Type 0} (u : ℕ) (f g : X → List A) → ((x : X) → (unit x == u) ≡ true → f x ≡ g (bare x)) →
      ((x : X) → (unit x == u) ≡ false → f x ≡ []) → (xs : List X) → flat_map f xs ≡ flat_map g (rows_of unit bare u xs)
  rows-flat_map u f g mine theirs [] = refl
  rows-flat_map u f g mine theirs (x ∷ xs) = grind (arith, rows-flat_map u f g mine theirs xs, mine x, theirs x)

  -- a unit that hasn't begun has no rows
  pub none_begun : (u : ℕ) (xs : List X) → list_any (λ r. unit r == u) xs ≡ false → rows_of unit bare u xs ≡ []
  none_begun u [] none = refl
  none_begun u (x ∷ xs) none = grind (arith, none_begun u xs)

-- ---- The order of rows

module _ {X : Type 0} (before : X → X → Bool) where
  fewer : (p : X → Bool) (x : X) (ys : List X) → list_any (λ y. before y x) ys ≡ false → list_any (λ y. before y x) (filter p ys) ≡ false
  fewer p x [] none = refl
  fewer p x (y ∷ ys) none = grind (arith, fewer p x ys)

  pub rising-filter : (p : X → Bool) (xs : List X) → AreRising before xs → AreRising before (filter p xs)
  rising-filter p [] rising = tt
  rising-filter p (x ∷ xs) rising = elim (cases_Bool (p x)) [
    | inl is ↦ rw is (fewer p x xs rising.0, rising-filter p xs rising.1)
    | inr off ↦ rw off (rising-filter p xs rising.1)
  ]

-- what is of a unit is of no other
pub apart : (u v w : ℕ) → u ≢ v → (w == v) ≡ true → (w == u) ≡ false
apart u v w other own = grind arith

-- ---- Update reads

abbrev pub reads_of : ℕ → List UpdateRead → List UpdateRead
reads_of u xs = rows_of reader any_read u xs

-- a read is put before none of an earlier unit
before_unit : (r x : UpdateRead) → is_read_before r x ≡ true → r.unit ≤ x.unit
before_unit r x is = grind arith

-- a lower unit has no reads where none of the other is lower
none_lower : (n : ℕ) (x : UpdateRead) (xs : List UpdateRead) → n ≤ x.unit → list_any (λ y. is_earlier y x) xs ≡ false → list_any (λ y. nat_lt y.unit n) xs ≡ false
none_lower n x [] lower none = refl
none_lower n x (y ∷ ys) lower none = grind (arith, none_lower n x ys lower)

none_own : (u : ℕ) (x : UpdateRead) (xs : List UpdateRead) → u < x.unit → list_any (λ y. is_earlier y x) xs ≡ false → reads_of u xs ≡ []
none_own u x [] less none = refl
none_own u x (y ∷ ys) less none = grind (arith, none_own u x ys less)

none_with : (r : UpdateRead) (n : ℕ) (ys : List UpdateRead) → nat_lt r.unit n ≡ false → list_any (λ y. nat_lt y.unit n) ys ≡ false → list_any (λ y. nat_lt y.unit n) (with_read r ys) ≡ false
none_with r n [] above none = grind arith
none_with r n (y ∷ ys) above none = grind (arith, none_with r n ys above)

-- What a step of a unit does to all rows: the unit then has these, the others have what they had,
-- and all are in order.
pub record IsRowStep {X : Type 0} (unit : X → ℕ) (bare : X → X) (before : X → X → Bool) (u : ℕ) (xs ys zs : List X) : Type 0 where
  pub own : rows_of unit bare u ys ≡ zs
  pub others : (w : ℕ) → u ≢ w → rows_of unit bare w ys ≡ rows_of unit bare w xs
  pub rising : AreRising before ys

abbrev pub IsReadStep : ℕ → List UpdateRead → List UpdateRead → List UpdateRead → Type 0
IsReadStep u xs ys zs = IsRowStep reader any_read is_earlier u xs ys zs

with_read-own : (r : UpdateRead) (xs : List UpdateRead) → AreRising is_earlier xs → reads_of r.unit (with_read r xs) ≡ with_read (any_read r) (reads_of r.unit xs)
with_read-own r [] rising = grind arith
with_read-own r (x ∷ xs) rising = grind (arith, with_read-own r xs rising.1, none_own r.unit x xs, rising.0)

with_read-other : (r : UpdateRead) (w : ℕ) → r.unit ≢ w → (xs : List UpdateRead) → reads_of w (with_read r xs) ≡ reads_of w xs
with_read-other r w other [] = grind arith
with_read-other r w other (x ∷ xs) = grind (arith, with_read-other r w other xs)

with_read-rising : (r : UpdateRead) (xs : List UpdateRead) → AreRising is_earlier xs → AreRising is_earlier (with_read r xs)
with_read-rising r [] rising = (refl, tt)
with_read-rising r (x ∷ xs) rising = elim (cases_Bool (is_read_before r x)) [
  | inl here ↦ rw here ((grind (arith, before_unit r x here, none_lower r.unit x xs, rising.0), rising))
  | inr on ↦ rw on ((grind (arith, none_with r x.unit xs, rising.0), with_read-rising r xs rising.1))
]

with_read-step : (r : UpdateRead) (xs : List UpdateRead) → AreRising is_earlier xs → IsReadStep r.unit xs (with_read r xs) (with_read (any_read r) (reads_of r.unit xs))
with_read-step r xs rising = record { own = with_read-own r xs rising; others = λ w other. with_read-other r w other xs; rising = with_read-rising r xs rising }

-- whether a command covers an update read, by whether that is its unit's
abbrev covers_if : Op → UpdateRead → Bool → Bool
covers_if (Rewrite f k d) x mine = (mine && is_same x.file f) && is_same x.key k
covers_if (Delete f k) x mine = (mine && is_same x.file f) && is_same x.key k
covers_if (DeleteGeneric f p) x mine = (mine && is_same x.file f) && has_prefix p x.key
covers_if _ x mine = false

covers_is : (u : ℕ) (op : Op) (x : UpdateRead) → (covers u op x ≡ covers_if op x (x.unit == u)) × ((covers_if op x false ≡ false) × (covers_if op x true ≡ covers 0 op (any_read x)))
covers_is u (Rewrite f k d) x = (refl, (refl, refl))
covers_is u (Delete f k) x = (refl, (refl, refl))
covers_is u (DeleteGeneric f p) x = (refl, (refl, refl))
covers_is u _ x = (refl, (refl, refl))

opened-step : (u : ℕ) (op : Op) (xs : List UpdateRead) → AreRising is_earlier xs → IsReadStep u xs (opened u op xs) (opened 0 op (reads_of u xs))
opened-step u (ReadUpdate f k) xs rising = with_read-step (record { unit = u; file = f; key = k }) xs rising
opened-step u _ xs rising = record { own = refl; others = λ w other. refl; rising = rising }

pub reads_after-step : (u : ℕ) (op : Op) (c : Condition) (xs : List UpdateRead) → AreRising is_earlier xs → IsReadStep u xs (reads_after u op c xs) (reads_after 0 op c (reads_of u xs))
reads_after-step u op c xs rising = elim (cases_Bool (is_normal c)) [
  | inl is ↦ rw is (record {
    own = opening.own ∙ ap (opened 0 op) (rows-filter reader any_read u left (λ r. not (covers 0 op r))
        (λ x own. let is = covers_is u op x in ap not (is.0 ∙ (ap (covers_if op x) own ∙ is.1.1))) xs);
    others = λ w other. opening.others w other ∙ rows-kept reader any_read w left
        (λ x own. let is = covers_is u op x in ap not (is.0 ∙ (ap (covers_if op x) (apart u w x.unit other own) ∙ is.1.0))) xs;
    rising = opening.rising;
  })
  | inr off ↦ rw off (record { own = refl; others = λ w other. refl; rising = rising })
]
  where
    left : UpdateRead → Bool
    left r = not (covers u op r)

    opening : IsReadStep u (filter left xs) (opened u op (filter left xs)) (opened 0 op (reads_of u (filter left xs)))
    opening = opened-step u op (filter left xs) (rising-filter is_earlier left xs rising)

-- the key that a unit has read for update in a file
pub read-own : (u : ℕ) (f : Bytes) (xs : List UpdateRead) → read_at xs u f ≡ read_at (reads_of u xs) 0 f
read-own u f [] = refl
read-own u f (x ∷ xs) = grind (arith, read-own u f xs)

-- ---- Counts

abbrev pub counts_of : ℕ → List EnqCount → List EnqCount
counts_of u cs = rows_of counter any_count u cs

-- what isn't below a second that isn't below a third isn't below the third
not_below : (a b c : Bytes) → is_below a b ≡ false → is_below b c ≡ false → is_below a c ≡ false
not_below a b c h k = grind (arith, nat_list_cmp_total.antisymm b a, nat_list_cmp_total.trans b a c, nat_list_cmp_total.congr a b c)

-- what is below another isn't above it
not_above : (a b : Bytes) → is_below a b ≡ true → is_below b a ≡ false
not_above a b h = grind (arith, nat_list_cmp_total.antisymm b a)

-- a value that is below all others is counted first
comes_first : (u : ℕ) (v : Bytes) (c : EnqCount) (cs : List EnqCount) → is_below v c.value ≡ true → list_any (λ d. is_lower d c) cs ≡ false →
    record { value = v; unit = 0; count = 1 } ∷ counts_of u cs ≡ counted (counts_of u cs) 0 v
comes_first u v c [] here behind = refl
comes_first u v c (d ∷ ds) here behind = grind (arith, comes_first u v c ds here, not_below v d.value c.value, is_same-eq d.value v)

further : (v : Bytes) (c : EnqCount) (ds : List EnqCount) → list_any (λ d. is_lower d c) ds ≡ false → is_below v c.value ≡ true → list_any (λ d. is_below d.value v) ds ≡ false
further v c [] none here = refl
further v c (d ∷ ds) none here = grind (arith, further v c ds, not_below d.value c.value v, not_above v c.value)

abbrev pub IsCountStep : ℕ → List EnqCount → List EnqCount → List EnqCount → Type 0
IsCountStep u cs ds es = IsRowStep counter any_count is_lower u cs ds es

counted-own : (u : ℕ) (v : Bytes) (cs : List EnqCount) → AreRising is_lower cs → counts_of u (counted cs u v) ≡ counted (counts_of u cs) 0 v
counted-own u v [] rising = grind arith
counted-own u v (c ∷ cs) rising = grind (arith, counted-own u v cs rising.1, comes_first u v c cs, rising.0)

counted-other : (u w : ℕ) (v : Bytes) → u ≢ w → (cs : List EnqCount) → counts_of w (counted cs u v) ≡ counts_of w cs
counted-other u w v other [] = grind arith
counted-other u w v other (c ∷ cs) = grind (arith, counted-other u w v other cs)

none_counted : (w : Bytes) (u : ℕ) (v : Bytes) (cs : List EnqCount) → is_below v w ≡ false → list_any (λ d. is_below d.value w) cs ≡ false → list_any (λ d. is_below d.value w) (counted cs u v) ≡ false
none_counted w u v [] on none = grind arith
none_counted w u v (c ∷ cs) on none = grind (arith, none_counted w u v cs on)

counted-rising : (u : ℕ) (v : Bytes) (cs : List EnqCount) → AreRising is_lower cs → AreRising is_lower (counted cs u v)
counted-rising u v [] rising = (refl, tt)
counted-rising u v (c ∷ cs) rising = elim (cases_Bool (is_count u v c)) [
  | inl is ↦ rw is rising
  | inr off ↦ elim (cases_Bool (is_below v c.value)) [
    | inl here ↦ rw (off, here) ((grind (arith, not_above v c.value, further v c cs, rising.0), rising))
    | inr on ↦ rw (off, on) ((none_counted c.value u v cs on rising.0, counted-rising u v cs rising.1))
  ]
]

pub counted-step : (u : ℕ) (v : Bytes) (cs : List EnqCount) → AreRising is_lower cs → IsCountStep u cs (counted cs u v) (counted (counts_of u cs) 0 v)
counted-step u v cs rising = record { own = counted-own u v cs rising; others = λ w other. counted-other u w v other cs; rising = counted-rising u v cs rising }

uncounted-own : (u : ℕ) (v : Bytes) (cs : List EnqCount) → counts_of u (uncounted cs u v) ≡ uncounted (counts_of u cs) 0 v
uncounted-own u v [] = refl
uncounted-own u v (c ∷ cs) = grind (arith, uncounted-own u v cs)

uncounted-other : (u w : ℕ) (v : Bytes) → u ≢ w → (cs : List EnqCount) → counts_of w (uncounted cs u v) ≡ counts_of w cs
uncounted-other u w v other [] = refl
uncounted-other u w v other (c ∷ cs) = grind (arith, uncounted-other u w v other cs)

none_uncounted : (w : Bytes) (u : ℕ) (v : Bytes) (cs : List EnqCount) → list_any (λ d. is_below d.value w) cs ≡ false → list_any (λ d. is_below d.value w) (uncounted cs u v) ≡ false
none_uncounted w u v [] none = refl
none_uncounted w u v (c ∷ cs) none = grind (arith, none_uncounted w u v cs)

uncounted-rising : (u : ℕ) (v : Bytes) (cs : List EnqCount) → AreRising is_lower cs → AreRising is_lower (uncounted cs u v)
uncounted-rising u v [] rising = tt
uncounted-rising u v (c ∷ cs) rising = elim (cases_Bool (is_count u v c)) [
  | inl is ↦ elim (cases_Bool (nat_lt 1 c.count)) [ inl more ↦ rw (is, more) rising | inr last ↦ rw (is, last) rising.1 ]
  | inr off ↦ rw off ((none_uncounted c.value u v cs rising.0, uncounted-rising u v cs rising.1))
]

pub uncounted-step : (u : ℕ) (v : Bytes) (cs : List EnqCount) → AreRising is_lower cs → IsCountStep u cs (uncounted cs u v) (uncounted (counts_of u cs) 0 v)
uncounted-step u v cs rising = record { own = uncounted-own u v cs; others = λ w other. uncounted-other u w v other cs; rising = uncounted-rising u v cs rising }

pub count-own : (u : ℕ) (v : Bytes) (cs : List EnqCount) → count_at cs u v ≡ count_at (counts_of u cs) 0 v
count-own u v [] = refl
count-own u v (c ∷ cs) = grind (arith, count-own u v cs)
