-- At most one unit holds a resource, whatever was executed, enqueued and ended.
use Rattle.std.proofs.Common.{◌≡◌, ℕ, ◌+◌, ltb, Bool, true, false, ◌&&◌, ◌||◌, not, Option, Some, None, List, [], ◌∷◌, ◌++◌, length, refl, ap, sym, subst, ◌∙◌, eqb, ◌⊎◌, inl, inr, ◌<◌}
use Rattle.std.specs.Prelude.{if◌then◌else◌, ◌-◌, ◌==◌, nat_lt, filter, flat_map, slice_set}
use Rattle.std.specs.List.{list_any}
use Rattle.std.proofs.lemmas.Bool.{true≢false, false≢true, cases_Bool, eq-eqb, eqb-true, eqb-false, and_parts, and_from, or_cases, or_left, or_right}
use Rattle.std.proofs.lemmas.List.Folds.{list_any-append}
use Rattle.cics_names.specs.Keyed.{Bytes, is_same, is_below}
use Rattle.cics_names.specs.KeyedLaws.{is_same-eq}
use Rattle.cics_history.specs.Resources.{bytes_of, is_prefix}
use Rattle.cics_history.specs.ResourceLaws.{conflicts-turned}
use Rattle.cics_ksds.specs.Prefixes.{has_prefix}
use Rattle.cics_history.specs.declared.resources.Resource.{Resource}
use Rattle.cics_history.specs.declared.resources.Resource.TheVariants.{FileKey, TsQueue, TdRead as ReadingEnd, TdWrite as WritingEnd, User, FilePrefix}
use Rattle.cics_history.specs.State.{OpeningState, UnitsState, UpdateRead, EnqCount}
use Rattle.cics_history.specs.Store.{is_normal, is_recoverable}
use Rattle.cics_history.specs.Headline.{outcome_of, is_open}
use Rattle.cics_history.specs.Holding.{uses_of, held_by_entry, held_by_read, held_by_count, held_by, owned, smallest_conflict, blocker_at, first_some, blocker_among, conflicts, Owned, is_other}
use Rattle.cics_history.specs.Execution.{unit_or_next, outcomes_with, with_read, is_read_before, covers, opened, reads_after, entered, is_count, counted, uncounted, with_counts, after_dequeue, after_unlock, after_end}
use Rattle.cics_history.specs.declared.ops.Op.{Op}
use Rattle.cics_history.specs.declared.ops.Op.TheVariants.{ReadUpdate}
use Rattle.cics_history.specs.declared.ops.Answer.{Answer}
use Rattle.cics_history.specs.declared.ops.UnitState.{UnitState}
use Rattle.cics_names.specs.declared.conditions.Condition.{Condition}
use Rattle.cics_history.specs.declared.ops.Entry.{Entry}
use Rattle.cics_history.specs.Isolation.{Each, AreKnown}
use Rattle.cics_history.specs.Holders.{meet, IsHeldByOne, HaveBegun}
use Rattle.cics_history.proofs.Outcomes.{outcome_of-with, outcome_of-set}
use Rattle.cics_history.proofs.Waiting.{any_flat_map, any_more, one_begins, begins_same, lesser_cases, none_first, none_either, is_of, table_holds, in_table, other_unit}

-- ---- Lists

any_swap : {A B : Type 0} (f : A → B → Bool) (xs : List A) (ys : List B) →
    list_any (λ x. list_any (f x) ys) xs ≡ true →
    list_any (λ y. list_any (λ x. f x y) xs) ys ≡ true
any_swap f [] ys h = absurd (false≢true h)
any_swap f (x ∷ xs) ys h = elim (or_cases (list_any (f x) ys) (list_any (λ z. list_any (f z) ys) xs) h) [
  | inl first ↦ any_more (f x) (λ y. list_any (λ z. f z y) (x ∷ xs)) (λ y t. or_left _ _ t) ys first
  | inr rest ↦
      any_more (λ y. list_any (λ z. f z y) xs) (λ y. list_any (λ z. f z y) (x ∷ xs))
      (λ y t. or_right _ _ t) ys (any_swap f xs ys rest)
]

pub any_filter : {A : Type 0} (p f : A → Bool) (xs : List A) → list_any p (filter f xs) ≡ true →
    list_any p xs ≡ true
any_filter p f [] h = h
any_filter p f (x ∷ xs) h =
    elim (f x) as (λ b. list_any p (if b then x ∷ filter f xs else filter f xs) ≡ true →
    list_any p (x ∷ xs) ≡ true) [
      | true ↦
          λ t. elim
          (or_cases (p x) (list_any p (filter f xs)) t) [
            | inl y ↦ or_left _ _ y
            | inr y ↦
                or_right _ _ (any_filter p f xs y)
          ]
      | false ↦ λ t. or_right _ _ (any_filter p f xs t)
    ] h

any_append : {A : Type 0} (p : A → Bool) (xs ys : List A) → list_any p (xs ++ ys) ≡ true →
    (list_any p xs ≡ true) ⊎ (list_any p ys ≡ true)
any_append p xs ys h = or_cases (list_any p xs) (list_any p ys) (sym (list_any-append p xs ys) ∙ h)

pub any_only : {A : Type 0} (p : A → Bool) (x : A) → list_any p (x ∷ []) ≡ true → p x ≡ true
any_only p x h = elim (or_cases (p x) false h) [ inl y ↦ y | inr n ↦ absurd (false≢true n) ]

pub any_if : {A : Type 0} (p : A → Bool) (b : Bool) (xs : List A) → list_any p (if b then xs else []) ≡ true →
    (b ≡ true) × (list_any p xs ≡ true)
any_if p true xs h = (refl, h)
any_if p false xs h = absurd (false≢true h)

-- ---- Resources that conflict

meet-turned : (rs ts : List Resource) → meet rs ts ≡ true → meet ts rs ≡ true
meet-turned rs ts h =
    any_more (λ t. list_any (λ r. conflicts r t) rs) (λ t. list_any (conflicts t) rs)
    (λ t y. any_more (λ r. conflicts r t) (conflicts t) (λ r z. conflicts-turned r t z) rs y) ts
    (any_swap conflicts rs ts h)

joined : (a b c : Bytes) → is_same a b ≡ true → is_same a c ≡ true → is_same b c ≡ true
joined a b c x y = subst (λ z. is_same z c ≡ true) (is_same-eq a b x) y

-- ---- What a unit holds: by an entry, by an update read, or by a count

abbrev HoldsBy : OpeningState → List Entry → List UpdateRead → List EnqCount → ℕ → (Resource → Bool) → Type 0
HoldsBy o es reads counts n p =
    (list_any (λ e. list_any p (held_by_entry o n e)) es ≡ true)
    ⊎ ((list_any (λ r. list_any p (held_by_read o n r)) reads ≡ true)
    ⊎ (list_any (λ c. list_any p (held_by_count n c)) counts ≡ true))

pub held_cases : (s : UnitsState) (n : ℕ) (p : Resource → Bool) → list_any p (held_by s n) ≡ true →
    (is_open (outcome_of s.outcomes n) ≡ true) × HoldsBy s.opening s.trace s.reads s.counts n p
held_cases s n p h =
    let a = any_if p (is_open (outcome_of s.outcomes n)) _ h in (
      a.0,
      elim (any_append p (flat_map (held_by_entry s.opening n) s.trace
          ++ flat_map (held_by_read s.opening n) s.reads) (flat_map (held_by_count n) s.counts) a.1) [
            | inr by_count ↦ inr (inr (sym (any_flat_map (held_by_count n) p s.counts) ∙ by_count))
            | inl more ↦ elim (any_append p (flat_map (held_by_entry s.opening n) s.trace)
                (flat_map (held_by_read s.opening n) s.reads) more) [
                  | inl by_entry ↦ inl (sym (any_flat_map (held_by_entry s.opening n) p s.trace) ∙ by_entry)
                  | inr by_read ↦ inr (inl (sym (any_flat_map (held_by_read s.opening n) p s.reads) ∙ by_read))
                ]
          ],
    )

held_from : (s : UnitsState) (n : ℕ) (p : Resource → Bool) → is_open (outcome_of s.outcomes n) ≡ true →
    HoldsBy s.opening s.trace s.reads s.counts n p → list_any p (held_by s n) ≡ true
held_from s n p live h =
    rw live (list_any-append p
    (flat_map (held_by_entry s.opening n) s.trace ++ flat_map (held_by_read s.opening n) s.reads)
    (flat_map (held_by_count n) s.counts)
    ∙ elim h [
      | inl by_entry ↦
          or_left _ _
          (list_any-append p (flat_map (held_by_entry s.opening n) s.trace)
          (flat_map (held_by_read s.opening n) s.reads)
          ∙ or_left _ _ (any_flat_map (held_by_entry s.opening n) p s.trace ∙ by_entry))
      | inr more ↦ elim more [
        | inl by_read ↦
            or_left _ _
            (list_any-append p (flat_map (held_by_entry s.opening n) s.trace)
            (flat_map (held_by_read s.opening n) s.reads)
            ∙ or_right _ _ (any_flat_map (held_by_read s.opening n) p s.reads ∙ by_read))
        | inr by_count ↦ or_right _ _ (any_flat_map (held_by_count n) p s.counts ∙ by_count)
      ]
    ])

-- a unit that holds something has begun
known_unit : (m n : ℕ) (o : OpeningState) (p : Resource → Bool) (es : List Entry) →
    Each (λ e. e.unit < m) es → list_any (λ e. list_any p (held_by_entry o n e)) es ≡ true → n < m
known_unit m n o p [] k h = absurd (false≢true h)
known_unit m n o p (e ∷ es) k h =
    elim (or_cases (list_any p (held_by_entry o n e)) (list_any (λ d. list_any p (held_by_entry o n d)) es) h) [
      | inl y ↦
          subst (λ z. z < m)
          (eqb-true e.unit n (and_parts _ _
          (any_if p ((eqb e.unit n) && (is_normal e.answer.condition && is_recoverable o e.op))
          (uses_of o e.op) y).0).0) k.0
      | inr y ↦ known_unit m n o p es k.1 y
    ]

pub holder_begun : (s : UnitsState) → AreKnown s → HaveBegun s → (n : ℕ) (p : Resource → Bool) →
    list_any p (held_by s n) ≡ true → n < length s.outcomes
holder_begun s known begun n p h = elim (held_cases s n p h).1 [
  | inl by_entry ↦ known_unit (length s.outcomes) n s.opening p s.trace known by_entry
  | inr more ↦ elim more [
    | inl by_read ↦
        begun.readers n
        (any_more (λ r. list_any p (held_by_read s.opening n r)) (λ r. eqb r.unit n)
        (λ r y. (and_parts _ _ (any_if p _ _ y).0).0) s.reads by_read)
    | inr by_count ↦
        begun.counters n
        (any_more (λ c. list_any p (held_by_count n c)) (λ c. eqb c.unit n)
        (λ c y. (any_if p _ _ y).0) s.counts by_count)
  ]
]

-- ---- Where nobody is awaited, nobody else holds what is used

pub nobody_else : (s : UnitsState) → AreKnown s → HaveBegun s → (u : Option ℕ) (r : Resource) →
    blocker_at (owned s) u r ≡ None →
    (n : ℕ) → list_any (conflicts r) (held_by s n) ≡ true → n ≡ unit_or_next u s.outcomes
nobody_else s known begun u r free n h = elim (cases_Bool (eqb n (unit_or_next u s.outcomes))) [
  | inl own ↦ eqb-true _ _ own
  | inr other ↦ absurd (true≢false (
      sym (in_table s (conflicts r) u n (holder_begun s known begun n (conflicts r) h)
      (other_unit u s.outcomes n other) h)
      ∙ none_first (owned s) u r free))
]

pub nobody_among : (s : UnitsState) → AreKnown s → HaveBegun s → (u : Option ℕ) (rs : List Resource) →
    blocker_among (owned s) u rs ≡ None →
    (n : ℕ) → meet rs (held_by s n) ≡ true → n ≡ unit_or_next u s.outcomes
nobody_among s known begun u [] free n h = absurd (false≢true h)
nobody_among s known begun u (r ∷ rs) free n h =
    let both = none_either (blocker_at (owned s) u r) (blocker_among (owned s) u rs) free in
    elim (or_cases (list_any (conflicts r) (held_by s n)) (meet rs (held_by s n)) h) [
      | inl first ↦ nobody_else s known begun u r both.0 n first
      | inr rest ↦ nobody_among s known begun u rs both.1 n rest
    ]

-- ---- One holder

-- a unit that takes what nobody else holds leaves one holder for each resource
pub one-grown : (s t : UnitsState) (v : ℕ) (rs : List Resource) → IsHeldByOne s →
    ((n : ℕ) → meet rs (held_by s n) ≡ true → n ≡ v) →
    ((p : Resource → Bool) (n : ℕ) → list_any p (held_by t n) ≡ true →
    (list_any p (held_by s n) ≡ true) ⊎ ((n ≡ v) × (list_any p rs ≡ true))) →
    IsHeldByOne t
one-grown s t v rs one free grows u n h = elim (grows (λ r. list_any (conflicts r) (held_by t n)) u h) [
  | inl old ↦ elim (grows (λ r. list_any (conflicts r) (held_by s u)) n
      (meet-turned (held_by s u) (held_by t n) old)) [
        | inl both ↦ sym (one n u both)
        | inr new ↦ free u new.1 ∙ sym new.0
      ]
  | inr new ↦ elim (grows (λ r. list_any (conflicts r) rs) n (meet-turned rs (held_by t n) new.1)) [
    | inl old ↦ new.0 ∙ sym (free n (meet-turned (held_by s n) rs old))
    | inr both ↦ new.0 ∙ sym both.0
  ]
]

pub one-less : (s t : UnitsState) → IsHeldByOne s →
    ((p : Resource → Bool) (n : ℕ) → list_any p (held_by t n) ≡ true → list_any p (held_by s n) ≡ true) →
    IsHeldByOne t
one-less s t one less = one-grown s t 0 [] one (λ n h. absurd (false≢true h)) (λ p n h. inl (less p n h))

-- ---- The update reads and the counts after each call

any_with_read : (q : UpdateRead → Bool) (r : UpdateRead) (xs : List UpdateRead) →
    list_any q (with_read r xs) ≡ true → (q r ≡ true) ⊎ (list_any q xs ≡ true)
any_with_read q r [] h = inl (any_only q r h)
any_with_read q r (x ∷ xs) h =
    elim (is_read_before r x) as
    (λ b. list_any q (if b then r ∷ x ∷ xs else x ∷ with_read r xs) ≡ true →
    (q r ≡ true) ⊎ (list_any q (x ∷ xs) ≡ true)) [
      | true ↦ λ t. or_cases (q r) (list_any q (x ∷ xs)) t
      | false ↦ λ t. elim (or_cases (q x) (list_any q (with_read r xs)) t) [
        | inl y ↦ inr (or_left _ _ y)
        | inr y ↦ elim (any_with_read q r xs y) [ inl z ↦ inl z | inr z ↦ inr (or_right _ _ z) ]
      ]
    ] h

-- the update read that a command opens passes a test
abbrev pub new_read : ℕ → Op → (UpdateRead → Bool) → Bool
new_read v (ReadUpdate f k) q = q (record { unit = v; file = f; key = k })
new_read v _ q = false

any_opened : (q : UpdateRead → Bool) (v : ℕ) (op : Op) (xs : List UpdateRead) →
    list_any q (opened v op xs) ≡ true → (list_any q xs ≡ true) ⊎ (new_read v op q ≡ true)
any_opened q v (ReadUpdate f k) xs h =
    elim (any_with_read q (record { unit = v; file = f; key = k }) xs h) [ inl y ↦ inr y | inr y ↦ inl y ]
any_opened q v _ xs h = inl h

pub any_reads_after : (q : UpdateRead → Bool) (v : ℕ) (op : Op) (c : Condition) (xs : List UpdateRead) →
    list_any q (reads_after v op c xs) ≡ true → (list_any q xs ≡ true) ⊎ (new_read v op q ≡ true)
any_reads_after q v op c xs h =
    elim (is_normal c) as (λ b. list_any q
    (if b then opened v op (filter (λ r. not (covers v op r)) xs) else xs) ≡ true →
    (list_any q xs ≡ true) ⊎ (new_read v op q ≡ true)) [
      | true ↦
          λ t. elim
          (any_opened q v op (filter (λ r. not (covers v op r)) xs) t) [
            | inl y ↦
                inl (any_filter q (λ r. not (covers v op r)) xs y)
            | inr y ↦ inr y
          ]
      | false ↦ λ t. inl t
    ] h

-- what a unit has of a value, however often
abbrev pub CountTest : Type 0
CountTest = ℕ → Bytes → Bool

abbrev pub test_of : CountTest → EnqCount → Bool
test_of g c = g c.unit c.value

pub any_counted : (g : CountTest) (u : ℕ) (v : Bytes) (cs : List EnqCount) →
    list_any (test_of g) (counted cs u v) ≡ true → (list_any (test_of g) cs ≡ true) ⊎ (g u v ≡ true)
any_counted g u v [] h = inr (any_only (test_of g) (record { value = v; unit = u; count = 1 }) h)
any_counted g u v (c ∷ cs) h =
    elim (is_count u v c) as
    (λ b. is_count u v c ≡ b →
    list_any (test_of g) (if b then record {
      value = c.value;
      unit = u;
      count = c.count + 1;
    } ∷ cs else if is_below v c.value then record {
      value = v;
      unit = u;
      count = 1;
    } ∷ c ∷ cs else c ∷ counted cs u v) ≡ true →
    (list_any (test_of g) (c ∷ cs) ≡ true) ⊎ (g u v ≡ true)) [
      | true ↦
          λ y t. inl
          (subst (λ n. (g n c.value || list_any (test_of g) cs) ≡ true)
          (sym (eqb-true c.unit u (and_parts _ _ y).0)) t)
      | false ↦ λ y t. elim (is_below v c.value) as
          (λ b. list_any (test_of g)
          (if b then record { value = v; unit = u; count = 1 } ∷ c ∷ cs else c ∷ counted cs u v) ≡ true →
          (list_any (test_of g) (c ∷ cs) ≡ true) ⊎ (g u v ≡ true)) [
            | true ↦
                λ t. elim (or_cases (g u v) (list_any (test_of g) (c ∷ cs)) t) [ inl z ↦ inr z | inr z ↦ inl z ]
            | false ↦ λ t. elim (or_cases (g c.unit c.value) (list_any (test_of g) (counted cs u v)) t) [
              | inl z ↦ inl (or_left _ _ z)
              | inr z ↦ elim (any_counted g u v cs z) [ inl w ↦ inl (or_right _ _ w) | inr w ↦ inr w ]
            ]
          ] t
    ] refl h

pub any_uncounted : (g : CountTest) (u : ℕ) (v : Bytes) (cs : List EnqCount) →
    list_any (test_of g) (uncounted cs u v) ≡ true → list_any (test_of g) cs ≡ true
any_uncounted g u v [] h = h
any_uncounted g u v (c ∷ cs) h =
    elim (is_count u v c) as
    (λ b. is_count u v c ≡ b →
    list_any (test_of g) (if b then
    (if nat_lt 1 c.count then record {
      value = c.value;
      unit = u;
      count = c.count - 1;
    } ∷ cs else cs) else c ∷ uncounted cs u v) ≡ true →
    list_any (test_of g) (c ∷ cs) ≡ true) [
      | true ↦ λ y t. elim (ltb 1 c.count) as
          (λ b. list_any (test_of g)
          (if b then record { value = c.value; unit = u; count = c.count - 1 } ∷ cs else cs) ≡ true →
          list_any (test_of g) (c ∷ cs) ≡ true) [
            | true ↦
                λ t. subst (λ n. (g n c.value || list_any (test_of g) cs) ≡ true)
                (sym (eqb-true c.unit u (and_parts _ _ y).0)) t
            | false ↦ λ t. or_right _ _ t
          ] t
      | false ↦
          λ y t. elim
          (or_cases (g c.unit c.value) (list_any (test_of g) (uncounted cs u v)) t) [
            | inl z ↦
                or_left _ _ z
            | inr z ↦ or_right _ _ (any_uncounted g u v cs z)
          ]
    ] refl h

abbrev held_value : ℕ → (Resource → Bool) → CountTest
held_value n p unit value = list_any p (if unit == n then User (bytes_of value) ∷ [] else [])

-- ---- One holder through each call

still_open : (u : Option ℕ) (s : UnitsState) (n : ℕ) →
    is_open (outcome_of (outcomes_with u s.outcomes) n) ≡ true → is_open (outcome_of s.outcomes n) ≡ true
still_open u s n h = ap is_open (sym (outcome_of-with u s.outcomes n)) ∙ h

-- a command executed: its unit holds what it used beside what it held
entered-grows : (s : UnitsState) (u : Option ℕ) (op : Op) (a : Answer) (p : Resource → Bool) (n : ℕ) →
    list_any p (held_by (entered s u op a) n) ≡ true →
    (list_any p (held_by s n) ≡ true)
    ⊎ ((n ≡ unit_or_next u s.outcomes) × (list_any p (uses_of s.opening op) ≡ true))
entered-grows s u op a p n h =
    let c = held_cases (entered s u op a) n p h in
    let live = still_open u s n c.0 in
    elim c.1 [
      | inl by_entry ↦ elim (any_append (λ e. list_any p (held_by_entry s.opening n e)) s.trace
          (record { unit = unit_or_next u s.outcomes; op = op; answer = a } ∷ []) by_entry) [
            | inl old ↦ inl (held_from s n p live (inl old))
            | inr new ↦
                let t = any_if p _ (uses_of s.opening op)
                (any_only (λ e. list_any p (held_by_entry s.opening n e))
                (record { unit = unit_or_next u s.outcomes; op = op; answer = a }) new) in
                inr (sym (eqb-true _ _ (and_parts _ _ t.0).0), t.1)
          ]
      | inr more ↦ elim more [
        | inl by_read ↦ elim (any_reads_after (λ r. list_any p (held_by_read s.opening n r))
            (unit_or_next u s.outcomes) op a.condition s.reads by_read) [
              | inl old ↦ inl (held_from s n p live (inr (inl old)))
              | inr new ↦ inr (opens op new)
            ]
        | inr by_count ↦ inl (held_from s n p live (inr (inr by_count)))
      ]
    ]
  where
    opens : (op : Op) →
        new_read (unit_or_next u s.outcomes) op (λ r. list_any p (held_by_read s.opening n r)) ≡ true →
        (n ≡ unit_or_next u s.outcomes) × (list_any p (uses_of s.opening op) ≡ true)
    opens (ReadUpdate f k) h =
        let t = any_if p _ (FileKey f (bytes_of k) ∷ []) h in
        (sym (eqb-true _ _ (and_parts _ _ t.0).0), t.1)
    opens _ h = absurd (false≢true h)

pub entered-one : (s : UnitsState) → AreKnown s → HaveBegun s → IsHeldByOne s →
    (u : Option ℕ) (op : Op) (a : Answer) → blocker_among (owned s) u (uses_of s.opening op) ≡ None →
    IsHeldByOne (entered s u op a)
entered-one s known begun one u op a free =
    one-grown s (entered s u op a) (unit_or_next u s.outcomes) (uses_of s.opening op) one
    (nobody_among s known begun u (uses_of s.opening op) free) (entered-grows s u op a)

-- an ENQ that takes its value
enqueued-grows : (s : UnitsState) (u : Option ℕ) (v : Bytes) (p : Resource → Bool) (n : ℕ) →
    list_any p (held_by (with_counts s (outcomes_with u s.outcomes)
    (counted s.counts (unit_or_next u s.outcomes) v)) n) ≡ true →
    (list_any p (held_by s n) ≡ true)
    ⊎ ((n ≡ unit_or_next u s.outcomes) × (list_any p (User (bytes_of v) ∷ []) ≡ true))
enqueued-grows s u v p n h =
    let c = held_cases (with_counts s (outcomes_with u s.outcomes)
    (counted s.counts (unit_or_next u s.outcomes) v)) n p h in
    let live = still_open u s n c.0 in
    elim c.1 [
      | inl by_entry ↦ inl (held_from s n p live (inl by_entry))
      | inr more ↦ elim more [
        | inl by_read ↦ inl (held_from s n p live (inr (inl by_read)))
        | inr by_count ↦ elim (any_counted (held_value n p) (unit_or_next u s.outcomes) v s.counts by_count) [
          | inl old ↦ inl (held_from s n p live (inr (inr old)))
          | inr new ↦
              let t = any_if p (eqb (unit_or_next u s.outcomes) n) (User (bytes_of v) ∷ []) new in
              inr (sym (eqb-true _ _ t.0), t.1)
        ]
      ]
    ]

pub enqueued-one : (s : UnitsState) → AreKnown s → HaveBegun s → IsHeldByOne s →
    (u : Option ℕ) (v : Bytes) → blocker_at (owned s) u (User (bytes_of v)) ≡ None →
    IsHeldByOne (with_counts s (outcomes_with u s.outcomes) (counted s.counts (unit_or_next u s.outcomes) v))
enqueued-one s known begun one u v free =
    one-grown s (with_counts s (outcomes_with u s.outcomes) (counted s.counts (unit_or_next u s.outcomes) v))
    (unit_or_next u s.outcomes) (User (bytes_of v) ∷ []) one
    (nobody_among s known begun u (User (bytes_of v) ∷ []) (either_none _ free)) (enqueued-grows s u v)
  where
    either_none : (x : Option ℕ) → x ≡ None → first_some x None ≡ None
    either_none x e = rw e refl

pub dequeued-one : (s : UnitsState) → IsHeldByOne s → (u : ℕ) (v : Bytes) → IsHeldByOne (after_dequeue s u v)
dequeued-one s one u v = one-less s (after_dequeue s u v) one (λ p n h.
    let c = held_cases (after_dequeue s u v) n p h in
    held_from s n p c.0 (elim c.1 [
      | inl by_entry ↦ inl by_entry
      | inr more ↦
          elim more [
            | inl by_read ↦ inr (inl by_read)
            | inr by_count ↦ inr (inr (any_uncounted (held_value n p) u v s.counts by_count))
          ]
    ]))

pub unlocked-one : (s : UnitsState) → IsHeldByOne s → (u : ℕ) (f : Bytes) → IsHeldByOne (after_unlock s u f)
unlocked-one s one u f = one-less s (after_unlock s u f) one (λ p n h.
    let c = held_cases (after_unlock s u f) n p h in
    held_from s n p c.0 (elim c.1 [
      | inl by_entry ↦ inl by_entry
      | inr more ↦
          elim more [
            | inl by_read ↦ inr (inl (any_filter _ _ s.reads by_read))
            | inr by_count ↦ inr (inr by_count)
          ]
    ]))

-- a unit that ends holds nothing, and the others what they held
pub ended-one : (s : UnitsState) → IsHeldByOne s → (u : ℕ) (outcome : UnitState) →
    is_open (outcome_of s.outcomes u) ≡ true → IsHeldByOne (after_end s u outcome)
ended-one s one u outcome live = one-less s (after_end s u outcome) one (λ p n h.
    let c = held_cases (after_end s u outcome) n p h in
    held_from s n p (was_open n c.0) (elim c.1 [
      | inl by_entry ↦ inl by_entry
      | inr more ↦
          elim more [
            | inl by_read ↦ inr (inl (any_filter _ _ s.reads by_read))
            | inr by_count ↦ inr (inr (any_filter _ _ s.counts by_count))
          ]
    ]))
  where
    was_open : (n : ℕ) → is_open (outcome_of (slice_set s.outcomes u outcome) n) ≡ true →
        is_open (outcome_of s.outcomes n) ≡ true
    was_open n h = elim (cases_Bool (eqb n u)) [
      | inl own ↦ subst (λ k. is_open (outcome_of s.outcomes k) ≡ true) (sym (eqb-true n u own)) live
      | inr other ↦ ap is_open (sym (outcome_of-set s.outcomes u n outcome (eqb-false n u other))) ∙ h
    ]

-- ---- The holder that is found

-- a unit that is found holds what was asked for
abbrev found_one : Option ℕ → Resource → ℕ → Resource × ℕ → Bool
found_one u r m e = conflicts r e.0 && (is_other u e.1 && eqb e.1 m)

found_in : (t : Owned) (u : Option ℕ) (r : Resource) (m : ℕ) → blocker_at t u r ≡ Some m →
    list_any (found_one u r m) t ≡ true
found_in [] u r m h = absurd (none_some m h)
  where
    none_some : (m : ℕ) → None ≡ Some m → ⊥
    none_some m e = cc
found_in (e ∷ t) u r m h = elim (cases_Bool (conflicts r e.0 && is_other u e.1)) [
  | inl y ↦
      let both = and_parts (conflicts r e.0) (is_other u e.1) y in
      lesser_cases e (smallest_conflict t u r) (λ d. d.1) m (rw y at h)
      (λ same. or_left (found_one u r m e) (list_any (found_one u r m) t)
      (and_from _ _ both.0 (and_from _ _ both.1 (eq-eqb e.1 m same))))
      (λ later. or_right _ _ (found_in t u r m later))
  | inr n ↦ or_right _ _ (found_in t u r m (rw n at h))
]

pub found_holds : (s : UnitsState) (u : Option ℕ) (r : Resource) (m : ℕ) →
    blocker_at (owned s) u r ≡ Some m → list_any (conflicts r) (held_by s m) ≡ true
found_holds s u r m h =
    table_holds s (conflicts r) m
    (any_more (found_one u r m) (is_of (conflicts r) m) theirs (owned s) (found_in (owned s) u r m h))
  where
    theirs : (e : Resource × ℕ) → found_one u r m e ≡ true → is_of (conflicts r) m e ≡ true
    theirs e y =
        let a = and_parts (conflicts r e.0) (is_other u e.1 && eqb e.1 m) y in
        and_from _ _ a.0 (and_parts (is_other u e.1) (eqb e.1 m) a.1).1

-- of three the first of which is no prefix, two that conflict with it conflict
pub conflicts-joined : (r s t : Resource) → is_prefix r ≡ false → conflicts r s ≡ true → conflicts r t ≡ true → conflicts s t ≡ true
conflicts-joined (FileKey f k) (FileKey g l) (FileKey h m) p a b =
    let c = and_parts (is_same f g) (is_same k.items l.items) a in
    let d = and_parts (is_same f h) (is_same k.items m.items) b in
    and_from _ _ (joined f g h c.0 d.0) (joined k.items l.items m.items c.1 d.1)
conflicts-joined (FileKey f k) (FileKey g l) (FilePrefix h m) p a b =
    let c = and_parts (is_same f g) (is_same k.items l.items) a in
    let d = and_parts (is_same f h) (has_prefix m.items k.items) b in
    and_from _ _ (joined f g h c.0 d.0) (begins_same m.items k.items l.items c.1 d.1)
conflicts-joined (FileKey f k) (FilePrefix g l) (FileKey h m) p a b =
    let c = and_parts (is_same f g) (has_prefix l.items k.items) a in
    let d = and_parts (is_same f h) (is_same k.items m.items) b in
    and_from _ _ (joined f g h c.0 d.0) (begins_same l.items k.items m.items d.1 c.1)
conflicts-joined (FileKey f k) (FilePrefix g l) (FilePrefix h m) p a b =
    let c = and_parts (is_same f g) (has_prefix l.items k.items) a in
    let d = and_parts (is_same f h) (has_prefix m.items k.items) b in
    and_from _ _ (joined f g h c.0 d.0) (one_begins l.items m.items k.items c.1 d.1)
conflicts-joined (TsQueue q) (TsQueue r) (TsQueue t) p a b = joined q r t a b
conflicts-joined (ReadingEnd q) (ReadingEnd r) (ReadingEnd t) p a b = joined q r t a b
conflicts-joined (WritingEnd q) (WritingEnd r) (WritingEnd t) p a b = joined q r t a b
conflicts-joined (User v) (User w) (User x) p a b = joined v.items w.items x.items a b
conflicts-joined (FileKey f k) (FileKey g l) _ p a b = absurd (false≢true b)
conflicts-joined (FileKey f k) (FilePrefix g l) _ p a b = absurd (false≢true b)
conflicts-joined (TsQueue q) (TsQueue r) _ p a b = absurd (false≢true b)
conflicts-joined (ReadingEnd q) (ReadingEnd r) _ p a b = absurd (false≢true b)
conflicts-joined (WritingEnd q) (WritingEnd r) _ p a b = absurd (false≢true b)
conflicts-joined (User v) (User w) _ p a b = absurd (false≢true b)
conflicts-joined (FileKey f k) _ _ p a b = absurd (false≢true a)
conflicts-joined (TsQueue q) _ _ p a b = absurd (false≢true a)
conflicts-joined (ReadingEnd q) _ _ p a b = absurd (false≢true a)
conflicts-joined (WritingEnd q) _ _ p a b = absurd (false≢true a)
conflicts-joined (User v) _ _ p a b = absurd (false≢true a)
conflicts-joined (FilePrefix f k) _ _ p a b = absurd (true≢false p)

-- whoever holds a resource that is no prefix, and is another unit than the one that asks, is found
pub holder-found : (s : UnitsState) → AreKnown s → HaveBegun s → IsHeldByOne s →
    (u : Option ℕ) (r : Resource) (n : ℕ) → is_prefix r ≡ false → is_other u n ≡ true →
    list_any (conflicts r) (held_by s n) ≡ true → blocker_at (owned s) u r ≡ Some n
holder-found s known begun one u r n plain other h =
    elim (blocker_at (owned s) u r) as (λ f. blocker_at (owned s) u r ≡ f → f ≡ Some n) [
      | None ↦
          λ e. absurd
          (true≢false (sym (in_table s (conflicts r) u n (holder_begun s known begun n (conflicts r) h) other h)
          ∙ none_first (owned s) u r e))
      | Some m ↦ λ e. ap Some (one m n (both m (found_holds s u r m e)))
    ] refl
  where
    both : (m : ℕ) → list_any (conflicts r) (held_by s m) ≡ true → meet (held_by s m) (held_by s n) ≡ true
    both m g =
        any_more (conflicts r) (λ y. list_any (conflicts y) (held_by s n))
        (λ y a. any_more (conflicts r) (conflicts y) (λ z b. conflicts-joined r y z plain a b) (held_by s n) h)
        (held_by s m) g

-- the unit that is found is another than the one that asks
pub found_other : (t : Owned) (u : Option ℕ) (r : Resource) (m : ℕ) → blocker_at t u r ≡ Some m → is_other u m ≡ true
found_other t u r m e = is_other_of t (found_in t u r m e)
  where
    is_other_of : (t : Owned) → list_any (found_one u r m) t ≡ true → is_other u m ≡ true
    is_other_of [] g = absurd (false≢true g)
    is_other_of (d ∷ t) g = elim (or_cases (found_one u r m d) (list_any (found_one u r m) t) g) [
      | inl y ↦
          let a = and_parts (conflicts r d.0) (is_other u d.1 && eqb d.1 m) y in
          let b = and_parts (is_other u d.1) (eqb d.1 m) a.1 in
          subst (λ k. is_other u k ≡ true) (eqb-true d.1 m b.1) b.0
      | inr y ↦ is_other_of t y
    ]

-- and where no other unit holds it, none is found
pub none_found : (s : UnitsState) (u : Option ℕ) (r : Resource) →
    ((n : ℕ) → is_other u n ≡ true → list_any (conflicts r) (held_by s n) ≡ false) →
    blocker_at (owned s) u r ≡ None
none_found s u r h =
    elim (blocker_at (owned s) u r) as (λ f. blocker_at (owned s) u r ≡ f → f ≡ None) [
      | None ↦ λ e. refl
      | Some m ↦ λ e. absurd (true≢false (sym (found_holds s u r m e) ∙ h m (found_other (owned s) u r m e)))
    ] refl
