-- Where no unit is awaited, no other open unit holds what the command uses.
use Rattle.std.proofs.Common.{arith, ◌≡◌, ℕ, ltb, Bool, true, false, cond, ◌&&◌, ◌||◌, not, Option, Some, None, List, [], ◌∷◌, ◌++◌, length, refl, ap, sym, subst, ◌∙◌, eqb, ◌⊎◌, inl, inr, ◌<◌, ◌≤◌, ◌+◌}
use Rattle.std.specs.Prelude.{if◌then◌else◌, filter, map, flat_map, unwrap_or, option_map}
use Rattle.std.specs.List.{list_any}
use Rattle.std.proofs.lemmas.Bool.{true≢false, false≢true, cases_Bool, eqb-true, eqb-false, eq-eqb, ne_eqb, lt-ltb, ltb-true, and_parts, and_from, or_cases, or_left, or_right}
use Rattle.std.proofs.lemmas.List.Folds.{list_any-append}
use Rattle.cics_names.specs.Keyed.{Bytes, is_same, is_below}
use Rattle.cics_names.specs.KeyedLaws.{is_same-self, is_same-eq}
use Rattle.cics_history.specs.ResourceLaws.{same_test}
use Rattle.cics_ksds.specs.Prefixes.{has_prefix}
use Rattle.cics_history.specs.declared.resources.Resource.{Resource}
use Rattle.cics_history.specs.declared.resources.Resource.TheVariants.{FileKey, TsQueue, TdRead as ReadingEnd, TdWrite as WritingEnd, FilePrefix}
use Rattle.cics_history.specs.State.{OpeningState, queue_logical, initial_store, UnitsState}
use Rattle.cics_history.specs.Store.{is_recoverable, is_normal}
use Rattle.cics_history.specs.Headline.{outcome_of, is_open, is_backed_out, replay}
use Rattle.cics_history.specs.Holding.{uses_of, held_by_entry, held_by_read, held_by_count, held_by, units_from, owned, smallest_conflict, blocker_at, first_some, blocker_among, is_own, committed_for, is_nothing, writer_awaited, awaited, conflicts, bytes_in, Owned, is_other, smaller}
use Rattle.cics_history.specs.Execution.{unit_or_next}
use Rattle.cics_history.specs.declared.ops.Op.{Op}
use Rattle.cics_history.specs.declared.ops.Op.TheVariants.{Write, Rewrite, Delete, DeleteGeneric, ReadUpdate, TsWrite, TsRewrite, TsDelete, TdWrite, TdRead, TdDelete}
use Rattle.cics_history.specs.declared.ops.Entry.{Entry}
use Rattle.cics_history.specs.declared.ops.UnitState.{UnitState}
use Rattle.cics_history.specs.declared.ops.UnitState.TheVariants.{Open, Committed, BackedOut}
use Rattle.cics_history.specs.Cells.{Cell, Key, Ts, Td, content, cell_of, touches, End, Reading, Writing, uses, recovers}
use Rattle.cics_history.proofs.Effects.{is_empty}
use Rattle.cics_history.proofs.Joining.{touches-recovers}
use Rattle.cics_history.proofs.Replays.{Each_more, replay-at}
use Rattle.cics_history.proofs.Executes.{alone, MayRun}
use Rattle.cics_history.specs.Isolation.{Outcomes, stays, store_by, Each, claims, used, IsFree, AreKnown}

-- tests over lists
pub any_map : {A B : Type 0} (f : A → B) (p : B → Bool) (xs : List A) →
    list_any p (map f xs) ≡ list_any (λ x. p (f x)) xs
any_map f p [] = refl
any_map f p (x ∷ xs) = ap (λ b. p (f x) || b) (any_map f p xs)

pub any_flat_map : {A B : Type 0} (f : A → List B) (p : B → Bool) (xs : List A) →
    list_any p (flat_map f xs) ≡ list_any (λ x. list_any p (f x)) xs
any_flat_map f p [] = refl
any_flat_map f p (x ∷ xs) =
    list_any-append p (f x) (flat_map f xs) ∙ ap (λ b. list_any p (f x) || b) (any_flat_map f p xs)

pub any_more : {A : Type 0} (p q : A → Bool) → ((x : A) → p x ≡ true → q x ≡ true) → (xs : List A) →
    list_any p xs ≡ true → list_any q xs ≡ true
any_more p q h [] t = absurd (false≢true t)
any_more p q h (x ∷ xs) t =
    elim (or_cases (p x) (list_any p xs) t) [
      | inl y ↦ or_left _ _ (h x y)
      | inr y ↦ or_right _ _ (any_more p q h xs y)
    ]

pub any_less : {A : Type 0} (p q : A → Bool) → ((x : A) → p x ≡ true → q x ≡ true) → (xs : List A) →
    list_any q xs ≡ false → list_any p xs ≡ false
any_less p q h xs n =
    elim (cases_Bool (list_any p xs)) [
      | inl y ↦ absurd (true≢false (sym (any_more p q h xs y) ∙ n))
      | inr m ↦ m
    ]

-- a test and a truth beside it
pub any_both : {A : Type 0} (p : A → Bool) (b : Bool) (xs : List A) → list_any (λ x. p x && b) xs ≡ true →
    (list_any p xs && b) ≡ true
any_both p b [] h = absurd (false≢true h)
any_both p b (x ∷ xs) h = elim (or_cases (p x && b) (list_any (λ y. p y && b) xs) h) [
  | inl y ↦ let a = and_parts (p x) b y in and_from _ _ (or_left (p x) (list_any p xs) a.0) a.1
  | inr y ↦ let a = and_parts (list_any p xs) b (any_both p b xs y) in and_from _ _ (or_right (p x) (list_any p xs) a.0) a.1
]

-- the resource takes hold of this end of the cell
abbrev pub covers : Cell → End → Resource → Bool
covers (Key g l) end (FileKey f k) = is_same f g && is_same k.items l
covers (Key g l) end (FilePrefix f p) = is_same f g && has_prefix p.items l
covers (Ts q) end (TsQueue r) = is_same r q
covers (Td q) Reading (ReadingEnd r) = is_same r q
covers (Td q) Writing (WritingEnd r) = is_same r q
covers _ _ _ = false

same_by_third : (a b c : Bytes) → is_same a c ≡ true → is_same b c ≡ true → is_same a b ≡ true
same_by_third a b c x y =
    subst (λ z. is_same a z ≡ true) (is_same-eq a c x ∙ sym (is_same-eq b c y)) (is_same-self a)

same_turned : (a b : Bytes) → is_same a b ≡ true → is_same b a ≡ true
same_turned a b x = subst (λ z. is_same z a ≡ true) (is_same-eq a b x) (is_same-self a)

-- of two prefixes of some bytes one begins with the other
pub one_begins : (p q b : Bytes) → has_prefix p b ≡ true → has_prefix q b ≡ true → (has_prefix p q || has_prefix q p) ≡ true
one_begins [] q b m n = refl
one_begins (x ∷ p) [] b m n = refl
one_begins (x ∷ p) (y ∷ q) [] m n = absurd (false≢true m)
one_begins (x ∷ p) (y ∷ q) (z ∷ b) m n =
    let front = and_parts (eqb x z) (has_prefix p b) m in
    let back = and_parts (eqb y z) (has_prefix q b) n in
    let same : x ≡ y = eqb-true x z front.0 ∙ sym (eqb-true y z back.0) in
    elim (or_cases (has_prefix p q) (has_prefix q p) (one_begins p q b front.1 back.1)) [
      | inl t ↦ or_left _ _ (and_from _ _ (eq-eqb x y same) t)
      | inr t ↦ or_right _ _ (and_from _ _ (eq-eqb y x (sym same)) t)
    ]

-- bytes that are the same begin with the same
pub begins_same : (p a b : Bytes) → is_same a b ≡ true → has_prefix p a ≡ true → has_prefix p b ≡ true
begins_same p a b same t = subst (λ c. has_prefix p c ≡ true) (is_same-eq a b same) t

-- two resources that take hold of one end conflict
pub covers-conflicts : (x : Cell) (end : End) (r s : Resource) → covers x end r ≡ true →
    covers x end s ≡ true → conflicts r s ≡ true
covers-conflicts (Key g l) end (FileKey f k) (FileKey h m) a b =
    let c = and_parts _ _ a in let d = and_parts _ _ b in
    and_from _ _ (same_by_third f h g c.0 d.0) (same_by_third k.items m.items l c.1 d.1)
covers-conflicts (Key g l) end (FileKey f k) (FilePrefix h q) a b =
    let c = and_parts _ _ a in let d = and_parts _ _ b in
    and_from _ _ (same_by_third f h g c.0 d.0) (begins_same q.items l k.items (same_turned k.items l c.1) d.1)
covers-conflicts (Key g l) end (FilePrefix f p) (FileKey h m) a b =
    let c = and_parts _ _ a in let d = and_parts _ _ b in
    and_from _ _ (same_by_third f h g c.0 d.0) (begins_same p.items l m.items (same_turned m.items l d.1) c.1)
covers-conflicts (Key g l) end (FilePrefix f p) (FilePrefix h q) a b =
    let c = and_parts _ _ a in let d = and_parts _ _ b in
    and_from _ _ (same_by_third f h g c.0 d.0) (one_begins p.items q.items l c.1 d.1)
covers-conflicts (Ts q) end (TsQueue r) (TsQueue t) a b = same_by_third r t q a b
covers-conflicts (Td q) Reading (ReadingEnd r) (ReadingEnd t) a b = same_by_third r t q a b
covers-conflicts (Td q) Writing (WritingEnd r) (WritingEnd t) a b = same_by_third r t q a b
covers-conflicts (Key g l) end (FileKey f k) _ a b = absurd (false≢true b)
covers-conflicts (Key g l) end (FilePrefix f p) _ a b = absurd (false≢true b)
covers-conflicts (Ts q) end (TsQueue r) _ a b = absurd (false≢true b)
covers-conflicts (Td q) Reading (ReadingEnd r) _ a b = absurd (false≢true b)
covers-conflicts (Td q) Writing (WritingEnd r) _ a b = absurd (false≢true b)
covers-conflicts _ _ _ s a b = absurd (false≢true a)

-- a command on a recoverable cell uses a resource that takes hold of each end that it uses
uses_of-covers : (o : OpeningState) (op : Op) (x : Cell) (end : End) → touches op x ≡ true →
    uses op end ≡ true → is_recoverable o op ≡ true → list_any (covers x end) (uses_of o op) ≡ true
uses_of-covers o (Write f k r) (Key g l) end y t rec = or_left _ _ y
uses_of-covers o (Rewrite f k r) (Key g l) end y t rec = or_left _ _ y
uses_of-covers o (Delete f k) (Key g l) end y t rec = or_left _ _ y
uses_of-covers o (DeleteGeneric f p) (Key g l) end y t rec = or_left _ _ y
uses_of-covers o (ReadUpdate f k) (Key g l) end y t rec = or_left _ _ y
uses_of-covers o (TsWrite q d) (Ts r) end y t rec = rw rec (or_left _ _ y)
uses_of-covers o (TsRewrite q n d) (Ts r) end y t rec = rw rec (or_left _ _ y)
uses_of-covers o (TsDelete q) (Ts r) end y t rec = rw rec (or_left _ _ y)
uses_of-covers o (TdWrite q d) (Td r) Writing y t rec = rw rec (or_left _ _ y)
uses_of-covers o (TdWrite q d) (Td r) Reading y t rec = absurd (false≢true t)
uses_of-covers o (TdRead q) (Td r) Reading y t rec = rw rec (or_left _ _ y)
uses_of-covers o (TdRead q) (Td r) Writing y t rec = absurd (false≢true t)
uses_of-covers o (TdDelete q) (Td r) Reading y t rec = rw rec (or_left _ _ y)
uses_of-covers o (TdDelete q) (Td r) Writing y t rec = rw rec (or_left _ _ y)
uses_of-covers o _ _ end y t rec = absurd (false≢true y)

-- a resource of this kind stands in the table, held by another unit
abbrev pub stands_one : (Resource → Bool) → Option ℕ → Resource × ℕ → Bool
stands_one p u e = p e.0 && is_other u e.1

abbrev pub stands : (Resource → Bool) → Option ℕ → Owned → Bool
stands p u t = list_any (stands_one p u) t

-- what the smaller of two says, either says, where the first is there
pub lesser_cases : {P : Type 0} (e : Resource × ℕ) (o : Option (Resource × ℕ)) (f : Resource × ℕ → ℕ) (m : ℕ) →
    option_map f (smaller (Some e) o) ≡ Some m → (f e ≡ m → P) → (option_map f o ≡ Some m → P) → P
lesser_cases e None f m h own rest = own (given h)
  where
    given : Some (f e) ≡ Some m → f e ≡ m
    given h = cc
lesser_cases {P} e (Some d) f m h own rest =
    elim (is_below (bytes_in d.0) (bytes_in e.0)) as
    (λ b. option_map f (if b then Some d else Some e) ≡ Some m → P)
    [ true ↦ λ g. rest g | false ↦ λ g. own (given g) ] h
  where
    given : Some (f e) ≡ Some m → f e ≡ m
    given h = cc

lesser_there : (e : Resource × ℕ) (o : Option (Resource × ℕ)) → smaller (Some e) o ≡ None → ⊥
lesser_there e None h = absurd (some_none h)
  where
    some_none : Some e ≡ None → ⊥
    some_none h = cc
lesser_there e (Some d) h =
    elim (is_below (bytes_in d.0) (bytes_in e.0)) as (λ b. (if b then Some d else Some e) ≡ None → ⊥)
    [ true ↦ λ g. some_none d g | false ↦ λ g. some_none e g ] h
  where
    some_none : (x : Resource × ℕ) → Some x ≡ None → ⊥
    some_none x h = cc

-- nothing found: nothing is there
pub none_held : (t : Owned) (u : Option ℕ) (r : Resource) → smallest_conflict t u r ≡ None →
    list_any (λ e. conflicts r e.0 && is_other u e.1) t ≡ false
none_held [] u r h = refl
none_held (e ∷ t) u r h =
    elim (conflicts r e.0 && is_other u e.1) as
    (λ b. (if b then smaller (Some e) (smallest_conflict t u r) else smallest_conflict t u r) ≡ None →
    (b || list_any (λ d. conflicts r d.0 && is_other u d.1) t) ≡ false)
    [ true ↦ λ g. absurd (lesser_there e (smallest_conflict t u r) g) | false ↦ λ g. none_held t u r g ] h

-- nobody found: nobody is there
pub none_first : (t : Owned) (u : Option ℕ) (r : Resource) → blocker_at t u r ≡ None →
    list_any (λ e. conflicts r e.0 && is_other u e.1) t ≡ false
none_first t u r h = none_held t u r (nothing (smallest_conflict t u r) h)
  where
    nothing : (o : Option (Resource × ℕ)) → option_map (λ e. e.1) o ≡ None → o ≡ None
    nothing None g = refl
    nothing (Some e) g = absurd (some_none e.1 g)
      where
        some_none : (n : ℕ) → Some n ≡ None → ⊥
        some_none n g = cc

pub none_either : {X : Type 0} (x y : Option X) → first_some x y ≡ None → (x ≡ None) × (y ≡ None)
none_either None y h = (refl, h)
none_either (Some x) y h = absurd (some_none x h)
  where
    some_none : {X : Type 0} (x : X) → Some x ≡ None → ⊥
    some_none x e = cc

abbrev held_there : Owned → Option ℕ → Cell → End → Bool
held_there t u x end = list_any (λ e. covers x end e.0 && is_other u e.1) t

not_there : (t : Owned) (u : Option ℕ) (x : Cell) (end : End) (r : Resource) → covers x end r ≡ true →
    list_any (λ e. conflicts r e.0 && is_other u e.1) t ≡ false → held_there t u x end ≡ false
not_there t u x end r c n =
    any_less (λ e. covers x end e.0 && is_other u e.1) (λ e. conflicts r e.0 && is_other u e.1)
    (λ e y. let both = and_parts _ _ y in and_from _ _ (covers-conflicts x end r e.0 c both.0) both.1) t n

none_among : (t : Owned) (u : Option ℕ) (x : Cell) (end : End) (rs : List Resource) →
    blocker_among t u rs ≡ None → list_any (covers x end) rs ≡ true → held_there t u x end ≡ false
none_among t u x end [] h c = absurd (false≢true c)
none_among t u x end (r ∷ rs) h c =
    let both = none_either (blocker_at t u r) (blocker_among t u rs) h in
    elim (or_cases (covers x end r) (list_any (covers x end) rs) c) [
      | inl y ↦ not_there t u x end r y (none_first t u r both.0)
      | inr y ↦ none_among t u x end rs both.1 y
    ]

-- whoever used the end of a recoverable cell and is open stands in the table
claims_held : (o : OpeningState) (x : Cell) (end : End) (n : ℕ) → recovers o x ≡ true → (e : Entry) →
    (claims x end e && eqb e.unit n) ≡ true → list_any (covers x end) (held_by_entry o n e) ≡ true
claims_held o x end n r e h =
    let both = and_parts (claims x end e) (eqb e.unit n) h in
    let c = and_parts (touches e.op x) (is_normal e.answer.condition && uses e.op end) both.0 in
    let d = and_parts (is_normal e.answer.condition) (uses e.op end) c.1 in
    let rec : is_recoverable o e.op ≡ true = touches-recovers o e.op x c.0 ∙ r in
    rw (both.1, d.0, rec) (uses_of-covers o e.op x end c.0 d.1 rec)

-- a test that a unit which has begun passes is passed by one of those that have begun
unit_among : (q : ℕ → Bool) (n k : ℕ) (xs : List UnitState) → k ≤ n → n < k + length xs → q n ≡ true →
    list_any q (units_from k xs) ≡ true
unit_among q n k [] a b h = absurd (omega arith)
unit_among q n k (x ∷ xs) a b h = elim (cases_Bool (eqb k n)) [
  | inl y ↦ or_left _ _ (subst (λ z. q z ≡ true) (sym (eqb-true k n y)) h)
  | inr m ↦
      let apart = eqb-false k n m in
      let above : k + 1 ≤ n = omega (arith, apart) in
      let within : n < (k + 1) + length xs = omega arith in
      or_right _ _ (unit_among q n (k + 1) xs above within h)
]

-- a unit among those from some number on is below their end
unit_below : (n k : ℕ) (xs : List UnitState) → list_any (λ m. eqb m n) (units_from k xs) ≡ true → n < k + length xs
unit_below n k [] h = absurd (false≢true h)
unit_below n k (x ∷ xs) h = elim (or_cases (eqb k n) (list_any (λ m. eqb m n) (units_from (k + 1) xs)) h) [
  | inl y ↦ let same = eqb-true k n y in omega (arith, same)
  | inr y ↦ let later = unit_below n (k + 1) xs y in omega (arith, later)
]

-- what one of them passes that is this unit, this unit passes
one_unit : (P : ℕ → Bool) (m : ℕ) (ks : List ℕ) → list_any (λ k. P k && eqb k m) ks ≡ true → P m ≡ true
one_unit P m [] h = absurd (false≢true h)
one_unit P m (k ∷ ks) h = elim (or_cases (P k && eqb k m) (list_any (λ k. P k && eqb k m) ks) h) [
  | inl y ↦ let both = and_parts (P k) (eqb k m) y in subst (λ z. P z ≡ true) (eqb-true k m both.1) both.0
  | inr y ↦ one_unit P m ks y
]

-- an entry is of a resource that passes, and this unit's
abbrev pub is_of : (Resource → Bool) → ℕ → Resource × ℕ → Bool
is_of p m e = p e.0 && eqb e.1 m

-- the table names a unit that has begun, at what the unit holds
module _ (s : UnitsState) (p : Resource → Bool) (n : ℕ) where
  abbrev entries_of : ℕ → Owned
  entries_of m = map (λ r. (r, m)) (held_by s m)

  pub table_names : list_any (is_of p n) (owned s) ≡ (ltb n (length s.outcomes) && list_any p (held_by s n))
  table_names = same_test (list_any (is_of p n) (owned s)) (ltb n (length s.outcomes) && list_any p (held_by s n)) there back
    where
      of_unit : (m : ℕ) → list_any (is_of p n) (entries_of m) ≡ true → (list_any p (held_by s m) && eqb m n) ≡ true
      of_unit m h =
          any_both p (eqb m n) (held_by s m)
          (sym (any_map (λ r. (r, m)) (is_of p n) (held_by s m)) ∙ h)

      there : list_any (is_of p n) (owned s) ≡ true → (ltb n (length s.outcomes) && list_any p (held_by s n)) ≡ true
      there h =
          let found = any_more (λ m. list_any (is_of p n) (entries_of m)) (λ m. list_any p (held_by s m) && eqb m n) of_unit
          (units_from 0 s.outcomes) (sym (any_flat_map entries_of (is_of p n) (units_from 0 s.outcomes)) ∙ h) in
          let below = unit_below n 0 s.outcomes
          (any_more (λ m. list_any p (held_by s m) && eqb m n) (λ m. eqb m n)
          (λ m y. (and_parts (list_any p (held_by s m)) (eqb m n) y).1) (units_from 0 s.outcomes) found) in
          let begun : n < length s.outcomes = omega (arith, below) in
          and_from _ _ (lt-ltb n (length s.outcomes) begun) (one_unit (λ m. list_any p (held_by s m)) n (units_from 0 s.outcomes) found)

      back : (ltb n (length s.outcomes) && list_any p (held_by s n)) ≡ true → list_any (is_of p n) (owned s) ≡ true
      back h =
          let a = and_parts (ltb n (length s.outcomes)) (list_any p (held_by s n)) h in
          let less : n < length s.outcomes = ltb-true n (length s.outcomes) a.0 in
          any_flat_map entries_of (is_of p n) (units_from 0 s.outcomes)
          ∙ unit_among (λ m. list_any (is_of p n) (entries_of m)) n 0 s.outcomes (omega arith) (omega (arith, less))
          (any_map (λ r. (r, n)) (is_of p n) (held_by s n)
          ∙ any_more p (λ r. p r && eqb n n) (λ r y. and_from _ _ y (eq-eqb n n refl)) (held_by s n) a.1)

-- what stands in the table under a unit the unit holds
pub table_holds : (s : UnitsState) (p : Resource → Bool) (m : ℕ) → list_any (is_of p m) (owned s) ≡ true →
    list_any p (held_by s m) ≡ true
table_holds s p m h =
    (and_parts (ltb m (length s.outcomes)) (list_any p (held_by s m)) (sym (table_names s p m) ∙ h)).1

-- what a unit that has begun holds stands in the table
pub in_table : (s : UnitsState) (p : Resource → Bool) (u : Option ℕ) (n : ℕ) → n < length s.outcomes →
    is_other u n ≡ true →
    list_any p (held_by s n) ≡ true → stands p u (owned s) ≡ true
in_table s p u n less other own =
    any_more (is_of p n) (stands_one p u) theirs (owned s)
    (table_names s p n ∙ and_from _ _ (lt-ltb n (length s.outcomes) less) own)
  where
    theirs : (e : Resource × ℕ) → is_of p n e ≡ true → stands_one p u e ≡ true
    theirs e y =
        let a = and_parts (p e.0) (eqb e.1 n) y in
        and_from _ _ a.0 (subst (λ m. is_other u m ≡ true) (sym (eqb-true e.1 n a.1)) other)

-- an open unit that used an end of a recoverable cell holds a resource that takes hold of this end
pub used-held : (s : UnitsState) (n : ℕ) (x : Cell) (end : End) → recovers s.opening x ≡ true →
    is_open (outcome_of s.outcomes n) ≡ true →
    used s.trace n x end ≡ true → list_any (covers x end) (held_by s n) ≡ true
used-held s n x end r live h =
    rw live (list_any-append (covers x end)
    (flat_map (held_by_entry s.opening n) s.trace ++ flat_map (held_by_read s.opening n) s.reads)
    (flat_map (held_by_count n) s.counts)
    ∙ or_left _ _ (list_any-append (covers x end) (flat_map (held_by_entry s.opening n) s.trace)
    (flat_map (held_by_read s.opening n) s.reads)
    ∙ or_left _ _ (any_flat_map (held_by_entry s.opening n) (covers x end) s.trace
    ∙ any_more _ _ (claims_held s.opening x end n r) s.trace h)))

-- a unit that used something has begun
pub used_known : (m n : ℕ) (x : Cell) (end : End) (es : List Entry) → Each (λ e. e.unit < m) es →
    used es n x end ≡ true → n < m
used_known m n x end [] k h = absurd (false≢true h)
used_known m n x end (e ∷ es) k h = elim (or_cases (claims x end e && eqb e.unit n) (used es n x end) h) [
  | inl y ↦ subst (λ z. z < m) (eqb-true e.unit n (and_parts _ _ y).1) k.0
  | inr y ↦ used_known m n x end es k.1 y
]

pub other_unit : (u : Option ℕ) (outcomes : List UnitState) (n : ℕ) →
    eqb n (unit_or_next u outcomes) ≡ false → is_other u n ≡ true
other_unit None outcomes n h = refl
other_unit (Some w) outcomes n h = rw h refl

own_unit : (u : Option ℕ) (outcomes : List UnitState) (n : ℕ) → n < length outcomes →
    is_own u n ≡ eqb n (unit_or_next u outcomes)
own_unit None outcomes n h = sym (ne_eqb n (length outcomes) (λ e. absurd (omega arith)))
own_unit (Some w) outcomes n h = not_twice (eqb n w)
  where
    not_twice : (b : Bool) → not (not b) ≡ b
    not_twice true = refl
    not_twice false = refl

module _ (s : UnitsState) (known : AreKnown s) (u : Option ℕ) where
  -- what nobody else holds is free
  free_from : (x : Cell) (end : End) → recovers s.opening x ≡ true →
      held_there (owned s) u x end ≡ false →
      IsFree s.trace (outcome_of s.outcomes) (unit_or_next u s.outcomes) x end
  free_from x end r h n t = elim (cases_Bool (eqb n (unit_or_next u s.outcomes))) [
    | inl own ↦ inl (eqb-true _ _ own)
    | inr other ↦ elim (cases_Bool (is_open (outcome_of s.outcomes n))) [
      | inr shut ↦ inr shut
      | inl live ↦
          absurd
          (true≢false (sym (in_table s (covers x end) u n
          (used_known (length s.outcomes) n x end s.trace known t) (other_unit u s.outcomes n other)
          (used-held s n x end r live t)) ∙ h))
    ]
  ]

  filter_filter : (p q : Entry → Bool) (es : List Entry) →
      filter q (filter p es) ≡ filter (λ e. p e && q e) es
  filter_filter p q [] = refl
  filter_filter p q (e ∷ es) =
      elim (p e) as (λ b. filter q (cond b (e ∷ filter p es) (filter p es)) ≡ cond (b && q e)
      (e ∷ filter (λ d. p d && q d) es) (filter (λ d. p d && q d) es))
      [ true ↦ ap (λ l. cond (q e) (e ∷ l) l) (filter_filter p q es) | false ↦ filter_filter p q es ]

  sees : (oc : UnitState) (own : Bool) →
      (not (is_backed_out oc) && (own || not (is_open oc)))
      ≡ not (is_backed_out (if is_open oc && not own then BackedOut else oc))
  sees Open true = refl
  sees Open false = refl
  sees Committed true = refl
  sees Committed false = refl
  sees BackedOut true = refl
  sees BackedOut false = refl

  -- what may be read of a queue is what it holds if every other open unit is backed out
  pub committed-content : (q : Bytes) → queue_logical s.opening q ≡ true →
      committed_for s u q
      ≡ unwrap_or (content (store_by s.opening (alone (outcome_of s.outcomes) (unit_or_next u s.outcomes)) s.trace) (Td q)) []
  committed-content q r =
      let o = s.opening in
      let out : Outcomes = outcome_of s.outcomes in
      let v = unit_or_next u s.outcomes in
      let seen : Entry → Bool = λ e. is_own u e.unit || not (is_open (out e.unit)) in
      let on : (e : Entry) → e.unit < length s.outcomes → touches e.op (Td q) ≡ true →
      (stays o out e && seen e) ≡ stays o (alone out v) e =
      λ e k c. let rec : is_recoverable o e.op ≡ true = touches-recovers o e.op (Td q) c ∙ r in
      rw (rec, own_unit u s.outcomes e.unit k) (sees (out e.unit) (eqb e.unit v)) in
      ap (λ c. unwrap_or c [])
      (ap (λ es. content (replay (initial_store o) es) (Td q)) (filter_filter (stays o out) seen s.trace)
      ∙ replay-at (Td q) (λ e. stays o out e && seen e) (stays o (alone out v)) s.trace
      (Each_more _ _ on s.trace known) (initial_store o) (initial_store o) refl)

  committed-alone : (q : Bytes) → queue_logical s.opening q ≡ true →
      is_nothing (committed_for s u q)
      ≡ is_empty (content (store_by s.opening (alone (outcome_of s.outcomes) (unit_or_next u s.outcomes)) s.trace) (Td q))
  committed-alone q r = ap is_nothing (committed-content q r) ∙ nothing _
    where
      nothing : (c : Option (List Bytes)) → is_nothing (unwrap_or c []) ≡ is_empty c
      nothing None = refl
      nothing (Some []) = refl
      nothing (Some (x ∷ xs)) = refl

  -- an end that nobody else is found to hold is free
  pub free_end : (x : Cell) (end : End) (r : Resource) → recovers s.opening x ≡ true → covers x end r ≡ true →
      blocker_at (owned s) u r ≡ None → IsFree s.trace (outcome_of s.outcomes) (unit_or_next u s.outcomes) x end
  free_end x end r rec c free =
      free_from x end rec (not_there (owned s) u x end r c (none_first (owned s) u r free))

  reader_first : (op : Op) → writer_awaited s u op ≡ None → is_recoverable s.opening op ≡ true →
      uses op Writing ≡ false →
      (is_empty (content (store_by s.opening
      (alone (outcome_of s.outcomes) (unit_or_next u s.outcomes)) s.trace) (cell_of op)) ≡ false)
      ⊎ (IsFree s.trace (outcome_of s.outcomes) (unit_or_next u s.outcomes) (cell_of op) Writing)
  reader_first (TdRead q) h r n = elim (cases_Bool (is_nothing (committed_for s u q))) [
    | inr some ↦ inl (sym (committed-alone q r) ∙ some)
    | inl none ↦
        inr (free_end (Td q) Writing (WritingEnd q) r (is_same-self q) (rw (r, none) at h))
  ]
  reader_first _ h r n = absurd (true≢false n)

  -- WAITING: where no unit is awaited, the command may run
  pub MayRun_from : (op : Op) → awaited s u op ≡ None →
      is_open (outcome_of s.outcomes (unit_or_next u s.outcomes)) ≡ true →
      MayRun s.opening s.trace (outcome_of s.outcomes) (unit_or_next u s.outcomes) op
  MayRun_from op h live =
      let both = none_either (blocker_among (owned s) u (uses_of s.opening op)) (writer_awaited s u op) h in
      let free : (end : End) → is_recoverable s.opening op ≡ true → uses op end ≡ true → (x : Cell) →
      touches op x ≡ true → IsFree s.trace (outcome_of s.outcomes) (unit_or_next u s.outcomes) x end =
      λ end r t x y. free_from x end (sym (touches-recovers s.opening op x y) ∙ r)
      (none_among (owned s) u x end (uses_of s.opening op) both.0
      (uses_of-covers s.opening op x end y t r)) in
      record {
        is_live = live;
        reading = free Reading;
        writing = free Writing;
        first = reader_first op both.1;
      }
