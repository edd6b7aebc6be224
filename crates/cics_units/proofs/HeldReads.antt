-- What the update reads hold, after one is opened and after some are ended, and that a unit has one
-- of a file at most.
use Rattle.std.proofs.Common.{◌≡◌, ℕ, Bool, true, false, ◌&&◌, ◌||◌, not, Some, is_some, List, [], ◌∷◌, refl, ap, sym, subst, ◌∙◌, eqb, inl, inr}
use Rattle.std.specs.Prelude.{if◌then◌else◌, ◌==◌, All, filter}
use Rattle.std.specs.List.{list_any}
use Rattle.std.proofs.Math.Bool.{or-false, and-true, and-false}
use Rattle.std.proofs.lemmas.Bool.{true≢false, false≢true, cases_Bool, eq-eqb, eqb-true, and_parts, and_from, or_cases, or_parts, or_from, false_from_ne_true}
use Rattle.std.proofs.lemmas.List.Elements.{All-cons, All-head, All-tail, All-filter}
use Rattle.cics_names.specs.Keyed.{Bytes, is_same}
use Rattle.cics_names.specs.KeyedLaws.{is_same-self, is_same-eq}
use Rattle.cics_names.specs.RisingLaws.{is_same-turned}
use Rattle.cics_history.specs.Resources.{is_one}
use Rattle.cics_history.specs.ResourceLaws.{is_one-eq}
use Rattle.cics_history.specs.declared.resources.Resource.{Resource}
use Rattle.cics_history.specs.State.{OpeningState, file_recoverable, UpdateRead}
use Rattle.cics_history.specs.Store.{is_recoverable}
use Rattle.cics_history.specs.Holding.{uses_of, held_by_read}
use Rattle.cics_history.specs.Execution.{is_read_of, read_at, is_read_before, with_read, covers, opened}
use Rattle.cics_history.specs.Records.{file_of, key_of}
use Rattle.cics_units.specs.TableInPlace.{record_of, is_read, AreOnce}
use Rattle.cics_history.specs.declared.ops.Op.{Op}
use Rattle.cics_history.specs.declared.ops.Op.TheVariants.{Write, Rewrite, Delete, DeleteGeneric, ReadUpdate}
use Rattle.cics_history.proofs.Holders.{any_filter}
use Rattle.cics_history.proofs.Waiting.{any_more}
use Rattle.cics_ksds.specs.Prefixes.{has_prefix}

-- ---- Tests over lists

or_swapped : (a b c : Bool) → (a || (b || c)) ≡ (b || (a || c))
or_swapped true true c = refl
or_swapped true false c = refl
or_swapped false b c = refl

-- a test over a list of one, or none
pub any_if_one : {A : Type 0} (p : A → Bool) (b : Bool) (x : A) → list_any p (if b then x ∷ [] else []) ≡ (b && p x)
any_if_one p true x = or-false (p x)
any_if_one p false x = refl

-- to drop what isn't there changes nothing
pub filter_none : {A : Type 0} (p : A → Bool) (xs : List A) → list_any p xs ≡ false → filter (λ x. not (p x)) xs ≡ xs
filter_none p [] none = refl
filter_none p (x ∷ xs) none =
    let both = or_parts (p x) (list_any p xs) none in
    ap (λ b. if not b then x ∷ filter (λ y. not (p y)) xs else filter (λ y. not (p y)) xs) both.0
    ∙ ap (λ ys. x ∷ ys) (filter_none p xs both.1)

pub any_never : {A : Type 0} (xs : List A) → list_any (λ x. false) xs ≡ false
any_never [] = refl
any_never (x ∷ xs) = any_never xs

none_filter : {A : Type 0} (q p : A → Bool) (xs : List A) → list_any q xs ≡ false → list_any q (filter p xs) ≡ false
none_filter q p xs none = false_from_ne_true _ (λ y. true≢false (sym (any_filter q p xs y) ∙ none))

-- to drop what fails a test doesn't change the test
pub any_kept : {A : Type 0} (q ends : A → Bool) (xs : List A) → ((x : A) → ends x ≡ true → q x ≡ false) →
    list_any q (filter (λ x. not (ends x)) xs) ≡ list_any q xs
any_kept q ends [] fails = refl
any_kept q ends (x ∷ xs) fails =
    elim (ends x) as (λ b. ends x ≡ b → list_any q (if not b then x ∷ filter (λ y. not (ends y)) xs else filter (λ y. not (ends y)) xs) ≡ (q x || list_any q xs)) [
      | true ↦ λ e. any_kept q ends xs fails ∙ ap (λ b. b || list_any q xs) (sym (fails x e))
      | false ↦ λ e. ap (λ b. q x || b) (any_kept q ends xs fails)
    ] refl

-- ---- One update read more

pub any_with_read_more : (q : UpdateRead → Bool) (r : UpdateRead) (xs : List UpdateRead) →
    list_any q (with_read r xs) ≡ (q r || list_any q xs)
any_with_read_more q r [] = refl
any_with_read_more q r (x ∷ xs) =
    elim (is_read_before r x) as (λ b. list_any q (if b then r ∷ x ∷ xs else x ∷ with_read r xs) ≡ (q r || (q x || list_any q xs))) [
      | true ↦ refl
      | false ↦ ap (λ b. q x || b) (any_with_read_more q r xs) ∙ or_swapped (q x) (q r) (list_any q xs)
    ]

All-with_read : (P : UpdateRead → Type 0) (r : UpdateRead) (xs : List UpdateRead) → P r → All P xs → All P (with_read r xs)
All-with_read P r [] one all = All-cons P r [] one all
All-with_read P r (x ∷ xs) one all =
    elim (is_read_before r x) as (λ b. All P (if b then r ∷ x ∷ xs else x ∷ with_read r xs)) [
      | true ↦ All-cons P r (x ∷ xs) one all
      | false ↦ All-cons P x (with_read r xs) (All-head P x xs all) (All-with_read P r xs one (All-tail P x xs all))
    ]

-- ---- A unit has one update read of a file at most

eqb-turned : (a b : ℕ) → eqb a b ≡ true → eqb b a ≡ true
eqb-turned a b e = eq-eqb b a (sym (eqb-true a b e))

read_of-turned : (r x : UpdateRead) → is_read_of x.unit x.file r ≡ true → is_read_of r.unit r.file x ≡ true
read_of-turned r x e =
    let both = and_parts (eqb r.unit x.unit) (is_same r.file x.file) e in
    and_from _ _ (eqb-turned r.unit x.unit both.0) (is_same-turned x.file r.file ∙ both.1)

AreOnce-filter : (p : UpdateRead → Bool) (xs : List UpdateRead) → AreOnce xs → AreOnce (filter p xs)
AreOnce-filter p [] once = tt
AreOnce-filter p (x ∷ xs) once =
    elim (p x) as (λ b. AreOnce (if b then x ∷ filter p xs else filter p xs)) [
      | true ↦ (none_filter (is_read_of x.unit x.file) p xs once.0, AreOnce-filter p xs once.1)
      | false ↦ AreOnce-filter p xs once.1
    ]

AreOnce-with_read : (r : UpdateRead) (xs : List UpdateRead) → list_any (is_read_of r.unit r.file) xs ≡ false →
    AreOnce xs → AreOnce (with_read r xs)
AreOnce-with_read r [] none once = (refl, tt)
AreOnce-with_read r (x ∷ xs) none once =
    let both = or_parts (is_read_of r.unit r.file x) (list_any (is_read_of r.unit r.file) xs) none in
    elim (is_read_before r x) as (λ b. AreOnce (if b then r ∷ x ∷ xs else x ∷ with_read r xs)) [
      | true ↦ (none, once)
      | false ↦ (
        any_with_read_more (is_read_of x.unit x.file) r xs
            ∙ or_from _ _ (false_from_ne_true _ (λ y. true≢false (sym (read_of-turned r x y) ∙ both.0))) once.0,
        AreOnce-with_read r xs both.1 once.1,
      )
    ]

-- a unit without an update read of a file
pub none_read : (xs : List UpdateRead) (u : ℕ) (f : Bytes) → is_some (read_at xs u f) ≡ false →
    list_any (is_read_of u f) xs ≡ false
none_read [] u f h = refl
none_read (x ∷ xs) u f h =
    elim (is_read_of u f x) as (λ b. is_some (if b then Some x.key else read_at xs u f) ≡ false → (b || list_any (is_read_of u f) xs) ≡ false) [
      | true ↦ λ g. g
      | false ↦ λ g. none_read xs u f g
    ] h

-- each has a property
abbrev pub OnEach : (UpdateRead → Type 0) → List UpdateRead → Type 0
OnEach P [] = Unit {0}
OnEach P (x ∷ xs) = P x × OnEach P xs

pub OnEach-map : (P Q : UpdateRead → Type 0) → ((x : UpdateRead) → P x → Q x) → (xs : List UpdateRead) → OnEach P xs → OnEach Q xs
OnEach-map P Q h [] each = tt
OnEach-map P Q h (x ∷ xs) each = (h x each.0, OnEach-map P Q h xs each.1)

-- a unit's update read of a file has the one key
pub read_keys : (xs : List UpdateRead) (u : ℕ) (f k : Bytes) → AreOnce xs → read_at xs u f ≡ Some k →
    OnEach (λ x. is_read_of u f x ≡ true → (is_read_of u f x && is_same x.key k) ≡ true) xs
read_keys [] u f k once h = tt
read_keys (x ∷ xs) u f k once h =
    elim (cases_Bool (is_read_of u f x)) [
      | inl own ↦
          let found : Some x.key ≡ Some k = rw own at h in
          let same : x.key ≡ k = cc in
          let both = and_parts (eqb x.unit u) (is_same x.file f) own in
          let no_more : list_any (is_read_of u f) xs ≡ false =
          ap (λ m. list_any (is_read_of m f) xs) (sym (eqb-true x.unit u both.0))
          ∙ ap (λ g. list_any (is_read_of x.unit g) xs) (sym (is_same-eq x.file f both.1)) ∙ once.0 in (
            λ t. and_from _ _ own (subst (λ l. is_same x.key l ≡ true) same (is_same-self x.key)),
            among xs no_more,
          )
      | inr other ↦ (
        λ t. absurd (true≢false (sym t ∙ other)),
        read_keys xs u f k once.1 (rw other at h),
      )
    ]
  where
    among : (xs : List UpdateRead) → list_any (is_read_of u f) xs ≡ false →
        OnEach (λ x. is_read_of u f x ≡ true → (is_read_of u f x && is_same x.key k) ≡ true) xs
    among [] none = tt
    among (x ∷ xs) none =
        let both = or_parts (is_read_of u f x) (list_any (is_read_of u f) xs) none in
        (λ t. absurd (true≢false (sym t ∙ both.0)), among xs both.1)

-- ---- What the update reads hold

module _ (o : OpeningState) (n : ℕ) (r : Resource) where
  -- an update read makes the unit own the resource
  abbrev pub by_read : UpdateRead → Bool
  by_read x = list_any (is_one r) (held_by_read o n x)

  pub by_read-is : (x : UpdateRead) → by_read x ≡ (((x.unit == n) && not (file_recoverable o x.file)) && is_one r (record_of x.file x.key))
  by_read-is x = any_if_one (is_one r) ((x.unit == n) && not (file_recoverable o x.file)) (record_of x.file x.key)

  -- of a recoverable file it holds nothing
  pub by_read-recoverable : (f : Bytes) → file_recoverable o f ≡ true → (x : UpdateRead) → is_same x.file f ≡ true → by_read x ≡ false
  by_read-recoverable f rec x same =
      by_read-is x
      ∙ ap (λ b. ((x.unit == n) && not b) && is_one r (record_of x.file x.key)) (ap (file_recoverable o) (is_same-eq x.file f same) ∙ rec)
      ∙ never (x.unit == n) (is_one r (record_of x.file x.key))
    where
      never : (a b : Bool) → ((a && false) && b) ≡ false
      never true b = refl
      never false b = refl

  module _ (v : ℕ) (f k : Bytes) (local : file_recoverable o f ≡ false) where
    -- the unit's own read of the record
    abbrev pub is_record : UpdateRead → Bool
    is_record x = is_read_of v f x && is_same x.key k

    -- of another file it holds its record
    pub by_read-local : (x : UpdateRead) → is_record x ≡ true → by_read x ≡ ((v == n) && is_one r (record_of f k))
    by_read-local x own =
        let a = and_parts (is_read_of v f x) (is_same x.key k) own in
        let b = and_parts (eqb x.unit v) (is_same x.file f) a.0 in
        by_read-is x
        ∙ (λ i. ((eqb-true x.unit v b.0 i == n) && not (file_recoverable o (is_same-eq x.file f b.1 i))) && is_one r (record_of (is_same-eq x.file f b.1 i) (is_same-eq x.key k a.1 i)))
        ∙ ap (λ c. ((v == n) && not c) && is_one r (record_of f k)) local
        ∙ ap (λ c. c && is_one r (record_of f k)) (and-true (v == n))

    -- only the unit's own read of the record makes it hold that
    by_read-own : (x : UpdateRead) → by_read x ≡ true → ((v == n) && is_one r (record_of f k)) ≡ true → is_record x ≡ true
    by_read-own x held own =
        let a = and_parts _ _ (sym (by_read-is x) ∙ held) in
        let b = and_parts (x.unit == n) _ a.0 in
        let c = and_parts (v == n) _ own in
        let unit : eqb x.unit v ≡ true = eq-eqb x.unit v (eqb-true x.unit n b.0 ∙ sym (eqb-true v n c.0)) in
        let same : is_one (record_of x.file x.key) (record_of f k) ≡ true =
        subst (λ z. is_one z (record_of f k) ≡ true) (is_one-eq r (record_of x.file x.key) a.1) c.1 in
        let d = and_parts (is_same x.file f) (is_same x.key k) same in
        and_from _ _ (and_from _ _ unit d.0) d.1

    -- to end the unit's reads of a record is to give the record back
    pub any_ended : (ends : UpdateRead → Bool) (xs : List UpdateRead) →
        OnEach (λ x. ends x ≡ true → is_record x ≡ true) xs → ((x : UpdateRead) → is_record x ≡ true → ends x ≡ true) →
        list_any by_read (filter (λ x. not (ends x)) xs) ≡ (list_any by_read xs && not ((v == n) && is_one r (record_of f k)))
    any_ended ends [] own all = refl
    any_ended ends (x ∷ xs) own all =
        elim (cases_Bool (ends x)) [
          | inl e ↦
              ap (λ b. list_any by_read (if not b then x ∷ filter (λ y. not (ends y)) xs else filter (λ y. not (ends y)) xs)) e
              ∙ any_ended ends xs own.1 all
              ∙ sym (gone (list_any by_read xs) ((v == n) && is_one r (record_of f k)))
              ∙ ap (λ b. (b || list_any by_read xs) && not ((v == n) && is_one r (record_of f k))) (sym (by_read-local x (own.0 e)))
          | inr e ↦
              ap (λ b. list_any by_read (if not b then x ∷ filter (λ y. not (ends y)) xs else filter (λ y. not (ends y)) xs)) e
              ∙ ap (λ b. by_read x || b) (any_ended ends xs own.1 all)
              ∙ stays (by_read x) (list_any by_read xs) ((v == n) && is_one r (record_of f k))
              (λ held mine. true≢false (sym (all x (by_read-own x held mine)) ∙ e))
        ]
      where
        gone : (b c : Bool) → ((c || b) && not c) ≡ (b && not c)
        gone true true = refl
        gone true false = refl
        gone false true = refl
        gone false false = refl

        stays : (a b c : Bool) → (a ≡ true → c ≡ true → ⊥) → (a || (b && not c)) ≡ ((a || b) && not c)
        stays true b true h = absurd (h refl refl)
        stays true b false h = refl
        stays false b c h = refl

-- ---- The update reads after a command

-- whether a command on a file covers its unit's read of that file, by the key that was read
abbrev pub covers_key : Op → Bytes → Bool
covers_key (Rewrite f k r) l = is_same l k
covers_key (Delete f k) l = is_same l k
covers_key (DeleteGeneric f p) l = has_prefix p l
covers_key _ l = false

pub covers-key : (v : ℕ) (op : Op) (x : UpdateRead) → covers v op x ≡ (is_read_of v (file_of op) x && covers_key op x.key)
covers-key v (Rewrite f k r) x = refl
covers-key v (Delete f k) x = refl
covers-key v (DeleteGeneric f p) x = refl
covers-key v (Write f k r) x = sym (and-false (is_read_of v f x))
covers-key v (ReadUpdate f k) x = sym (and-false (is_read_of v f x))
covers-key v _ x = sym (and-false (is_read_of v [] x))

-- what it covers is its unit's read of its file
pub covers-own : (v : ℕ) (op : Op) (x : UpdateRead) → covers v op x ≡ true → is_read_of v (file_of op) x ≡ true
covers-own v op x h = (and_parts (is_read_of v (file_of op) x) (covers_key op x.key) (sym (covers-key v op x) ∙ h)).0

-- a command that covers a read acts on a file, and on something recoverable just if that file is
covers-recoverable : (o : OpeningState) (v : ℕ) (op : Op) (x : UpdateRead) → covers v op x ≡ true → is_recoverable o op ≡ file_recoverable o (file_of op)
covers-recoverable o v (Rewrite f k r) x h = refl
covers-recoverable o v (Delete f k) x h = refl
covers-recoverable o v (DeleteGeneric f p) x h = refl
covers-recoverable o v _ x h = absurd (false≢true h)

-- the same if it covers any
pub covering-recoverable : (o : OpeningState) (v : ℕ) (op : Op) (xs : List UpdateRead) → list_any (covers v op) xs ≡ true →
    is_recoverable o op ≡ file_recoverable o (file_of op)
covering-recoverable o v op [] some = absurd (false≢true some)
covering-recoverable o v op (x ∷ xs) some = elim (or_cases (covers v op x) (list_any (covers v op) xs) some) [
  | inl here ↦ covers-recoverable o v op x here
  | inr later ↦ covering-recoverable o v op xs later
]

-- if a unit has one read of a file at most, one that passes a test is the one that is found
pub read_found : (test : Bytes → Bool) (xs : List UpdateRead) (v : ℕ) (f : Bytes) → AreOnce xs →
    list_any (λ x. is_read_of v f x && test x.key) xs ≡ true → (k : Bytes) × (read_at xs v f ≡ Some k) × (test k ≡ true)
read_found test [] v f once h = absurd (false≢true h)
read_found test (x ∷ xs) v f once h =
    elim (cases_Bool (is_read_of v f x)) [
      | inl own ↦
          let both = and_parts (eqb x.unit v) (is_same x.file f) own in
          let no_more : list_any (is_read_of v f) xs ≡ false =
          ap (λ m. list_any (is_read_of m f) xs) (sym (eqb-true x.unit v both.0))
          ∙ ap (λ g. list_any (is_read_of x.unit g) xs) (sym (is_same-eq x.file f both.1)) ∙ once.0 in
          elim (or_cases (is_read_of v f x && test x.key) (list_any (λ y. is_read_of v f y && test y.key) xs) h) [
            | inl here ↦ (x.key, ap (λ b. if b then Some x.key else read_at xs v f) own, (and_parts (is_read_of v f x) (test x.key) here).1)
            | inr later ↦ absurd (true≢false (sym (any_more (λ y. is_read_of v f y && test y.key) (is_read_of v f)
                (λ y t. (and_parts (is_read_of v f y) (test y.key) t).0) xs later) ∙ no_more))
          ]
      | inr other ↦
          let rest = read_found test xs v f once.1 (sym (ap (λ b. (b && test x.key) || list_any (λ y. is_read_of v f y && test y.key) xs) other) ∙ h) in
          (rest.0, ap (λ b. if b then Some x.key else read_at xs v f) other ∙ rest.1, rest.2)
    ]

-- the reads that a command covers are the unit's read of its file, if it covers any
module _ (v : ℕ) (op : Op) (xs : List UpdateRead) (once : AreOnce xs) (some : list_any (covers v op) xs ≡ true) where
  abbrev covered_found : (k : Bytes) × (read_at xs v (file_of op) ≡ Some k) × (covers_key op k ≡ true)
  covered_found = read_found (covers_key op) xs v (file_of op) once (ap (λ p. list_any p xs) (λ i x. sym (covers-key v op x) i) ∙ some)

  abbrev pub covered_key : Bytes
  covered_key = covered_found.0

  pub covered_at : read_at xs v (file_of op) ≡ Some covered_key
  covered_at = covered_found.1

  -- each is a read of that key
  pub covered_is : OnEach (λ x. covers v op x ≡ true → (is_read_of v (file_of op) x && is_same x.key covered_key) ≡ true) xs
  covered_is = OnEach-map (λ x. is_read_of v (file_of op) x ≡ true → (is_read_of v (file_of op) x && is_same x.key covered_key) ≡ true)
      (λ x. covers v op x ≡ true → (is_read_of v (file_of op) x && is_same x.key covered_key) ≡ true)
      (λ x h c. h (covers-own v op x c)) xs (read_keys xs v (file_of op) covered_key once covered_at)

  -- and each read of that key is covered
  pub covered_all : (x : UpdateRead) → (is_read_of v (file_of op) x && is_same x.key covered_key) ≡ true → covers v op x ≡ true
  covered_all x h =
      let parts = and_parts (is_read_of v (file_of op) x) (is_same x.key covered_key) h in
      covers-key v op x ∙ and_from _ _ parts.0 (subst (λ l. covers_key op l ≡ true) (sym (is_same-eq x.key covered_key parts.1)) covered_found.2)

-- the update reads of each unit and file stay one
pub AreOnce-opened : (v : ℕ) (op : Op) (xs : List UpdateRead) →
    (is_read op ≡ true → list_any (is_read_of v (file_of op)) xs ≡ false) → AreOnce xs →
    AreOnce (opened v op (filter (λ x. not (covers v op x)) xs))
AreOnce-opened v (ReadUpdate f k) xs none once =
    AreOnce-with_read (record { unit = v; file = f; key = k }) (filter (λ x. not (covers v (ReadUpdate f k) x)) xs)
    (none_filter (is_read_of v f) (λ x. not (covers v (ReadUpdate f k) x)) xs (none refl))
    (AreOnce-filter (λ x. not (covers v (ReadUpdate f k) x)) xs once)
AreOnce-opened v op xs none once = AreOnce-filter (λ x. not (covers v op x)) xs once

-- and so does the size of their keys
pub All-opened : (P : UpdateRead → Type 0) (v : ℕ) (op : Op) (xs : List UpdateRead) →
    P (record { unit = v; file = file_of op; key = key_of op }) → All P xs →
    All P (opened v op (filter (λ x. not (covers v op x)) xs))
All-opened P v (ReadUpdate f k) xs one all =
    All-with_read P (record { unit = v; file = f; key = k }) (filter (λ x. not (covers v (ReadUpdate f k) x)) xs) one
    (All-filter (λ x. not (covers v (ReadUpdate f k) x)) P xs all)
All-opened P v op xs one all = All-filter (λ x. not (covers v op x)) P xs all

pub AreOnce-dropped : (ends : UpdateRead → Bool) (xs : List UpdateRead) → AreOnce xs → AreOnce (filter (λ x. not (ends x)) xs)
AreOnce-dropped ends xs once = AreOnce-filter (λ x. not (ends x)) xs once

-- ---- What they hold after a command

module _ (o : OpeningState) (n : ℕ) (r : Resource) (v : ℕ) where
  -- in a recoverable file the same, and by a command on a queue
  pub any_opened-recoverable : (op : Op) → is_recoverable o op ≡ true → (xs : List UpdateRead) →
      list_any (by_read o n r) (opened v op (filter (λ x. not (covers v op x)) xs)) ≡ list_any (by_read o n r) xs
  any_opened-recoverable op rec xs = opens op rec (any_kept (by_read o n r) (covers v op) xs (λ x c.
      by_read-recoverable o n r (file_of op) (sym (covers-recoverable o v op x c) ∙ rec) x
      (and_parts (eqb x.unit v) (is_same x.file (file_of op)) (covers-own v op x c)).1))
    where
      opens : (op : Op) → is_recoverable o op ≡ true →
          list_any (by_read o n r) (filter (λ x. not (covers v op x)) xs) ≡ list_any (by_read o n r) xs →
          list_any (by_read o n r) (opened v op (filter (λ x. not (covers v op x)) xs)) ≡ list_any (by_read o n r) xs
      opens (ReadUpdate f k) rec same =
          any_with_read_more (by_read o n r) (record { unit = v; file = f; key = k }) (filter (λ x. not (covers v (ReadUpdate f k) x)) xs)
          ∙ ap (λ b. b || list_any (by_read o n r) (filter (λ x. not (covers v (ReadUpdate f k) x)) xs))
          (by_read-recoverable o n r f rec (record { unit = v; file = f; key = k }) (is_same-self f))
          ∙ same
      opens op rec same = same

  -- in another file READ UPDATE holds its record more
  pub any_opened-read : (op : Op) → is_read op ≡ true → is_recoverable o op ≡ false → (xs : List UpdateRead) →
      list_any (by_read o n r) (opened v op (filter (λ x. not (covers v op x)) xs))
      ≡ (((v == n) && list_any (is_one r) (uses_of o op)) || list_any (by_read o n r) xs)
  any_opened-read (ReadUpdate f k) reads local xs =
      any_with_read_more (by_read o n r) (record { unit = v; file = f; key = k }) (filter (λ x. not (covers v (ReadUpdate f k) x)) xs)
      ∙ (λ i. (by_read-local o n r v f k local (record { unit = v; file = f; key = k })
      (and_from _ _ (and_from _ _ (eq-eqb v v refl) (is_same-self f)) (is_same-self k))
      ∙ ap (λ b. (v == n) && b) (sym (or-false (is_one r (record_of f k))))) i
      || any_kept (by_read o n r) (covers v (ReadUpdate f k)) xs (λ x c. absurd (false≢true c)) i)
  any_opened-read _ reads local xs = absurd (false≢true reads)

  -- the other commands open none
  pub any_opened-none : (op : Op) → is_read op ≡ false → (xs : List UpdateRead) →
      list_any (by_read o n r) (opened v op xs) ≡ list_any (by_read o n r) xs
  any_opened-none (ReadUpdate f k) reads xs = absurd (true≢false reads)
  any_opened-none op reads xs = refl
