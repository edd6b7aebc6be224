-- Look-ups by the first bytes in entries that rise.
use Rattle.std.proofs.Common.{Bor, ◌≡◌, ℕ, ◌&&◌, ◌==◌, Bool, true, false, cond, Option, Some, None, [], ◌∷◌, ◌++◌, length, suc, All, arith, refl, sym, ap, subst, ◌∙◌, inl, inr, append_assoc, ◌<◌, zero}
use Rattle.std.specs.Bool.{OnFalse}
use Rattle.std.specs.Prelude.{slice_get, is_some, option_map, drop, filter, if◌then◌else◌}
use Rattle.std.specs.Map.{keys_of, lookup}
use Rattle.std.specs.List.{AllByRecursion}
use Rattle.std.specs.List.Sorted.{IsStrictlySortedBy}
use Rattle.std.specs.declared.cmp.Ordering.TheVariants.{Less, Equal, Greater}
use Rattle.std.specs.Ordering.{nat_cmp, is_lt, is_le, is_gt, ordering_then, ordering_reverse}
use Rattle.std.specs.Cmp.{nat_cmp_total, tied_itself}
use Rattle.std.specs.FinMap.{nat_cmp-IsAntisymmetric}
use Rattle.std.proofs.lemmas.Bool.{cases_Bool, le-ltb, eqb-true, eq-eqb, and_parts, and_from}
use Rattle.cics_names.specs.Keyed.{Bytes, bytes_cmp, is_below, is_same}
use Rattle.cics_names.specs.KeyedLaws.{is_same-eq}
use Rattle.cics_enqueue.specs.declared.enqueues.Holding.{Holding}
use Rattle.cics_history.specs.declared.resources.Resource.{Resource}
use Rattle.cics_history.specs.declared.resources.Resource.TheVariants.{FileKey, FilePrefix}
use Rattle.cics_enqueue.specs.Borrowed.{named}
use Rattle.cics_enqueue.specs.declared.borrowed.ResourceKind.{ResourceKind}
use Rattle.cics_enqueue.specs.declared.borrowed.ResourceKind.TheVariants.{FileKey as KeyAt, FilePrefix as PrefixAt, TsQueue as TsQueueOf, TdRead as ReadingEndOf, TdWrite as WritingEndOf, User as UserAt}
use Rattle.cics_enqueue.specs.Kept.{Entries, Owned, IsKept, owns, is_units, AreKeys, table_of, seen, bytes_and_unit, first_entry, is_others_under, others_unit, first_cover, lesser_shown}
use Rattle.cics_history.specs.Resources.{bytes_of}
use Rattle.cics_history.specs.Holding.{is_other}
use Rattle.cics_ksds.specs.Prefixes.{has_prefix}
use Rattle.cics_enqueue.specs.Table.{Table, Held, holder_over, resource_key, is_under, first_that, first_of, lesser, least_under, other_than, holder_of, holder_of_shorter}
use Rattle.cics_enqueue.specs.Order.{resource_of}
use Rattle.cics_enqueue.proofs.Tables.{holder_of-table_of, unheld}

-- ---- bytes that begin with others
pub has_prefix-trans : (a b c : Bytes) → has_prefix a b ≡ true → has_prefix b c ≡ true → has_prefix a c ≡ true
has_prefix-trans [] b c h g = refl
has_prefix-trans (x ∷ a) [] c h g = cc
has_prefix-trans (x ∷ a) (y ∷ b) [] h g = cc
has_prefix-trans (x ∷ a) (y ∷ b) (z ∷ c) h g =
    let p = and_parts (x == y) (has_prefix a b) h in
    let q = and_parts (y == z) (has_prefix b c) g in
    and_from _ _ (eq-eqb x z (eqb-true x y p.0 ∙ eqb-true y z q.0)) (has_prefix-trans a b c p.1 q.1)

-- equal numbers tie
pub tied : (x y : ℕ) → (x == y) ≡ true → nat_cmp x y ≡ Equal
tied x y e = subst (λ z. nat_cmp x z ≡ Equal) (eqb-true x y e) (self x)
  where
    self : (x : ℕ) → nat_cmp x x ≡ Equal
    self x = tied_itself nat_cmp_total x

-- what begins with some bytes isn't below them
pub has_prefix-le : (s b : Bytes) → has_prefix s b ≡ true → is_le (bytes_cmp s b) ≡ true
has_prefix-le [] [] h = refl
has_prefix-le [] (y ∷ b) h = refl
has_prefix-le (x ∷ s) [] h = cc
has_prefix-le (x ∷ s) (y ∷ b) h =
    let p = and_parts (x == y) (has_prefix s b) h in
    ap (λ o. is_le (ordering_then o (bytes_cmp s b))) (tied x y p.0) ∙ has_prefix-le s b p.1

-- past what begins with some bytes nothing does
pub passed : (s k b : Bytes) → is_lt (bytes_cmp s k) ≡ true → has_prefix s k ≡ false → bytes_cmp k b ≡ Less → has_prefix s b ≡ false
passed [] k b above other below = cc
passed (x ∷ s) [] b above other below = cc
passed (x ∷ s) (y ∷ k) [] above other below = cc
passed (x ∷ s) (y ∷ k) (z ∷ b) above other below = elim (cases_Bool (x == z)) [
  | inl same ↦ ap (λ t. t && has_prefix s b) same ∙ step (passed s k b) (subst (λ w. ordering_then (nat_cmp y w) (bytes_cmp k b) ≡ Less) (sym (eqb-true x z same)) below)
  | inr apart ↦ ap (λ t. t && has_prefix s b) apart
]
  where
    -- if the first bytes are the same, so is the rest
    rest : (is_lt (bytes_cmp s k) ≡ true → has_prefix s k ≡ false → bytes_cmp k b ≡ Less → has_prefix s b ≡ false) → (x == y) ≡ true → ordering_then (nat_cmp y x) (bytes_cmp k b) ≡ Less → has_prefix s b ≡ false
    rest later one below = later
        (ap (λ o. is_lt (ordering_then o (bytes_cmp s k))) (sym (tied x y one)) ∙ above)
        (ap (λ t. t && has_prefix s k) (sym one) ∙ other)
        (ap (λ o. ordering_then o (bytes_cmp k b)) (sym (tied y x (eq-eqb y x (sym (eqb-true x y one))))) ∙ below)

    step : (is_lt (bytes_cmp s k) ≡ true → has_prefix s k ≡ false → bytes_cmp k b ≡ Less → has_prefix s b ≡ false) → ordering_then (nat_cmp y x) (bytes_cmp k b) ≡ Less → has_prefix s b ≡ false
    step later below = elim (nat_cmp x y) as (λ o. nat_cmp x y ≡ o → is_lt (ordering_then o (bytes_cmp s k)) ≡ true → has_prefix s b ≡ false) [
      | Less ↦ λ less above.
          let turned : nat_cmp y x ≡ Greater = nat_cmp_total.antisymm y x ∙ ap ordering_reverse less in
          let wrong : Greater ≡ Less = sym (ap (λ o. ordering_then o (bytes_cmp k b)) turned) ∙ below in cc
      | Equal ↦ λ same above. rest later (eq-eqb x y (nat_cmp-IsAntisymmetric x y same)) below
      | Greater ↦ λ more above. cc
    ] refl above

-- ---- entries that rise
abbrev pub Above : Bytes → Entries → Type 0
Above k [] = Unit {0}
Above k (e ∷ es) = (bytes_cmp k e.0 ≡ Less) × Above k es

abbrev pub Rises : Entries → Type 0
Rises [] = Unit {0}
Rises (e ∷ es) = Above e.0 es × Rises es

pub rises_sorted : (es : Entries) → IsStrictlySortedBy bytes_cmp (keys_of es) → Rises es
unfolding IsStrictlySortedBy
rises_sorted [] h = tt
rises_sorted (e ∷ es) h = (above es h.0, rises_sorted es h.1)
  where
    above : (fs : Entries) → AllByRecursion (λ y. bytes_cmp e.0 y ≡ Less) (keys_of fs) → Above e.0 fs
    above [] g = tt
    above (f ∷ fs) g = (g.0, above fs g.1)

module _ (p : Bytes × Holding → Bool) where
  Above-filter : (k : Bytes) (es : Entries) → Above k es → Above k (filter p es)
  Above-filter k [] h = tt
  Above-filter k (e ∷ es) h = elim (p e) as (λ b. Above k (cond b (e ∷ filter p es) (filter p es))) [ true ↦ (h.0, Above-filter k es h.1) | false ↦ Above-filter k es h.1 ]

  pub Rises-filter : (es : Entries) → Rises es → Rises (filter p es)
  Rises-filter [] h = tt
  Rises-filter (e ∷ es) h = elim (p e) as (λ b. Rises (cond b (e ∷ filter p es) (filter p es))) [ true ↦ (Above-filter e.0 es h.0, Rises-filter es h.1) | false ↦ Rises-filter es h.1 ]

  -- what is left out would not pass
  pub first_entry-filter : (test : Bytes × Holding → Bool) → ((e : Bytes × Holding) → p e ≡ false → test e ≡ false) → (es : Entries) → first_entry test (filter p es) ≡ first_entry test es
  first_entry-filter test out [] = refl
  first_entry-filter test out (e ∷ es) = elim (p e) as (λ b. p e ≡ b → first_entry test (cond b (e ∷ filter p es) (filter p es)) ≡ first_entry test (e ∷ es)) [
    | true ↦ λ t. ap (λ o. if test e then Some e else o) (first_entry-filter test out es)
    | false ↦ λ f. first_entry-filter test out es ∙ sym (ap (λ b. if b then Some e else first_entry test es) (out e f))
  ] refl

-- past what begins with some bytes nothing is asked for
pub first_entry-passed : (start k : Bytes) (asker : Option ℕ) (es : Entries) → is_lt (bytes_cmp start k) ≡ true → has_prefix start k ≡ false → Above k es → first_entry (is_others_under start asker) es ≡ None
first_entry-passed start k asker [] above other h = refl
first_entry-passed start k asker (e ∷ es) above other h =
    ap (λ b. if b && is_other asker e.1.unit then Some e else first_entry (is_others_under start asker) es) (passed start k e.0 above other h.0)
    ∙ first_entry-passed start k asker es above other h.1

-- the first entry passes, or it doesn't
pub first_entry-here : (test : Bytes × Holding → Bool) (e : Bytes × Holding) (es : Entries) → test e ≡ true → first_entry test (e ∷ es) ≡ Some e
first_entry-here test e es y = ap (λ b. if b then Some e else first_entry test es) y

pub first_entry-past : (test : Bytes × Holding → Bool) (e : Bytes × Holding) (es : Entries) → test e ≡ false → first_entry test (e ∷ es) ≡ first_entry test es
first_entry-past test e es n = ap (λ b. if b then Some e else first_entry test es) n

-- what a look-up leaves out before its bound doesn't begin with what is asked for
pub before_bound : (from start : Bytes) (asker : Option ℕ) → has_prefix from start ≡ true → (e : Bytes × Holding) → (is_le (bytes_cmp from e.0) && true) ≡ false → is_others_under start asker e ≡ false
before_bound from start asker bound e out = elim (cases_Bool (has_prefix start e.0)) [
  | inl y ↦
      let inside : is_le (bytes_cmp from e.0) ≡ true = has_prefix-le from e.0 (has_prefix-trans from start e.0 bound y) in
      let wrong : true ≡ false = sym (ap (λ b. b && true) inside) ∙ out in cc
  | inr n ↦ ap (λ b. b && is_other asker e.1.unit) n
]

pub never : (b : Bool) → (b && false) ≡ false
never true = refl
never false = refl

-- if the least key is of another kind than the first, no key is of the first
module _ (b first rest : Bytes) (kind : ℕ) (is : first ≡ kind ∷ rest) (other : (kind == 0) ≡ false) where
  above_zero : nat_cmp kind 0 ≡ Greater
  above_zero = ap (λ t. cond t Less (cond (kind == 0) Equal Greater)) (le-ltb kind 0 (omega arith)) ∙ ap (λ t. cond t Equal Greater) other

  apart : (k : Bytes) → is_gt (bytes_cmp first k) ≡ false → is_same (0 ∷ b) k ≡ false
  apart k below = elim (cases_Bool (is_same (0 ∷ b) k)) [
    | inl y ↦
        let greater : is_gt (bytes_cmp first k) ≡ true = (λ i. is_gt (bytes_cmp (is i) (sym (is_same-eq (0 ∷ b) k y) i))) ∙ ap (λ o. is_gt (ordering_then o (bytes_cmp rest b))) above_zero in
        let wrong : true ≡ false = sym greater ∙ below in cc
    | inr n ↦ n
  ]

  pub none_of_kind : (es : Entries) → All (λ k. is_gt (bytes_cmp first k) ≡ false) (keys_of es) → lookup (is_same (0 ∷ b)) es ≡ None
  none_of_kind [] least = refl
  none_of_kind (e ∷ es) least = ap (λ t. cond t (Some e.1) (lookup (is_same (0 ∷ b)) es)) (apart e.0 (least 0 e.0 (omega arith))) ∙ none_of_kind es (λ k d lt. least (suc k) d (omega (arith, lt)))

-- the first element
pub headed : (xs : Bytes) (x : ℕ) → slice_get xs 0 ≡ Some x → (rest : Bytes) × (xs ≡ x ∷ rest)
headed [] x at = cc
headed (y ∷ ys) x at = let same : y ≡ x = cc in (ys, ap (λ z. z ∷ ys) same)

pub on_false_by : {Q : Type 0} (b : Bool) → (b ≡ false → Q) → OnFalse b Q
on_false_by true h = tt
on_false_by false h = h refl

-- ---- what the table says of a look-up
-- an entry as the table has it
abbrev pub entry_of : Bytes × Holding → Resource × Held
entry_of e = (resource_of e.0, seen e.1)

pub first_that-table_of : (start : Resource) (key : Bytes) → key ≡ resource_key start → (asker : Option ℕ) (es : Entries) → AreKeys es →
    first_that (λ e. is_under start e.0 && is_other asker e.1.unit) (table_of es) ≡ option_map entry_of (first_entry (is_others_under key asker) es)
first_that-table_of start key is asker [] sound = refl
first_that-table_of start key is asker (e ∷ es) sound =
    ap (λ b. if b && is_other asker e.1.unit then Some (entry_of e) else first_that (λ e. is_under start e.0 && is_other asker e.1.unit) (table_of es)) (λ i. has_prefix (sym is i) (sound.0 i))
    ∙ elim (is_others_under key asker e) as (λ b. (if b then Some (entry_of e) else first_that (λ e. is_under start e.0 && is_other asker e.1.unit) (table_of es)) ≡ option_map entry_of (if b then Some e else first_entry (is_others_under key asker) es)) [
      | true ↦ refl
      | false ↦ first_that-table_of start key is asker es sound.1
    ]

IsSoundEntry : Option (Bytes × Holding) → Type 0
IsSoundEntry None = Unit {0}
IsSoundEntry (Some e) = resource_key (resource_of e.0) ≡ e.0

first_entry-sound : (test : Bytes × Holding → Bool) (es : Entries) → AreKeys es → IsSoundEntry (first_entry test es)
unfolding IsSoundEntry
first_entry-sound test [] sound = tt
first_entry-sound test (e ∷ es) sound = elim (test e) as (λ b. IsSoundEntry (if b then Some e else first_entry test es)) [ true ↦ sound.0 | false ↦ first_entry-sound test es sound.1 ]

abbrev unit_of : Resource × Held → ℕ
unit_of e = e.1.unit

abbrev second_of : Bytes × ℕ → ℕ
second_of p = p.1

lesser-shown : (a b : Option (Bytes × Holding)) → IsSoundEntry a → IsSoundEntry b → option_map unit_of (lesser (option_map entry_of a) (option_map entry_of b)) ≡ option_map second_of (lesser_shown (option_map bytes_and_unit a) (option_map bytes_and_unit b))
unfolding IsSoundEntry
lesser-shown None None x y = refl
lesser-shown None (Some e) x y = refl
lesser-shown (Some d) None x y = refl
lesser-shown (Some d) (Some e) x y =
    ap (λ b. option_map unit_of (if b then Some (entry_of e) else Some (entry_of d))) (λ i. is_below (drop 1 (y i)) (drop 1 (x i)))
    ∙ elim (is_below (drop 1 e.0) (drop 1 d.0)) as (λ b. option_map unit_of (if b then Some (entry_of e) else Some (entry_of d)) ≡ option_map second_of (if b then Some (bytes_and_unit e) else Some (bytes_and_unit d))) [ true ↦ refl | false ↦ refl ]

-- the least key or prefix that begins with a prefix
pub least_under-shown : (f p : Bytes) (asker : Option ℕ) (es : Entries) → AreKeys es → (key prefix : Bytes) → key ≡ resource_key (FileKey f (bytes_of p)) → prefix ≡ resource_key (FilePrefix f (bytes_of p)) →
    option_map (λ e. e.1.unit) (least_under f p asker (table_of es)) ≡ option_map (λ p. p.1) (lesser_shown (option_map bytes_and_unit (first_entry (is_others_under key asker) es)) (option_map bytes_and_unit (first_entry (is_others_under prefix asker) es)))
least_under-shown f p asker es sound key prefix is_key is_prefix =
    (λ i. option_map unit_of (lesser (first_that-table_of (FileKey f (bytes_of p)) key is_key asker es sound i) (first_that-table_of (FilePrefix f (bytes_of p)) prefix is_prefix asker es sound i)))
    ∙ lesser-shown (first_entry (is_others_under key asker) es) (first_entry (is_others_under prefix asker) es) (first_entry-sound _ es sound) (first_entry-sound _ es sound)

-- another unit's holding of a resource
pub other_than-table_of : (r : Resource) (key : Bytes) → key ≡ resource_key r → (asker : Option ℕ) (es : Entries) → AreKeys es → other_than asker (holder_of r (table_of es)) ≡ others_unit asker (lookup (is_same key) es)
other_than-table_of r key is asker es sound = ap (other_than asker) (holder_of-table_of r key is es (lookup (is_same key) es) sound refl) ∙ step (lookup (is_same key) es)
  where
    step : (o : Option Holding) → other_than asker (option_map (λ h. h.unit) o) ≡ others_unit asker o
    step None = refl
    step (Some h) = refl

-- if no other unit owns a key, none owns a resource
pub alone-table_of : (es : Entries) (own : Owned) (asker : Option ℕ) → IsKept es own → ((u : ℕ) (k : Bytes) → is_other asker u ≡ true → owns own u k ≡ false) → (s : Resource) → other_than asker (holder_of s (table_of es)) ≡ None
alone-table_of es own asker kept alone s = other_than-table_of s (resource_key s) refl asker es kept.keys ∙ step (lookup (is_same (resource_key s)) es) refl
  where
    step : (o : Option Holding) → lookup (is_same (resource_key s)) es ≡ o → others_unit asker o ≡ None
    step None at = refl
    step (Some h) at = elim (is_other asker h.unit) as (λ b. is_other asker h.unit ≡ b → (if b then Some h.unit else None) ≡ None) [
      | true ↦ λ other.
          let own_key : is_units h.unit (Some h) ≡ false = sym (ap (is_units h.unit) at) ∙ unheld es own h.unit (resource_key s) kept.owned (alone h.unit (resource_key s) other) in
          let wrong : true ≡ false = sym (eq-eqb h.unit h.unit refl) ∙ own_key in cc
      | false ↦ λ same. refl
    ] refl

-- the owner of a shorter prefix
pub shorter-table_of : (f : Bytes) (asker : Option ℕ) (es : Entries) → AreKeys es → (rest p : Bytes) → holder_of_shorter f p rest asker (table_of es) ≡ first_cover asker es (0 ∷ length f ∷ (f ++ p)) rest
shorter-table_of f asker es sound [] p = refl
shorter-table_of f asker es sound (x ∷ rest) p =
    (λ i. first_of (other_than-table_of (FilePrefix f (bytes_of p)) (0 ∷ length f ∷ (f ++ p)) refl asker es sound i) (shorter-table_of f asker es sound rest (p ++ x ∷ []) i))
    ∙ ap (λ k. first_of (others_unit asker (lookup (is_same (0 ∷ length f ∷ (f ++ p))) es)) (first_cover asker es (0 ∷ length f ∷ k) rest)) (sym (append_assoc f p (x ∷ [])))

-- if no prefix is owned, no shorter one is
pub first_cover-none : (asker : Option ℕ) (es : Entries) → ((b : Bytes) → lookup (is_same (0 ∷ b)) es ≡ None) → (rest b : Bytes) → first_cover asker es (0 ∷ b) rest ≡ None
first_cover-none asker es none [] b = refl
first_cover-none asker es none (x ∷ rest) b = (λ i. first_of (others_unit asker (none b i)) (first_cover asker es (0 ∷ b ++ x ∷ []) rest)) ∙ first_cover-none asker es none rest (b ++ x ∷ [])

-- if no prefix is owned, none conflicts with a key or a longer prefix
pub shorter-none : (f b : Bytes) (asker : Option ℕ) (es : Entries) → AreKeys es → ((b : Bytes) → lookup (is_same (0 ∷ b)) es ≡ None) → holder_of_shorter f [] b asker (table_of es) ≡ None
shorter-none f b asker es sound none = shorter-table_of f asker es sound b [] ∙ first_cover-none asker es none b (length f ∷ (f ++ []))

-- one that is there is the first
pub first_of-some : (o y : Option ℕ) → is_some o ≡ true → first_of o y ≡ o
first_of-some None y is = cc
first_of-some (Some x) y is = refl

-- an element within a list
pub drop_there : (xs : Bytes) (i : ℕ) → i < length xs → (x : ℕ) × (rest : Bytes) × (drop i xs ≡ x ∷ rest)
drop_there [] i lt = absurd (omega arith)
drop_there (x ∷ xs) zero lt = (x, xs, refl)
drop_there (x ∷ xs) (suc i) lt = drop_there xs i (omega arith)

-- the first is what was found, or else the second is
pub first_of-found : (o p y : Option ℕ) → o ≡ p → is_some o ≡ true → o ≡ first_of p y
first_of-found o p y same is = sym (ap (λ q. first_of q y) (sym same) ∙ first_of-some o y is)

pub first_of-passed : (o p y z : Option ℕ) → o ≡ p → is_some o ≡ false → z ≡ y → z ≡ first_of p y
first_of-passed None p y z same is found = found ∙ ap (λ q. first_of q y) same
first_of-passed (Some x) p y z same is found = cc

-- the lesser of two that are there
pub lesser_of-two : (a b : Option (Bytes × ℕ)) (k p : Bytes) (h o : ℕ) → a ≡ Some (k, h) → b ≡ Some (p, o) → option_map (λ q. q.1) (lesser_shown a b) ≡ Some (if is_below (drop 1 p) (drop 1 k) then o else h)
lesser_of-two a b k p h o is_a is_b = (λ i. option_map second_of (lesser_shown (is_a i) (is_b i))) ∙ step (is_below (drop 1 p) (drop 1 k))
  where
    step : (x : Bool) → option_map second_of (if x then Some (p, o) else Some (k, h)) ≡ Some (if x then o else h)
    step true = refl
    step false = refl

-- what is no record and no prefix conflicts with itself alone
pub holder_over-plain : (k : ResourceKind) (asker : Option ℕ) (t : Table) → ((f : Bytes) (b : Bor Bytes) → k ≡ KeyAt f b → ⊥) → ((f : Bytes) (b : Bor Bytes) → k ≡ PrefixAt f b → ⊥) → holder_over (named k) asker t ≡ other_than asker (holder_of (named k) t)
holder_over-plain (KeyAt f b) asker t no_key no_prefix = absurd (no_key f b refl)
holder_over-plain (PrefixAt f b) asker t no_key no_prefix = absurd (no_prefix f b refl)
holder_over-plain (TsQueueOf q) asker t no_key no_prefix = refl
holder_over-plain (ReadingEndOf q) asker t no_key no_prefix = refl
holder_over-plain (WritingEndOf q) asker t no_key no_prefix = refl
holder_over-plain (UserAt v) asker t no_key no_prefix = refl
