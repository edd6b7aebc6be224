-- The entries whose keys begin with a prefix stand side by side.
use Rattle.std.proofs.Common.{map, take, set, ◌++◌, Option, None, IfSome, ◌≡◌, ℕ, zero, suc, ◌+◌, ◌<◌, ◌≤◌, Some, inl, inr, get_or, Bool, true, false, not, ◌&&◌, cond, T, List, [], ◌∷◌, length, drop, nat_eq, refl, sym, ◌∙◌, ap, subst, arith}
use Rattle.std.specs.List.{filter}
use Rattle.std.specs.Ordering.{is_lt, is_eq, nat_cmp, ordering_then}
use Rattle.std.specs.declared.cmp.Ordering.{Ordering}
use Rattle.std.specs.declared.cmp.Ordering.TheVariants.{Less, Equal, Greater}
use Rattle.std.specs.FinMap.{nat_cmp-IsAntisymmetric}
use Rattle.std.specs.Cmp.{tied_itself}
use Rattle.std.proofs.lemmas.Cmp.{nat_cmp_total}
use Rattle.std.proofs.lemmas.Bool.{eqb-true, eq-eqb}
use Rattle.std.specs.FinMap.Entries.{below_all}
use Rattle.cics_names.specs.Keyed.{Bytes, Map, value_at, bytes_cmp, is_rising, is_same, without}
use Rattle.cics_ksds.specs.declared.definition.FileDef.{FileDef}
use Rattle.cics_ksds.specs.declared.slots.Slot.{Slot}
use Rattle.cics_ksds.specs.declared.slots.Slot.TheVariants.{Filled, Empty}
use Rattle.cics_ksds.specs.Files.{is_from, key_of}
use Rattle.cics_ksds.specs.declared.slots.Position.{Position}
use Rattle.cics_ksds.specs.Slots.{record_in, AreSlots, IsAt, IsSlot, keyed_slots, key_at, slot_key, filled_slots, value_of, slots_in, index_of, IsRecordUnder, left_at}
use Rattle.cics_ksds.proofs.Bounds.{before_at, after_at, here_at}
use Rattle.cics_ksds.proofs.IntervalEdits.{index_within}
use Rattle.cics_ksds.proofs.Edits.{find_at}
use Rattle.cics_ksds.proofs.Values.{get_records}
use Rattle.std.specs.Option.{option_and_then}
use Rattle.std.proofs.lemmas.List.{drop_more, get_or_default}
use Rattle.cics_ksds.specs.Prefixes.{has_prefix, under, from}
use Rattle.cics_ksds.proofs.Order.{total, first, second, less, same_or_below}

-- ---- what passes one test after another
filter_within : {X : Type 0} (p q : X → Bool) → ((x : X) → p x ≡ true → q x ≡ true) → (xs : List X) → filter p (filter q xs) ≡ filter p xs
filter_within p q within [] = refl
filter_within p q within (x ∷ xs) = by (filter_within p q within xs) (p x) (q x) refl refl
  where
    by : filter p (filter q xs) ≡ filter p xs → (a b : Bool) → p x ≡ a → q x ≡ b → filter p (cond (q x) (x ∷ filter q xs) (filter q xs)) ≡ cond (p x) (x ∷ filter p xs) (filter p xs)
    by rest a true here there = ap (λ c. filter p (cond c (x ∷ filter q xs) (filter q xs))) there ∙ ap (λ l. cond (p x) (x ∷ l) l) rest
    by rest true false here there = let wrong : true ≡ false = sym (within x here) ∙ there in cc
    by rest false false here there = ap (λ c. filter p (cond c (x ∷ filter q xs) (filter q xs))) there ∙ rest ∙ sym (ap (λ c. cond c (x ∷ filter p xs) (filter p xs)) here)

-- ---- keys that begin with a prefix
left : (a b : Bool) → (a && b) ≡ true → a ≡ true
left true b e = refl
left false b e = e

right : (a b : Bool) → (a && b) ≡ true → b ≡ true
right true b e = e
right false b e = let wrong : false ≡ true = e in cc

-- a prefix begins with itself
pub prefix_itself : (p : Bytes) → has_prefix p p ≡ true
prefix_itself [] = refl
prefix_itself (x ∷ p) = (λ i. eq-eqb x x refl i && prefix_itself p i)

-- no key that begins with a prefix is below it
prefix_from : (p k : Bytes) → has_prefix p k ≡ true → is_from p false k ≡ true
prefix_from [] [] has = refl
prefix_from [] (y ∷ k) has = refl
prefix_from (x ∷ p) [] has = let wrong : false ≡ true = has in cc
prefix_from (x ∷ p) (y ∷ k) has =
    let same : x ≡ y = eqb-true x y (left _ _ has) in
    ap (λ o. not (is_lt (ordering_then o (bytes_cmp k p)))) (ap (nat_cmp y) same ∙ tied_itself nat_cmp_total y) ∙ prefix_from p k (right _ _ has)

-- a key that isn't below a prefix, and is below one that begins with it, begins with it
convex : (p b c : Bytes) → has_prefix p c ≡ true → is_from p false b ≡ true → bytes_cmp b c ≡ Less → has_prefix p b ≡ true
convex [] b c hc above below = refl
convex (x ∷ p) [] c hc above below = let wrong : false ≡ true = above in cc
convex (x ∷ p) (v ∷ b) [] hc above below = let wrong : false ≡ true = hc in cc
convex (x ∷ p) (v ∷ b) (w ∷ c) hc above below =
    let same : x ≡ w = eqb-true x w (left _ _ hc) in
    by (λ above below. convex p b c (right _ _ hc) above below) (nat_cmp v x) refl above (ap (λ n. ordering_then (nat_cmp v n) (bytes_cmp b c)) same ∙ below)
  where
    by : (is_from p false b ≡ true → bytes_cmp b c ≡ Less → has_prefix p b ≡ true) → (o : Ordering) → nat_cmp v x ≡ o → not (is_lt (ordering_then (nat_cmp v x) (bytes_cmp b p))) ≡ true → ordering_then (nat_cmp v x) (bytes_cmp b c) ≡ Less → (nat_eq x v && has_prefix p b) ≡ true
    by rest Less is above below = let wrong : false ≡ true = sym (ap (λ r. not (is_lt (ordering_then r (bytes_cmp b p)))) is) ∙ above in cc
    by rest Equal is above below = (λ i. eq-eqb x v (sym (nat_cmp-IsAntisymmetric v x is)) i && rest (sym (ap (λ r. not (is_lt (ordering_then r (bytes_cmp b p)))) is) ∙ above) (sym (ap (λ r. ordering_then r (bytes_cmp b c)) is) ∙ below) i)
    by rest Greater is above below = let wrong : false ≡ true = ap is_lt (sym (ap (λ r. ordering_then r (bytes_cmp b c)) is) ∙ below) in cc

-- a key above one that begins with a prefix isn't below the prefix
pub above_from : (p k q : Bytes) → has_prefix p k ≡ true → is_from k true q ≡ true → is_from p false q ≡ true
above_from p k q has above = by (bytes_cmp q p) refl
  where
    by : (o : Ordering) → bytes_cmp q p ≡ o → not (is_lt o) ≡ true
    by Less is = let wrong : false ≡ true = sym (ap (λ o. not (is_lt o)) (total.trans k q p (less _ (subst T (sym above) tt)) is)) ∙ prefix_from p k has in cc
    by Equal is = refl
    by Greater is = refl

-- ---- the records from a bound on
-- where the keys that pass are those from a place on, the entries that pass are those from there on
pub from_start : (d : FileDef) (bound : Bytes) (strict : Bool) (slots : List Slot) (start : ℕ) →
    ((j : ℕ) → j < start → j < length slots → is_from bound strict (key_at d slots j) ≡ false) → ((j : ℕ) → start ≤ j → j < length slots → is_from bound strict (key_at d slots j) ≡ true) →
    from bound strict (filled_slots (keyed_slots d slots)) ≡ filled_slots (keyed_slots d (drop start slots))
from_start d bound strict [] zero before after = refl
from_start d bound strict [] (suc start) before after = refl
from_start d bound strict (Filled r ∷ ps) zero before after =
    ap (λ b. cond b ((key_of d r, r) ∷ from bound strict (filled_slots (keyed_slots d ps))) (from bound strict (filled_slots (keyed_slots d ps)))) (after 0 (omega arith) (omega arith))
    ∙ ap (λ l. (key_of d r, r) ∷ l) (from_start d bound strict ps zero (λ j lt in_range. absurd (omega (arith, lt))) (λ j le lt. after (suc j) (omega arith) (omega (arith, lt))))
from_start d bound strict (Empty k ∷ ps) zero before after = from_start d bound strict ps zero (λ j lt in_range. absurd (omega (arith, lt))) (λ j le lt. after (suc j) (omega arith) (omega (arith, lt)))
from_start d bound strict (Filled r ∷ ps) (suc start) before after =
    ap (λ b. cond b ((key_of d r, r) ∷ from bound strict (filled_slots (keyed_slots d ps))) (from bound strict (filled_slots (keyed_slots d ps)))) (before 0 (omega arith) (omega arith))
    ∙ from_start d bound strict ps start (λ j lt in_range. before (suc j) (omega (arith, lt)) (omega (arith, in_range))) (λ j le lt. after (suc j) (omega (arith, le)) (omega (arith, lt)))
from_start d bound strict (Empty k ∷ ps) (suc start) before after = from_start d bound strict ps start (λ j lt in_range. before (suc j) (omega (arith, lt)) (omega (arith, in_range))) (λ j le lt. after (suc j) (omega (arith, le)) (omega (arith, lt)))

-- what is left of slots in order is in order
pub rising_drop : (d : FileDef) (n : ℕ) (slots : List Slot) → T (is_rising (keyed_slots d slots)) → T (is_rising (keyed_slots d (drop n slots)))
rising_drop d zero slots rising = rising
rising_drop d (suc n) [] rising = tt
rising_drop d (suc n) (p ∷ ps) rising = rising_drop d n ps (second _ _ rising)

-- ---- where the prefix ends
module _ (d : FileDef) (prefix k : Bytes) (from_prefix : is_from prefix false k ≡ true) (ends : has_prefix prefix k ≡ false) where
  beyond : (b : Bool) (q : Bytes) → has_prefix prefix q ≡ b → bytes_cmp k q ≡ Less → b ≡ false
  beyond true q has below = let wrong : true ≡ false = sym (convex prefix k q has from_prefix below) ∙ ends in cc
  beyond false q has below = refl

  -- no key above one that doesn't begin with it begins with it
  none_above : (slots : List Slot) → T (below_all bytes_cmp k (keyed_slots d slots)) → under prefix (filled_slots (keyed_slots d slots)) ≡ []
  none_above [] below = refl
  none_above (Filled r ∷ ps) below =
      ap (λ b. cond b ((key_of d r, r) ∷ under prefix (filled_slots (keyed_slots d ps))) (under prefix (filled_slots (keyed_slots d ps)))) (beyond (has_prefix prefix (key_of d r)) (key_of d r) refl (less _ (first _ _ below)))
      ∙ none_above ps (second _ _ below)
  none_above (Empty e ∷ ps) below = none_above ps (second _ _ below)

  pub none_left : (p : Slot) (slots : List Slot) → slot_key d p ≡ k → T (is_rising (keyed_slots d (p ∷ slots))) → under prefix (filled_slots (keyed_slots d (p ∷ slots))) ≡ []
  none_left (Filled r) ps is rising =
      ap (λ b. cond b ((key_of d r, r) ∷ under prefix (filled_slots (keyed_slots d ps))) (under prefix (filled_slots (keyed_slots d ps)))) (ap (has_prefix prefix) is ∙ ends)
      ∙ none_above ps (subst (λ q. T (below_all bytes_cmp q (keyed_slots d ps))) is (first _ _ rising))
  none_left (Empty e) ps is rising = none_above ps (subst (λ q. T (below_all bytes_cmp q (keyed_slots d ps))) is (first _ _ rising))

-- ---- the records under a prefix
under_from : (prefix : Bytes) (records : Map Bytes) → under prefix (from prefix false records) ≡ under prefix records
under_from prefix records = filter_within (λ e. has_prefix prefix e.0) (λ e. is_from prefix false e.0) (λ e has. prefix_from prefix e.0 has) records

-- from the first key that isn't below the prefix on, all records under it are left
pub start_left : (d : FileDef) (areas : List (List (List Slot))) (prefix : Bytes) (at : Position) →
    ((j : ℕ) → j < index_of areas at → j < length (slots_in areas) → is_from prefix false (key_at d (slots_in areas) j) ≡ false) → ((j : ℕ) → index_of areas at ≤ j → j < length (slots_in areas) → is_from prefix false (key_at d (slots_in areas) j) ≡ true) →
    left_at d areas prefix (Some at) ≡ under prefix (value_of d (slots_in areas)).records
start_left d areas prefix at before after = ap (under prefix) (sym (from_start d prefix false (slots_in areas) (index_of areas at) before after)) ∙ under_from prefix (value_of d (slots_in areas)).records

-- the entries above a key are there without it
pub from_without : (key : Bytes) (records : Map Bytes) → from key true (without key records) ≡ from key true records
from_without key records = filter_within (λ e. is_from key true e.0) (λ e. not (is_same key e.0)) (λ e above. ap (λ o. not (is_eq o)) (less (bytes_cmp key e.0) (subst T (sym above) tt))) records

-- ---- by positions
-- a record under the prefix, at its position
module _ (d : FileDef) (areas : List (List (List Slot))) (prefix : Bytes) (at : Position) (are : AreSlots d (slots_in areas)) (is : IsRecordUnder d areas prefix at) (r : Bytes) (read : get_or (slots_in areas) (index_of areas at) (Empty []) ≡ Filled r) where
  abbrev i : ℕ
  i = index_of areas at

  within : i < length (slots_in areas)
  within = index_within areas at is.there is.slot

  at_key : IsAt d (slots_in areas) (key_of d r) i
  at_key = record { in_range = within; has_key = ap (slot_key d) read }

  pub begins : has_prefix prefix (key_of d r) ≡ true
  begins = ap (λ p. has_prefix prefix (slot_key d p)) (sym read ∙ is.record_there.1) ∙ is.record_there.2

  -- from there on there is its entry, and what is behind it
  pub left_more : left_at d areas prefix (Some at) ≡ (key_of d r, r) ∷ under prefix (value_of d (drop (i + 1) (slots_in areas))).records
  left_more =
      ap (λ l. under prefix (filled_slots (keyed_slots d l))) (drop_more (slots_in areas) i (Empty []) within ∙ ap (λ p. p ∷ drop (i + 1) (slots_in areas)) read)
      ∙ ap (λ b. cond b ((key_of d r, r) ∷ under prefix (filled_slots (keyed_slots d (drop (i + 1) (slots_in areas))))) (under prefix (filled_slots (keyed_slots d (drop (i + 1) (slots_in areas)))))) begins

  pub above : (j : ℕ) → i + 1 ≤ j → j < length (slots_in areas) → is_from (key_of d r) true (key_at d (slots_in areas) j) ≡ true
  above j behind in_range = after_at d (slots_in areas) (key_of d r) true i are.rising at_key j (omega (arith, behind)) in_range

  -- behind it are the records above its key
  records_above : from (key_of d r) true (value_of d (slots_in areas)).records ≡ (value_of d (drop (i + 1) (slots_in areas))).records
  records_above = from_start d (key_of d r) true (slots_in areas) (i + 1) (λ j below in_range. elim (same_or_below j i below) [
    | inl less ↦ before_at d (slots_in areas) (key_of d r) true i are.rising at_key j less
    | inr same ↦ here_at d (slots_in areas) (key_of d r) true i are.rising at_key j same
  ]) above

-- the slot at a position that was read
pub read_there : (d : FileDef) (slots : List Slot) (i : ℕ) (p : Slot) → AreSlots d slots → i < length slots → p ≡ get_or slots i p → (get_or slots i (Empty []) ≡ p) × IsSlot d p
read_there d slots i p are lt read =
    let is : get_or slots i (Empty []) ≡ p = get_or_default slots i (Empty []) p lt ∙ sym read in
    (is, subst (IsSlot d) is (are.each i (Empty []) lt))

-- no more records are under a prefix than there are slots
pub fewer_under : (d : FileDef) (prefix : Bytes) (slots : List Slot) → length (under prefix (value_of d slots).records) ≤ length slots
fewer_under d prefix [] = omega arith
fewer_under d prefix (Filled r ∷ ps) = elim (has_prefix prefix (key_of d r)) as (λ b. length (cond b ((key_of d r, r) ∷ under prefix (filled_slots (keyed_slots d ps))) (under prefix (filled_slots (keyed_slots d ps)))) ≤ suc (length ps)) [
  | true ↦ omega (arith, fewer_under d prefix ps)
  | false ↦ omega (arith, fewer_under d prefix ps)
]
fewer_under d prefix (Empty k ∷ ps) = omega (arith, fewer_under d prefix ps)

module _ (d : FileDef) (areas : List (List (List Slot))) (prefix : Bytes) where
  -- the record that was found
  pub found_at : (next : Option Position) (at : Position) → next ≡ Some at → IfSome next (IsRecordUnder d areas prefix) → IsRecordUnder d areas prefix at
  found_at next at is found = subst (λ (o : Option Position). IfSome o (IsRecordUnder d areas prefix)) is found

  -- where none was found none is left
  pub none_found : (next : Option Position) → ((at : Position) → next ≡ Some at → ⊥) → left_at d areas prefix next ≡ []
  none_found None none = refl
  none_found (Some at) none = absurd (none at refl)

  module _ (are : AreSlots d (slots_in areas)) (at : Position) (is : IsRecordUnder d areas prefix at) where
    pub found_left : (next : Option Position) → next ≡ Some at →
        left_at d areas prefix next ≡ (key_of d is.record_there.0, is.record_there.0) ∷ under prefix (from (key_of d is.record_there.0) true (value_of d (slots_in areas)).records)
    found_left next some =
        ap (λ (o : Option Position). left_at d areas prefix o) some ∙ left_more d areas prefix at are is is.record_there.0 is.record_there.1
        ∙ ap (λ l. (key_of d is.record_there.0, is.record_there.0) ∷ under prefix l) (sym (records_above d areas prefix at are is is.record_there.0 is.record_there.1))

    lt : index_of areas at < length (slots_in areas)
    lt = index_within areas at is.there is.slot

    -- the slot that was read has its key
    pub found_key : (slot : Slot) → slot ≡ get_or (slots_in areas) (index_of areas at) slot → slot_key d slot ≡ key_of d is.record_there.0
    found_key slot read = ap (slot_key d) (sym (read_there d (slots_in areas) (index_of areas at) slot are lt read).0 ∙ is.record_there.1)

    pub found_slot : (slot : Slot) → slot ≡ get_or (slots_in areas) (index_of areas at) slot → IsSlot d slot
    found_slot slot read = (read_there d (slots_in areas) (index_of areas at) slot are lt read).1

    -- the file has the record under its key
    pub found_record : value_at (key_of d is.record_there.0) (value_of d (slots_in areas)).records ≡ Some is.record_there.0
    found_record =
        let key = key_of d is.record_there.0 in
        get_records (keyed_slots d (slots_in areas)) are.rising key
        ∙ ap (option_and_then record_in) (find_at d (slots_in areas) key (index_of areas at) are.rising (record { in_range = lt; has_key = ap (slot_key d) is.record_there.1 }) ∙ ap Some is.record_there.1)

-- ---- a list that is turned from one form to another, a value at a time
module _ {X Y : Type 0} (f g : X → Y) where
  pub read_half : (es : List X) (n : ℕ) (x : X) (y : Y) → n < length es → get_or (map f (take n es) ++ map g (drop n es)) n y ≡ g (get_or es n x)
  read_half [] n x y lt = absurd (omega (arith, lt))
  read_half (e ∷ es) zero x y lt = refl
  read_half (e ∷ es) (suc n) x y lt = read_half es n x y (omega (arith, lt))

  turned : (es : List X) (n m : ℕ) (x : X) → n < length es → m ≡ suc n → set (map f (take n es) ++ map g (drop n es)) n (f (get_or es n x)) ≡ map f (take m es) ++ map g (drop m es)
  turned [] n m x lt is = absurd (omega (arith, lt))
  turned (e ∷ es) zero m x lt is = sym (ap (λ m. map f (take m (e ∷ es)) ++ map g (drop m (e ∷ es))) is)
  turned (e ∷ es) (suc n) m x lt is = ap (λ l. f e ∷ l) (turned es n (suc n) x (omega (arith, lt)) refl) ∙ sym (ap (λ m. map f (take m (e ∷ es)) ++ map g (drop m (e ∷ es))) is)

  pub set_half : (es : List X) (n : ℕ) (x : X) → n < length es → set (map f (take n es) ++ map g (drop n es)) n (f (get_or es n x)) ≡ map f (take (n + 1) es) ++ map g (drop (n + 1) es)
  set_half es n x lt = turned es n (n + 1) x lt (omega arith)
