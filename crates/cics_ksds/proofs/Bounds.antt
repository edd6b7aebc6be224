-- The first record from a bound on, the last up to one, and all of them.
use Rattle.std.proofs.Common.{◌≡◌, ℕ, zero, suc, ◌<◌, ◌≤◌, List, [], ◌∷◌, ◌++◌, ◌+◌, length, drop, take, map, get_or, Bool, true, false, not, cond, T, Some, None, Option, refl, sym, ◌∙◌, ap, subst, arith, IsTrue}
use Rattle.std.proofs.lemmas.List.{take_all}
use Rattle.std.proofs.Common.{◌-◌, length-drop}
use Rattle.std.specs.declared.cmp.Ordering.TheVariants.{Less}
use Rattle.std.specs.Option.{option_map}
use Rattle.std.specs.Ordering.{is_lt}
use Rattle.std.specs.Cmp.{tied_itself}
use Rattle.std.specs.List.{All}
use Rattle.std.proofs.lemmas.List.Elements.{All-cons}
use Rattle.cics_names.specs.Keyed.{Bytes, bytes_cmp, is_rising}
use Rattle.cics_ksds.specs.declared.definition.FileDef.{FileDef}
use Rattle.cics_ksds.specs.declared.slots.Slot.{Slot}
use Rattle.cics_ksds.specs.declared.slots.Slot.TheVariants.{Filled, Empty}
use Rattle.cics_ksds.specs.Files.{key_of, fits_file, is_from, first_from, is_to, later, last_to, records_of, IsContent}
use Rattle.cics_ksds.specs.Slots.{IsSlot, AreSlots, keyed_slots, key_at, IsAt, IsGapFor, record_in, filled_slots, empty_slots, first_record, last_record, listed}
use Rattle.cics_ksds.proofs.Order.{total, turned_less, keys_rise}
use Rattle.cics_ksds.proofs.Values.{rising_filled}

-- a record with its key
abbrev pub keyed : FileDef → Bytes → Bytes × Bytes
keyed d r = (key_of d r, r)

-- where the keys that pass are those from a place on, the first that passes is the first from there on
pub first_found : (d : FileDef) (bound : Bytes) (strict : Bool) (slots : List Slot) (start : ℕ) →
    ((j : ℕ) → j < start → j < length slots → is_from bound strict (key_at d slots j) ≡ false) → ((j : ℕ) → start ≤ j → j < length slots → is_from bound strict (key_at d slots j) ≡ true) →
    first_from (filled_slots (keyed_slots d slots)) bound strict ≡ option_map (keyed d) (first_record (drop start slots))
first_found d bound strict [] zero before after = refl
first_found d bound strict [] (suc start) before after = refl
first_found d bound strict (Filled r ∷ ps) zero before after =
    ap (λ b. cond b (Some (keyed d r)) (first_from (filled_slots (keyed_slots d ps)) bound strict)) (after 0 (omega arith) (omega arith))
first_found d bound strict (Empty k ∷ ps) zero before after = first_found d bound strict ps zero (λ j lt in_range. absurd (omega arith)) (λ j le lt. after (suc j) (omega arith) (omega arith))
first_found d bound strict (Filled r ∷ ps) (suc start) before after =
    ap (λ b. cond b (Some (keyed d r)) (first_from (filled_slots (keyed_slots d ps)) bound strict)) (before 0 (omega arith) (omega arith))
    ∙ first_found d bound strict ps start (λ j lt in_range. before (suc j) (omega arith) (omega arith)) (λ j le lt. after (suc j) (omega arith) (omega arith))
first_found d bound strict (Empty k ∷ ps) (suc start) before after = first_found d bound strict ps start (λ j lt in_range. before (suc j) (omega arith) (omega arith)) (λ j le lt. after (suc j) (omega arith) (omega arith))

later_none : {X : Type 0} (o : Option X) → later o None ≡ o
later_none None = refl
later_none (Some x) = refl

map_later : {X Y : Type 0} (f : X → Y) (o : Option X) (x : X) → option_map f (later o (Some x)) ≡ later (option_map f o) (Some (f x))
map_later f None x = refl
map_later f (Some y) x = refl

-- where the keys that pass are those before a place, the last that passes is the last before it
pub last_found : (d : FileDef) (bound : Bytes) (strict : Bool) (slots : List Slot) (end : ℕ) →
    ((j : ℕ) → j < end → j < length slots → is_to bound strict (key_at d slots j) ≡ true) → ((j : ℕ) → end ≤ j → j < length slots → is_to bound strict (key_at d slots j) ≡ false) →
    last_to (filled_slots (keyed_slots d slots)) bound strict ≡ option_map (keyed d) (last_record (take end slots))
last_found d bound strict [] zero before after = refl
last_found d bound strict [] (suc end) before after = refl
last_found d bound strict (Filled r ∷ ps) zero before after =
    (λ i. later (last_found d bound strict ps zero (λ j lt in_range. absurd (omega arith)) (λ j le lt. after (suc j) (omega arith) (omega arith)) i) (cond (after 0 (omega arith) (omega arith) i) (Some (keyed d r)) None))
last_found d bound strict (Empty k ∷ ps) zero before after = last_found d bound strict ps zero (λ j lt in_range. absurd (omega arith)) (λ j le lt. after (suc j) (omega arith) (omega arith))
last_found d bound strict (Filled r ∷ ps) (suc end) before after =
    (λ i. later (last_found d bound strict ps end (λ j lt in_range. before (suc j) (omega arith) (omega arith)) (λ j le lt. after (suc j) (omega arith) (omega arith)) i) (cond (before 0 (omega arith) (omega arith) i) (Some (keyed d r)) None))
    ∙ sym (map_later (keyed d) (last_record (take end ps)) r)
last_found d bound strict (Empty k ∷ ps) (suc end) before after =
    last_found d bound strict ps end (λ j lt in_range. before (suc j) (omega arith) (omega arith)) (λ j le lt. after (suc j) (omega arith) (omega arith))
    ∙ ap (option_map (keyed d)) (sym (later_none (last_record (take end ps))))

-- up to a bound is not above it, and below it is not from it on
pub to_or_from : (bound : Bytes) (strict : Bool) (k : Bytes) → is_to bound strict k ≡ not (is_from bound (not strict) k)
to_or_from bound true k = sym (twice (is_lt (bytes_cmp k bound)))
  where
    twice : (b : Bool) → not (not b) ≡ b
    twice true = refl
    twice false = refl
to_or_from bound false k = refl

-- which keys are from the bound on
from_below : (bound key : Bytes) (strict : Bool) → bytes_cmp key bound ≡ Less → is_from bound strict key ≡ false
from_below bound key true e = ap is_lt (turned_less key bound e)
from_below bound key false e = ap (λ o. not (is_lt o)) e

from_above : (bound key : Bytes) (strict : Bool) → bytes_cmp bound key ≡ Less → is_from bound strict key ≡ true
from_above bound key true e = ap is_lt e
from_above bound key false e = ap (λ o. not (is_lt o)) (turned_less bound key e)

from_at : (bound key : Bytes) (strict : Bool) → key ≡ bound → is_from bound strict key ≡ not strict
from_at bound key true e = ap (λ k. is_lt (bytes_cmp bound k)) e ∙ ap is_lt (tied_itself total bound)
from_at bound key false e = ap (λ k. not (is_lt (bytes_cmp k bound))) e ∙ ap (λ o. not (is_lt o)) (tied_itself total bound)

module _ (d : FileDef) (slots : List Slot) (bound : Bytes) (strict : Bool) where
  module _ (at : ℕ) (sorted : T (is_rising (keyed_slots d slots))) (is_at : IsAt d slots bound at) where
    pub before_at : (j : ℕ) → j < at → is_from bound strict (key_at d slots j) ≡ false
    before_at j lt = from_below bound (key_at d slots j) strict (subst (λ k. bytes_cmp (key_at d slots j) k ≡ Less) is_at.has_key (keys_rise d slots j at sorted lt is_at.in_range))

    pub after_at : (j : ℕ) → at < j → j < length slots → is_from bound strict (key_at d slots j) ≡ true
    after_at j lt in_range = from_above bound (key_at d slots j) strict (subst (λ k. bytes_cmp k (key_at d slots j) ≡ Less) is_at.has_key (keys_rise d slots at j sorted lt in_range))

    pub here_at : (j : ℕ) → j ≡ at → is_from bound strict (key_at d slots j) ≡ not strict
    here_at j same = from_at bound (key_at d slots j) strict (ap (key_at d slots) same ∙ is_at.has_key)

  module _ (at : ℕ) (gap : IsGapFor d slots bound at) where
    pub before_gap : (j : ℕ) → j < at → is_from bound strict (key_at d slots j) ≡ false
    before_gap j lt = from_below bound (key_at d slots j) strict (gap.smaller_before j lt)

    pub after_gap : (j : ℕ) → at ≤ j → j < length slots → is_from bound strict (key_at d slots j) ≡ true
    after_gap j le lt = from_above bound (key_at d slots j) strict (gap.greater_after j le lt)

-- ---- the last record, one slot at a time
later_assoc : {X : Type 0} (a b c : Option X) → later (later a b) c ≡ later a (later b c)
later_assoc None b c = refl
later_assoc (Some x) b c = refl

pub last_step : (n : ℕ) (slots : List Slot) → n < length slots → last_record (take (suc n) slots) ≡ later (record_in (get_or slots n (Empty []))) (last_record (take n slots))
last_step n [] lt = absurd (omega arith)
last_step zero (p ∷ ps) lt = sym (later_none (record_in p))
last_step (suc n) (p ∷ ps) lt = ap (λ o. later o (record_in p)) (last_step n ps (omega arith)) ∙ later_assoc (record_in (get_or ps n (Empty []))) (last_record (take n ps)) (record_in p)

-- ---- the records are the listed ones
pub listed_records : (d : FileDef) (slots : List Slot) → listed slots ≡ records_of (filled_slots (keyed_slots d slots))
listed_records d [] = refl
listed_records d (Filled r ∷ ps) = ap (λ rs. r ∷ rs) (listed_records d ps)
listed_records d (Empty k ∷ ps) = listed_records d ps

pub records_listed : (d : FileDef) (slots : List Slot) → filled_slots (keyed_slots d slots) ≡ map (keyed d) (listed slots)
records_listed d [] = refl
records_listed d (Filled r ∷ ps) = ap (λ es. keyed d r ∷ es) (records_listed d ps)
records_listed d (Empty k ∷ ps) = records_listed d ps

-- the first record is the first listed one
abbrev first_listed : List Bytes → Option Bytes
first_listed [] = None
first_listed (r ∷ rs) = Some r

is_first : (slots : List Slot) → first_record slots ≡ first_listed (listed slots)
is_first [] = refl
is_first (Filled r ∷ ps) = refl
is_first (Empty k ∷ ps) = is_first ps

pub same_first : (slots others : List Slot) → listed slots ≡ listed others → first_record slots ≡ first_record others
same_first slots others same = is_first slots ∙ ap first_listed same ∙ sym (is_first others)

-- an empty slot is no record
pub listed_behind : (p : Slot) (slots : List Slot) → record_in p ≡ None → listed (p ∷ slots) ≡ listed slots
listed_behind (Filled r) slots none = cc
listed_behind (Empty k) slots none = refl

each_keyed : (d : FileDef) (slots : List Slot) → All (IsSlot d) slots → All (λ e. (e.0 ≡ key_of d e.1) × IsTrue (fits_file d e.1)) (filled_slots (keyed_slots d slots))
each_keyed d [] each = λ i e lt. absurd (omega arith)
each_keyed d (Filled r ∷ ps) each = All-cons (λ e. (e.0 ≡ key_of d e.1) × IsTrue (fits_file d e.1)) (keyed d r) (filled_slots (keyed_slots d ps)) (refl, each 0 (Filled r) (omega arith)) (each_keyed d ps (λ i p lt. each (suc i) p (omega arith)))
each_keyed d (Empty k ∷ ps) each = each_keyed d ps (λ i p lt. each (suc i) p (omega arith))

pub content_of : (d : FileDef) (slots : List Slot) → AreSlots d slots → IsContent d (filled_slots (keyed_slots d slots))
content_of d slots are = record { rising = rising_filled (keyed_slots d slots) are.rising; keyed = each_keyed d slots are.each }

-- the part from a place on is what is left there
pub whole : (n : ℕ) (slots : List Slot) → take (length slots - n) (drop n slots) ≡ drop n slots
whole n slots = take_all (length slots - n) (drop n slots) (omega (arith, length-drop n slots))

-- ---- slots behind others
pub last_record-append : (xs ys : List Slot) → last_record (xs ++ ys) ≡ later (last_record ys) (last_record xs)
last_record-append [] ys = sym (later_none (last_record ys))
last_record-append (x ∷ xs) ys = ap (λ o. later o (record_in x)) (last_record-append xs ys) ∙ later_assoc (last_record ys) (last_record xs) (record_in x)

pub listed-append : (xs ys : List Slot) → listed (xs ++ ys) ≡ listed xs ++ listed ys
listed-append [] ys = refl
listed-append (Filled r ∷ xs) ys = ap (λ rs. r ∷ rs) (listed-append xs ys)
listed-append (Empty k ∷ xs) ys = listed-append xs ys

-- as many records and empty slots as slots
pub counted : (d : FileDef) (slots : List Slot) → length (filled_slots (keyed_slots d slots)) + length (empty_slots (keyed_slots d slots)) ≡ length slots
counted d [] = omega arith
counted d (Filled r ∷ ps) = omega (arith, counted d ps)
counted d (Empty k ∷ ps) = omega (arith, counted d ps)
