-- How many slots are empty, after an edit of the slots.
use Rattle.std.proofs.Common.{◌≡◌, ℕ, zero, suc, ◌+◌, ◌<◌, ◌≤◌, List, [], ◌∷◌, length, get_or, set, take, drop, None, refl, ap, arith, length-append}
use Rattle.std.specs.List.{insert, remove}
use Rattle.std.proofs.lemmas.List.{nil_from_length, length-set, take-append-drop}
use Rattle.std.proofs.lemmas.List.Edits.{length-insert, length-remove}
use Rattle.cics_ksds.specs.declared.definition.FileDef.{FileDef}
use Rattle.cics_ksds.specs.declared.slots.Slot.{Slot}
use Rattle.cics_ksds.specs.declared.slots.Slot.TheVariants.{Filled, Empty}
use Rattle.cics_ksds.specs.Files.{later}
use Rattle.cics_ksds.specs.Slots.{keyed_slots, empty_slots, empty_in, empty_count, listed, last_record}
use Rattle.cics_ksds.proofs.Bounds.{listed-append}

-- one slot in place of another
pub count_set : (slots : List Slot) (i : ℕ) (p old : Slot) → i < length slots → old ≡ get_or slots i old → empty_count (set slots i p) + empty_in old ≡ empty_count slots + empty_in p
count_set [] i p old lt is = absurd (omega (arith, lt))
count_set (x ∷ xs) zero p old lt is = omega (arith, ap empty_in is)
count_set (x ∷ xs) (suc i) p old lt is = omega (arith, count_set xs i p old (omega (arith, lt)) is)

-- one slot more
pub count_insert : (slots : List Slot) (i : ℕ) (p : Slot) → i ≤ length slots → empty_count (insert slots i p) ≡ empty_count slots + empty_in p
count_insert [] zero p le = omega arith
count_insert [] (suc i) p le = absurd (omega (arith, le))
count_insert (x ∷ xs) zero p le = omega arith
count_insert (x ∷ xs) (suc i) p le = omega (arith, count_insert xs i p (omega (arith, le)))

-- one slot less
pub count_remove : (slots : List Slot) (i : ℕ) (old : Slot) → i < length slots → old ≡ get_or slots i old → empty_count (remove slots i) + empty_in old ≡ empty_count slots
count_remove [] i old lt is = absurd (omega (arith, lt))
count_remove (x ∷ xs) zero old lt is = omega (arith, ap empty_in is)
count_remove (x ∷ xs) (suc i) old lt is = omega (arith, count_remove xs i old (omega (arith, lt)) is)

-- no more are empty than there are
pub count_within : (slots : List Slot) → empty_count slots ≤ length slots
count_within [] = omega arith
count_within (Filled r ∷ ps) = omega (arith, count_within ps)
count_within (Empty k ∷ ps) = omega (arith, count_within ps)

-- ---- how many slots have a record: those that aren't empty
pub records_others : (slots : List Slot) → length (listed slots) + empty_count slots ≡ length slots
records_others [] = refl
records_others (Filled r ∷ ps) = omega (arith, records_others ps)
records_others (Empty k ∷ ps) = omega (arith, records_others ps)

pub records_set : (slots : List Slot) (i : ℕ) (p old : Slot) → i < length slots → old ≡ get_or slots i old →
    length (listed (set slots i p)) + length (listed (old ∷ [])) ≡ length (listed slots) + length (listed (p ∷ []))
records_set slots i p old lt is =
    omega (arith, count_set slots i p old lt is, length-set slots i p, records_others (set slots i p), records_others slots, records_others (old ∷ []), records_others (p ∷ []))

pub records_insert : (slots : List Slot) (i : ℕ) (p : Slot) → i ≤ length slots → length (listed (insert slots i p)) ≡ length (listed slots) + length (listed (p ∷ []))
records_insert slots i p le = omega (arith, count_insert slots i p le, length-insert slots i p le, records_others (insert slots i p), records_others slots, records_others (p ∷ []))

pub records_remove : (slots : List Slot) (i : ℕ) (old : Slot) → i < length slots → old ≡ get_or slots i old → length (listed (remove slots i)) + length (listed (old ∷ [])) ≡ length (listed slots)
records_remove slots i old lt is =
    omega (arith, count_remove slots i old lt is, length-remove slots i lt, records_others (remove slots i), records_others slots, records_others (old ∷ []))

pub records_halves : (n : ℕ) (slots : List Slot) → length (listed (take n slots)) + length (listed (drop n slots)) ≡ length (listed slots)
records_halves n slots = omega (arith, length-append (listed (take n slots)) (listed (drop n slots)), ap length (listed-append (take n slots) (drop n slots)), ap (λ l. length (listed l)) (take-append-drop n slots))

-- where none has one there is none among the slots before some, nor behind some
no_last : (slots : List Slot) → length (listed slots) ≡ 0 → last_record slots ≡ None
no_last [] none = refl
no_last (Filled r ∷ ps) none = absurd (omega (arith, none))
no_last (Empty k ∷ ps) none = ap (λ o. later o None) (no_last ps none)

pub none_before : (n : ℕ) (slots : List Slot) → length (listed slots) ≡ 0 → last_record (take n slots) ≡ None
none_before n slots none = no_last (take n slots) (omega (arith, records_halves n slots, none))

pub none_behind : (n : ℕ) (slots : List Slot) → length (listed slots) ≡ 0 → listed (drop n slots) ≡ []
none_behind n slots none = nil_from_length (listed (drop n slots)) (omega (arith, records_halves n slots, none))

-- what the counts are after each edit
pub record Counts (before after : List Slot) (gone come longer shorter : ℕ) : Type 0 where
  pub long : length after + shorter ≡ length before + longer
  pub empties : empty_count after + gone ≡ empty_count before + come
  pub some : gone ≤ empty_count before
  pub within : empty_count after ≤ length after

module _ (before after : List Slot) (i : ℕ) where
  pub after_set : (p old : Slot) → after ≡ set before i p → i < length before → old ≡ get_or before i old → Counts before after (empty_in old) (empty_in p) 0 0
  after_set p old is lt read = record {
    long = omega (arith, ap length is, length-set before i p);
    empties = omega (arith, ap empty_count is, count_set before i p old lt read);
    some = omega (arith, count_remove before i old lt read);
    within = count_within after;
  }

  pub after_insert : (p : Slot) → after ≡ insert before i p → i ≤ length before → Counts before after 0 (empty_in p) 1 0
  after_insert p is le = record {
    long = omega (arith, ap length is, length-insert before i p le);
    empties = omega (arith, ap empty_count is, count_insert before i p le);
    some = omega arith;
    within = count_within after;
  }

  pub after_remove : (old : Slot) → after ≡ remove before i → i < length before → old ≡ get_or before i old → Counts before after (empty_in old) 0 0 1
  after_remove old is lt read = record {
    long = omega (arith, ap length is, length-remove before i lt);
    empties = omega (arith, ap empty_count is, count_remove before i old lt read);
    some = omega (arith, count_remove before i old lt read);
    within = count_within after;
  }

-- where none is empty there is no key of one
pub none_empty : (d : FileDef) (slots : List Slot) → empty_count slots ≡ 0 → empty_slots (keyed_slots d slots) ≡ []
none_empty d [] none = refl
none_empty d (Filled r ∷ ps) none = none_empty d ps (omega (arith, none))
none_empty d (Empty k ∷ ps) none = absurd (omega (arith, none))
