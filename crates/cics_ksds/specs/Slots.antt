-- How a file has its records: in slots (`Slot`), in the rising order of their keys, each with a
-- record or empty. No contract of the file names a slot.
use Rattle.std.specs.Prelude.{◌≡◌, ◌||◌, ℕ, ◌<◌, ◌≤◌, true, false, List, [], ◌∷◌, Option, Some, None, length, IsTrue, All, T, slice_index_or, slice_set, take, drop, suc, ◌+◌, ◌-◌, nat_le, if◌then◌else◌}
use Rattle.std.specs.List.{flat_map, insert, remove}
use Rattle.std.specs.declared.cmp.Ordering.TheVariants.{Less}
use Rattle.cics_names.specs.Keyed.{Bytes, Map, bytes_cmp, is_rising, value_at, has_key, is_key_in, is_below}
use Rattle.cics_ksds.specs.declared.definition.FileDef.{FileDef}
use Rattle.cics_ksds.specs.declared.comparing.Numbers.{Numbers}
use Rattle.cics_ksds.specs.declared.slots.Slot.{Slot}
use Rattle.cics_ksds.specs.declared.slots.Slot.TheVariants.{Filled, Empty}
use Rattle.cics_ksds.specs.declared.slots.Position.{Position}
use Rattle.cics_ksds.specs.declared.slots.Spot.{Spot}
use Rattle.cics_ksds.specs.declared.slots.Spot.TheVariants.{At, AtEmpty, Gap}
use Rattle.cics_ksds.specs.Files.{FileValue, key_of, fits_file, filled, emptied, later}
use Rattle.cics_ksds.specs.Prefixes.{has_prefix, under}
use Rattle.cics_ksds.specs.Words.{AreNumbers}

-- a slot with a record has the record's key, an empty slot has the key alone
abbrev pub slot_key : FileDef → Slot → Bytes
slot_key d (Filled r) = key_of d r
slot_key d (Empty key) = key

-- the numbers are those of a whole key of the file
pub record AreKeyNumbers (d : FileDef) (key : Bytes) (n : Numbers) : Type 0 where
  pub whole : length key ≡ d.key_length
  pub numbers : AreNumbers key n

-- the record in a slot fits its file
abbrev pub IsSlot : FileDef → Slot → Type 0
IsSlot d (Filled r) = IsTrue (fits_file d r)
IsSlot d (Empty key) = Unit {0}

-- the slots under their keys
abbrev pub keyed_slots : FileDef → List Slot → Map Slot
keyed_slots d [] = []
keyed_slots d (slot ∷ slots) = (slot_key d slot, slot) ∷ keyed_slots d slots

-- the keys of the slots rise, and each is a slot
pub record AreSlots (d : FileDef) (slots : List Slot) : Type 0 where
  pub rising : T (is_rising (keyed_slots d slots))
  pub each : All (IsSlot d) slots

-- the key of the slot at i
abbrev pub key_at : FileDef → List Slot → ℕ → Bytes
key_at d slots i = slot_key d (slice_index_or slots i (Empty []))

-- the slot at i has the key
pub record IsAt (d : FileDef) (slots : List Slot) (key : Bytes) (i : ℕ) : Type 0 where
  pub in_range : i < length slots
  pub has_key : key_at d slots i ≡ key

-- the key has no slot, and would go to i
pub record IsGapFor (d : FileDef) (slots : List Slot) (key : Bytes) (i : ℕ) : Type 0 where
  pub in_range : i ≤ length slots
  pub smaller_before : (j : ℕ) → j < i → bytes_cmp (key_at d slots j) key ≡ Less
  pub greater_after : (j : ℕ) → i ≤ j → j < length slots → bytes_cmp key (key_at d slots j) ≡ Less

-- the record in a slot
abbrev pub record_in : Slot → Option Bytes
record_in (Filled r) = Some r
record_in (Empty _) = None

-- the records in slots, by key
abbrev pub filled_slots : Map Slot → Map Bytes
filled_slots [] = []
filled_slots ((key, Filled r) ∷ rest) = (key, r) ∷ filled_slots rest
filled_slots ((key, Empty _) ∷ rest) = filled_slots rest

-- the keys of the empty slots
abbrev pub empty_slots : Map Slot → List Bytes
empty_slots [] = []
empty_slots ((key, Filled _) ∷ rest) = empty_slots rest
empty_slots ((key, Empty _) ∷ rest) = key ∷ empty_slots rest

-- what the slots show: the file's value
abbrev pub value_of : FileDef → List Slot → FileValue
value_of d slots = record { definition = d; records = filled_slots (keyed_slots d slots); empties = empty_slots (keyed_slots d slots) }

-- the slot of the key becomes this one
abbrev pub placed : FileValue → Bytes → Slot → FileValue
placed f key (Filled r) = filled f key r
placed f key (Empty _) = emptied f key

-- what a file has at the key of a slot
abbrev pub Shows : FileValue → Bytes → Slot → Type 0
Shows f key (Filled r) = (value_at key f.records ≡ Some r) × (is_key_in key f.empties ≡ false)
Shows f key (Empty _) = (value_at key f.records ≡ None) × (is_key_in key f.empties ≡ true)

-- a file has no slot of a key
abbrev pub ShowsNothing : FileValue → Bytes → Type 0
ShowsNothing f key = (value_at key f.records ≡ None) × (is_key_in key f.empties ≡ false)

-- how many empty slots there are in a slot
abbrev pub empty_in : Slot → ℕ
empty_in (Filled _) = 0
empty_in (Empty _) = 1

-- and in slots
abbrev pub empty_count : List Slot → ℕ
empty_count [] = 0
empty_count (slot ∷ slots) = empty_in slot + empty_count slots

-- the first record in slots
abbrev pub first_record : List Slot → Option Bytes
first_record [] = None
first_record (Filled r ∷ slots) = Some r
first_record (Empty _ ∷ slots) = first_record slots

-- the last record in slots
abbrev pub last_record : List Slot → Option Bytes
last_record [] = None
last_record (slot ∷ slots) = later (last_record slots) (record_in slot)

-- the records in slots, in order
abbrev pub listed : List Slot → List Bytes
listed [] = []
listed (Filled r ∷ slots) = r ∷ listed slots
listed (Empty _ ∷ slots) = listed slots

-- it has a slot of the key
abbrev pub HasSlot : FileValue → Bytes → Type 0
HasSlot f key = (has_key key f.records || is_key_in key f.empties) ≡ true

-- ---- how the slots lie in intervals, and those in areas

-- rows, one after another
abbrev pub joined : {A : Type 0} → List (List A) → List A
joined rows = flat_map (λ row. row) rows

-- all slots: those of the intervals, which are those of the areas
abbrev pub slots_in : List (List (List Slot)) → List Slot
slots_in areas = joined (joined areas)

-- the file that the slots of areas show
abbrev pub file_of : FileDef → List (List (List Slot)) → FileValue
file_of d areas = value_of d (slots_in areas)

-- an interval has 1 to 16 slots
pub record IsInterval (interval : List Slot) : Type 0 where
  pub filled : 0 < length interval
  pub at_most : length interval ≤ 16

-- an area has intervals, and no empty one
pub record IsArea (area : List (List Slot)) : Type 0 where
  pub filled : 0 < length area
  pub each : All IsInterval area

-- the interval with a number
abbrev pub interval_in : List (List Slot) → ℕ → List Slot
interval_in intervals number = slice_index_or intervals number []

-- the index of a slot of an interval among all slots
abbrev pub index_in : List (List Slot) → ℕ → ℕ → ℕ
index_in intervals number slot = length (joined (take number intervals)) + slot

-- the interval that a position names
abbrev pub interval_at : List (List (List Slot)) → Position → List Slot
interval_at areas at = interval_in (slice_index_or areas at.area []) at.interval

-- its number among all intervals
abbrev pub number_of : List (List (List Slot)) → Position → ℕ
number_of areas at = length (joined (take at.area areas)) + at.interval

-- the index of the position's slot among all slots
abbrev pub index_of : List (List (List Slot)) → Position → ℕ
index_of areas at = index_in (joined areas) (number_of areas at) at.slot

-- the slots from a position on
abbrev pub slots_from : List (List (List Slot)) → Position → List Slot
slots_from areas at = drop (index_of areas at) (slots_in areas)

-- and those before it
abbrev pub slots_before : List (List (List Slot)) → Position → List Slot
slots_before areas at = take (index_of areas at) (slots_in areas)

-- the position is in an interval that there is
pub record IsThere (areas : List (List (List Slot))) (at : Position) : Type 0 where
  pub area : at.area < length areas
  pub interval : at.interval < length (slice_index_or areas at.area [])

-- the position's slot is the one of the key
pub record IsSlotOf (d : FileDef) (areas : List (List (List Slot))) (key : Bytes) (at : Position) : Type 0 where
  pub there : IsThere areas at
  pub slot : at.slot < length (interval_at areas at)
  pub at_most : length (interval_at areas at) ≤ 16
  pub is_at : IsAt d (slots_in areas) key (index_of areas at)

-- the key has no slot, and would go to this position. That is in the last interval whose first key
-- isn't above it, or if there is none, in the first of all
pub record IsGapAt (d : FileDef) (areas : List (List (List Slot))) (key : Bytes) (at : Position) : Type 0 where
  pub there : 0 < length areas → IsThere areas at
  pub slot : at.slot ≤ length (interval_at areas at)
  pub own : 0 < number_of areas at → 0 < at.slot
  pub gap : IsGapFor d (slots_in areas) key (index_of areas at)

-- the position is that of the slot with the index
pub record IsPosition (areas : List (List (List Slot))) (index : ℕ) (at : Position) : Type 0 where
  pub there : IsThere areas at
  pub slot : at.slot < length (interval_at areas at)
  pub at_most : length (interval_at areas at) ≤ 16
  pub same : index_of areas at ≡ index

-- it is the next slot from the position on, or there is none
abbrev pub IsNext : List (List (List Slot)) → Position → Option Position → Type 0
IsNext areas at (Some next) = IsPosition areas (index_of areas at) next
IsNext areas at None = length (slots_in areas) ≤ index_of areas at

-- it is the slot before the position, or there is none
abbrev pub IsPrevious : List (List (List Slot)) → Position → Option Position → Type 0
IsPrevious areas at (Some previous) = record { there : IsThere areas previous; slot : previous.slot < length (interval_at areas previous); same : suc (index_of areas previous) ≡ index_of areas at }
IsPrevious areas at None = index_of areas at ≡ 0

-- the position's slot has a record whose key begins with the prefix; its interval has at most 16
-- slots
pub record IsRecordUnder (d : FileDef) (areas : List (List (List Slot))) (prefix : Bytes) (at : Position) : Type 0 where
  pub there : IsThere areas at
  pub slot : at.slot < length (interval_at areas at)
  pub at_most : length (interval_at areas at) ≤ 16
  pub record_there : (r : Bytes) × (slice_index_or (slots_in areas) (index_of areas at) (Empty []) ≡ Filled r) × (has_prefix prefix (key_of d r) ≡ true)

-- the entries under the prefix from a position on; from no position there are none
abbrev pub left_at : FileDef → List (List (List Slot)) → Bytes → Option Position → Map Bytes
left_at d areas prefix None = []
left_at d areas prefix (Some at) = under prefix (value_of d (drop (index_of areas at) (slots_in areas))).records

-- where the key's slot is, and what the file has there
abbrev pub IsSpot : FileDef → List (List (List Slot)) → Bytes → Spot → Type 0
IsSpot d areas key (At at) = record { at : IsSlotOf d areas key at; record_there : (r : Bytes) × Shows (value_of d (slots_in areas)) key (Filled r) }
IsSpot d areas key (AtEmpty at) = record { at : IsSlotOf d areas key at; empty_there : Shows (value_of d (slots_in areas)) key (Empty []) }
IsSpot d areas key (Gap at) = record { gap : IsGapAt d areas key at; nothing_there : ShowsNothing (value_of d (slots_in areas)) key }

-- a slot was replaced by one of the same key, and what it was came out
pub record IsPut (d : FileDef) (before after : List (List (List Slot))) (slot out : Slot) : Type 0 where
  pub slots : AreSlots d (slots_in after)
  pub value : file_of d after ≡ placed (file_of d before) (slot_key d slot) slot
  pub old : Shows (file_of d before) (slot_key d slot) out
  pub old_slot : IsSlot d out
  pub old_key : slot_key d out ≡ slot_key d slot

-- an interval is split into its first 8 slots and the others
abbrev pub halved : List (List Slot) → ℕ → List (List Slot)
halved intervals number = insert (slice_set intervals number (take 8 (interval_in intervals number))) (suc number) (drop 8 (interval_in intervals number))

-- the intervals, and where the new slot goes. A full interval is split first, and a slot between
-- its halves goes to the end of the first
abbrev pub with_room : List (List Slot) → ℕ → ℕ → List (List Slot) × ℕ × ℕ
with_room intervals number slot =
    if nat_le 16 (length (interval_in intervals number))
    then if nat_le slot 8 then (halved intervals number, number, slot) else (halved intervals number, suc number, slot - 8)
    else (intervals, number, slot)

-- a slot is put into its interval
abbrev pub put_in : List (List Slot) × ℕ × ℕ → Slot → List (List Slot)
put_in at new = slice_set at.0 at.1 (insert (interval_in at.0 at.1) at.2 new)

-- the intervals with one more slot
abbrev pub with_slot : List (List Slot) → ℕ → ℕ → Slot → List (List Slot)
with_slot [] number slot new = (new ∷ []) ∷ []
with_slot (first ∷ others) number slot new = put_in (with_room (first ∷ others) number slot) new

-- the intervals with one slot less: an interval without slots is removed
abbrev pub without_slot : List (List Slot) → ℕ → ℕ → List (List Slot)
without_slot intervals number slot =
    if nat_le (length (interval_in intervals number)) 1 then remove intervals number else slice_set intervals number (remove (interval_in intervals number) slot)

-- there is room at the next position for the slot that goes to this one
pub record IsRoom (old : List (List (List Slot))) (at : Position) (new : List (List (List Slot))) (next : Position) : Type 0 where
  pub there : IsThere new next
  pub slot : next.slot ≤ length (interval_at new next)
  pub room : length (interval_at new next) < 16
  pub rule : with_room (joined old) (number_of old at) at.slot ≡ (joined new, number_of new next, next.slot)

-- the same interval at the next position, in an area that has room for one more
pub record IsAreaRoom (old : List (List (List Slot))) (at : Position) (new : List (List (List Slot))) (next : Position) : Type 0 where
  pub there : IsThere new next
  pub same : number_of new next ≡ number_of old at
  pub slot : next.slot ≡ at.slot
  pub room : length (slice_index_or new next.area []) < 64

-- the two halves of the interval stand beside one another in the area
pub record HasHalves (old : List (List (List Slot))) (at : Position) (new : List (List (List Slot))) : Type 0 where
  pub number : number_of new at ≡ number_of old at
  pub first : interval_at new at ≡ take 8 (interval_at old at)
  pub second : slice_index_or (slice_index_or new at.area []) (suc at.interval) [] ≡ drop 8 (interval_at old at)
  pub area : at.area < length new
  pub interval : suc at.interval < length (slice_index_or new at.area [])

-- the interval has a slot, and the first is one
pub record HasFirst (d : FileDef) (interval : List Slot) : Type 0 where
  pub filled : 0 < length interval
  pub slot : IsSlot d (slice_index_or interval 0 (Empty []))

-- of this many first keys, the one with this number is the last that isn't above the key, or the
-- first of all
pub record IsLastFrom (first_key : ℕ → Bytes) (count : ℕ) (key : Bytes) (number : ℕ) : Type 0 where
  pub in_range : number < count
  pub from : 0 < number → is_below key (first_key number) ≡ false
  pub to : suc number < count → bytes_cmp key (first_key (suc number)) ≡ Less

-- the first key of an area
abbrev pub first_key_of : FileDef → List (List Slot) → Bytes
first_key_of d area = key_at d (interval_in area 0) 0
