-- The key heads of the first key of an interval, and of an area, which are beside them.
use Rattle.std.specs.Prelude.{◌≡◌, ◌<◌, List, [], ◌∷◌, length}
use Rattle.cics_ksds.specs.declared.numbered.KeyHead.{KeyHead}
use Rattle.cics_ksds.specs.declared.slots.Slot.{Slot}
use Rattle.cics_ksds.specs.declared.slots.Slot.TheVariants.{Filled, Empty}
use Rattle.cics_ksds.specs.Words.{IsHeadOf, AreNumbers}

-- if the key head has numbers, they are those of the key that it names in the record, or of an
-- empty slot's whole key
abbrev pub IsSlotHead : Slot → KeyHead → Type 0
IsSlotHead (Filled r) head = IsHeadOf r head
IsSlotHead (Empty key) head = 0 < head.length → (length key ≡ head.length) × AreNumbers key head.numbers

-- the key head is that of the first slot, if there is one
abbrev pub IsHead : List Slot → KeyHead → Type 0
IsHead [] head = Unit {0}
IsHead (slot ∷ slots) head = IsSlotHead slot head

-- the key head is that of the first slot of the first interval
abbrev pub IsAreaHead : List (List Slot) → KeyHead → Type 0
IsAreaHead [] head = Unit {0}
IsAreaHead (interval ∷ intervals) head = IsHead interval head
