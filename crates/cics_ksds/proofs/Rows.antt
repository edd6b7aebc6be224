-- Worked rows: what files and their images become, computed.
use Rattle.std.proofs.Common.{◌≡◌, ℕ, length, List, [], ◌∷◌, ◌++◌, take, drop, Some, None, true, false, fold, refl}
use Rattle.cics_names.specs.Keyed.{value_at}
use Rattle.cics_names.specs.declared.conditions.Condition.TheVariants.{Normal, Duprec, Notfnd}
use lib.Chars.{codes}
use Rattle.cics_ksds.specs.declared.definition.FileDef.{FileDef}
use Rattle.cics_ksds.specs.declared.images.Before.TheVariants.{Added, Replaced, Removed}
use Rattle.cics_ksds.specs.declared.slots.Slot.{Slot}
use Rattle.cics_ksds.specs.declared.slots.Slot.TheVariants.{Filled}
use Rattle.cics_ksds.specs.Slots.{with_slot, without_slot}
use Rattle.cics_ksds.specs.Files.{FileValue, key_of, fits_file, entry_of, write_condition, change_condition, written, rewritten, deleted, swept, first_from, last_to, records_of}
use Rattle.cics_images.specs.Cells.{all_swept}
use Rattle.cics_ksds.specs.Prefixes.{under, without_prefix, prefix_images, stored_on}
use Rattle.cics_ksds.specs.Undo.{content_at, undone, key_of_image, written_image, rewritten_image, deleted_image}

abbrev account : FileDef
account = record { key_length = 4; key_offset = 0; record_size = 80; recoverable = true }

abbrev one : FileValue
one = record { definition = account; records = (codes "0001", codes "0001aa") ∷ []; empties = [] }

abbrev three : FileValue
three = written (written one (codes "0003cc")) (codes "0002bb")

-- records of a file come out in the order of their keys, whatever order they were written in
row_written : three ≡ record { definition = account; records = (codes "0001", codes "0001aa") ∷ (codes "0002", codes "0002bb") ∷ (codes "0003", codes "0003cc") ∷ []; empties = [] }
row_written = refl

-- a key that has a record is DUPREC, and the record stays
row_duplicate : (write_condition one.records (codes "0001") ≡ Duprec) × (written one (codes "0001zz") ≡ one)
row_duplicate = (refl, refl)

-- a key without a record is NOTFND, and nothing changes
row_absent : (change_condition one.records (codes "0009") ≡ Notfnd) × (rewritten one (codes "0009zz") ≡ one) × (deleted true one (codes "0009") ≡ one)
row_absent = (refl, refl, refl)

-- two rewrites, undone newest first
row_rewrites : fold undone (rewritten (rewritten one (codes "0001bb")) (codes "0001cc"))
    (record { definition = account; before = Replaced (codes "0001bb") } ∷ record { definition = account; before = Replaced (codes "0001aa") } ∷ []) ≡ one
row_rewrites = refl

-- the image of a rewrite has the record that stood there, not the one before it
row_rewrite_image : rewritten_image true (rewritten one (codes "0001bb")) (codes "0001cc") ≡ Some (record { definition = account; before = Replaced (codes "0001bb") })
row_rewrite_image = refl

-- written, deleted and written again
row_again : fold undone (written (deleted true (written one (codes "0002xx")) (codes "0002")) (codes "0002yy"))
    (record { definition = account; before = Added (codes "0002") } ∷ record { definition = account; before = Removed (codes "0002xx") } ∷ record { definition = account; before = Added (codes "0002") } ∷ [])
    ≡ record { definition = account; records = (codes "0001", codes "0001aa") ∷ []; empties = codes "0002" ∷ [] }
row_again = refl

-- and no empty slot is left once the keys of the images that were undone are swept
row_swept : all_swept swept key_of_image (record { definition = account; records = (codes "0001", codes "0001aa") ∷ []; empties = codes "0002" ∷ [] })
    (record { definition = account; before = Added (codes "0002") } ∷ record { definition = account; before = Removed (codes "0002xx") } ∷ [])
    ≡ one
row_swept = refl

-- a delete whose image is given up is a delete that kept none
row_settled : swept (deleted true three (codes "0002")) (key_of_image (record { definition = account; before = Removed (codes "0002bb") })) ≡ deleted false three (codes "0002")
row_settled = refl

-- the bound itself passes, unless the bound is strict
row_first : (first_from three.records (codes "0002") false ≡ Some (codes "0002", codes "0002bb")) × (first_from three.records (codes "0002") true ≡ Some (codes "0003", codes "0003cc")) × (first_from three.records (codes "0003") true ≡ None)
row_first = (refl, refl, refl)

-- the same down, where the first bytes of a key are below it
row_last : (last_to three.records (codes "0002") false ≡ Some (codes "0002", codes "0002bb")) × (last_to three.records (codes "0002") true ≡ Some (codes "0001", codes "0001aa")) × (last_to three.records (codes "000") false ≡ None)
row_last = (refl, refl, refl)

-- no listing shows an empty slot
row_listing : records_of (deleted true three (codes "0002")).records ≡ codes "0001aa" ∷ codes "0003cc" ∷ []
row_listing = refl

-- an empty slot is found by no read
row_empty : (deleted true three (codes "0002") ≡ record { definition = account; records = (codes "0001", codes "0001aa") ∷ (codes "0003", codes "0003cc") ∷ []; empties = codes "0002" ∷ [] })
    × (value_at (codes "0002") (deleted true three (codes "0002")).records ≡ None) × (content_at (deleted true three (codes "0002")) (codes "0002") ≡ None)
    × (first_from (deleted true three (codes "0002")).records (codes "0002") false ≡ Some (codes "0003", codes "0003cc"))
    × (last_to (deleted true three (codes "0002")).records (codes "0002") false ≡ Some (codes "0001", codes "0001aa"))
row_empty = (refl, refl, refl, refl, refl)

-- a write into an empty slot of its key is no duplicate
row_filled : (write_condition (deleted true three (codes "0002")).records (codes "0002") ≡ Normal) × (written (deleted true three (codes "0002")) (codes "0002bb") ≡ three)
row_filled = (refl, refl)

-- no image where none is kept, and none where the condition isn't NORMAL
row_images : (written_image true one (codes "0002bb") ≡ Some (record { definition = account; before = Added (codes "0002") })) × (written_image false one (codes "0002bb") ≡ None) × (written_image true one (codes "0001zz") ≡ None)
    × (deleted_image true one (codes "0001") ≡ Some (record { definition = account; before = Removed (codes "0001aa") })) × (deleted_image false one (codes "0001") ≡ None) × (deleted_image true one (codes "0009") ≡ None)
row_images = (refl, refl, refl, refl, refl, refl)

-- an undo at one key leaves the other's record and its empty slot
row_beside : undone (deleted true (rewritten three (codes "0001zz")) (codes "0002")) (record { definition = account; before = Replaced (codes "0001aa") }) ≡ deleted true three (codes "0002")
row_beside = refl

-- keys compare byte by byte, each unsigned, a beginning before what it begins
row_order : (first_from ((0 ∷ [], []) ∷ (128 ∷ [], []) ∷ (255 ∷ [], []) ∷ []) (127 ∷ []) false ≡ Some (128 ∷ [], [])) × (first_from three.records (codes "000") true ≡ Some (codes "0001", codes "0001aa"))
row_order = (refl, refl)

-- a key within the record, and how long a record may be
abbrev tagged : FileDef
tagged = record { key_length = 2; key_offset = 3; record_size = 6; recoverable = false }

row_key : (key_of tagged (codes "abcKY") ≡ codes "KY") × (entry_of tagged (codes "abcKYz") ≡ (codes "KY", codes "abcKYz"))
    × (fits_file tagged (codes "abcK") ≡ false) × (fits_file tagged (codes "abcKY") ≡ true) × (fits_file tagged (codes "abcKYz") ≡ true) × (fits_file tagged (codes "abcKYzz") ≡ false)
row_key = (refl, refl, refl, refl, refl, refl)

-- ---- by the first bytes of the key
abbrev accounts : FileValue
accounts = written (written one (codes "0012y")) (codes "0011x")

-- a delete by prefix leaves the others, with keep each of its slots empty, and undone newest first it leads back
row_prefix : (length (under (codes "001") accounts.records) ≡ 2) × (without_prefix false accounts (codes "001") ≡ one)
    × (without_prefix true accounts (codes "001") ≡ record { definition = account; records = (codes "0001", codes "0001aa") ∷ []; empties = codes "0011" ∷ codes "0012" ∷ [] })
    × (prefix_images true accounts (codes "001") ≡ record { definition = account; before = Removed (codes "0011x") } ∷ record { definition = account; before = Removed (codes "0012y") } ∷ [])
    × (prefix_images false accounts (codes "001") ≡ []) × (fold undone (without_prefix true accounts (codes "001")) (stored_on [] (prefix_images true accounts (codes "001"))) ≡ accounts)
row_prefix = (refl, refl, refl, refl, refl, refl)

-- a prefix that no key begins with changes nothing, also one that is longer than a key; a whole key is a prefix, and no byte is one of all
row_prefixes : (without_prefix true accounts (codes "9") ≡ accounts) × (prefix_images true accounts (codes "9") ≡ []) × (without_prefix true accounts (codes "00110") ≡ accounts)
    × (without_prefix false accounts (codes "0011") ≡ written one (codes "0012y")) × (length (under [] accounts.records) ≡ 3) × ((without_prefix false accounts []).records ≡ [])
row_prefixes = (refl, refl, refl, refl, refl, refl)

-- an empty slot is not counted, and stays where it is
row_prefix_empty : (length (under (codes "001") (deleted true accounts (codes "0011")).records) ≡ 1)
    × (without_prefix false (deleted true accounts (codes "0011")) (codes "001") ≡ record { definition = account; records = (codes "0001", codes "0001aa") ∷ []; empties = codes "0011" ∷ [] })
row_prefix_empty = (refl, refl)

-- the highest byte is a byte like others
row_prefix_high : under (255 ∷ []) ((254 ∷ 255 ∷ [], []) ∷ (255 ∷ 0 ∷ [], []) ∷ (255 ∷ 255 ∷ [], []) ∷ []) ≡ (255 ∷ 0 ∷ [], []) ∷ (255 ∷ 255 ∷ [], []) ∷ []
row_prefix_high = refl

-- ---- intervals

abbrev slot : ℕ → Slot
slot n = Filled (n ∷ [])

abbrev full : List Slot
full = slot 0 ∷ slot 2 ∷ slot 4 ∷ slot 6 ∷ slot 8 ∷ slot 10 ∷ slot 12 ∷ slot 14 ∷ slot 16 ∷ slot 18 ∷ slot 20 ∷ slot 22 ∷ slot 24 ∷ slot 26 ∷ slot 28 ∷ slot 30 ∷ []

-- the first slot makes the first interval, and where there is room a slot joins its interval
row_with_room : (with_slot [] 0 0 (slot 1) ≡ (slot 1 ∷ []) ∷ []) × (with_slot ((slot 1 ∷ []) ∷ []) 0 1 (slot 2) ≡ (slot 1 ∷ slot 2 ∷ []) ∷ [])
row_with_room = (refl, refl)

-- a full interval is split into 8 and 8 first; a slot between the halves goes to the end of the first
row_split : (with_slot (full ∷ []) 0 8 (slot 15) ≡ (take 8 full ++ slot 15 ∷ []) ∷ drop 8 full ∷ []) × (with_slot (full ∷ []) 0 16 (slot 31) ≡ take 8 full ∷ (drop 8 full ++ slot 31 ∷ []) ∷ [])
row_split = (refl, refl)

-- an interval without slots is removed, and one with others stays; intervals aren't merged
row_without : (without_slot ((slot 1 ∷ []) ∷ full ∷ []) 0 0 ≡ full ∷ []) × (without_slot ((slot 1 ∷ slot 2 ∷ []) ∷ (slot 3 ∷ []) ∷ []) 0 0 ≡ (slot 2 ∷ []) ∷ (slot 3 ∷ []) ∷ [])
row_without = (refl, refl)
