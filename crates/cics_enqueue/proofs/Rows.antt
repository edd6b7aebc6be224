-- Worked rows: which unit is a blocker, and which values a unit owns.
use Rattle.std.specs.Prelude.{◌≡◌, ℕ, Some, None, true, false, [], ◌∷◌, refl}
use Rattle.cics_names.specs.Keyed.{Bytes}
use Rattle.cics_history.specs.declared.resources.Resource.{Resource}
use Rattle.cics_history.specs.declared.resources.Resource.TheVariants.{FileKey, FilePrefix, User}
use Rattle.cics_history.specs.Resources.{bytes_of}
use Rattle.cics_history.specs.Holding.{conflicts}
use Rattle.cics_enqueue.specs.Table.{Table, held_with_prefix, holder_over, taken, released}
use Rattle.cics_enqueue.specs.Values.{values_of}

-- two files, and keys and prefixes of theirs
abbrev accounts : Bytes
accounts = 65 ∷ 66 ∷ []

abbrev orders : Bytes
orders = 65 ∷ 67 ∷ []

abbrev key : Bytes → Bytes → Resource
key f k = FileKey f (bytes_of k)

abbrev prefix : Bytes → Bytes → Resource
prefix f p = FilePrefix f (bytes_of p)

-- what conflicts: a key and a prefix of it, in one file
covers : conflicts (key accounts (7 ∷ 8 ∷ [])) (prefix accounts (7 ∷ [])) ≡ true
covers = refl

longer : conflicts (key accounts (7 ∷ [])) (prefix accounts (7 ∷ 8 ∷ [])) ≡ false
longer = refl

elsewhere : conflicts (key accounts (7 ∷ 8 ∷ [])) (prefix orders (7 ∷ [])) ≡ false
elsewhere = refl

nested : conflicts (prefix accounts (7 ∷ 8 ∷ [])) (prefix accounts []) ≡ true
nested = refl

-- unit 1 owns the keys 7 9 and 8, unit 2 the key 7 5. Unit 3 owns a key of the other file, and the
-- prefix 7 7
abbrev table : Table
table =
    taken (taken (taken (taken (taken [] (key accounts (7 ∷ 9 ∷ [])) 1) (key accounts (8 ∷ [])) 1) (key accounts (7 ∷ 5 ∷ [])) 2)
    (key orders (7 ∷ 1 ∷ [])) 3) (prefix accounts (7 ∷ 7 ∷ [])) 3

-- the smallest, whichever unit acquired first
least : held_with_prefix accounts (7 ∷ []) None table ≡ Some 2
least = refl

-- the asker's own is passed over, and then a prefix comes before the key 7 9
own_passed : held_with_prefix accounts (7 ∷ []) (Some 2) table ≡ Some 3
own_passed = refl

-- a prefix that is owned is ordered by its own bytes, and conflicts with all that begins with it
under_prefix : held_with_prefix accounts (7 ∷ 7 ∷ 1 ∷ []) (Some 1) table ≡ Some 3
under_prefix = refl

covered_key : holder_over (key accounts (7 ∷ 7 ∷ 1 ∷ [])) (Some 1) table ≡ Some 3
covered_key = refl

covered_by_own : holder_over (key accounts (7 ∷ 7 ∷ 1 ∷ [])) (Some 3) table ≡ None
covered_by_own = refl

-- a prefix with the bytes of an owned key conflicts with it, and so does a key with those of an
-- owned prefix
same_bytes : holder_over (prefix accounts (7 ∷ 9 ∷ [])) (Some 2) table ≡ Some 1
same_bytes = refl

same_bytes_turned : holder_over (key accounts (7 ∷ 7 ∷ [])) (Some 1) table ≡ Some 3
same_bytes_turned = refl

-- a unit that owns a prefix may acquire all that begins with it
within_own : held_with_prefix accounts (7 ∷ 7 ∷ 1 ∷ []) (Some 3) table ≡ None
within_own = refl

-- its own shorter prefix is passed over, and what is found is another unit's key
past_own : held_with_prefix accounts (8 ∷ []) (Some 2) (taken table (prefix accounts []) 2) ≡ Some 1
past_own = refl

-- a key that is merely near conflicts with nothing
near : held_with_prefix accounts (7 ∷ 4 ∷ []) None table ≡ None
near = refl

near_above : held_with_prefix accounts (9 ∷ []) None table ≡ None
near_above = refl

-- the empty prefix is the whole file
whole_file : held_with_prefix accounts [] (Some 2) table ≡ Some 3
whole_file = refl

-- what is left once a unit has released all that it owned
left : held_with_prefix accounts (7 ∷ []) None (released (released table 2) 3) ≡ Some 1
left = refl

-- unit 1 has enqueued twice on the value 9, then once on 7, and unit 2 on 8
abbrev value : ℕ → Resource
value b = User (bytes_of (b ∷ []))

abbrev enqueued : Table
enqueued = taken (taken (taken (taken table (value 9) 1) (value 9) 1) (value 7) 1) (value 8) 2

-- a unit's values are in byte order, each with its count, and nothing else that it owns is there
own_values : values_of 1 enqueued ≡ (7 ∷ [], 1) ∷ (9 ∷ [], 2) ∷ []
own_values = refl

no_values : values_of 3 enqueued ≡ []
no_values = refl
