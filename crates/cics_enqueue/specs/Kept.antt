-- The table as the code stores it. Each unit has a list of its keys, so that what it owns is found
-- without a look at what others own.
use Rattle.std.specs.Prelude.{◌≡◌, ℕ, ◌==◌, Bool, true, false, ◌&&◌, ◌++◌, if◌then◌else◌, T, Option, Some, None, option_map, nat_eq, length, drop, List, [], ◌∷◌}
use Rattle.std.specs.List.{list_any}
use Rattle.std.specs.Global.{Vec}
use Rattle.std.specs.Map.{lookup, remove_entry}
use Rattle.std.specs.BTreeMap.{insert_entry}
use Rattle.cics_names.specs.Keyed.{Bytes, bytes_cmp, is_same, is_below}
use Rattle.cics_enqueue.specs.declared.enqueues.Holding.{Holding}
use Rattle.cics_ksds.specs.Prefixes.{has_prefix}
use Rattle.cics_history.specs.Holding.{is_other}
use Rattle.cics_enqueue.specs.Table.{Table, Held, resource_key, is_in_order, first_of}
use Rattle.cics_enqueue.specs.Order.{resource_of}

-- the entries of the table: a table key, which is a resource as bytes, and its holding
abbrev pub Entries : Type 0
Entries = List (Bytes × Holding)

-- for each unit the keys that it acquired, in this order; some of them it may have released since
abbrev pub Owned : Type 0
Owned = List (ℕ × Vec Bytes)

-- a holding as callers see it
abbrev pub seen : Holding → Held
seen h = record { unit = h.unit; count = h.count }

-- the entries with their resources read back from their bytes
abbrev pub table_of : Entries → Table
table_of [] = []
table_of (e ∷ es) = (resource_of e.0, seen e.1) ∷ table_of es

-- each entry's bytes are those of a resource
abbrev pub AreKeys : Entries → Type 0
AreKeys [] = Unit {0}
AreKeys (e ∷ es) = (resource_key (resource_of e.0) ≡ e.0) × AreKeys es

-- whether a list has a key
abbrev pub has_in : Option (Vec Bytes) → Bytes → Bool
has_in None k = false
has_in (Some keys) k = list_any (is_same k) keys.items

-- whether a key is among those that a unit acquired
abbrev pub owns : Owned → ℕ → Bytes → Bool
owns owned u k = has_in (lookup (nat_eq u) owned) k

-- how many keys a list has
abbrev pub size_in : Option (Vec Bytes) → ℕ
size_in None = 0
size_in (Some keys) = length keys.items

-- how many keys stand in a unit's list
abbrev pub own_count : Owned → ℕ → ℕ
own_count owned u = size_in (lookup (nat_eq u) owned)

-- whether it is this unit and this key
abbrev pub is_place : ℕ → Bytes → ℕ → Bytes → Bool
is_place unit key u k = nat_eq unit u && is_same key k

-- each unit has in its list what it had
abbrev pub OwnsSame : Owned → Owned → Type 0
OwnsSame old new = (u : ℕ) (k : Bytes) → owns new u k ≡ owns old u k

-- this unit has this key, and each unit has all that it had
abbrev pub Adds : ℕ → Bytes → Owned → Owned → Type 0
Adds unit key old new = (u : ℕ) (k : Bytes) → (if is_place unit key u k then true else owns old u k) ≡ true → owns new u k ≡ true

-- each unit has all that it had, but this unit may have lost this key
abbrev pub Drops : ℕ → Bytes → Owned → Owned → Type 0
Drops unit key old new = (u : ℕ) (k : Bytes) → is_place unit key u k ≡ false → owns old u k ≡ true → owns new u k ≡ true

-- whether it is this unit's holding
abbrev pub is_units : ℕ → Option Holding → Bool
is_units u None = false
is_units u (Some h) = h.unit == u

-- the entries with a new one in order, and what they say of each key then
abbrev pub PutsNew : Bytes → Holding → Entries → Entries → Type 0
PutsNew key h es fs = (fs ≡ insert_entry bytes_cmp es key h) × ((k : Bytes) → lookup (is_same k) fs ≡ (if is_same key k then Some h else lookup (is_same k) es))

-- the keys that a unit owns are in its list
abbrev pub AreOwned : Entries → Owned → Type 0
AreOwned es owned = (u : ℕ) (k : Bytes) → is_units u (lookup (is_same k) es) ≡ true → owns owned u k ≡ true

-- the entries without a key, if it is this unit's
abbrev pub without_own : ℕ → Bytes → Entries → Entries
without_own u key es = if is_units u (lookup (is_same key) es) then remove_entry (is_same key) es else es

-- what the entries say of each key after that
abbrev pub Frees : ℕ → Bytes → Entries → Entries → Type 0
Frees u key es fs = (k : Bytes) → lookup (is_same k) fs ≡ (if is_units u (lookup (is_same key) es) && is_same key k then None else lookup (is_same k) es)

-- the entries and the keys of the units are one table
pub record IsKept (es : Entries) (own : Owned) : Type 0 where
  pub keys : AreKeys es
  pub in_order : T (is_in_order (table_of es))
  pub owned : AreOwned es own

-- ---- Look-ups of what conflicts

-- the first entry that passes a test
abbrev pub first_entry : (Bytes × Holding → Bool) → Entries → Option (Bytes × Holding)
first_entry test [] = None
first_entry test (e ∷ es) = if test e then Some e else first_entry test es

-- whether an entry begins with some bytes and is another unit's than the asker's
abbrev pub is_others_under : Bytes → Option ℕ → Bytes × Holding → Bool
is_others_under start asker e = has_prefix start e.0 && is_other asker e.1.unit

-- the bytes and the unit of an entry
abbrev pub bytes_and_unit : Bytes × Holding → Bytes × ℕ
bytes_and_unit e = (e.0, e.1.unit)

-- the bytes and the unit of the first entry that begins with some bytes and is another unit's than
-- the asker's
abbrev pub first_shown : Bytes → Option ℕ → Entries → Option (Bytes × ℕ)
first_shown start asker es = option_map bytes_and_unit (first_entry (is_others_under start asker) es)

-- the unit of a holding, if it isn't the asker
abbrev pub others_unit : Option ℕ → Option Holding → Option ℕ
others_unit asker None = None
others_unit asker (Some h) = if is_other asker h.unit then Some h.unit else None

-- the unit of the first entry, not the asker's, whose bytes are key and a proper front of the rest
abbrev pub first_cover : Option ℕ → Entries → Bytes → Bytes → Option ℕ
first_cover asker es key [] = None
first_cover asker es key (x ∷ rest) = first_of (others_unit asker (lookup (is_same key) es)) (first_cover asker es (key ++ x ∷ []) rest)

-- the smaller of two in byte order, without their kinds
abbrev pub lesser_shown : Option (Bytes × ℕ) → Option (Bytes × ℕ) → Option (Bytes × ℕ)
lesser_shown None y = y
lesser_shown (Some x) None = Some x
lesser_shown (Some x) (Some y) = if is_below (drop 1 y.0) (drop 1 x.0) then Some y else Some x

-- the unit of the first prefix of a file, not the asker's, that is shorter than some bytes and with
-- which they begin
abbrev pub first_shorter : Option ℕ → Entries → Bytes → Bytes → Option ℕ
first_shorter asker es f b = first_cover asker es (0 ∷ length f ∷ (f ++ [])) b

-- the unit of the first key of a file that begins with a prefix, or of the first such prefix of
-- keys, whichever is smaller; the asker's are passed over
abbrev pub least_shown : Bytes → Bytes → Option ℕ → Entries → Option ℕ
least_shown f p asker es =
    option_map (λ q. q.1) (lesser_shown (first_shown (1 ∷ length f ∷ (f ++ p)) asker es) (first_shown (0 ∷ length f ∷ (f ++ p)) asker es))
