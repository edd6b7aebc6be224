-- Maps that remember what stood at each key that was set: what they show now, and what they showed
-- before.
use Rattle.std.specs.Prelude.{◌≡◌, Option, Some, None, is_some, if◌then◌else◌, List}
use Rattle.std.specs.List.{fold}
use Rattle.std.specs.declared.cmp.Ordering.{Ordering}
use Rattle.std.specs.BTreeMap.{insert_entry, is_at}
use Rattle.std.specs.Map.{lookup, remove_entry}

-- what stands now, and what stood at each key that was set
pub record Tracked (K V : Type 0) : Type 0 where
  pub entries : List (K × V)
  pub olds : List (K × Option V)

-- what was noted, or else what stands
abbrev pub noted_or : {V : Type 0} → Option (Option V) → Option V → Option V
noted_or None now = now
noted_or (Some old) now = old

module _ {K X : Type 0} (cmp : K → K → Ordering) where
  -- what entries have at a key
  abbrev pub at : List (K × X) → K → Option X
  at entries k = lookup (is_at (cmp k)) entries

module _ {K V : Type 0} (cmp : K → K → Ordering) where
  -- the entries with this at a key, or with nothing
  abbrev pub with_at : List (K × V) → K → Option V → List (K × V)
  with_at entries k None = remove_entry (is_at (cmp k)) entries
  with_at entries k (Some v) = insert_entry cmp entries k v

  -- what was noted first of a key stays
  abbrev pub noted : List (K × Option V) → K → Option V → List (K × Option V)
  noted olds k old = if is_some (at cmp olds k) then olds else insert_entry cmp olds k old

  -- the map with this at a key, or with nothing
  abbrev pub set : Tracked K V → K → Option V → Tracked K V
  set t k v = record { entries = with_at t.entries k v; olds = noted t.olds k (at cmp t.entries k) }

  -- what it shows at a key now
  abbrev pub shown : Tracked K V → K → Option V
  shown t k = at cmp t.entries k

  -- what it showed at a key before
  abbrev pub shown_before : Tracked K V → K → Option V
  shown_before t k = noted_or (at cmp t.olds k) (shown t k)

  -- what is shown at each key, once a key has this
  abbrev pub assigned : (K → Option V) → K × Option V → K → Option V
  assigned f a k = if is_at (cmp a.0) k then a.1 else f k

  -- what is shown at each key, once each of these in turn has this
  abbrev pub all_assigned : (K → Option V) → List (K × Option V) → K → Option V
  all_assigned f told = fold assigned f told

  -- what two maps showed before is the same
  abbrev pub IsSameBefore : Tracked K V → Tracked K V → Type 0
  IsSameBefore old new = (k : K) → shown_before new k ≡ shown_before old k
