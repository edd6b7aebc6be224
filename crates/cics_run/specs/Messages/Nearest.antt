-- Names that are almost another one.
use Rattle.std.specs.Prelude.{ℕ, zero, suc, ◌+◌, ◌==◌, Bool, ◌&&◌, nat_lt, if◌then◌else◌, Option, Some, None, slice_index, length}
use Rattle.std.specs.List.{fold}
use Rattle.cics_names.specs.Keyed.{Bytes, Map}
use Rattle.cics_names.specs.Names.{blank}
use Rattle.cics_dispatch.specs.Machine.Machine.{Machine}
use Rattle.cics_dispatch.specs.Machine.Blockers.{label_at}

-- the code of a letter as that of its capital
abbrev pub capital : ℕ → ℕ
capital code = if nat_lt 128 code && nat_lt code 192 then code + 64 else code

-- the code at a place of a name, in capitals and filled up with blanks
abbrev pub capital_at : Bytes → ℕ → ℕ
capital_at name at = if nat_lt at (length name) then capital (slice_index name at) else blank

-- in how many of their first places two names differ, capitals or not
abbrev pub differences_below : Bytes → Bytes → ℕ → ℕ
differences_below one other zero = 0
differences_below one other (suc n) = differences_below one other n + (if capital_at one n == capital_at other n then 0 else 1)

-- in how many of eight places
unfoldable pub differences : Bytes → Bytes → ℕ
differences one other = differences_below one other 8

-- whether they differ in fewer places than these
abbrev pub is_near : ℕ → Bytes → Bytes → Bool
is_near places one other = nat_lt (differences one other) places

-- the key that was found, or else the next one if it differs from a name in fewer places than these
abbrev pub or_near : {X : Type 0} → ℕ → Bytes → Option Bytes → Bytes × X → Option Bytes
or_near places name (Some found) e = Some found
or_near places name None e = if is_near places name e.0 then Some e.0 else None

-- the first such key
abbrev pub first_near : {X : Type 0} → ℕ → Bytes → Map X → Option Bytes
first_near places name m = fold (or_near places name) None m

-- the first of two
abbrev pub or_next : Option Bytes → Option Bytes → Option Bytes
or_next None next = next
or_next (Some first) next = Some first

-- the first key that is the name, capitals or not, or else the first that differs in one place
unfoldable pub nearest_key : {X : Type 0} → Bytes → Map X → Option Bytes
nearest_key name m = or_next (first_near 1 name m) (first_near 2 name m)

-- a label, if it differs from another one in fewer places than these
abbrev pub if_near : ℕ → Bytes → Option Bytes → Option Bytes
if_near places label None = None
if_near places label (Some other) = if is_near places label other then Some other else None

-- that of the task of a number
abbrev pub near_at : Machine → ℕ → Bytes → ℕ → Option Bytes
near_at m places label number = if_near places label (label_at m.tasks number)

-- the first below a number
abbrev pub near_below : Machine → ℕ → Bytes → ℕ → Option Bytes
near_below m places label zero = None
near_below m places label (suc n) = or_next (near_below m places label n) (near_at m places label n)

-- the first of all
abbrev pub first_near_label : Machine → ℕ → Bytes → Option Bytes
first_near_label m places label = near_below m places label (length m.tasks)

-- the first label that is this one, capitals or not, or else the first that differs in one place
abbrev pub nearest_label : Machine → Bytes → Option Bytes
nearest_label m label = or_next (first_near_label m 1 label) (first_near_label m 2 label)
