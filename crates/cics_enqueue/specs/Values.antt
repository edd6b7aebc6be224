-- The values that a unit owns by ENQ, and their stamp.
use Rattle.std.specs.Prelude.{ℕ, ◌==◌, if◌then◌else◌, Option, Some, None, List, [], ◌∷◌, ◌++◌}
use Rattle.cics_names.specs.Keyed.{Bytes}
use Rattle.cics_names.specs.Stamps.{number_stamp, text_stamp}
use Rattle.cics_history.specs.declared.resources.Resource.{Resource}
use Rattle.cics_history.specs.declared.resources.Resource.TheVariants.{User}
use Rattle.cics_enqueue.specs.Table.{Table, Held}

-- the bytes of a user's value
abbrev pub user_value : Resource → Option Bytes
user_value (User v) = Some v.items
user_value _ = None

-- the bytes of a user's value in its table key, behind its kind
abbrev pub value_in : Bytes → Option Bytes
value_in [] = None
value_in (kind ∷ rest) = if kind == 5 then Some rest else None

-- a value with its count before others, if there is one and the unit owns it
abbrev pub value_before : ℕ → Option Bytes → Held → List (Bytes × ℕ) → List (Bytes × ℕ)
value_before unit None h values = values
value_before unit (Some v) h values = if h.unit == unit then (v, h.count) ∷ values else values

-- the values that a unit owns, each with its count, in their order
abbrev pub values_of : ℕ → Table → List (Bytes × ℕ)
values_of unit [] = []
values_of unit (e ∷ es) = value_before unit (user_value e.0) e.1 (values_of unit es)

-- the stamp of a value is that of its bytes and of its count
abbrev pub value_stamp : Bytes × ℕ → List ℕ
value_stamp v = text_stamp v.0 ++ number_stamp v.1
