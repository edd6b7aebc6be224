-- Recovery: the update reads of each unit by the names of the files, as one list.
use Rattle.std.specs.Prelude.{◌≡◌, ◌<◌, ℕ, suc, Bool, false, if◌then◌else◌, Option, Some, None, List, [], ◌∷◌, ◌++◌, map, length}
use Rattle.std.specs.List.{slice_index_or, remove}
use Rattle.cics_names.specs.Keyed.{Bytes, Map, value_at, without, is_below, is_same}
use Rattle.cics_ksds.specs.Prefixes.{has_prefix}
use Rattle.cics_history.specs.State.{UpdateRead}

-- the update reads of a unit, by file
abbrev pub reads_of : ℕ → Map Bytes → List UpdateRead
reads_of unit files = map (λ e. record { unit = unit; file = e.0; key = e.1 }) files

-- the update reads of the units from this one on, each of which has a row
abbrev pub reads_from : ℕ → List (Map Bytes) → List UpdateRead
reads_from unit [] = []
reads_from unit (row ∷ rows) = reads_of unit row ++ reads_from (suc unit) rows

-- how many files come before this one
abbrev pub place_of : Bytes → Map Bytes → ℕ
place_of f [] = 0
place_of f (e ∷ es) = if is_below e.0 f then suc (place_of f es) else 0

-- the entry of a file is at this position
pub record IsFoundAt (f : Bytes) (es : Map Bytes) (at : ℕ) : Type 0 where
  pub inside : at < length es
  pub value : (d : Bytes × Bytes) → value_at f es ≡ Some (slice_index_or es at d).1
  pub rest : remove es at ≡ without f es

-- an update read is there, and is of this key
abbrev pub is_read_key : Option Bytes → Bytes → Bool
is_read_key None key = false
is_read_key (Some read) key = is_same read key

-- an update read is there, and its key begins with this prefix
abbrev pub is_read_under : Option Bytes → Bytes → Bool
is_read_under None prefix = false
is_read_under (Some read) prefix = has_prefix prefix read
