-- The bytes of a record, wherever they lie.
use Rattle.std.specs.Prelude.{ℕ, List}
use Rattle.cics_names.specs.declared.records.Room.{Room}
use Rattle.cics_names.specs.declared.records.Room.TheVariants.{Short, Long}

-- the bytes that lie in the value itself, or those on the heap
abbrev pub bytes_of : Room → List ℕ
bytes_of (Short bytes) = bytes
bytes_of (Long bytes) = bytes.items
