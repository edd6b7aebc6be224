-- Which units block DELETE GENERIC and DELETEQ TD, which alone may wait for more than one. Two
-- units never own what conflicts: so no other command waits for a second unit.
use Rattle.std.specs.Prelude.{ℕ, Bool, false, ◌&&◌, ◌||◌, Option}
use Rattle.std.specs.List.{list_any}
use Rattle.cics_history.specs.declared.resources.Resource.{Resource}
use Rattle.cics_history.specs.State.{UnitsState, queue_logical}
use Rattle.cics_history.specs.Holding.{conflicts, held_by, is_other, records_under, end_read_of, end_written_of}
use Rattle.cics_history.specs.declared.ops.Op.{Op}
use Rattle.cics_history.specs.declared.ops.Op.TheVariants.{DeleteGeneric, TdDelete}

-- a unit owns something that conflicts with a resource
abbrev pub owns_over : UnitsState → ℕ → Resource → Bool
owns_over s v r = list_any (conflicts r) (held_by s v)

-- a unit owns something that DELETE GENERIC or DELETEQ TD uses
abbrev pub owns_used : UnitsState → ℕ → Op → Bool
owns_used s v (DeleteGeneric f p) = owns_over s v (records_under f p)
owns_used s v (TdDelete q) = queue_logical s.opening q && (owns_over s v (end_read_of q) || owns_over s v (end_written_of q))
owns_used s v _ = false

-- a unit isn't the one that asks, and owns something that such a command uses
abbrev pub blocks : UnitsState → Option ℕ → Op → ℕ → Bool
blocks s asking op v = is_other asking v && owns_used s v op
