-- What a unit owns that conflicts with a resource.
use Rattle.std.specs.Prelude.{◌≡◌, ℕ, Bool, true, ◌||◌, Some}
use Rattle.cics_names.specs.Keyed.{Bytes}
use Rattle.cics_ksds.specs.Prefixes.{has_prefix}
use Rattle.cics_history.specs.declared.resources.Resource.{Resource}
use Rattle.cics_history.specs.Holding.{conflicts}
use Rattle.cics_enqueue.specs.Table.{Table, holder_of}

-- a unit owns a resource that conflicts with this one
pub record OwnsOver (t : Table) (r : Resource) (v : ℕ) : Type 0 where
  pub owned : Resource
  pub meets : conflicts r owned ≡ true
  pub holder : holder_of owned t ≡ Some v

-- a table key conflicts with a prefix of keys: it begins with the prefix, as a record's or as a
-- prefix's, or the prefix begins with it
abbrev pub is_over : Bytes → Bytes → Bytes → Bool
is_over start prefix key = has_prefix start key || (has_prefix prefix key || has_prefix key prefix)
