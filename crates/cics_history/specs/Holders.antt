-- Task control and recovery: a resource has at most one owner, and the smallest conflicting
-- resource is found.
use Rattle.std.specs.Prelude.{◌≡◌, ℕ, ◌<◌, ◌==◌, Bool, true, false, Option, List, length}
use Rattle.std.specs.List.{list_any}
use Rattle.cics_names.specs.Keyed.{Bytes, is_below}
use Rattle.cics_history.specs.Resources.{is_one}
use Rattle.cics_history.specs.declared.resources.Resource.{Resource}
use Rattle.cics_history.specs.State.{UnitsState}
use Rattle.cics_history.specs.Holding.{end_read_of, end_written_of, held_by, conflicts, bytes_in, is_other}
use Rattle.cics_history.specs.Cells.{End, Reading, Writing}

-- an end of a transient data queue, as a resource
abbrev pub end_of : Bytes → End → Resource
end_of q Reading = end_read_of q
end_of q Writing = end_written_of q

-- a resource of the first list conflicts with one of the second
abbrev pub meet : List Resource → List Resource → Bool
meet rs ts = list_any (λ r. list_any (conflicts r) ts) rs

-- two units that own conflicting resources are the same unit
abbrev pub IsHeldByOne : UnitsState → Type 0
IsHeldByOne s = (u n : ℕ) → meet (held_by s u) (held_by s n) ≡ true → u ≡ n

-- an entry's owner isn't the unit that asks, and its resource conflicts with this one. No other
-- such resource comes before it in byte order
pub record IsLeastHeld (s : UnitsState) (asking : Option ℕ) (r : Resource) (e : Resource × ℕ) : Type 0 where
  pub meets : conflicts r e.0 ≡ true
  pub other : is_other asking e.1 ≡ true
  pub holds : list_any (is_one e.0) (held_by s e.1) ≡ true
  pub least : (q : Resource) (unit : ℕ) → conflicts r q ≡ true → is_other asking unit ≡ true → list_any (is_one q) (held_by s unit) ≡ true →
      is_below (bytes_in q) (bytes_in e.0) ≡ false

-- the units that have update reads or counts have begun
pub record HaveBegun (s : UnitsState) : Type 0 where
  pub readers : (u : ℕ) → list_any (λ r. r.unit == u) s.reads ≡ true → u < length s.outcomes
  pub counters : (u : ℕ) → list_any (λ c. c.unit == u) s.counts ≡ true → u < length s.outcomes
