-- Task control: an open unit of work is a task's.
use Rattle.std.specs.Prelude.{◌≡◌, ℕ, true}
use Rattle.cics_history.specs.Events.{is_live}
use Rattle.cics_dispatch.specs.Machine.Machine.{Machine}
use Rattle.cics_dispatch.specs.Machine.Tasks.{HasNoOwner}

-- each open unit is some task's
pub record AreUnitsOwned (m : Machine) : Type 0 where
  pub owned : (u : ℕ) → is_live m.units u ≡ true → HasNoOwner m.tasks u → ⊥
