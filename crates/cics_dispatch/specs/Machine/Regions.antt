-- A region as it is stored: its machine, and the store of its units.
use Rattle.std.specs.Prelude.{ℕ, Bool, List}
use Rattle.cics_history.specs.State.{UnitsValue}
use Rattle.cics_history.specs.Headline.{IsHeadline}
use Rattle.cics_history.specs.Serial.{IsSerializable}
use Rattle.cics_dispatch.specs.Machine.Machine.{Task, Suspended, RegionValue}
use Rattle.cics_dispatch.specs.Machine.Answers.{IsHeadlineRegion, IsSerializableRegion}
use Rattle.cics_dispatch.specs.Machine.KeptTasks.{AreTasksKept}
use Rattle.cics_dispatch.specs.Machine.OwnedUnits.{AreUnitsOwned}

-- the region of these parts
abbrev pub region_of : UnitsValue → List Task → List Suspended → ℕ → Bool → RegionValue
region_of units tasks waiting clock is_down =
    record { machine = record { units = units.state; tasks = tasks; waiting = waiting; clock = clock; is_down = is_down }; store = units.store }

-- what every call of the units of work keeps
abbrev pub ArePromised : UnitsValue → Type 0
ArePromised units = IsHeadline units × IsSerializable units

-- what every call of a region keeps
pub record IsRegionKept (r : RegionValue) : Type 0 where
  pub tasks : AreTasksKept r.machine
  pub owned : AreUnitsOwned r.machine
  pub headline : IsHeadlineRegion r
  pub serializable : IsSerializableRegion r
