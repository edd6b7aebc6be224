-- READQ TS leaves what a region keeps, and the task stands where it stood.
use Rattle.std.specs.Prelude.{◌≡◌, ℕ, Bool, false, Some, slice_get, List}
use Rattle.cics_names.specs.Keyed.{Bytes}
use Rattle.cics_history.specs.State.{UnitsValue}
use Rattle.cics_history.specs.Execution.{after_ts_reading}
use Rattle.cics_history.specs.Headline.{IsHeadline}
use Rattle.cics_history.specs.Serial.{IsSerializable}
use Rattle.cics_dispatch.specs.Machine.Machine.{Machine, Task, Suspended, is_waiting, with_units}
use Rattle.cics_dispatch.specs.Machine.Regions.{region_of, IsRegionKept}
use Rattle.cics_dispatch.proofs.OfMachine.KeptTasks.{kept_item_read}
use Rattle.cics_dispatch.proofs.OfMachine.OwnedUnits.{owned_item_read}
use Rattle.cics_dispatch.proofs.OfMachine.RegionSteps.{kept_as}

module _ {units : UnitsValue} {tasks : List Task} {waiting : List Suspended} {clock : ℕ} {is_down : Bool} (kept : IsRegionKept (region_of units tasks waiting clock is_down))
    (at : ℕ) (t : Task) (there : slice_get tasks at ≡ Some t) (q : Bytes) (item : ℕ) (after : UnitsValue) (state : after.state ≡ after_ts_reading units.state q item) where
  abbrev m : Machine
  m = (region_of units tasks waiting clock is_down).machine

  -- the NEXT cursor moves, and nothing else
  pub item_read_machine : (region_of after tasks waiting clock is_down).machine ≡ with_units m (after_ts_reading units.state q item)
  item_read_machine = λ i. record { units = state i; tasks = tasks; waiting = waiting; clock = clock; is_down = is_down }

  pub item_read_kept : is_waiting waiting t.label ≡ false → IsHeadline after → IsSerializable after → IsRegionKept (region_of after tasks waiting clock is_down)
  item_read_kept awake headline serializable =
      kept_as (region_of after tasks waiting clock is_down) (with_units m (after_ts_reading units.state q item)) item_read_machine
      (kept_item_read m at t kept.tasks there awake q item) (owned_item_read m q item kept.owned) (record { headline = headline }) (record { serializable = serializable })
