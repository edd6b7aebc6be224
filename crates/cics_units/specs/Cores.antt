-- The core of the units as the laws see it, and a command with what was looked up for it.
use Rattle.std.specs.Prelude.{◌≡◌, ◌<◌, ◌≤◌, ℕ, false}
use Rattle.cics_units.specs.Applied.{IsBound, IsSeen}
use Rattle.cics_units.specs.Awaiting.{is_writer, IsOwn}
use Rattle.cics_units.specs.Parts.{CoreValue, IsFitOp, most_images}
use Rattle.cics_units.specs.QueueChanges.{queue_of}
use Rattle.cics_units.specs.Opening.StoreMatching.{StoreValue}
use Rattle.cics_units.specs.TableInPlace.{is_read}
use Rattle.cics_units.specs.Uses.{uses_if, listed}
use Rattle.cics_units.specs.declared.units_core.BoundOp.{BoundOp}
use Rattle.cics_units.specs.declared.units_core.UnitsCore.{UnitsCore}

-- what the core's fields have
abbrev pub core_value : UnitsCore → CoreValue
core_value c = record { stores = record { store = c.store; images = c.rows.items }; table = c.locks; reads = c.reads }

-- what was looked up for a command of a unit is right
pub record IsBoundFor (core : CoreValue) (unit : ℕ) (b : BoundOp) : Type 0 where
  pub bound : IsBound core.stores.store b.op.now b.recoverable
  pub used : listed b.uses ≡ uses_if b.recoverable b.op.now
  -- for READQ TD, whether the unit owns the writing end of the queue. Other commands may have
  -- either
  pub own : IsOwn b.op.now (is_writer core.table unit (queue_of b.op.now)) b.own

-- a command other than READ UPDATE can be applied. What it acts on is there, READQ TD doesn't have
-- to wait, and there is room for its images
pub record CanApply (s : StoreValue) (b : BoundOp) (room : ℕ) : Type 0 where
  pub change : is_read b.op.now ≡ false
  pub bound : IsBound s b.op.now b.recoverable
  pub fit : IsFitOp s b.op.now
  pub seen : IsSeen s b.op.now b.own
  pub one : 0 < room
  pub most : most_images s.files b.op.now ≤ room
