-- Recovery and task control: what an executed command makes of the store, the table of enqueues and
-- the open update reads.
use Rattle.std.specs.Prelude.{◌≡◌, ℕ, ◌<◌, Bool, if◌then◌else◌, length}
use Rattle.cics_history.specs.Store.{is_normal}
use Rattle.cics_history.specs.Execution.{reads_after}
use Rattle.cics_history.specs.declared.ops.Answer.{Answer}
use Rattle.cics_history.specs.declared.ops.Op.{Op}
use Rattle.cics_units.specs.Applied.{IsApplied}
use Rattle.cics_units.specs.Awaiting.{is_writer, IsOwn}
use Rattle.cics_units.specs.Parts.{CoreValue, AreRoomier}
use Rattle.cics_units.specs.QueueChanges.{queue_of}
use Rattle.cics_units.specs.Opening.StoreMatching.{StoreWithImages}
use Rattle.cics_units.specs.TableInPlace.{table_changed}
use Rattle.cics_units.specs.ImageRows.{kept_by, AreOthersKept}

-- a command is applied for a unit. The table changes only if it is answered NORMAL. The unit then
-- acquires what it goes on owning, and releases what the command covers
pub record IsDone (old new : CoreValue) (unit : ℕ) (op : Op) (recoverable own : Bool) (answer : Answer) : Type 0 where
  pub applied : IsApplied old.stores.store new.stores.store (kept_by old.stores.images unit) (kept_by new.stores.images unit) op recoverable own answer
  pub others : AreOthersKept old.stores.images new.stores.images unit
  pub table : new.table ≡ (if is_normal answer.condition then table_changed recoverable unit op old.reads old.table else old.table)
  pub reads : new.reads ≡ reads_after unit op answer.condition old.reads

-- a command is executed: `old` gets room for its images (`roomy`), and then it is done (`IsDone`)
pub record IsExecuted (old new : CoreValue) (unit : ℕ) (op : Op) (recoverable : Bool) (answer : Answer) : Type 0 where
  pub roomy : StoreWithImages
  pub room : AreRoomier old.stores roomy
  pub begun : unit < length roomy.images
  -- for READQ TD, whether the unit owns the writing end of the queue. Other commands may have
  -- either
  pub own : Bool
  pub own_is : IsOwn op (is_writer old.table unit (queue_of op)) own
  pub done : IsDone (record { stores = roomy; table = old.table; reads = old.reads }) new unit op recoverable own answer
