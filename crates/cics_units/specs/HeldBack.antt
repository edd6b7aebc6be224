-- What files and queues hold for undoing alone, beside what they show.
use Rattle.std.specs.Prelude.{◌≡◌, true, Some, []}
use Rattle.cics_names.specs.Keyed.{Bytes, value_at}
use Rattle.cics_ksds.specs.Files.{FileValue}
use Rattle.cics_tempstor.specs.Queues.{is_there}
use Rattle.cics_tempstor.specs.declared.queue_rows.Row.{Row}
use Rattle.cics_transdata.specs.Trans.{TransState, IsMarked}
use Rattle.cics_units.specs.Opening.StoreMatching.{StoreValue}

-- files and queues hold nothing back for an undo
pub record HoldsNothingBack (store : StoreValue) : Type 0 where
  -- no file has an empty slot
  pub files : (f : Bytes) (file : FileValue) → value_at f store.files ≡ Some file → file.empties ≡ []
  -- no row of temporary storage is empty
  pub temp_storage : (q : Bytes) (row : Row) → value_at q store.temp_storage ≡ Some row → is_there row.items ≡ true
  -- no record of a transient data queue is marked, neither as read nor as written
  pub trans_data : (q : Bytes) (t : TransState) → value_at q store.trans_data ≡ Some t → IsMarked t →
      (t.read ≡ 0) × (t.written ≡ 0)
