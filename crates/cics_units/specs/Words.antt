-- The words that clauses on units of work cite.
pub use Rattle.cics_units.specs.Applied.{IsSeen}
pub use Rattle.cics_units.specs.Awaiting.{is_writer, IsOwn, blocking_unit}
pub use Rattle.cics_units.specs.Cores.{core_value, IsBoundFor}
pub use Rattle.cics_units.specs.Executed.{IsExecuted}
pub use Rattle.cics_units.specs.Parts.{IsFitOp, given_record, most_images, IsCoreAsBefore}
pub use Rattle.cics_units.specs.QueueChanges.{queue_of}
pub use Rattle.cics_units.specs.Opening.Prefixed.{is_temp}
pub use Rattle.cics_units.specs.StoreEnds.{end_settled, ends_settled}
pub use Rattle.cics_units.specs.TableInPlace.{is_read, covered_read, AreOnce, table_given_back}
pub use Rattle.cics_units.specs.ImageRows.{kept_by, room_of, AreOthersKept}
pub use Rattle.cics_units.specs.Uses.{listed, taken_all, AreFreeFor, let_go}
pub use Rattle.cics_units.specs.Submitting.{as_done, IsBackIfItWaits}
pub use Rattle.cics_units.specs.StorePlaces.{number_asked}
pub use Rattle.cics_tempstor.specs.Queues.{read_item, after_read_item}
pub use Rattle.cics_tempstor.specs.Undo.{KeepsQueues}
