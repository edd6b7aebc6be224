-- The words that the laws cite.
pub use Rattle.cics_history.specs.Resources.{is_one, is_prefix}
pub use Rattle.cics_history.specs.declared.resources.Resource.{Resource}
pub use Rattle.cics_history.specs.State.{OpeningState, queue_logical, Store, initial_store, UnitsState, UnitsValue, initial_units}
pub use Rattle.cics_history.specs.Openings.{IsOpeningInOrder}
pub use Rattle.cics_history.specs.Store.{apply, counted_answer}
pub use Rattle.cics_history.specs.Headline.{outcome_of, is_open, is_backed_out, kept, replay, Agrees, IsSameRecoverable, LeavesNoTrace}
pub use Rattle.cics_history.specs.Holding.{store_of, held_by, owned, smallest_conflict, conflicts, is_other, blocker_at, awaited, committed_for, is_nothing}
pub use Rattle.cics_history.specs.Execution.{after_execution, after_end, after_enqueue, after_dequeue, after_unlock, after_ts_reading, unit_or_next}
pub use Rattle.cics_history.specs.declared.ops.Op.{Op}
pub use Rattle.cics_history.specs.declared.ops.Op.TheVariants.{DeleteGeneric, TdWrite, TdRead, TdDelete}
pub use Rattle.cics_history.specs.declared.ops.Entry.{Entry}
pub use Rattle.cics_history.specs.declared.ops.UnitState.{UnitState}
pub use Rattle.cics_history.specs.declared.ops.UnitState.TheVariants.{Committed, BackedOut}
pub use Rattle.cics_history.specs.Cells.{Cell, Key, Td, content, is_generic, cell_of, touches, effect, End, Reading, Writing, recovers, IsOrdered, IsCanonical}
pub use Rattle.cics_history.specs.Events.{Event, is_live, may_act, run}
pub use Rattle.cics_history.specs.Holders.{end_of, IsHeldByOne, IsLeastHeld}
pub use Rattle.cics_history.specs.Isolation.{used, IsOneAtEachEnd, IsSound}
pub use Rattle.cics_history.specs.Serial.{commit_order, IsSerializable, IsInOrder}
pub use Rattle.cics_history.specs.Undo.{Image, Cells, Leads, AllReady, AreImages, image_of, prefix_images, is_plain, Place, IsPlaceOf, placed, place_executed, place_committed, place_undone}
pub use Rattle.cics_history.specs.Marks.{queue_backed_out, Queues, seen, shown, marked, marks_of, reader_settled, writer_settled}
pub use Rattle.cics_history.specs.MarkImages.{marks_undone, AllMarksReady, MarkImage, unmarked, IsMarkReady, mark_images}
pub use Rattle.cics_history.specs.Ends.{Marks, AreMarksOf, marks_opened, marks_executed, marks_committed, marks_backed_out}
pub use Rattle.cics_history.specs.InPlace.{content_in_place, parts_opened, run_in_place}
pub use Rattle.cics_history.specs.declared.resources.Resource.TheVariants.{TdRead as ReadingEnd}
pub use Rattle.cics_history.specs.Carried.{Carries, CarriesIfAny}
