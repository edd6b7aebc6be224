-- The words that the clauses of a region cite.
pub use Rattle.cics_dispatch.specs.Machine.Events.{task_ended}
pub use Rattle.cics_dispatch.specs.Machine.Machine.{units_after, definition_of, RegionValue, initial_region, task_at, abended, is_waiting, unit_closed, state_after, timed_out, Task}
pub use Rattle.cics_dispatch.specs.Machine.Checks.{reason_of, reason_for}
pub use Rattle.cics_history.specs.Execution.{IsOpenUnit, IsOpenOrNone}
pub use Rattle.cics_history.specs.Records.{key_of}
pub use Rattle.cics_dispatch.specs.Machine.Steps.{answered, attached, busy_of, key_read, op_of, suspended, with_outcome, issued}
pub use Rattle.cics_dispatch.specs.Machine.Waking.{clock_set, expired, woken, woken_first, first_free, first_late, is_late, awaited_by, IsAtRest}
pub use Rattle.cics_history.specs.State.{file_recoverable}
pub use Rattle.cics_dispatch.specs.Machine.Regions.{ArePromised, IsRegionKept}
pub use Rattle.cics_dispatch.specs.Machine.Settled.{is_keeping, reads_queue, IsBlocked, goes_on}
pub use Rattle.cics_dispatch.specs.Machine.Blockers.{unit_of, blocker_of, blockers_of, label_at, number_of, HaveBlocker, waiting_command, browse_of}
pub use Rattle.cics_dispatch.specs.Machine.Answers.{IsStep, attach_may_want, without_tasks, always, may_want, IsHeadlineRegion, IsSerializableRegion, region_listing, replayed_listing}
pub use Rattle.cics_names.specs.Commands.{file_named}
pub use Rattle.cics_dispatch.specs.Machine.Calls.{OfTask, IsAwake, HasReady, MayPerform, KeepsRegion, IsStepOf, IsStepOrRefused, IsAttempt, going_on, waiting_for}
pub use Rattle.cics_dispatch.specs.Machine.Emptied.{whole, AreToldAlike}
pub use Rattle.cics_history.specs.Openings.{is_key}
pub use Rattle.cics_history.specs.Isolation.{IsSound}
pub use Rattle.cics_dispatch.specs.Machine.KeptTasks.{IsWaitKept, AreTasksKept}
pub use Rattle.cics_dispatch.specs.Machine.Notes.{OfWait, IsFound, IsOnlyUse, IsOnlyNeed, AreNotedNow, IsFirstFree, IsFirstFreeOf, MayClose, UseOf, IsLooked, IsFreeAt, AreSettled, IsUse, OwnerIsElsewhere}
pub use Rattle.cics_dispatch.specs.Notes.Notes.{IsFirstOpen, count, IsPlaceOf}
pub use Rattle.cics_dispatch.specs.Machine.Deadlines.{deadline_of}
pub use Rattle.cics_dispatch.specs.Machine.Waits.{AreApart}
pub use Rattle.cics_history.specs.Events.{is_live}
pub use Rattle.cics_history.specs.Headline.{HoldsCommitted}
pub use Rattle.cics_dispatch.specs.Machine.Stamps.{region_stamp}
pub use Rattle.cics_dispatch.specs.Machine.First.{IsFirstToGoOn, IsFirstTooLate}
pub use Rattle.cics_dispatch.specs.Machine.Shutdown.{IsRegionStep, shut_down}
