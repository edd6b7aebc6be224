mod Rows
pub mod MadeImages
mod DeletedUnder
pub mod FilesChanged
mod FileChanges
mod PartChanges
pub mod RefusedCommands
pub mod OpenReads
mod UnitReads
pub mod HeldPlaces
mod UnitRows
pub mod Stamped
pub mod HeldReads
pub mod HeldSums
mod Unprefixed
pub mod TableChanges
pub mod HeldOver
pub mod UsesInTable
pub mod TableInPlace
pub mod TableValues
mod KeptUnits
pub mod Packable
mod ShownUnits
mod Enqueuing
pub mod StoreMatched
mod StoreExamples
pub mod StoreQueues
pub mod StoreInPlace
pub mod Awaiting
pub mod StoreExecuted
pub mod TransChanges
pub mod StoreQueueExecuted
pub mod TempChanges
pub mod Recoveries
pub mod QueueClauses
pub mod StorePlaces
pub mod QueuesHeld
mod TsReadings
pub mod FileCommands
pub mod StoreEnds
pub mod StoreSettled
pub mod StoreEnded
pub mod EndsFirst
pub mod Applied
pub mod DoneCommands
pub mod AppliedInPlace
mod AppliedKept
mod EndExamples
mod NothingHeld
pub mod OfReplay
pub mod OfOpening
pub mod Blocking
