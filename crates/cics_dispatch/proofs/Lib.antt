mod RegionCalls
pub mod OfMachine
pub mod OfFuture
pub mod OfNotes
pub mod OfDeadlocks
