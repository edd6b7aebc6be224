pub mod OfSession
pub mod OfStage
mod OfListing
pub mod OfReading
pub mod OfMessages
pub mod OfReads
