pub mod Session
pub mod Stage
pub mod Listing
pub mod Reading
pub mod Messages
pub mod Reads
