pub mod Notes
pub mod Titles
pub mod Standings
pub mod Recording
pub mod Reads
pub mod Pictures
pub mod Blocking
