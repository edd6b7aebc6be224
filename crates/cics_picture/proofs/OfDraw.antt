pub mod Playing
pub mod Counting
pub mod Journals
pub mod Marking
pub mod Outcomes
pub mod Recording
pub mod Blocking
