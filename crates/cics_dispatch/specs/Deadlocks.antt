pub mod Searches
pub mod Marks
pub mod Circles
pub mod Deadlocks
