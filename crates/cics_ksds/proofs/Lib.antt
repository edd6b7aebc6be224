mod Changes
pub mod Order
pub mod Words
pub mod Joins
pub mod AreaEdits
pub mod IntervalEdits
pub mod Finding
pub mod Edits
pub mod Values
pub mod Puts
pub mod Bounds
pub mod Walks
pub mod Counts
pub mod Steps
pub mod UnderPrefix
mod Rows
