mod Prev
mod Rows
pub mod Stamps
