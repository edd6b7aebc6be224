pub mod Changed
pub mod ProperLaws
mod Rows
