pub mod Cutting
pub mod Checking
pub mod Counting
