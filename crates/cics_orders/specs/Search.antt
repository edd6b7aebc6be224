pub mod Levels
pub mod Ahead
pub mod Reports
