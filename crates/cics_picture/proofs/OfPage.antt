pub mod Filled
pub mod Notes
pub mod Lines
pub mod Openings
pub mod Steps
pub mod Playing
pub mod Written
pub mod Documents
