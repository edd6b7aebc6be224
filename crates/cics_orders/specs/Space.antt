pub mod Orders
pub mod Endings
pub mod EndingLaws
pub mod Groups
pub mod Tallies
pub mod States
