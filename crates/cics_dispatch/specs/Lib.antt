pub mod Machine
pub mod Future
pub mod Notes
pub mod Deadlocks
pub mod Words
