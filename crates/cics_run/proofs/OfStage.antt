pub mod Draining
pub mod Printing
