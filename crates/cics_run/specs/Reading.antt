pub mod Checks
pub mod Reads
pub mod Requests
