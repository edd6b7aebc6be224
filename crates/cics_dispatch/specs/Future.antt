pub mod Futures
pub mod Compared
