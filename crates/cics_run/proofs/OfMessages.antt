pub mod Put
pub mod Nearest
pub mod Strict
pub mod Rows
