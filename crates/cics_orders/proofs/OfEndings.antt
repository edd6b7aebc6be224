pub mod Alike
pub mod Blocked
