pub mod Rows
pub mod Found
pub mod Reached
pub mod Marked
pub mod Firsts
pub mod Told
