pub mod Notes
pub mod Filed
pub mod Firsts
