pub mod Borrowed
pub mod FreedomLaws
pub mod Kept
pub mod Table
pub mod Order
pub mod Values
pub mod Keys
pub mod Under
