pub mod Rows
pub mod Leading
pub mod LedAlong
pub mod Opening
pub mod PlainFaults
pub mod ScriptLines
pub mod Titles
