mod EbcdicTables
mod Filled
mod Rows
pub mod Stamps
