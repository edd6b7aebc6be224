pub mod Spelling
pub mod WrittenOut
