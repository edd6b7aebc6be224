mod Rows
pub mod Apart
pub mod Lawful
pub mod Least
pub mod Owning
pub mod Seeking
pub mod TableLaws
pub mod Tables
pub mod OwnedUnder
pub mod Heads
