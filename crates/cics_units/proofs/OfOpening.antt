pub mod Opened
pub mod OpeningRows
pub mod Changing
pub mod Refilled
pub mod Unpadded
