pub mod Digits
pub mod NamesRead
pub mod TextsRead
pub mod ReadBack
pub mod Shown
pub mod Rows
pub mod Numbers
pub mod Joined
