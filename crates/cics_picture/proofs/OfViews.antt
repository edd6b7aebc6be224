pub mod Tracking
pub mod Telling
pub mod Behind
pub mod Silent
pub mod Acted
