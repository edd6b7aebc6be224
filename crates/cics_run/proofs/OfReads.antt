mod Examples
pub mod Keeping
pub mod Knowing
pub mod Looks
pub mod Seeing
pub mod Touching
pub mod Watching
