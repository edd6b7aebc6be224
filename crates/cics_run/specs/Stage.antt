pub mod Stages
pub mod Seen
pub mod Journal
pub mod Amiss
pub mod Printed
pub mod Notices
