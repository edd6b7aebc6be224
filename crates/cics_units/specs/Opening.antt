pub mod Faults
pub mod RegionFiles
pub mod RegionQueues
pub mod FilesImages
pub mod Opened
pub mod Prefixed
pub mod Definitions
pub mod StoreMatching
