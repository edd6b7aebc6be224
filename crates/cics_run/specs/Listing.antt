pub mod Listings
pub mod Serial
pub mod UnitLines
