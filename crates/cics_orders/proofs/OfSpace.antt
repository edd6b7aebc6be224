pub mod Adding
pub mod Givers
pub mod OrdersLaws
pub mod SameParts
