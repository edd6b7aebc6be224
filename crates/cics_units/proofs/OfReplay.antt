pub mod Plain
pub mod PlainOpening
pub mod PlainTrace
pub mod Under
