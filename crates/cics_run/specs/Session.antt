pub mod Lines
pub mod Streams
pub mod Running
pub mod Wanted
pub mod AtEnd
pub mod Statuses
pub mod Printing
pub mod Standing
-- What contracts cite of these, from one place.
pub use AtEnd.*
pub use Lines.*
pub use Printing.*
pub use Running.*
pub use Standing.*
pub use Streams.*
pub use Wanted.*
