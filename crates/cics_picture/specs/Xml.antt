pub mod Names
pub mod Characters
pub mod Documents
pub mod Attributes
pub mod Reading
-- What contracts cite of these, from one place.
pub use Attributes.*
pub use Characters.*
pub use Documents.*
pub use Names.*
pub use Reading.*
