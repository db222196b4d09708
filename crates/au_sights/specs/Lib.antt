pub use Rattle.au_typing.specs.Written
pub use Rattle.au_typing.specs.Notes
pub mod Views
pub mod Lines
pub mod Examples
pub mod Sights
pub mod Steps
