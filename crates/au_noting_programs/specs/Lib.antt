pub use Rattle.au_noting_statements.specs.Entering
pub mod Said
pub mod Steps
pub mod Faults
pub mod Told
pub mod Held
