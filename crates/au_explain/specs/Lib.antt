pub use Rattle.au_noting_programs.specs.Faults
pub mod Variables
pub mod Programs
pub mod Said
pub mod Mentions
pub mod Lines
pub mod Examples
