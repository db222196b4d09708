pub use Rattle.au_noting_programs.specs.Faults
pub mod Files
pub mod Trees
pub mod Programs
pub mod Accepted
