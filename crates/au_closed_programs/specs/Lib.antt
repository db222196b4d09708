pub use Rattle.au_noting_programs.specs.Faults
pub use Rattle.au_noting_programs.specs.Said
pub mod Defined
pub mod FunctionViews
pub mod Programs
pub mod Views
pub mod Answers
