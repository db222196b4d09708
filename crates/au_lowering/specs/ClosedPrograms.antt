-- What is named here of `au_closed_programs`, for the crates above.
pub use Rattle.au_closed_programs.specs.Answers
pub use Rattle.au_closed_programs.specs.Views
