-- What is named here of `au_explain`, for the crates above.
pub use Rattle.au_explain.specs.Lines
