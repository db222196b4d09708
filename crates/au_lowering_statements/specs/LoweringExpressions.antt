-- What is named here of `au_lowering_expressions`, for the crates above.
pub use Rattle.au_lowering_expressions.specs.Views
