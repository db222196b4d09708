-- What is named here of `au_noting_programs`, for the crates above.
pub use Rattle.au_explain.specs.Faults
