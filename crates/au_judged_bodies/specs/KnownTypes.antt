-- What is named here of `au_known_types`, for the crates above.
pub use Rattle.au_known_types.specs.Known
