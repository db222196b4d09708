-- What is named here of `au_typing`, for the crates above.
pub use Rattle.au_typing.specs.Bodies
pub use Rattle.au_typing.specs.Parts
