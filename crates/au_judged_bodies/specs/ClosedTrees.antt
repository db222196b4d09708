-- What is named here of `au_closed_trees`, for the crates above.
pub use Rattle.au_closed_trees.specs.ClosedNotes
pub use Rattle.au_closed_trees.specs.Parts
