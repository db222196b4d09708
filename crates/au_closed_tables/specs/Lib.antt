pub use Rattle.au_closed_trees.specs.ClosedNotes
pub use Rattle.au_closed_trees.specs.Parts
pub use Rattle.au_closed_trees.specs.TypeNames
pub mod Closing
