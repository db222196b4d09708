pub use Rattle.au_lowering_expressions.specs.Wrote
pub mod Ends
pub mod Views
pub mod Pieces
pub mod LoweringExpressions
