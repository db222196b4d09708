-- What is named here of `au_closed_programs`, for the crates above.
pub use Rattle.au_lowering.proofs.ClosedLemmas
