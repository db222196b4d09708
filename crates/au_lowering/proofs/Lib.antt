pub use Rattle.au_closed_programs.proofs.ClosedLemmas
pub mod TableLemmas
pub mod NumberLemmas
pub mod CodedLemmas
pub mod RowLemmas
pub mod LowerLemmas
pub mod DraftLemmas
mod StepLemmas
pub mod PlaceLemmas
