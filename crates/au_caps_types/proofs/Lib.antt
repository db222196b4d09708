pub mod NamedLemmas
mod RowLemmas
pub mod PlaceLemmas
pub mod GraphLemmas
pub mod ReachLemmas
