mod NamingLemmas
mod PlaceLemmas
mod TypeLemmas
pub mod ClosesLemmas
mod GivenLemmas
mod ClosingPlaceLemmas
mod RowLemmas
mod ShippedLemmas
mod LoopLemmas
pub mod WalkLemmas
