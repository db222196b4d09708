pub mod PutLemmas
pub mod GivenLemmas
mod ListingLemmas
mod CallLemmas
mod ClosingLemmas
pub mod LoopLemmas
pub mod SnocLemmas
mod NoteLemmas
pub mod GatheringLemmas
