pub mod FindingLemmas
pub mod PlaceLemmas
mod KnownLemmas
mod SightLemmas
pub mod OrderLemmas
pub mod ClosedLemmas
mod AnswerLemmas
pub mod GatheredLemmas
