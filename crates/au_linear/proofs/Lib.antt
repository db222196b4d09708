pub mod FirstLemmas
pub mod PlaceLemmas
pub mod TellingLemmas
pub mod RefusalSteps
pub mod DeclaringLemmas
