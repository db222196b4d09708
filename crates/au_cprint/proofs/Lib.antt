pub mod NumberedLemmas
pub mod RunLemmas
pub mod WordLemmas
pub mod TellingLemmas
pub mod UniqueLemmas
