pub mod NameLemmas
pub mod UniverseLemmas
pub mod ClosedLemmas
