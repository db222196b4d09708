pub mod WalkLemmas
pub mod BlockLemmas
pub mod DeclarationLemmas
pub mod Words
pub mod WordLemmas
pub mod NoteLemmas
pub mod KeptLemmas
