pub mod FormLemmas
pub mod ArgumentLemmas
pub mod MadeLemmas
pub mod LawfulLemmas
pub mod RunLemmas
