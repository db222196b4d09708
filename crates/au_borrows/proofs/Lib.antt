pub mod OrderLemmas
pub mod FitLemmas
pub mod LinkLemmas
pub mod InvariantLemmas
