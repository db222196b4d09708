pub mod ListLemmas
pub mod StoreLemmas
pub mod ToldLemmas
