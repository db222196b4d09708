pub mod PlaceLemmas
pub mod PartLemmas
pub mod MemoryLemmas
