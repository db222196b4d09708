pub mod LimitLemmas
pub mod PartLemmas
pub mod PlaceLemmas
pub mod ProgramLemmas
pub mod SlotLemmas
