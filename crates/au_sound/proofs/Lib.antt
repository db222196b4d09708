pub mod CloseLemmas
pub mod FrameLemmas
pub mod CallLemmas
pub mod MainLemmas
pub mod WireLemmas
