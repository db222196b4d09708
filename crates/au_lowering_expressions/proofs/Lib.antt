pub mod WroteLemmas
pub mod CodeLemmas
pub mod PartLemmas
pub mod LoopLemmas
pub mod InnermostLemmas
