pub mod JudgeLemmas
pub mod LeavingLemmas
pub mod StepLemmas
pub mod ReturnLemmas
