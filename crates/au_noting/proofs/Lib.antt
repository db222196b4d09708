pub mod WalkLemmas
pub mod RangeLemmas
pub mod StepLemmas
pub mod PathLemmas
